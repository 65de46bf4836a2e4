-- A run without its hostile turns makes the other turns, with numbers told anew; and what a host sends without its hostile steps: its frames but the
-- bad ones.
use Rattle.std.proofs.Common.{◌≡◌, ℕ, suc, zero, ◌-◌, ◌+◌, ◌≤◌, List, [], ◌∷◌, ◌++◌, length, take, drop, refl, sym, ap, subst, ◌∙◌, Option, Some, None, arith, inl, inr, length-append}
use Rattle.std.specs.Prelude.{true, false, Bool, ◌⊎◌, ◌||◌, ◌==◌, cond, if◌then◌else◌, map, filter, nat_eq, is_none, is_some, option_map, slice_get, option_and_then, not}
use Rattle.std.specs.List.{list_any}
use Rattle.std.proofs.lemmas.Bool.Decides.{eqb_tells}
use Rattle.std.proofs.lemmas.List.{take-append-drop}
use Rattle.std.proofs.lemmas.List.Elements.{filter-append}
use Rattle.std.proofs.lemmas.Option.{slice_get_within, slice_get-map, get_or_from_slice_get}
use Rattle.sl_layout.specs.declared.actor.ActorId.TheVariants.{Host as OfHost, Observer, Control, Unit as OfUnit}
use Rattle.sl_layout.specs.declared.actor.Sort.TheVariants.{FromHost, Dump}
use Rattle.sl_layout.specs.Net.{Net, actor_of, links_into, links_out, action_choice, nobody, link_of, link_at, unit_place}
use Rattle.sl_net.specs.declared.input.Packet.{Packet}
use Rattle.sl_net.specs.declared.input.RawPart.{RawPart}
use Rattle.sl_net.specs.Wired.{HostLinks}
use Rattle.sl_flow.specs.Flow.{packets_of}
use Rattle.sl_model.specs.declared.message.Message.TheVariants.{Host as HostMsg}
use Rattle.sl_model.specs.declared.message.Step.{Step}
use Rattle.sl_model.specs.Frame.{plain_frame, packet_of}
use Rattle.sl_model.specs.History.{History, taken, World, Losses, history, first, takes, carried_by}
use Rattle.sl_model.specs.Counting.{is_bad}
use Rattle.sl_model.specs.Setup.{Setup, frames_of}
use Rattle.sl_model.specs.Puts.{send_all, action, puts_of}
use Rattle.sl_model.specs.Made.{Took, Acted, IsMade}
use Rattle.sl_model.specs.World.{acting, Entry, carried, front, taking, floor_for, step_by, next_step}
use Rattle.sl_cut.specs.Honest.{puts_bad, is_hostile, is_hostile_turn, honest_setup, honest}
use Rattle.sl_layout.specs.declared.actor.ActorId.{ActorId}
use Rattle.sl_layout.specs.declared.actor.UnitId.{UnitId}
use Rattle.sl_model.specs.declared.message.Message.{Message}
use Rattle.sl_model.specs.declared.message.Put.{Put}
use Rattle.sl_model.specs.Knowledge.{floor}
use Rattle.sl_cut.proofs.Hostile.Frames.{plain-packet}
use Rattle.sl_cut.proofs.Honest.Anew.{Telling, anew_put, anew_step, anew, keeps-anew}
use Rattle.sl_cut.proofs.Honest.Puts.{sends-of, is_good, unit-anew, control-anew, observer-acts, control-acts}
use Rattle.sl_cut.proofs.Honest.Links.{told_anew, by_step, append-none, passes, next-passing, taken-anew, carried-anew, get-past}
use Rattle.sl_cut.proofs.Hostile.Kept.{id-kept, last-kept, length-kept}
use Rattle.sl_cut.proofs.Honest.Found.{Laws, IsAt, tell_in, told_in, unit-at, observer-quiet, control-quiet, unit-last, unit-id, floor-at}

abbrev pub is_frame : List ℕ → Bool
is_frame bytes = is_some (packet_of bytes)

not-none : (o : Option Packet) → is_none o ≡ false → is_some o ≡ true
not-none None e = absurd cc
not-none (Some p) e = refl

is-none : (o : Option Packet) → is_none o ≡ true → is_some o ≡ false
is-none None e = refl
is-none (Some p) e = absurd cc

all-frames : (ps : List Packet) → filter is_frame (map plain_frame ps) ≡ map plain_frame ps
all-frames [] = refl
all-frames (p ∷ ps) = ap (λ b. cond b (plain_frame p ∷ filter is_frame (map plain_frame ps)) (filter is_frame (map plain_frame ps))) (not-none (packet_of (plain_frame p)) (plain-packet p))
    ∙ ap (λ r. plain_frame p ∷ r) (all-frames ps)

raw-frames : (h : ℕ) (rs : List RawPart) → map (λ r. r.bytes) (filter (λ r. r.from == h) (filter (λ r. is_some (packet_of r.bytes)) rs))
    ≡ filter is_frame (map (λ r. r.bytes) (filter (λ r. r.from == h) rs))
raw-frames h [] = refl
raw-frames h (r ∷ rs) = by_bools (is_frame r.bytes) refl (r.from == h) refl (raw-frames h rs)
  where
    good : List RawPart
    good = filter (λ r. is_some (packet_of r.bytes)) rs

    own : List RawPart
    own = filter (λ r. r.from == h) rs

    by_bools : (b : Bool) → is_frame r.bytes ≡ b → (c : Bool) → (r.from == h) ≡ c → map (λ r. r.bytes) (filter (λ r. r.from == h) good) ≡ filter is_frame (map (λ r. r.bytes) own)
        → map (λ r. r.bytes) (filter (λ r. r.from == h) (cond b (r ∷ good) good)) ≡ filter is_frame (map (λ r. r.bytes) (cond c (r ∷ own) own))
    by_bools true p true q e = ap (λ c. map (λ r. r.bytes) (cond c (r ∷ filter (λ r. r.from == h) good) (filter (λ r. r.from == h) good))) q ∙ ap (λ x. r.bytes ∷ x) e
        ∙ sym (ap (λ b. cond b (r.bytes ∷ filter is_frame (map (λ r. r.bytes) own)) (filter is_frame (map (λ r. r.bytes) own))) p)
    by_bools true p false q e = ap (λ c. map (λ r. r.bytes) (cond c (r ∷ filter (λ r. r.from == h) good) (filter (λ r. r.from == h) good))) q ∙ e
    by_bools false p true q e = e ∙ sym (ap (λ b. cond b (r.bytes ∷ filter is_frame (map (λ r. r.bytes) own)) (filter is_frame (map (λ r. r.bytes) own))) p)
    by_bools false p false q e = e

pub frames-honest : (s : Setup) (h : ℕ) → frames_of (honest_setup s) h ≡ filter is_frame (frames_of s h)
frames-honest s h = (λ i. sym (all-frames (packets_of s.flows h)) i ++ raw-frames h s.raws i)
    ∙ sym (filter-append is_frame (map plain_frame (packets_of s.flows h)) (map (λ r. r.bytes) (filter (λ r. r.from == h) s.raws)))

-- How many it sent.

none-past : {A : Type 0} (xs : List A) (n : ℕ) → slice_get xs n ≡ None → length xs ≤ n
none-past [] n e = omega arith
none-past (x ∷ xs) zero e = absurd cc
none-past (x ∷ xs) (suc n) e = let k = none-past xs n e in omega (arith, k)

take-next : {A : Type 0} (xs : List A) (n : ℕ) (x : A) → slice_get xs n ≡ Some x → take (suc n) xs ≡ take n xs ++ (x ∷ [])
take-next [] n x e = absurd cc
take-next (y ∷ xs) zero x e = let q : y ≡ x = cc in ap (λ z. z ∷ []) q
take-next (y ∷ xs) (suc n) x e = ap (λ r. y ∷ r) (take-next xs n x e)

drop-next : {A : Type 0} (xs : List A) (n : ℕ) → slice_get (drop n xs) 0 ≡ slice_get xs n
drop-next [] zero = refl
drop-next [] (suc n) = refl
drop-next (x ∷ xs) zero = refl
drop-next (x ∷ xs) (suc n) = drop-next xs n

-- a step by which a host sends a frame
record SendsFrame (s : Setup) (a i : ℕ) (h : History) (step : Step) : Type 0 where
  choice : step.choice ≡ action_choice s.net a
  bytes : List ℕ
  next : slice_get (frames_of s i) (taken (action_choice s.net a) h) ≡ Some bytes
  hostile : is_hostile step ≡ (is_bad (Some (HostMsg bytes)) || false)

sends-frame : (s : Setup) (a i : ℕ) (h : History) (step : Step) → actor_of s.net a ≡ OfHost i → HostLinks s.net a → Acted s a h step → SendsFrame s a i h step
sends-frame s a i h step q w x =
    let y = sends-of s x.floor a i h (step.choice - action_choice s.net a) step.puts (subst (λ k. action s x.floor a k h (step.choice - action_choice s.net a) ≡ Some step.puts) q x.puts) in
    let low = none-past (links_into s.net a) step.choice x.past in
    let first = y.first_action in record {
      choice = omega (arith, low, first);
      bytes = y.bytes;
      next = y.next;
      hostile = (λ k. is_bad (x.taken k) || list_any puts_bad ((y.puts ∙ ap (send_all (HostMsg y.bytes)) w.puts_on) k));
    }

pub sent-anew : (tell : Telling) (s : Setup) (a i : ℕ) (h : History) → actor_of s.net a ≡ OfHost i → HostLinks s.net a → IsMade s a h
    → taken (action_choice s.net a) (told_anew tell s.net a h) ≡ length (filter is_frame (take (taken (action_choice s.net a) h) (frames_of s i)))
sent-anew tell s a i [] q w m = none (frames_of s i)
  where
    none : (xs : List (List ℕ)) → 0 ≡ length (filter is_frame (take 0 xs))
    none [] = refl
    none (x ∷ xs) = refl
sent-anew tell s a i (step ∷ h) q w m = by_kind m.0 (sent-anew tell s a i h q w m.1)
  where
    c : ℕ
    c = action_choice s.net a

    frames : List (List ℕ)
    frames = frames_of s i

    n : ℕ
    n = taken c h

    count : ℕ
    count = taken c (told_anew tell s.net a h)

    Counts : Bool → History → Type 0
    Counts b x = taken c (map (anew_step tell s.net a) x) ≡ length (filter is_frame (take (if b then suc n else n) frames))

    not-own : Took s a h step → (step.choice == c) ≡ false
    not-own t = by_tells (eqb_tells step.choice c)
      where
        by_tells : ((nat_eq step.choice c ≡ true) × (step.choice ≡ c)) ⊎ ((nat_eq step.choice c ≡ false) × (step.choice ≡ c → ⊥)) → nat_eq step.choice c ≡ false
        by_tells (inl z) = let k = slice_get_within (links_into s.net a) step.choice t.link t.into in let e = z.1 in absurd (omega (arith, k, e))
        by_tells (inr z) = z.0

    own : step.choice ≡ c → (step.choice == c) ≡ true
    own e = by_tells (eqb_tells step.choice c)
      where
        by_tells : ((nat_eq step.choice c ≡ true) × (step.choice ≡ c)) ⊎ ((nat_eq step.choice c ≡ false) × (step.choice ≡ c → ⊥)) → nat_eq step.choice c ≡ true
        by_tells (inl z) = z.0
        by_tells (inr z) = absurd (z.1 e)

    by_kind : Took s a h step ⊎ Acted s a h step → count ≡ length (filter is_frame (take n frames))
        → taken c (told_anew tell s.net a (step ∷ h)) ≡ length (filter is_frame (take (taken c (step ∷ h)) frames))
    by_kind (inl t) e = let b = not-own t in by_step s a h step (Counts (step.choice == c)) (inl t)
        (λ z g. e ∙ ap (λ b. length (filter is_frame (take (if b then suc n else n) frames))) (sym b))
        (λ z g. ap (λ b. if b then suc count else count) b ∙ e ∙ ap (λ b. length (filter is_frame (take (if b then suc n else n) frames))) (sym b))
    by_kind (inr x) e = let y = sends-frame s a i h step q w x in let b = own y.choice in
        let more : filter is_frame (take (suc n) frames) ≡ filter is_frame (take n frames) ++ filter is_frame (y.bytes ∷ []) = ap (filter is_frame) (take-next frames n y.bytes y.next) ∙ filter-append is_frame (take n frames) (y.bytes ∷ []) in
        by_step s a h step (Counts (step.choice == c)) (inr x)
        (λ z g. let bad : is_none (packet_of y.bytes) ≡ true = or-false (is_none (packet_of y.bytes)) ∙ sym y.hostile ∙ z in
        e ∙ ap length (sym (more ∙ ap (λ b. filter is_frame (take n frames) ++ (cond b (y.bytes ∷ []) [])) (is-none (packet_of y.bytes) bad) ∙ append-none (filter is_frame (take n frames))))
        ∙ ap (λ b. length (filter is_frame (take (if b then suc n else n) frames))) (sym b))
        (λ z g. let good : is_none (packet_of y.bytes) ≡ false = or-false (is_none (packet_of y.bytes)) ∙ sym y.hostile ∙ z in
        ap (λ b. if b then suc count else count) b ∙ ap suc e
        ∙ (let k : suc (length (filter is_frame (take n frames))) ≡ length (filter is_frame (take (suc n) frames)) =
        (let j : length (filter is_frame (take n frames) ++ (y.bytes ∷ [])) ≡ length (filter is_frame (take n frames)) + 1 = length-append (filter is_frame (take n frames)) (y.bytes ∷ []) in
        let r : length (filter is_frame (take (suc n) frames)) ≡ length (filter is_frame (take n frames) ++ (y.bytes ∷ [])) =
        ap length (more ∙ ap (λ b. filter is_frame (take n frames) ++ (cond b (y.bytes ∷ []) [])) (not-none (packet_of y.bytes) good)) in omega (arith, j, r)) in k)
        ∙ ap (λ b. length (filter is_frame (take (if b then suc n else n) frames))) (sym b))
      where
        or-false : (b : Bool) → b ≡ (b || false)
        or-false true = refl
        or-false false = refl

-- What it sends next.

frames-flow : (tell : Telling) (net : Net) (bytes : List ℕ) (ls : List ℕ) → send_all (HostMsg bytes) ls ≡ map (anew_put tell net) (send_all (HostMsg bytes) ls)
frames-flow tell net bytes [] = refl
frames-flow tell net bytes (l ∷ ls) = ap (λ ps. record { link = l; message = HostMsg bytes } ∷ ps) (frames-flow tell net bytes ls)

pub host-acts : (tell : Telling) (s : Setup) (f a i c : ℕ) (h : History) → actor_of s.net a ≡ OfHost i → HostLinks s.net a → IsMade s a h → (n : ℕ)
    → is_hostile_turn (option_map (acting c) (action s f a (OfHost i) h n)) ≡ false
    → action (honest_setup s) f a (OfHost i) (told_anew tell s.net a h) n ≡ option_map (map (anew_put tell s.net)) (action s f a (OfHost i) h n)
host-acts tell s f a i c h q w m (suc n) e = refl
host-acts tell s f a i c h q w m zero e =
    (λ k. option_map (λ bytes. send_all (HostMsg bytes) (links_out s.net a FromHost)) (slice_get (frames-honest s i k) (sent-anew tell s a i h q w m k)))
    ∙ ap (λ xs. option_map (λ bytes. send_all (HostMsg bytes) (links_out s.net a FromHost)) (slice_get (filter is_frame xs) (length (filter is_frame (take n frames))))) (sym (take-append-drop n frames))
    ∙ ap (option_map (λ bytes. send_all (HostMsg bytes) (links_out s.net a FromHost))) (next-passing is_frame (take n frames) (drop n frames) (good (slice_get (drop n frames) 0) (subst Turns (sym (drop-next frames n)) e)) ∙ drop-next frames n)
    ∙ same (slice_get frames n)
  where
    n : ℕ
    n = taken (action_choice s.net a) h

    frames : List (List ℕ)
    frames = frames_of s i

    Turns : Option (List ℕ) → Type 0
    Turns o = is_hostile_turn (option_map (acting c) (option_map (λ bytes. send_all (HostMsg bytes) (links_out s.net a FromHost)) o)) ≡ false

    good : (o : Option (List ℕ)) → Turns o → passes is_frame o
    good None t = tt
    good (Some bytes) t = not-none (packet_of bytes) (left (is_none (packet_of bytes)) (ap (λ ls. list_any puts_bad (send_all (HostMsg bytes) ls)) (sym w.puts_on) ∙ t))
      where
        left : (b : Bool) → (b || false) ≡ false → b ≡ false
        left true t = t
        left false t = refl

    same : (o : Option (List ℕ)) → option_map (λ bytes. send_all (HostMsg bytes) (links_out s.net a FromHost)) o
        ≡ option_map (map (anew_put tell s.net)) (option_map (λ bytes. send_all (HostMsg bytes) (links_out s.net a FromHost)) o)
    same None = refl
    same (Some bytes) = ap Some (frames-flow tell s.net bytes (links_out s.net a FromHost))

-- The next message of a link.

good-passes : (o : Option Message) → is_bad o ≡ false → passes is_good o
good-passes None e = tt
good-passes (Some m) e = ap not e

pub front-at : (s : Setup) (lost : Losses) (z w v : World) (a c l : ℕ) → Laws s lost → IsAt s lost z w v → slice_get (links_into s.net a) c ≡ Some l → is_bad (front s.net lost w a c l) ≡ false
    → front s.net lost v a c l ≡ option_map (anew (tell_in s.net z) s.net l) (front s.net lost w a c l)
front-at s lost z w v a c l laws at k e =
    let f = anew (tell_in s.net z) s.net l in
    let b = (link_of s.net l).from in
    let fifo = at.fifo_run.fifo a c l k in
    let got = takes c (history w a) in
    let ms = carried s.net lost w l in
    let carries : carried s.net lost v l ≡ map f (filter is_good ms) = ap (carried_by lost l) (at.same b) ∙ carried-anew (tell_in s.net z) s lost b l (history w b) laws.spares (at.fifo_run.made b) (laws.passes.fits s lost w l at.fifo_run) in
    let took : taken c (history v a) ≡ length (filter is_good got) = ap (taken c) (at.same a) ∙ taken-anew (tell_in s.net z) s a c l (history w a) k (at.fifo_run.made a) in
    let next : slice_get ms (taken c (history w a)) ≡ slice_get fifo.rest 0 = (λ i. slice_get (fifo.split i) (sym fifo.count i)) ∙ get-past got fifo.rest in
    (λ i. slice_get (carries i) (took i)) ∙ slice_get-map f (filter is_good ms) (length (filter is_good got))
    ∙ ap (option_map f) (ap (λ xs. slice_get (filter is_good xs) (length (filter is_good got))) fifo.split
    ∙ next-passing is_good got fifo.rest (good-passes (slice_get fifo.rest 0) (ap is_bad (sym next) ∙ e)) ∙ sym next)

-- Steps.

or-left : (a b : Bool) → (a || b) ≡ false → a ≡ false
or-left true b e = absurd cc
or-left false b e = refl

-- what the history of the actor is in the end, where it makes this step
abbrev pub IsSeen : Setup → World → World → Entry → Step → Type 0
IsSeen s z w e step = first (suc (length (history w e.0))) (history z e.0) ≡ step ∷ history w e.0

unit-tells : (s : Setup) (lost : Losses) (z w v : World) (a : ℕ) (i : UnitId) (step : Step) → Laws s lost → actor_of s.net a ≡ OfUnit i → is_hostile step ≡ false
    → first (suc (length (history w a))) (history z a) ≡ step ∷ history w a
    → tell_in s.net z (unit_place s.net a) (suc (length (history w a))) ≡ suc (length (told_in s z a (history w a)))
unit-tells s lost z w v a i step laws q g seen =
    ap (λ u. length (honest (first (suc (length (history w a))) (history z u)))) (unit-at s.net a i laws.wired q)
    ∙ ap (λ h. length (honest h)) seen ∙ ap (λ b. length (if b then honest (history w a) else step ∷ honest (history w a))) g
    ∙ ap suc (sym (length-kept (anew_step (tell_in s.net z) s.net a) (honest (history w a))))

took-at : (s : Setup) (lost : Losses) (z w v : World) (a c l : ℕ) (m : Message) → Laws s lost → IsAt s lost z w v → slice_get (links_into s.net a) c ≡ Some l
    → (step : Step) → step ≡ taking c m (puts_of s a (actor_of s.net a) (history w a) c l m) → is_hostile step ≡ false → first (suc (length (history w a))) (history z a) ≡ step ∷ history w a
    → puts_of (honest_setup s) a (actor_of s.net a) (history v a) c l (anew (tell_in s.net z) s.net l m) ≡ map (anew_put (tell_in s.net z) s.net) (puts_of s a (actor_of s.net a) (history w a) c l m)
took-at s lost z w v a c l m laws at k step is g seen = by_actor (actor_of s.net a) refl
  where
    tell : Telling
    tell = tell_in s.net z

    h : History
    h = history w a

    by_actor : (actor : ActorId) → actor_of s.net a ≡ actor → puts_of (honest_setup s) a actor (history v a) c l (anew tell s.net l m) ≡ map (anew_put tell s.net) (puts_of s a actor h c l m)
    by_actor Observer q = refl
    by_actor (OfHost i) q = refl
    by_actor (Control d) q = ap (λ g. puts_of (honest_setup s) a (Control d) g c l (anew tell s.net l m)) (at.same a ∙ ap (map (anew_step tell s.net a)) (control-quiet s lost w a d laws at.fifo_run q))
        ∙ control-anew tell s.net a d h c l m laws.wired q k
    by_actor (OfUnit i) q = ap (λ g. puts_of (honest_setup s) a (OfUnit i) g c l (anew tell s.net l m)) (at.same a)
        ∙ unit-anew tell s.net a i (told_anew tell s.net a h) h c l m
        (id-kept (anew_step tell s.net a) (keeps-anew tell s.net a) (honest h) ∙ unit-id s lost a i h laws q (at.fifo_run.made a))
        (last-kept (anew_step tell s.net a) (keeps-anew tell s.net a) c (honest h) ∙ unit-last s lost a i c h laws q (at.fifo_run.made a))
        (λ e. unit-tells s lost z w v a i step laws q g seen) (laws.wired.ways.outs a Dump)

acted-at : (s : Setup) (lost : Losses) (z w v : World) (a c n : ℕ) → Laws s lost → IsAt s lost z w v → (actor : ActorId) → slice_get s.net.actors a ≡ Some actor
    → is_hostile_turn (option_map (acting c) (action s (floor_for s.net w actor) a actor (history w a) n)) ≡ false
    → action (honest_setup s) (floor_for s.net v actor) a actor (history v a) n ≡ option_map (map (anew_put (tell_in s.net z) s.net)) (action s (floor_for s.net w actor) a actor (history w a) n)
acted-at s lost z w v a c n laws at Observer q g = let tell = tell_in s.net z in let x = get_or_from_slice_get s.net.actors a Observer nobody q in
    (λ i. action (honest_setup s) (floor-at s lost z w v laws at i) a Observer ((at.same a ∙ ap (map (anew_step tell s.net a)) (observer-quiet s lost w a laws at.fifo_run x)) i) n)
    ∙ observer-acts tell s (floor s.net w) a (history w a) n
acted-at s lost z w v a c n laws at (Control d) q g = let tell = tell_in s.net z in let x = get_or_from_slice_get s.net.actors a (Control d) nobody q in
    ap (λ h. action (honest_setup s) 0 a (Control d) h n) (at.same a ∙ ap (map (anew_step tell s.net a)) (control-quiet s lost w a d laws at.fifo_run x)) ∙ control-acts tell s 0 a d (history w a) n
acted-at s lost z w v a c n laws at (OfUnit i) q g = refl
acted-at s lost z w v a c n laws at (OfHost i) q g = let tell = tell_in s.net z in let x = get_or_from_slice_get s.net.actors a (OfHost i) nobody q in
    ap (λ h. action (honest_setup s) 0 a (OfHost i) h n) (at.same a) ∙ host-acts tell s 0 a i c (history w a) x (laws.wired.host_links a i q) (at.fifo_run.made a) n g

step-at : (s : Setup) (lost : Losses) (z w v : World) (a c : ℕ) (o : Option ℕ) → Laws s lost → IsAt s lost z w v → (actor : ActorId) → slice_get s.net.actors a ≡ Some actor → slice_get (links_into s.net a) c ≡ o
    → is_hostile_turn (step_by s lost w a c o actor) ≡ false → ((step : Step) → step_by s lost w a c o actor ≡ Some step → first (suc (length (history w a))) (history z a) ≡ step ∷ history w a)
    → step_by (honest_setup s) lost v a c o actor ≡ option_map (anew_step (tell_in s.net z) s.net a) (step_by s lost w a c o actor)
step-at s lost z w v a c (Some l) laws at actor q k g seen = by_front (front s.net lost w a c l) refl g seen
  where
    tell : Telling
    tell = tell_in s.net z

    x : actor_of s.net a ≡ actor
    x = get_or_from_slice_get s.net.actors a actor nobody q

    puts : Message → List Put
    puts m = puts_of s a actor (history w a) c l m

    puts-anew : Message → List Put
    puts-anew m = puts_of (honest_setup s) a actor (history v a) c l m

    here : link_at s.net a c ≡ l
    here = get_or_from_slice_get (links_into s.net a) c l 0 k

    by_front : (o : Option Message) → front s.net lost w a c l ≡ o → is_hostile_turn (option_map (λ m. taking c m (puts m)) o) ≡ false
        → ((step : Step) → option_map (λ m. taking c m (puts m)) o ≡ Some step → first (suc (length (history w a))) (history z a) ≡ step ∷ history w a)
        → option_map (λ m. taking c m (puts-anew m)) (front s.net lost v a c l) ≡ option_map (anew_step tell s.net a) (option_map (λ m. taking c m (puts m)) o)
    by_front None e g seen = ap (option_map (λ m. taking c m (puts-anew m))) (front-at s lost z w v a c l laws at k (ap is_bad e) ∙ ap (option_map (anew tell s.net l)) e)
    by_front (Some m) e g seen = let good : is_bad (Some m) ≡ false = or-left (is_bad (Some m)) (list_any puts_bad (puts m)) g in
        let y = took-at s lost z w v a c l m laws at k (taking c m (puts m)) (ap (λ i. taking c m (puts_of s a i (history w a) c l m)) (sym x)) g (seen (taking c m (puts m)) refl) in
        let ps : puts-anew (anew tell s.net l m) ≡ map (anew_put tell s.net) (puts m) = subst (λ i. puts_of (honest_setup s) a i (history v a) c l (anew tell s.net l m) ≡ map (anew_put tell s.net) (puts_of s a i (history w a) c l m)) x y in
        ap (option_map (λ m. taking c m (puts-anew m))) (front-at s lost z w v a c l laws at k (ap is_bad e ∙ good) ∙ ap (option_map (anew tell s.net l)) e)
        ∙ (λ i. Some (taking c (anew tell s.net (sym here i) m) (ps i)))
step-at s lost z w v a c None laws at actor q k g seen = let n = c - action_choice s.net a in
    ap (option_map (acting c)) (acted-at s lost z w v a c n laws at actor q g) ∙ act (action s (floor_for s.net w actor) a actor (history w a) n)
  where
    act : (o : Option (List Put)) → option_map (acting c) (option_map (map (anew_put (tell_in s.net z) s.net)) o) ≡ option_map (anew_step (tell_in s.net z) s.net a) (option_map (acting c) o)
    act None = refl
    act (Some ps) = refl

pub next-at : (s : Setup) (lost : Losses) (z w v : World) (e : Entry) → Laws s lost → IsAt s lost z w v → is_hostile_turn (next_step s lost w e) ≡ false
    → ((step : Step) → next_step s lost w e ≡ Some step → IsSeen s z w e step)
    → next_step (honest_setup s) lost v e ≡ option_map (anew_step (tell_in s.net z) s.net e.0) (next_step s lost w e)
next-at s lost z w v e laws at g seen = by_actor (slice_get s.net.actors e.0) refl g seen
  where
    by_actor : (o : Option ActorId) → slice_get s.net.actors e.0 ≡ o → is_hostile_turn (option_and_then (step_by s lost w e.0 e.1 (slice_get (links_into s.net e.0) e.1)) o) ≡ false
        → ((step : Step) → option_and_then (step_by s lost w e.0 e.1 (slice_get (links_into s.net e.0) e.1)) o ≡ Some step → IsSeen s z w e step)
        → option_and_then (step_by (honest_setup s) lost v e.0 e.1 (slice_get (links_into s.net e.0) e.1)) o
        ≡ option_map (anew_step (tell_in s.net z) s.net e.0) (option_and_then (step_by s lost w e.0 e.1 (slice_get (links_into s.net e.0) e.1)) o)
    by_actor None q g seen = refl
    by_actor (Some actor) q g seen = step-at s lost z w v e.0 e.1 (slice_get (links_into s.net e.0) e.1) laws at actor q refl g seen
