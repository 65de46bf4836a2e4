-- Without hostile steps: what links carry and what was taken, which is all that is good, told anew; which histories have no hostile step, and what
-- a unit's history tells without them; and what came late on a data channel, as a weight of its messages.
--     told_anew tell net a h   the history h of a without its hostile steps, with the numbers of steps told anew
use Rattle.std.proofs.Common.{◌≡◌, ℕ, suc, ◌+◌, List, [], ◌∷◌, ◌++◌, length, refl, sym, ap, subst, ◌∙◌, Option, Some, None, arith, inl, inr, length-append, ◌-◌, ◌≤◌, lt-ltb, le-ltb}
use Rattle.std.specs.Prelude.{true, false, Bool, ◌⊎◌, ◌==◌, cond, not, if◌then◌else◌, map, filter, nat_eq, option_map, slice_get, ◌||◌, nat_lt, max, unwrap_or, option_and_then}
use Rattle.std.proofs.lemmas.Bool.{cases_Bool}
use Rattle.std.proofs.lemmas.Bool.Decides.{eqb_tells}
use Rattle.std.proofs.lemmas.List.{map-append}
use Rattle.std.proofs.lemmas.List.Elements.{filter-append}
use Rattle.std.specs.List.{list_any}
use Rattle.sl_layout.specs.declared.actor.LinkKind.{LinkKind}
use Rattle.sl_layout.specs.declared.actor.LinkKind.TheVariants.{Reliable}
use Rattle.sl_layout.specs.declared.actor.Sort.{Sort}
use Rattle.sl_layout.specs.declared.actor.Sort.TheVariants.{Cable, Crossbar, Init, Notice}
use Rattle.sl_layout.specs.Net.{Net, link_of, link_at, links_into, actor_of, action_choice}
use Rattle.sl_layout.specs.Wiring.{kind_of}
use Rattle.sl_parts.specs.Lists.{Each}
use Rattle.sl_parts.proofs.Lists.{each-imp, each-front, each-back}
use Rattle.sl_model.specs.declared.message.Message.{Message}
use Rattle.sl_model.specs.declared.message.Message.TheVariants.{Host as HostMsg}
use Rattle.sl_model.specs.declared.message.Step.{Step}
use Rattle.sl_model.specs.Words.{listed, weigh}
use Rattle.sl_model.specs.History.{History, Losses, taken, takes, put, on_link, without_lost, carried_by, id, last, first, stamp_of, stamp_taken}
use Rattle.sl_model.specs.Counting.{is_bad, packets, bytes, bad, expired, noroute}
use Rattle.sl_model.specs.Setup.{Setup}
use Rattle.sl_model.specs.World.{IsLossTable}
use Rattle.sl_model.specs.Made.{Took, Acted, IsMade}
use Rattle.sl_model.specs.Fit.{fits, fits_link}
use Rattle.sl_cut.specs.Honest.{is_hostile, honest, puts_bad}
use Rattle.sl_layout.specs.declared.actor.ActorId.TheVariants.{Unit as OfUnit, Host as OfHost}
use Rattle.sl_layout.specs.declared.actor.UnitId.{UnitId}
use Rattle.sl_parts.specs.Parts.{Parts}
use Rattle.sl_model.specs.Cut.{value, outside}
use Rattle.sl_model.specs.Verdict.{cause, lag}
use Rattle.sl_model.specs.Puts.{action}
use Rattle.sl_simulation.specs.Forged.{is_forged, without_forged}
use Rattle.sl_model.specs.Late.{is_old, late}
use Rattle.sl_cut.proofs.Honest.Anew.{Telling, anew, anew_step, on_link-anew, stamp-anew, keeps-anew}
use Rattle.sl_cut.proofs.Honest.Puts.{is_good, IsGone, IsStaying, gone, stays, fair-took, fair-acted, none-bad}
use Rattle.sl_cut.proofs.Hostile.Kept.{id-kept}

abbrev pub told_anew : Telling → Net → ℕ → History → History
told_anew tell net a h = map (anew_step tell net a) (honest h)

-- what holds of the history with one step more, where a hostile one goes and any other stays
pub by_step : (s : Setup) (a : ℕ) (h : History) (step : Step) (P : History → Type 0) → Took s a h step ⊎ Acted s a h step
    → (is_hostile step ≡ true → IsGone step → P (honest h)) → (is_hostile step ≡ false → IsStaying step → P (step ∷ honest h)) → P (honest (step ∷ h))
by_step s a h step P m f g = by_bool (cases_Bool (is_hostile step))
  where
    by_bool : ((is_hostile step ≡ true) ⊎ (is_hostile step ≡ false)) → P (if is_hostile step then honest h else step ∷ honest h)
    by_bool (inl q) = subst (λ b. P (if b then honest h else step ∷ honest h)) (sym q) (f q (gone s a h step m q))
    by_bool (inr q) = subst (λ b. P (if b then honest h else step ∷ honest h)) (sym q) (g q (stays step q))

pub append-none : {A : Type 0} (xs : List A) → xs ++ [] ≡ xs
append-none [] = refl
append-none (x ∷ xs) = ap (λ r. x ∷ r) (append-none xs)

-- Puts.

pub put-anew : (tell : Telling) (s : Setup) (a l : ℕ) (h : History) → IsMade s a h → put l (told_anew tell s.net a h) ≡ map (anew tell s.net l) (filter is_good (put l h))
put-anew tell s a l [] m = refl
put-anew tell s a l (step ∷ h) m = by_step s a h step (λ x. put l (map (anew_step tell s.net a) x) ≡ map (anew tell s.net l) (filter is_good (put l h ++ on_link l step.puts))) m.0
    (λ q g. let e : filter is_good (put l h ++ on_link l step.puts) ≡ filter is_good (put l h) =
    filter-append is_good (put l h) (on_link l step.puts) ∙ ap (λ r. filter is_good (put l h) ++ r) (g.puts l) ∙ append-none (filter is_good (put l h)) in
    put-anew tell s a l h m.1 ∙ ap (map (anew tell s.net l)) (sym e))
    (λ q g. let e : filter is_good (put l h ++ on_link l step.puts) ≡ filter is_good (put l h) ++ on_link l step.puts =
    filter-append is_good (put l h) (on_link l step.puts) ∙ ap (λ r. filter is_good (put l h) ++ r) (g.puts l) in
    (λ i. put-anew tell s a l h m.1 i ++ on_link-anew tell s.net l step.puts i) ∙ sym (map-append (anew tell s.net l) (filter is_good (put l h)) (on_link l step.puts))
    ∙ ap (map (anew tell s.net l)) (sym e))

-- Takes.

-- a step that took by a link's choice took a message
listed-one : (s : Setup) (a c l : ℕ) (h : History) (step : Step) → slice_get (links_into s.net a) c ≡ Some l → Took s a h step ⊎ Acted s a h step → step.choice ≡ c → length (listed step.taken) ≡ 1
listed-one s a c l h step k (inl t) q = ap (λ o. length (listed o)) t.taken
listed-one s a c l h step k (inr x) q = let y : slice_get (links_into s.net a) c ≡ None = ap (slice_get (links_into s.net a)) (sym q) ∙ x.past in absurd cc

-- what a step takes, if so
abbrev chosen : Step → Bool → List Message
chosen step b = if b then listed step.taken else []

good-gone : (step : Step) (c : ℕ) (h : History) → IsGone step → filter is_good (takes c h ++ chosen step (step.choice == c)) ≡ filter is_good (takes c h)
good-gone step c h g = filter-append is_good (takes c h) (chosen step (step.choice == c)) ∙ ap (λ r. filter is_good (takes c h) ++ r) (none (step.choice == c)) ∙ append-none (filter is_good (takes c h))
  where
    none : (b : Bool) → filter is_good (chosen step b) ≡ []
    none true = g.taken
    none false = refl

good-staying : (step : Step) (c : ℕ) (h : History) → IsStaying step → filter is_good (takes c h ++ chosen step (step.choice == c)) ≡ filter is_good (takes c h) ++ chosen step (step.choice == c)
good-staying step c h g = filter-append is_good (takes c h) (chosen step (step.choice == c)) ∙ ap (λ r. filter is_good (takes c h) ++ r) (all (step.choice == c))
  where
    all : (b : Bool) → filter is_good (chosen step b) ≡ chosen step b
    all true = g.taken
    all false = refl

pub takes-anew : (tell : Telling) (s : Setup) (a c : ℕ) (h : History) → IsMade s a h
    → takes c (told_anew tell s.net a h) ≡ map (anew tell s.net (link_at s.net a c)) (filter is_good (takes c h))
takes-anew tell s a c [] m = refl
takes-anew tell s a c (step ∷ h) m = by_step s a h step (λ x. takes c (map (anew_step tell s.net a) x) ≡ map f (filter is_good (takes c h ++ (if step.choice == c then listed step.taken else [])))) m.0
    (λ q g. takes-anew tell s a c h m.1 ∙ ap (map f) (sym (good-gone step c h g)))
    (λ q g. ap (λ r. r ++ (if step.choice == c then listed (option_map (anew tell s.net (link_at s.net a step.choice)) step.taken) else [])) (takes-anew tell s a c h m.1)
    ∙ ap (λ r. map f (filter is_good (takes c h)) ++ r) (same (eqb_tells step.choice c))
    ∙ sym (map-append f (filter is_good (takes c h)) (chosen step (step.choice == c)))
    ∙ ap (map f) (sym (good-staying step c h g)))
  where
    f : Message → Message
    f = anew tell s.net (link_at s.net a c)

    listed-map : (g : Message → Message) (o : Option Message) → listed (option_map g o) ≡ map g (listed o)
    listed-map g None = refl
    listed-map g (Some m) = refl

    same : ((nat_eq step.choice c ≡ true) × (step.choice ≡ c)) ⊎ ((nat_eq step.choice c ≡ false) × (step.choice ≡ c → ⊥))
        → (if step.choice == c then listed (option_map (anew tell s.net (link_at s.net a step.choice)) step.taken) else []) ≡ map f (chosen step (step.choice == c))
    same (inl q) = ap (λ b. if b then listed (option_map (anew tell s.net (link_at s.net a step.choice)) step.taken) else []) q.0
        ∙ ap (λ d. listed (option_map (anew tell s.net (link_at s.net a d)) step.taken)) q.1 ∙ listed-map f step.taken ∙ ap (λ b. map f (chosen step b)) (sym q.0)
    same (inr q) = ap (λ b. if b then listed (option_map (anew tell s.net (link_at s.net a step.choice)) step.taken) else []) q.0 ∙ ap (λ b. map f (chosen step b)) (sym q.0)

-- by a link's choice so many were taken as there are messages taken
pub taken-anew : (tell : Telling) (s : Setup) (a c l : ℕ) (h : History) → slice_get (links_into s.net a) c ≡ Some l → IsMade s a h
    → taken c (told_anew tell s.net a h) ≡ length (filter is_good (takes c h))
taken-anew tell s a c l [] k m = refl
taken-anew tell s a c l (step ∷ h) k m = by_step s a h step (λ x. taken c (map (anew_step tell s.net a) x) ≡ length (filter is_good (takes c h ++ chosen step (step.choice == c)))) m.0
    (λ q g. taken-anew tell s a c l h k m.1 ∙ ap length (sym (good-gone step c h g)))
    (λ q g. count (eqb_tells step.choice c) (taken-anew tell s a c l h k m.1) ∙ sym (length-append (filter is_good (takes c h)) (chosen step (step.choice == c)))
    ∙ ap length (sym (good-staying step c h g)))
  where
    n : ℕ
    n = taken c (told_anew tell s.net a h)

    count : ((nat_eq step.choice c ≡ true) × (step.choice ≡ c)) ⊎ ((nat_eq step.choice c ≡ false) × (step.choice ≡ c → ⊥)) → n ≡ length (filter is_good (takes c h))
        → (if step.choice == c then suc n else n) ≡ length (filter is_good (takes c h)) + length (chosen step (step.choice == c))
    count (inl q) e = let one = listed-one s a c l h step k m.0 q.1 in ap (λ b. if b then suc n else n) q.0 ∙ (let x : suc n ≡ length (filter is_good (takes c h)) + length (listed step.taken) = omega (arith, e, one) in x)
        ∙ ap (λ b. length (filter is_good (takes c h)) + length (chosen step b)) (sym q.0)
    count (inr q) e = ap (λ b. if b then suc n else n) q.0 ∙ (let x : n ≡ length (filter is_good (takes c h)) + 0 = omega (arith, e) in x)
        ∙ ap (λ b. length (filter is_good (takes c h)) + length (chosen step b)) (sym q.0)

-- What is carried.

all-kept : (lost : ℕ → Bool) (n : ℕ) (ms : List Message) → ((n : ℕ) → lost n ≡ false) → without_lost lost n ms ≡ ms
all-kept lost n [] e = refl
all-kept lost n (m ∷ ms) e = ap (λ b. if b then without_lost lost (suc n) ms else m ∷ without_lost lost (suc n) ms) (e (suc n)) ∙ ap (λ r. m ∷ r) (all-kept lost (suc n) ms e)

lost-map : (f : Message → Message) (lost : ℕ → Bool) (n : ℕ) (ms : List Message) → without_lost lost n (map f ms) ≡ map f (without_lost lost n ms)
lost-map f lost n [] = refl
lost-map f lost n (m ∷ ms) = by_bool (lost (suc n)) (lost-map f lost (suc n) ms)
  where
    by_bool : (b : Bool) → without_lost lost (suc n) (map f ms) ≡ map f (without_lost lost (suc n) ms)
        → (if b then without_lost lost (suc n) (map f ms) else f m ∷ without_lost lost (suc n) (map f ms)) ≡ map f (if b then without_lost lost (suc n) ms else m ∷ without_lost lost (suc n) ms)
    by_bool true e = e
    by_bool false e = ap (λ r. f m ∷ r) e

abbrev pub IsGood : Message → Type 0
IsGood m = is_bad (Some m) ≡ false

pub good-all : (ms : List Message) → Each IsGood ms → filter is_good ms ≡ ms
good-all [] e = refl
good-all (m ∷ ms) e = ap (λ b. cond (not b) (m ∷ filter is_good ms) (filter is_good ms)) e.0 ∙ ap (λ r. m ∷ r) (good-all ms e.1)

good-left : (lost : ℕ → Bool) (n : ℕ) (ms : List Message) → Each IsGood ms → Each IsGood (without_lost lost n ms)
good-left lost n [] e = tt
good-left lost n (m ∷ ms) e = by_bool (lost (suc n)) (good-left lost (suc n) ms e.1)
  where
    by_bool : (b : Bool) → Each IsGood (without_lost lost (suc n) ms) → Each IsGood (if b then without_lost lost (suc n) ms else m ∷ without_lost lost (suc n) ms)
    by_bool true f = f
    by_bool false f = (e.0, f)

-- a link on which messages may be lost carries no frame of a host
pub good-lossy : (sort : Sort) (m : Message) → (kind_of sort ≡ Reliable → ⊥) → fits sort m ≡ true → IsGood m
good-lossy Cable (HostMsg b) ne e = absurd cc
good-lossy Crossbar (HostMsg b) ne e = absurd cc
good-lossy Init (HostMsg b) ne e = absurd cc
good-lossy Notice (HostMsg b) ne e = absurd cc
good-lossy _ (HostMsg b) ne e = absurd (ne refl)
good-lossy sort _ ne e = refl

is-reliable : (k : LinkKind) → (k ≡ Reliable) ⊎ (k ≡ Reliable → ⊥)
is-reliable Reliable = inl refl
is-reliable _ = inr (λ e. cc)

pub carried-anew : (tell : Telling) (s : Setup) (lost : Losses) (a l : ℕ) (h : History) → IsLossTable s.net lost → IsMade s a h → Each (λ m. fits_link s.net l m ≡ true) (put l h)
    → carried_by lost l (told_anew tell s.net a h) ≡ map (anew tell s.net l) (filter is_good (carried_by lost l h))
carried-anew tell s lost a l h spares m fit = by_kind (is-reliable (kind_of (link_of s.net l).sort))
  where
    f : Message → Message
    f = anew tell s.net l

    by_kind : (kind_of (link_of s.net l).sort ≡ Reliable) ⊎ (kind_of (link_of s.net l).sort ≡ Reliable → ⊥) → carried_by lost l (told_anew tell s.net a h) ≡ map f (filter is_good (carried_by lost l h))
    by_kind (inl q) = all-kept (lost l) 0 (put l (told_anew tell s.net a h)) (λ n. spares l n q) ∙ put-anew tell s a l h m
        ∙ ap (λ ms. map f (filter is_good ms)) (sym (all-kept (lost l) 0 (put l h) (λ n. spares l n q)))
    by_kind (inr ne) = let good = each-imp (λ m. fits_link s.net l m ≡ true) IsGood (put l h) (λ m e. good-lossy (link_of s.net l).sort m ne e) fit in
        ap (without_lost (lost l) 0) (put-anew tell s a l h m ∙ ap (map f) (good-all (put l h) good)) ∙ lost-map f (lost l) 0 (put l h)
        ∙ ap (map f) (sym (good-all (without_lost (lost l) 0 (put l h)) (good-left (lost l) 0 (put l h) good)))

-- The next that passes.

pub get-past : {A : Type 0} (xs ys : List A) → slice_get (xs ++ ys) (length xs) ≡ slice_get ys 0
get-past [] ys = refl
get-past (x ∷ xs) ys = get-past xs ys

abbrev pub passes : {A : Type 0} → (A → Bool) → Option A → Type 0
passes p None = Unit {0}
passes p (Some x) = p x ≡ true

-- where what comes next passes, it comes next of those that pass
pub next-passing : {A : Type 0} (p : A → Bool) (xs ys : List A) → passes p (slice_get ys 0) → slice_get (filter p (xs ++ ys)) (length (filter p xs)) ≡ slice_get ys 0
next-passing {A = A} p xs ys e = ap (λ zs. slice_get zs (length (filter p xs))) (filter-append p xs ys) ∙ get-past (filter p xs) (filter p ys) ∙ first_of_rest ys e
  where
    first_of_rest : (ys : List A) → passes p (slice_get ys 0) → slice_get (filter p ys) 0 ≡ slice_get ys 0
    first_of_rest [] e = refl
    first_of_rest (y ∷ ys) e = ap (λ b. slice_get (cond b (y ∷ filter p ys) (filter p ys)) 0) e

-- what is told of a history without the steps that took bad frames
pub record Erases : Type 0 where
  pub id : (h : History) → id (without_forged h) ≡ id h
  pub last : (c : ℕ) (h : History) → last c (without_forged h) ≡ last c h
  pub packets : (h : History) → packets (without_forged h) ≡ packets h
  pub bytes : (h : History) → bytes (without_forged h) ≡ bytes h
  pub bad : (h : History) → bad (without_forged h) ≡ 0
  pub expired : (h : History) → expired (without_forged h) ≡ expired h
  pub noroute : (parts : Parts) (d : ℕ) (h : History) → noroute parts d (without_forged h) ≡ noroute parts d h
  pub value : (k : ℕ) (h : History) → value k (without_forged h) ≡ value k h
  pub cause : (n k : ℕ) (h : History) → cause n k (without_forged h) ≡ cause n k h
  pub lag : (net : Net) (k u : ℕ) (h : History) → lag net k u (without_forged h) ≡ lag net k u h

-- A unit puts no bad frame.

none-put : (s : Setup) (a : ℕ) (i : UnitId) (h : History) (step : Step) → actor_of s.net a ≡ OfUnit i → Took s a h step ⊎ Acted s a h step → is_hostile step ≡ is_forged step
none-put s a i h step q (inl t) = ap (λ b. is_bad step.taken || b) (ap (list_any puts_bad) t.puts ∙ none-bad _ (fair-took s a (actor_of s.net a) h step.choice t.link t.message)) ∙ or-false (is_bad step.taken)
  where
    or-false : (b : Bool) → (b || false) ≡ b
    or-false true = refl
    or-false false = refl
none-put s a i h step q (inr x) = let y : action s x.floor a (OfUnit i) h (step.choice - action_choice s.net a) ≡ Some step.puts = subst (λ k. action s x.floor a k h (step.choice - action_choice s.net a) ≡ Some step.puts) q x.puts in absurd cc

pub unit-honest : (s : Setup) (a : ℕ) (i : UnitId) (h : History) → actor_of s.net a ≡ OfUnit i → IsMade s a h → honest h ≡ without_forged h
unit-honest s a i [] q m = refl
unit-honest s a i (step ∷ h) q m = λ k. if none-put s a i h step q m.0 k then unit-honest s a i h q m.1 k else step ∷ unit-honest s a i h q m.1 k

-- An actor that sends no frames of its own and takes no bad one makes no hostile step.

not-hostile : (s : Setup) (a : ℕ) (h : History) (step : Step) → ((i : ℕ) → actor_of s.net a ≡ OfHost i → ⊥) → Took s a h step ⊎ Acted s a h step
    → ((l : ℕ) → slice_get (links_into s.net a) step.choice ≡ Some l → Each IsGood (takes step.choice (step ∷ h))) → is_hostile step ≡ false
not-hostile s a h step ne (inl t) e = (λ k. good k || none k)
  where
    here : (step.choice == step.choice) ≡ true
    here = by_tells (eqb_tells step.choice step.choice)
      where
        by_tells : ((nat_eq step.choice step.choice ≡ true) × (step.choice ≡ step.choice)) ⊎ ((nat_eq step.choice step.choice ≡ false) × (step.choice ≡ step.choice → ⊥)) → nat_eq step.choice step.choice ≡ true
        by_tells (inl z) = z.0
        by_tells (inr z) = absurd (z.1 refl)

    good : is_bad step.taken ≡ false
    good = ap is_bad t.taken ∙ (subst (λ o. Each IsGood (listed o)) t.taken (subst (λ b. Each IsGood (if b then listed step.taken else [])) here
        (each-back IsGood (takes step.choice h) (if step.choice == step.choice then listed step.taken else []) (e t.link t.into)))).0

    none : list_any puts_bad step.puts ≡ false
    none = ap (list_any puts_bad) t.puts ∙ none-bad _ (fair-took s a (actor_of s.net a) h step.choice t.link t.message)
not-hostile s a h step ne (inr x) e = (λ k. is_bad (x.taken k) || none-bad step.puts (fair-acted s x.floor a (actor_of s.net a) h (step.choice - action_choice s.net a) step.puts ne x.puts) k)

pub quiet : (s : Setup) (a : ℕ) (h : History) → ((i : ℕ) → actor_of s.net a ≡ OfHost i → ⊥) → IsMade s a h
    → ((c l : ℕ) → slice_get (links_into s.net a) c ≡ Some l → Each IsGood (takes c h)) → honest h ≡ h
quiet s a [] ne m e = refl
quiet s a (step ∷ h) ne m e = ap (λ b. if b then honest h else step ∷ honest h) (not-hostile s a h step ne m.0 (λ l k. e step.choice l k))
    ∙ ap (λ g. step ∷ g) (quiet s a h ne m.1 (λ c l k. each-front IsGood (takes c h) (if step.choice == c then listed step.taken else []) (e c l k)))

-- The first steps, without the hostile ones.

pub first-all : (n : ℕ) (h : History) → length h ≤ n → first n h ≡ h
first-all n [] p = refl
first-all n (s ∷ h) p = ap (λ b. if b then s ∷ h else first n h) (lt-ltb (length h) n (omega (arith, p)))

fewer : (n : ℕ) (h : History) → length (honest (first n h)) ≤ length (honest h)
fewer n [] = omega arith
fewer n (s ∷ h) = by_lt (nat_lt (length h) n) (is_hostile s) refl (fewer n h)
  where
    by_lt : (b c : Bool) → is_hostile s ≡ c → length (honest (first n h)) ≤ length (honest h) → length (honest (if b then s ∷ h else first n h)) ≤ length (if c then honest h else s ∷ honest h)
    by_lt true c q e = let k : length (honest (s ∷ h)) ≡ length (if c then honest h else s ∷ honest h) = ap (λ c. length (if c then honest h else s ∷ honest h)) q in omega (arith, k)
    by_lt false true q e = e
    by_lt false false q e = omega (arith, e)

pub first-honest : (n : ℕ) (h : History) → first (length (honest (first n h))) (honest h) ≡ honest (first n h)
first-honest n [] = refl
first-honest n (s ∷ h) = by_lt (nat_lt (length h) n) (is_hostile s) refl (first-honest n h)
  where
    by_lt : (b c : Bool) → is_hostile s ≡ c → first (length (honest (first n h))) (honest h) ≡ honest (first n h)
        → first (length (honest (if b then s ∷ h else first n h))) (if c then honest h else s ∷ honest h) ≡ honest (if b then s ∷ h else first n h)
    by_lt true c q e = ap (λ x. first (length (honest (s ∷ h))) x) (ap (λ c. if c then honest h else s ∷ honest h) (sym q)) ∙ first-all (length (honest (s ∷ h))) (honest (s ∷ h)) (omega arith)
    by_lt false true q e = e
    by_lt false false q e = ap (λ b. if b then s ∷ honest h else first (length (honest (first n h))) (honest h)) (le-ltb (length (honest h)) (length (honest (first n h))) (fewer n h)) ∙ e

pub first-none : (h : History) → first 0 h ≡ []
first-none [] = refl
first-none (s ∷ h) = ap (λ b. if b then s ∷ h else first 0 h) (le-ltb (length h) 0 (omega arith)) ∙ first-none h

-- Weights of the messages that pass.

weigh-append : (f : Message → ℕ) (xs ys : List Message) → weigh f (xs ++ ys) ≡ weigh f xs + weigh f ys
weigh-append f [] ys = (let z : weigh f ys ≡ 0 + weigh f ys = omega arith in z)
weigh-append f (x ∷ xs) ys = let e = weigh-append f xs ys in (let z : f x + weigh f (xs ++ ys) ≡ f x + weigh f xs + weigh f ys = omega (arith, e) in z)

heft-append : (f : Message → ℕ) (p : Message → Bool) (xs ys : List Message) → weigh f (filter p (xs ++ ys)) ≡ weigh f (filter p xs) + weigh f (filter p ys)
heft-append f p xs ys = ap (weigh f) (filter-append p xs ys) ∙ weigh-append f (filter p xs) (filter p ys)

-- Numbers told anew.

abbrev Unmoved : (Message → ℕ) → Telling → Net → Type 0
Unmoved f tell net = (l : ℕ) (m : Message) → f (anew tell net l m) ≡ f m

listed-heft : (f : Message → ℕ) (k : ℕ) (tell : Telling) (net : Net) (l : ℕ) → Unmoved f tell net → (o : Option Message)
    → weigh f (filter (is_old k) (listed (option_map (anew tell net l) o))) ≡ weigh f (filter (is_old k) (listed o))
listed-heft f k tell net l e None = refl
listed-heft f k tell net l e (Some m) = (λ i. weigh f (cond (nat_lt (unwrap_or (stamp-anew tell net l m i) 0) k) (anew tell net l m ∷ []) [])) ∙ by_bool (is_old k m)
  where
    by_bool : (b : Bool) → weigh f (cond b (anew tell net l m ∷ []) []) ≡ weigh f (cond b (m ∷ []) [])
    by_bool true = ap (λ n. n + 0) (e l m)
    by_bool false = refl

takes-heft : (f : Message → ℕ) (k c : ℕ) (tell : Telling) (net : Net) (a : ℕ) → Unmoved f tell net → (h : History)
    → weigh f (filter (is_old k) (takes c (map (anew_step tell net a) h))) ≡ weigh f (filter (is_old k) (takes c h))
takes-heft f k c tell net a e [] = refl
takes-heft f k c tell net a e (s ∷ h) =
    heft-append f (is_old k) (takes c (map (anew_step tell net a) h)) (if s.choice == c then listed (option_map (anew tell net (link_at net a s.choice)) s.taken) else [])
    ∙ (λ i. takes-heft f k c tell net a e h i + by_bool (s.choice == c) i) ∙ sym (heft-append f (is_old k) (takes c h) (if s.choice == c then listed s.taken else []))
  where
    by_bool : (b : Bool) → weigh f (filter (is_old k) (if b then listed (option_map (anew tell net (link_at net a s.choice)) s.taken) else [])) ≡ weigh f (filter (is_old k) (if b then listed s.taken else []))
    by_bool true = listed-heft f k tell net (link_at net a s.choice) e s.taken
    by_bool false = refl

outside-kept : (tell : Telling) (net : Net) (a k : ℕ) (h : History) → outside k (map (anew_step tell net a) h) ≡ map (anew_step tell net a) (outside k h)
outside-kept tell net a k [] = refl
outside-kept tell net a k (s ∷ h) = let g = anew_step tell net a in
    ap (λ n. if nat_lt n k then [] else g s ∷ outside k (map g h)) (id-kept g (keeps-anew tell net a) (s ∷ h)) ∙ by_bool (nat_lt (id (s ∷ h)) k) (outside-kept tell net a k h)
  where
    by_bool : (b : Bool) → outside k (map (anew_step tell net a) h) ≡ map (anew_step tell net a) (outside k h)
        → (if b then [] else anew_step tell net a s ∷ outside k (map (anew_step tell net a) h)) ≡ map (anew_step tell net a) (if b then [] else s ∷ outside k h)
    by_bool true e = refl
    by_bool false e = ap (λ r. anew_step tell net a s ∷ r) e

-- Without bad frames.

abbrev Weightless : (Message → ℕ) → Type 0
Weightless f = (m : Message) → is_bad (Some m) ≡ true → f m ≡ 0

no-stamp : (o : Option Message) → is_bad o ≡ true → option_and_then stamp_of o ≡ None
no-stamp (Some (HostMsg b)) q = refl
no-stamp _ q = absurd cc

no-weight : (f : Message → ℕ) (k : ℕ) → Weightless f → (o : Option Message) → is_bad o ≡ true → weigh f (filter (is_old k) (listed o)) ≡ 0
no-weight f k e None q = refl
no-weight f k e (Some m) q = by_bool (is_old k m)
  where
    by_bool : (b : Bool) → weigh f (cond b (m ∷ []) []) ≡ 0
    by_bool true = (let z = e m q in omega (arith, z))
    by_bool false = refl

none-outside : (k : ℕ) (h : History) → nat_lt (id h) k ≡ true → outside k h ≡ []
none-outside k [] q = refl
none-outside k (s ∷ h) q = ap (λ b. if b then [] else s ∷ outside k h) q

forged-heft : (f : Message → ℕ) (k c : ℕ) → Weightless f → Erases → (h : History) → weigh f (late k c (without_forged h)) ≡ weigh f (late k c h)
forged-heft f k c e erases [] = refl
forged-heft f k c e erases (s ∷ h) = by_forged (cases_Bool (is_forged s)) (forged-heft f k c e erases h)
  where
    these : Bool → List Message
    these b = if b then listed s.taken else []

    same-id : is_forged s ≡ true → id (s ∷ h) ≡ id h
    same-id q = let z : id (s ∷ h) ≡ max 0 (id h) = ap (λ o. max (unwrap_or o 0) (id h)) (no-stamp s.taken q) in omega (arith, z)

    nothing : is_forged s ≡ true → (b : Bool) → weigh f (filter (is_old k) (these b)) ≡ 0
    nothing q true = no-weight f k e s.taken q
    nothing q false = refl

    gone : is_forged s ≡ true → (b : Bool) → nat_lt (id h) k ≡ b → weigh f (late k c h) ≡ weigh f (filter (is_old k) (takes c (if b then [] else s ∷ outside k h)))
    gone q true p = ap (λ g. weigh f (filter (is_old k) (takes c g))) (none-outside k h p)
    gone q false p = let z = nothing q (s.choice == c) in let y = heft-append f (is_old k) (takes c (outside k h)) (these (s.choice == c)) in omega (arith, y, z)

    more : (b : Bool) → weigh f (late k c (without_forged h)) ≡ weigh f (late k c h)
        → weigh f (filter (is_old k) (takes c (if b then [] else s ∷ outside k (without_forged h)))) ≡ weigh f (filter (is_old k) (takes c (if b then [] else s ∷ outside k h)))
    more true r = refl
    more false r = heft-append f (is_old k) (takes c (outside k (without_forged h))) (these (s.choice == c)) ∙ ap (λ n. n + weigh f (filter (is_old k) (these (s.choice == c)))) r
        ∙ sym (heft-append f (is_old k) (takes c (outside k h)) (these (s.choice == c)))

    by_forged : ((is_forged s ≡ true) ⊎ (is_forged s ≡ false)) → weigh f (late k c (without_forged h)) ≡ weigh f (late k c h)
        → weigh f (late k c (if is_forged s then without_forged h else s ∷ without_forged h)) ≡ weigh f (late k c (s ∷ h))
    by_forged (inl q) r = ap (λ b. weigh f (late k c (if b then without_forged h else s ∷ without_forged h))) q ∙ r ∙ gone q (nat_lt (id h) k) refl
        ∙ ap (λ n. weigh f (filter (is_old k) (takes c (if nat_lt n k then [] else s ∷ outside k h)))) (sym (same-id q))
    by_forged (inr q) r = ap (λ b. weigh f (late k c (if b then without_forged h else s ∷ without_forged h))) q
        ∙ ap (λ n. weigh f (filter (is_old k) (takes c (if nat_lt (max (unwrap_or (stamp_taken s) 0) n) k then [] else s ∷ outside k (without_forged h))))) (erases.id h)
        ∙ more (nat_lt (id (s ∷ h)) k) r

pub late-anew : (f : Message → ℕ) (k c : ℕ) (tell : Telling) (net : Net) (a : ℕ) → Unmoved f tell net → Weightless f → Erases → (h : History)
    → weigh f (late k c (map (anew_step tell net a) (without_forged h))) ≡ weigh f (late k c h)
late-anew f k c tell net a u e erases h = ap (λ g. weigh f (filter (is_old k) (takes c g))) (outside-kept tell net a k (without_forged h))
    ∙ takes-heft f k c tell net a u (outside k (without_forged h)) ∙ forged-heft f k c e erases h
