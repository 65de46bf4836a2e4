-- What an actor puts: with bad frames blanked it puts the same, blanked. All but a host's own frames it puts as they are.
use Rattle.std.proofs.Common.{◌≡◌, ℕ, suc, zero, List, [], ◌∷◌, ◌++◌, length, refl, sym, ap, ◌∙◌, Option, Some, None}
use Rattle.std.specs.Prelude.{true, false, Bool, not, ◌==◌, if◌then◌else◌, map, max, flat_map, unwrap_or, option_map, slice_get}
use Rattle.std.proofs.lemmas.List.{map-append}
use Rattle.std.proofs.lemmas.Option.{slice_get-map}
use Rattle.sl_layout.specs.declared.actor.ActorId.{ActorId}
use Rattle.sl_layout.specs.declared.actor.ActorId.TheVariants.{Observer, Control, Unit as OfUnit, Host as OfHost}
use Rattle.sl_layout.specs.declared.actor.UnitId.{UnitId}
use Rattle.sl_layout.specs.declared.actor.Side.{Side}
use Rattle.sl_layout.specs.declared.actor.Side.TheVariants.{Ingress, Egress}
use Rattle.sl_layout.specs.declared.actor.Sort.TheVariants.{FromHost, Init, Dump, Begin, Done}
use Rattle.sl_layout.specs.Net.{Net, links_out, action_choice, unit_place}
use Rattle.sl_layout.specs.Serving.{ServedUnit, served}
use Rattle.sl_model.specs.declared.message.Message.{Message}
use Rattle.sl_model.specs.declared.message.Message.TheVariants.{Host as HostMsg, Init as InitMsg, Poll as PollMsg, Notice as NoticeMsg, Dump as DumpMsg, Begin as BeginMsg, Done as DoneMsg}
use Rattle.sl_model.specs.declared.message.Put.{Put}
use Rattle.sl_model.specs.History.{History, stamp_of, last, taken}
use Rattle.sl_model.specs.Knowledge.{is_again, is_swept, issued, can_issue, can_resend}
use Rattle.sl_model.specs.Puts.{send, send_all, route_frame, ingress_puts, egress_puts, side_puts, notice_puts, dump_puts, id_after, unit_puts, poll_puts, dump_answer, control_puts, puts_of, begin_all, guarded, action}
use Rattle.sl_model.specs.Setup.{Setup, frames_of}
use Rattle.sl_cut.specs.Hostile.{blank_step, blank, blank_message, blank_put, blank_history}
use Rattle.sl_cut.proofs.Hostile.Frames.{blank_setup, packet-blank, stamp-blank, frames-blank}
use Rattle.sl_cut.proofs.Hostile.Told.{blank-keeps}
use Rattle.sl_cut.proofs.Hostile.Flowing.{IsFlowing, AreFlowing, flow-side, flow-notice, flow-poll}
use Rattle.sl_cut.proofs.Hostile.Kept.{again-kept, id-kept, issue-kept, last-kept, length-kept, outstanding-kept, resend-kept, swept-kept, taken-kept}

-- puts with no bad frame
abbrev IsClean : List Put → Type 0
IsClean ps = map blank_put ps ≡ ps

clean-all : (m : Message) → blank_message m ≡ m → (ls : List ℕ) → IsClean (send_all m ls)
clean-all m e [] = refl
clean-all m e (l ∷ ls) = λ i. record { link = l; message = e i } ∷ clean-all m e ls i

clean-append : (ps qs : List Put) → IsClean ps → IsClean qs → IsClean (ps ++ qs)
clean-append ps qs e f = map-append blank_put ps qs ∙ (λ i. e i ++ f i)

clean-if : (b : Bool) (ps qs : List Put) → IsClean ps → IsClean qs → IsClean (if b then ps else qs)
clean-if true ps qs e f = e
clean-if false ps qs e f = f

clean-each : (f : ServedUnit → List Put) → ((v : ServedUnit) → IsClean (f v)) → (vs : List ServedUnit) → IsClean (flat_map f vs)
clean-each f e [] = refl
clean-each f e (v ∷ vs) = clean-append (f v) (flat_map f vs) (e v) (clean-each f e vs)

-- Units.

clean-flow : (ps : List Put) → AreFlowing ps → IsClean ps
clean-flow [] e = refl
clean-flow (p ∷ ps) e = λ i. record { link = p.link; message = clean p.message e.0 i } ∷ clean-flow ps e.1 i
  where
    clean : (m : Message) → IsFlowing m → blank_message m ≡ m
    clean (HostMsg bytes) f = ap (λ b. HostMsg (if b then [] else bytes)) f
    clean (DumpMsg n) f = refl
    clean (DoneMsg place n) f = refl
    clean _ f = refl

dump-clean : (net : Net) (u n : ℕ) (m : Message) → IsClean (dump_puts net u n m)
dump-clean net u n PollMsg = clean-all (DumpMsg n) refl (links_out net u Dump)
dump-clean net u n _ = refl

unit-clean : (net : Net) (u : ℕ) (i : UnitId) (h : History) (c l : ℕ) (m : Message) → IsClean (unit_puts net u i h c l m)
unit-clean net u i h c l m = clean-append _ _ (clean-flow _ (flow-side net u i i.side (id_after m h) l m))
    (clean-append _ _ (clean-flow _ (flow-notice net u (last c h) (stamp_of m))) (dump-clean net u (suc (length h)) m))

ingress-blank : (net : Net) (u d k : ℕ) (m : Message) → ingress_puts net u d k (blank_message m) ≡ ingress_puts net u d k m
ingress-blank net u d k (HostMsg bytes) = ap (route_frame net u d k) (packet-blank bytes)
ingress-blank net u d k _ = refl

egress-blank : (net : Net) (u d p k l : ℕ) (m : Message) → egress_puts net u d p k l (blank_message m) ≡ egress_puts net u d p k l m
egress-blank net u d p k l (HostMsg bytes) = refl
egress-blank net u d p k l _ = refl

side-blank : (net : Net) (u : ℕ) (i : UnitId) (side : Side) (k l : ℕ) (m : Message) → side_puts net u i side k l (blank_message m) ≡ side_puts net u i side k l m
side-blank net u i Ingress k l m = ingress-blank net u i.device k m
side-blank net u i Egress k l m = egress-blank net u i.device i.port k l m

dump-blank : (net : Net) (u n : ℕ) (m : Message) → dump_puts net u n (blank_message m) ≡ dump_puts net u n m
dump-blank net u n (HostMsg bytes) = refl
dump-blank net u n _ = refl

unit-blank : (net : Net) (u : ℕ) (i : UnitId) (h : History) (c l : ℕ) (m : Message) → unit_puts net u i (blank_history h) c l (blank_message m) ≡ unit_puts net u i h c l m
unit-blank net u i h c l m =
    (λ j. side_puts net u i i.side (max (unwrap_or (stamp-blank m j) 0) (id-kept blank_step blank-keeps h j)) l (blank_message m)
    ++ (notice_puts net u (last-kept blank_step blank-keeps c h j) (stamp-blank m j) ++ dump_puts net u (suc (length-kept blank_step h j)) (blank_message m)))
    ∙ (λ j. side-blank net u i i.side (id_after m h) l m j ++ (notice_puts net u (last c h) (stamp_of m) ++ dump-blank net u (suc (length h)) m j))

-- Control planes.

answer-clean : (net : Net) (a : ℕ) (h : History) (n : ℕ) (v : ServedUnit) → IsClean (dump_answer net a h n v)
answer-clean net a h n v = clean-append _ _ (clean-all (DoneMsg (unit_place net v.unit) n) refl (links_out net a Done))
    (clean-if (is_again (action_choice net a) v h) (send PollMsg v.poll ∷ []) [] refl refl)

control-clean : (net : Net) (a : ℕ) (h : History) (c : ℕ) (m : Message) → IsClean (control_puts net a h c m)
control-clean net a h c (BeginMsg k) = clean-all (InitMsg k) refl (links_out net a Init)
control-clean net a h c NoticeMsg = clean-each _ (λ v. clean-if (c == v.notice) _ [] (clean-flow _ (flow-poll v h)) refl) (served net a)
control-clean net a h c (DumpMsg n) = clean-each _ (λ v. clean-if (c == v.dump) _ [] (answer-clean net a h n v) refl) (served net a)
control-clean net a h c _ = refl

poll-blank : (v : ServedUnit) (h : History) → poll_puts v (blank_history h) ≡ poll_puts v h
poll-blank v h = ap (λ b. if b then [] else send PollMsg v.poll ∷ []) (outstanding-kept blank_step blank-keeps v h)

answer-blank : (net : Net) (a : ℕ) (h : History) (n : ℕ) (v : ServedUnit) → dump_answer net a (blank_history h) n v ≡ dump_answer net a h n v
answer-blank net a h n v = ap (λ b. send_all (DoneMsg (unit_place net v.unit) n) (links_out net a Done) ++ (if b then send PollMsg v.poll ∷ [] else []))
    (again-kept blank_step blank-keeps (action_choice net a) v h)

control-blank : (net : Net) (a : ℕ) (h : History) (c : ℕ) (m : Message) → control_puts net a (blank_history h) c (blank_message m) ≡ control_puts net a h c m
control-blank net a h c (HostMsg bytes) = refl
control-blank net a h c NoticeMsg = λ i. flat_map (λ v. if c == v.notice then poll-blank v h i else []) (served net a)
control-blank net a h c (DumpMsg n) = λ i. flat_map (λ v. if c == v.dump then answer-blank net a h n v i else []) (served net a)
control-blank net a h c _ = refl

-- Messages taken.

pub puts-blank : (s : Setup) (a : ℕ) (actor : ActorId) (h : History) (c l : ℕ) (m : Message)
    → puts_of (blank_setup s) a actor (blank_history h) c l (blank_message m) ≡ map blank_put (puts_of s a actor h c l m)
puts-blank s a (Control d) h c l m = control-blank s.net a h c m ∙ sym (control-clean s.net a h c m)
puts-blank s a (OfUnit i) h c l m = unit-blank s.net a i h c l m ∙ sym (unit-clean s.net a i h c l m)
puts-blank s a Observer h c l m = refl
puts-blank s a (OfHost i) h c l m = refl

-- Own actions.

guarded-blank : (b : Bool) (ps : List Put) → IsClean ps → guarded b ps ≡ option_map (map blank_put) (guarded b ps)
guarded-blank false ps e = refl
guarded-blank true ps e = ap Some (sym e)

begin-clean : (net : Net) (k : ℕ) → IsClean (begin_all net k)
begin-clean net k = clean-all (BeginMsg k) refl (links_out net 0 Begin)

issue-action : (s : Setup) (f a : ℕ) (h : History)
    → action (blank_setup s) f a Observer (blank_history h) zero ≡ option_map (map blank_put) (action s f a Observer h zero)
issue-action s f a h = (λ i. guarded (issue-kept blank_step blank-keeps s f h i) (begin_all s.net (suc (taken-kept blank_step blank-keeps (action_choice s.net 0) h i))))
    ∙ guarded-blank (can_issue s f h) _ (begin-clean s.net (suc (issued s.net h)))

resend-action : (s : Setup) (f a : ℕ) (h : History)
    → action (blank_setup s) f a Observer (blank_history h) (suc zero) ≡ option_map (map blank_put) (action s f a Observer h (suc zero))
resend-action s f a h = (λ i. guarded (resend-kept blank_step blank-keeps s f h i) (begin_all s.net (taken-kept blank_step blank-keeps (action_choice s.net 0) h i)))
    ∙ guarded-blank (can_resend s f h) _ (begin-clean s.net (issued s.net h))

sweep-action : (s : Setup) (f a d : ℕ) (h : History)
    → action (blank_setup s) f a (Control d) (blank_history h) zero ≡ option_map (map blank_put) (action s f a (Control d) h zero)
sweep-action s f a d h = (λ i. guarded (not (swept-kept blank_step blank-keeps s.net a h i)) (flat_map (λ v. poll-blank v h i) (served s.net a)))
    ∙ guarded-blank (not (is_swept s.net a h)) _ (clean-each _ (λ v. clean-flow _ (flow-poll v h)) (served s.net a))

-- a frame that is sent, blanked
sent-blank : (ls : List ℕ) (bytes : List ℕ) → send_all (HostMsg (blank bytes)) ls ≡ map blank_put (send_all (HostMsg bytes) ls)
sent-blank [] bytes = refl
sent-blank (l ∷ ls) bytes = ap (λ ps. send (HostMsg (blank bytes)) l ∷ ps) (sent-blank ls bytes)

some-sent : (ls : List ℕ) (o : Option (List ℕ)) → option_map (λ bytes. send_all (HostMsg bytes) ls) (option_map blank o) ≡ option_map (map blank_put) (option_map (λ bytes. send_all (HostMsg bytes) ls) o)
some-sent ls None = refl
some-sent ls (Some bytes) = ap Some (sent-blank ls bytes)

inject-action : (s : Setup) (f a i : ℕ) (h : History)
    → action (blank_setup s) f a (OfHost i) (blank_history h) zero ≡ option_map (map blank_put) (action s f a (OfHost i) h zero)
inject-action s f a i h = let n = taken (action_choice s.net a) h in
    (λ j. option_map (λ bytes. send_all (HostMsg bytes) (links_out s.net a FromHost)) (slice_get (frames-blank s i j) (taken-kept blank_step blank-keeps (action_choice s.net a) h j)))
    ∙ ap (option_map (λ bytes. send_all (HostMsg bytes) (links_out s.net a FromHost))) (slice_get-map blank (frames_of s i) n)
    ∙ some-sent (links_out s.net a FromHost) (slice_get (frames_of s i) n)

pub action-blank : (s : Setup) (f a : ℕ) (actor : ActorId) (h : History) (n : ℕ)
    → action (blank_setup s) f a actor (blank_history h) n ≡ option_map (map blank_put) (action s f a actor h n)
action-blank s f a Observer h zero = issue-action s f a h
action-blank s f a Observer h (suc zero) = resend-action s f a h
action-blank s f a (Control d) h zero = sweep-action s f a d h
action-blank s f a (OfHost i) h zero = inject-action s f a i h
action-blank s f a _ h _ = refl
