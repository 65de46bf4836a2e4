-- Finishing, and how schedules end, with bad frames blanked.
use Rattle.std.proofs.Common.{◌≡◌, ℕ, suc, zero, ◌<◌, List, [], ◌∷◌, length, refl, sym, ap, subst, ◌∙◌, Option, Some, None, inl, inr}
use Rattle.std.proofs.lemmas.List.{length-map}
use Rattle.std.specs.Prelude.{true, false, Bool, ◌&&◌, ◌||◌, ◌⊎◌, ◌==◌, nat_lt, option_map, slice_get}
use Rattle.sl_parts.specs.Lists.{Each}
use Rattle.sl_layout.specs.declared.actor.ActorId.TheVariants.{Host as OfHost}
use Rattle.sl_layout.specs.Net.{Net, action_choice, units, unit_place}
use Rattle.sl_model.specs.declared.ending.Ending.{Ending}
use Rattle.sl_model.specs.declared.ending.Ending.TheVariants.{Idle, Unfinished, Finished}
use Rattle.sl_model.specs.History.{World, Losses, taken}
use Rattle.sl_model.specs.Setup.{Setup, frames_of}
use Rattle.sl_model.specs.Knowledge.{observer, known, resent, floor, can_issue}
use Rattle.sl_model.specs.Schedule.{settling_pass, sweeps, resend_entry}
use Rattle.sl_model.specs.World.{Entry, start, carried, next_step, turn, run, world, kept_from, IsLegalFrom, IsLegal}
use Rattle.sl_model.specs.End.{append_to, then_from, again_from, settle, is_collected, rose, after_sweeps, sweep_round, finish, AllTaken, AllSent, KnowsAll, IsFinished}
use Rattle.sl_model.specs.Ending.{HasEnding}
use Rattle.sl_cut.specs.Hostile.{blank, blank_message, blank_step, blank_world}
use Rattle.sl_cut.proofs.Hostile.Frames.{blank_setup, frames-blank}
use Rattle.sl_cut.proofs.Hostile.Told.{known-blank, blank-keeps}
use Rattle.sl_cut.proofs.Hostile.Kept.{issue-kept, length-kept, taken-kept}
use Rattle.sl_cut.proofs.Hostile.Worlds.{of_actor, issued-blank, floor-same, all-carried, all-taken, next-blank, idle-same, turn-blank, run-blank, start-blank, world-blank, kept-blank}

-- Finishing. go and come are what follows, in a world and in the world with bad frames blanked.

abbrev Follows : Type 0
Follows = World → Option (List Entry)

abbrev AreSame : Follows → Follows → Type 0
AreSame go come = (v : World) → come (blank_world v) ≡ go v

again-same : (s : Setup) (lost : Losses) (w : World) (go come : Follows) → AreSame go come → (es : List Entry)
    → again_from (blank_setup s) lost (blank_world w) come es ≡ again_from s lost w go es
again-same s lost w go come e [] = refl
again-same s lost w go come e (x ∷ es) = ap (append_to (x ∷ es)) (ap come (run-blank s lost w (x ∷ es)) ∙ e (run s lost w (x ∷ es)))

then-same : (s : Setup) (lost : Losses) (w : World) (go come : Follows) → AreSame go come → (o : Option (List Entry))
    → then_from (blank_setup s) lost (blank_world w) come o ≡ then_from s lost w go o
then-same s lost w go come e None = refl
then-same s lost w go come e (Some es) = ap (append_to es) (ap come (run-blank s lost w es) ∙ e (run s lost w es))

again-kept : (s : Setup) (lost : Losses) (w : World) (go come : Follows) → AreSame go come → (es : List Entry)
    → again_from (blank_setup s) lost (blank_world w) come (kept_from (blank_setup s) lost (blank_world w) es) ≡ again_from s lost w go (kept_from s lost w es)
again-kept s lost w go come e es = ap (again_from (blank_setup s) lost (blank_world w) come) (kept-blank s lost w es) ∙ again-same s lost w go come e (kept_from s lost w es)

settle-blank : (fuel : ℕ) (s : Setup) (lost : Losses) (w : World) → settle fuel (blank_setup s) lost (blank_world w) ≡ settle fuel s lost w
settle-blank zero s lost w = refl
settle-blank (suc fuel) s lost w = again-kept s lost w (λ v. settle fuel s lost v) (λ v. settle fuel (blank_setup s) lost v) (λ v. settle-blank fuel s lost v) (settling_pass s.net)

collected-same : (s : Setup) (w : World) → is_collected (blank_setup s) (blank_world w) ≡ is_collected s w
collected-same s w = λ i. (floor-same s.net w i == issued-blank s.net w i) && (issued-blank s.net w i == s.count)

rose-same : (net : Net) (w v : World) → rose net (blank_world w) (blank_world v) ≡ rose net w v
rose-same net w v = λ i. nat_lt (floor-same net w i) (floor-same net v i) || nat_lt (issued-blank net w i) (issued-blank net v i)

sweeps-same : (s : Setup) (lost : Losses) (w : World) (go come : Follows) → AreSame go come → (b : Bool)
    → after_sweeps come (blank_setup s) lost (blank_world w) b ≡ after_sweeps go s lost w b
sweeps-same s lost w go come e true = e w
sweeps-same s lost w go come e false = again-kept s lost w go come e (resend_entry s.net ∷ [])

round-same : (fuel : ℕ) (s : Setup) (lost : Losses) (w : World) (go come : Follows) → AreSame go come → (b : Bool)
    → sweep_round fuel come (blank_setup s) lost (blank_world w) b ≡ sweep_round fuel go s lost w b
round-same fuel s lost w go come e true = refl
round-same fuel s lost w go come e false =
    ap (λ es. then_from (blank_setup s) lost (blank_world w) swept-come (Some es)) (kept-blank s lost w (sweeps s.net)) ∙ then-same s lost w swept swept-come swept-same (Some (kept_from s lost w (sweeps s.net)))
  where
    rest : Follows
    rest v = after_sweeps go s lost v (rose s.net w v)

    rest-come : Follows
    rest-come v = after_sweeps come (blank_setup s) lost v (rose s.net (blank_world w) v)

    rest-same : AreSame rest rest-come
    rest-same v = ap (after_sweeps come (blank_setup s) lost (blank_world v)) (rose-same s.net w v) ∙ sweeps-same s lost v go come e (rose s.net w v)

    swept : Follows
    swept v = then_from s lost v rest (settle fuel s lost v)

    swept-come : Follows
    swept-come v = then_from (blank_setup s) lost v rest-come (settle fuel (blank_setup s) lost v)

    swept-same : AreSame swept swept-come
    swept-same v = ap (then_from (blank_setup s) lost (blank_world v) rest-come) (settle-blank fuel s lost v) ∙ then-same s lost v rest rest-come rest-same (settle fuel s lost v)

finish-round : (fuel : ℕ) (s : Setup) (lost : Losses) (go come : Follows) → AreSame go come
    → AreSame (λ v. sweep_round fuel go s lost v (is_collected s v)) (λ v. sweep_round fuel come (blank_setup s) lost v (is_collected (blank_setup s) v))
finish-round fuel s lost go come e v = ap (sweep_round fuel come (blank_setup s) lost (blank_world v)) (collected-same s v) ∙ round-same fuel s lost v go come e (is_collected s v)

pub finish-blank : (fuel : ℕ) (s : Setup) (lost : Losses) (w : World) → finish fuel (blank_setup s) lost (blank_world w) ≡ finish fuel s lost w
finish-blank zero s lost w = refl
finish-blank (suc fuel) s lost w =
    let go = λ (v : World). sweep_round (suc fuel) (λ u. finish fuel s lost u) s lost v (is_collected s v) in
    let come = λ (v : World). sweep_round (suc fuel) (λ u. finish fuel (blank_setup s) lost u) (blank_setup s) lost v (is_collected (blank_setup s) v) in
    ap (then_from (blank_setup s) lost (blank_world w) come) (settle-blank (suc fuel) s lost w)
    ∙ then-same s lost w go come (finish-round (suc fuel) s lost (λ u. finish fuel s lost u) (λ u. finish fuel (blank_setup s) lost u) (λ u. finish-blank fuel s lost u)) (settle (suc fuel) s lost w)

-- Ends.

pub count-carried : (net : Net) (lost : Losses) (w : World) (l : ℕ) → length (carried net lost (blank_world w) l) ≡ length (carried net lost w l)
count-carried net lost w l = ap length (all-carried net lost w l) ∙ length-map (carried net lost w l) blank_message

count-frames : (s : Setup) (h : ℕ) → length (frames_of (blank_setup s) h) ≡ length (frames_of s h)
count-frames s h = ap length (frames-blank s h) ∙ length-map (frames_of s h) blank

none-to-issue : (s : Setup) (w : World) → can_issue (blank_setup s) (floor s.net (blank_world w)) (observer (blank_world w)) ≡ can_issue s (floor s.net w) (observer w)
none-to-issue s w = ap (λ f. can_issue (blank_setup s) f (observer (blank_world w))) (floor-same s.net w)
    ∙ of_actor (can_issue (blank_setup s) (floor s.net w)) (issue-kept blank_step blank-keeps s (floor s.net w)) w 0

abbrev AllEnded : Setup → Losses → World → Type 0
AllEnded s lost w = (AllTaken s.net lost w × AllSent s w × (can_issue s (floor s.net w) (observer w) ≡ false))
    × ((is_collected s w ≡ true) ⊎ ((resent s.net (observer w) ≡ s.retries) × KnowsAll s.net w))

ended-of : (s : Setup) (lost : Losses) (w : World) → IsFinished s lost w → AllEnded s lost w
ended-of s lost w f = ((f.settled.taken_all, f.settled.sent_all, f.settled.none_to_issue), elim f.ended [ inl q ↦ inl q | inr q ↦ inr (q.no_retry, q.knows_all) ])

finished-of : (s : Setup) (lost : Losses) (w : World) → AllEnded s lost w → IsFinished s lost w
finished-of s lost w f = record {
  settled = record { taken_all = f.0.0; sent_all = f.0.1; none_to_issue = f.0.2 };
  ended = elim f.1 [ inl q ↦ inl q | inr q ↦ inr (record { no_retry = q.0; knows_all = q.1 }) ];
}

ended-blank : (s : Setup) (lost : Losses) (w : World) → AllEnded (blank_setup s) lost (blank_world w) ≡ AllEnded s lost w
ended-blank s lost w = λ i. (
    ((l : ℕ) → l < length s.net.links → all-taken s.net w l i ≡ count-carried s.net lost w l i)
    × ((a h : ℕ) → slice_get s.net.actors a ≡ Some (OfHost h) → of_actor (taken (action_choice s.net a)) (taken-kept blank_step blank-keeps (action_choice s.net a)) w a i ≡ count-frames s h i)
    × (none-to-issue s w i ≡ false))
    × ((collected-same s w i ≡ true)
    ⊎ ((of_actor (resent s.net) (taken-kept blank_step blank-keeps (suc (action_choice s.net 0))) w 0 i ≡ s.retries)
    × Each (λ u. of_actor (known (unit_place s.net u)) (known-blank (unit_place s.net u)) w 0 i ≡ of_actor length (length-kept blank_step) w u i) (units s.net)))

cast : {A B : Type 0} → A ≡ B → A → B
cast p x = subst (λ X. X) p x

finished-blank : (s : Setup) (lost : Losses) (es : List Entry) → IsFinished s lost (world s lost es) → IsFinished (blank_setup s) lost (world (blank_setup s) lost es)
finished-blank s lost es f = subst (IsFinished (blank_setup s) lost) (sym (world-blank s lost es))
    (finished-of (blank_setup s) lost (blank_world (world s lost es)) (cast (sym (ended-blank s lost (world s lost es))) (ended-of s lost (world s lost es) f)))

blank-finished : (s : Setup) (lost : Losses) (es : List Entry) → IsFinished (blank_setup s) lost (world (blank_setup s) lost es) → IsFinished s lost (world s lost es)
blank-finished s lost es f = let g = subst (IsFinished (blank_setup s) lost) (world-blank s lost es) f in
    finished-of s lost (world s lost es) (cast (ended-blank s lost (world s lost es)) (ended-of (blank_setup s) lost (blank_world (world s lost es)) g))

-- Legal schedules.

legal-from : (s : Setup) (lost : Losses) (w : World) (es : List Entry) → IsLegalFrom (blank_setup s) lost (blank_world w) es ≡ IsLegalFrom s lost w es
legal-from s lost w [] = refl
legal-from s lost w (e ∷ es) =
    let rest = ap (λ v. IsLegalFrom (blank_setup s) lost v es) (turn-blank s lost w e) ∙ legal-from s lost (turn s lost w e) es in
    λ i. (idle-same s lost w e i ≡ true) × rest i

pub legal-blank : (s : Setup) (lost : Losses) (es : List Entry) → IsLegal (blank_setup s) lost es ≡ IsLegal s lost es
legal-blank s lost es = ap (λ v. IsLegalFrom (blank_setup s) lost v es) (sym (start-blank s.net)) ∙ legal-from s lost (start s.net) es

-- Endings.

none-map : {A B : Type 0} (f : A → B) (o : Option A) → option_map f o ≡ None → o ≡ None
none-map f None e = refl
none-map f (Some x) e = absurd cc

next-world : (s : Setup) (lost : Losses) (es : List Entry) (e : Entry)
    → next_step (blank_setup s) lost (world (blank_setup s) lost es) e ≡ option_map blank_step (next_step s lost (world s lost es) e)
next-world s lost es e = ap (λ v. next_step (blank_setup s) lost v e) (world-blank s lost es) ∙ next-blank s lost (world s lost es) e

-- an ending stands in another setup, where what it says does
ending-over : (s t : Setup) (lost : Losses) → ((es : List Entry) → IsLegal s lost es → IsLegal t lost es)
    → ((es : List Entry) (e : Entry) → next_step s lost (world s lost es) e ≡ None → next_step t lost (world t lost es) e ≡ None)
    → ((es : List Entry) → IsFinished s lost (world s lost es) → IsFinished t lost (world t lost es)) → ((es : List Entry) → IsFinished t lost (world t lost es) → IsFinished s lost (world s lost es))
    → (es : List Entry) (x : Ending) → HasEnding s lost es x → HasEnding t lost es x
ending-over s t lost legal idle done undone es (Idle n) f = record {
  before = f.before;
  entry = f.entry;
  rest = f.rest;
  whole = f.whole;
  number = f.number;
  legal = legal f.before f.legal;
  idle = idle f.before f.entry f.idle;
}
ending-over s t lost legal idle done undone es Unfinished f = (legal es f.0, λ g. f.1 (undone es g))
ending-over s t lost legal idle done undone es Finished f = (legal es f.0, done es f.1)

pub ending-blank : (s : Setup) (lost : Losses) (es : List Entry) (x : Ending) → HasEnding s lost es x → HasEnding (blank_setup s) lost es x
ending-blank s lost = ending-over s (blank_setup s) lost (λ es. cast (sym (legal-blank s lost es))) (λ es e h. next-world s lost es e ∙ ap (option_map blank_step) h) (finished-blank s lost) (blank-finished s lost)

pub blank-ending : (s : Setup) (lost : Losses) (es : List Entry) (x : Ending) → HasEnding (blank_setup s) lost es x → HasEnding s lost es x
blank-ending s lost = ending-over (blank_setup s) s lost (λ es. cast (legal-blank s lost es)) (λ es e h. none-map blank_step _ (sym (next-world s lost es e) ∙ h)) (blank-finished s lost) (finished-blank s lost)
