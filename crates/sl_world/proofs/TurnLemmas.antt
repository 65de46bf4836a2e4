-- What a turn of the definition is, where the link has a message or the guard is true.
use Rattle.std.proofs.Common.{◌≡◌, ℕ, ◌<◌, ◌≤◌, List, [], ◌∷◌, ◌++◌, length, set, zero, suc, refl, ap, sym, ◌∙◌, arith, Option, Some, None, slice_get, true, false}
use Rattle.std.specs.Prelude.{option_map, nat_lt}
use Rattle.std.proofs.lemmas.Bool.Decides.{nat_tests}
use Rattle.sl_machine.specs.Machine.{Rules, After}
use Rattle.sl_machine.specs.Plan.{Plan, link_in}
use Rattle.sl_machine.specs.declared.wiring.Entry.{Entry}
use Rattle.sl_world.specs.Scene.{Scene, Line, line_at, take_turn, turn_of, done, without_first, put_all, entry_after}

pub some_at : {X : Type 0} (xs : List X) (k : ℕ) → k < length xs → (x : X) × (slice_get xs k ≡ Some x)
some_at [] k h = absurd (omega arith)
some_at (x ∷ xs) zero h = (x, refl)
some_at (x ∷ xs) (suc k) h = some_at xs k (omega arith)

-- a link that has a message
pub line_some : {M : Type 0} (lines : List (Line M)) (k : ℕ) (m : M) (rest : List M) → (line_at lines k).queue ≡ m ∷ rest → slice_get lines k ≡ Some (line_at lines k)
line_some [] k m rest queue = absurd (cc)
line_some (l ∷ ls) zero m rest queue = refl
line_some (l ∷ ls) (suc k) m rest queue = line_some ls k m rest queue

-- a take
pub took : {S M : Type 0} (rules : Rules S M) (w : Scene S M) (actor choice link : ℕ) (s : S) (line : Line M) (m : M) (rest : List M) → link ≡ link_in w.plan.links actor choice → link < length w.plan.links → slice_get w.states actor ≡ Some s → slice_get w.lines link ≡ Some line → line.queue ≡ m ∷ rest → turn_of rules w actor choice ≡ Some (done w actor choice (set w.lines link (without_first line rest)) (rules.take s choice m))
took rules w actor choice link s line m rest place low state here queue =
    let test : nat_lt (link_in w.plan.links actor choice) (length w.plan.links) ≡ true = grind (arith, nat_tests) in
    let here2 : slice_get w.lines (link_in w.plan.links actor choice) ≡ Some line = ap (slice_get w.lines) (sym place) ∙ here in
    rw (test, state, here2, queue) (ap (λ (k : ℕ). Some (done w actor choice (set w.lines k (without_first line rest)) (rules.take s choice m))) (sym place))

-- an empty link
none_first : {S M : Type 0} (rules : Rules S M) (w : Scene S M) (actor choice link : ℕ) (s : S) (lines : List (Line M)) (k : ℕ) → (line_at lines k).queue ≡ [] → take_turn rules w actor choice link (Some s) (slice_get lines k) ≡ None
none_first rules w actor choice link s [] k queue = refl
none_first rules w actor choice link s (l ∷ ls) zero queue = rw queue refl
none_first rules w actor choice link s (l ∷ ls) (suc k) queue = none_first rules w actor choice link s ls k queue

pub idle_on : {S M : Type 0} (rules : Rules S M) (w : Scene S M) (actor choice link : ℕ) (s : S) → link ≡ link_in w.plan.links actor choice → link < length w.plan.links → slice_get w.states actor ≡ Some s → (line_at w.lines link).queue ≡ [] → turn_of rules w actor choice ≡ None
idle_on rules w actor choice link s place low state queue =
    let test : nat_lt (link_in w.plan.links actor choice) (length w.plan.links) ≡ true = grind (arith, nat_tests) in
    rw (test, state) (none_first rules w actor choice (link_in w.plan.links actor choice) s w.lines (link_in w.plan.links actor choice) (ap (λ k. (line_at w.lines k).queue) (sym place) ∙ queue))

-- an action
pub acted : {S M : Type 0} (rules : Rules S M) (w : Scene S M) (actor choice : ℕ) (s : S) (a : Option (After S M)) → length w.plan.links ≤ link_in w.plan.links actor choice → slice_get w.states actor ≡ Some s → rules.act s choice ≡ a → turn_of rules w actor choice ≡ option_map (done w actor choice w.lines) a
acted rules w actor choice s a high state act =
    let test : nat_lt (link_in w.plan.links actor choice) (length w.plan.links) ≡ false = grind (arith, nat_tests) in
    rw (test, state, act) refl

-- the parts of a scene after a turn
pub done_is : {S M : Type 0} (w : Scene S M) (actor choice : ℕ) (before : List (Line M)) (a : After S M) (plan : Plan) (states : List S) (lines : List (Line M)) (book : List Entry) → plan ≡ w.plan → states ≡ set w.states actor a.state → lines ≡ put_all w.plan.links actor a.puts before → book ≡ w.book ++ entry_after w.book actor choice ∷ [] → done w actor choice before a ≡ record { plan = plan; states = states; lines = lines; book = book }
done_is w actor choice before a plan states lines book d e f g = rw (d, e, f, g) refl

pub same_is : {S M : Type 0} (w : Scene S M) (plan : Plan) (states : List S) (lines : List (Line M)) (book : List Entry) → plan ≡ w.plan → states ≡ w.states → lines ≡ w.lines → book ≡ w.book → record { plan = plan; states = states; lines = lines; book = book } ≡ w
same_is w plan states lines book d e f g = rw (d, e, f, g) refl
