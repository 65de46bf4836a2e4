-- In a run, times and stamps rise by one with each turn at most.
use Rattle.std.proofs.Common.{◌≡◌, ℕ, zero, suc, ◌+◌, ◌≤◌, Bool, true, false, if◌then◌else◌, List, [], ◌∷◌, ◌++◌, length, set, slice_get, Option, Some, None, inl, inr, sym, refl, ap, subst, arith, unwrap_or}
use Rattle.std.specs.Option.{option_and_then}
use Rattle.std.specs.List.{AllByRecursion}
use Rattle.std.proofs.lemmas.Option.{same_Some}
use Rattle.sl_machine.specs.Machine.{After, Rules}
use Rattle.sl_machine.specs.Plan.{link_in, link_out}
use Rattle.sl_loss.specs.Loss.{loses_next}
use Rattle.sl_world.specs.Scene.{Scene, Line, line_at, line_put, put_at, put_each, without_first, done, turn_of, run_of}
use Rattle.sl_world.proofs.TurnLaws.{turn_is}
use Rattle.sl_merge.specs.Lamport.{time_in, times_of}

-- what holds of each element holds of the one at a place, and is kept by a write
module _ {X : Type 0} (P : X → Type 0) where
  each_at : (xs : List X) (k : ℕ) (x : X) → AllByRecursion P xs → slice_get xs k ≡ Some x → P x
  each_at [] k x h e = absurd (cc)
  each_at (y ∷ xs) zero x h e = subst P (same_Some y x e) h.0
  each_at (y ∷ xs) (suc k) x h e = each_at xs k x h.1 e

  each_set : (xs : List X) (k : ℕ) (x : X) → AllByRecursion P xs → P x → AllByRecursion P (set xs k x)
  each_set [] k x h p = tt
  each_set (y ∷ xs) zero x h p = (p, h.1)
  each_set (y ∷ xs) (suc k) x h p = (h.0, each_set xs k x h.1 p)

  each_push : (xs : List X) (x : X) → AllByRecursion P xs → P x → AllByRecursion P (xs ++ x ∷ [])
  each_push [] x h p = (p, tt)
  each_push (y ∷ xs) x h p = (h.0, each_push xs x h.1 p)

pub each_so : {X : Type 0} (P Q : X → Type 0) → ((x : X) → P x → Q x) → (xs : List X) → AllByRecursion P xs → AllByRecursion Q xs
each_so P Q f [] h = tt
each_so P Q f (x ∷ xs) h = (f x h.0, each_so P Q f xs h.1)

module _ {S M : Type 0} (time : S → ℕ) (stamp : M → ℕ) where
  abbrev pub AllUpTo : ℕ → List M → Type 0
  AllUpTo n ms = AllByRecursion (λ m. stamp m ≤ n) ms

  abbrev pub LinesUpTo : ℕ → List (Line M) → Type 0
  LinesUpTo n lines = AllByRecursion (λ (l : Line M). AllUpTo n l.queue) lines

  -- the times and the stamps are n at most
  pub record AfterUpTo (n : ℕ) (a : After S M) : Type 0 where
    pub state : time a.state ≤ n
    pub puts : AllByRecursion (λ (p : ℕ × M). stamp p.1 ≤ n) a.puts

  pub record SceneUpTo (n : ℕ) (w : Scene S M) : Type 0 where
    pub states : AllByRecursion (λ (s : S). time s ≤ n) w.states
    pub lines : LinesUpTo n w.lines

  -- a turn shows one more than what it saw, at most
  pub record IsSlow (rules : Rules S M) : Type 0 where
    pub take : (n : ℕ) (s : S) (choice : ℕ) (m : M) → time s ≤ n → stamp m ≤ n → AfterUpTo (n + 1) (rules.take s choice m)
    pub act : (n : ℕ) (s : S) (choice : ℕ) (a : After S M) → time s ≤ n → rules.act s choice ≡ Some a → AfterUpTo (n + 1) a

  line_up : (n : ℕ) (lines : List (Line M)) (k : ℕ) → LinesUpTo n lines → AllUpTo n (line_at lines k).queue
  line_up n [] k h = tt
  line_up n (l ∷ lines) zero h = h.0
  line_up n (l ∷ lines) (suc k) h = line_up n lines k h.1

  put_up : (n : ℕ) (line : Line M) (m : M) → AllUpTo n line.queue → stamp m ≤ n → AllUpTo n (line_put line m).queue
  put_up n line m h p =
      elim (loses_next line.loss) as (λ (b : Bool). AllUpTo n (if b then line.queue else line.queue ++ m ∷ [])) [
        | true ↦ h
        | false ↦ each_push (λ x. stamp x ≤ n) line.queue m h p
      ]

  puts_up : (n : ℕ) (place : ℕ → ℕ) (ps : List (ℕ × M)) (lines : List (Line M)) → LinesUpTo n lines → AllByRecursion (λ (p : ℕ × M). stamp p.1 ≤ n) ps → LinesUpTo n (put_each place ps lines)
  puts_up n place [] lines h p = h
  puts_up n place (q ∷ ps) lines h p =
      let k = place q.0 in
      puts_up n place ps (put_at lines k q.1) (each_set (λ (l : Line M). AllUpTo n l.queue) lines k (line_put (line_at lines k) q.1) h (put_up n (line_at lines k) q.1 (line_up n lines k h) p.0)) p.1

  lines_more : (n : ℕ) (lines : List (Line M)) → LinesUpTo n lines → LinesUpTo (n + 1) lines
  lines_more n lines h = each_so (λ (l : Line M). AllUpTo n l.queue) (λ l. AllUpTo (n + 1) l.queue) (λ l p. each_so (λ m. stamp m ≤ n) (λ m. stamp m ≤ n + 1) (λ m le. omega arith) l.queue p) lines h

  done_up : (n : ℕ) (w : Scene S M) (actor choice : ℕ) (lines : List (Line M)) (a : After S M) → SceneUpTo n w → LinesUpTo n lines → AfterUpTo (n + 1) a → SceneUpTo (n + 1) (done w actor choice lines a)
  done_up n w actor choice lines a h l p =
      record {
        states = each_set (λ s. time s ≤ n + 1) w.states actor a.state (each_so (λ s. time s ≤ n) (λ s. time s ≤ n + 1) (λ s le. omega arith) w.states h.states) p.state;
        lines = puts_up (n + 1) (link_out w.plan.links actor) a.puts lines (lines_more n lines l) p.puts;
      }

  module _ (rules : Rules S M) (slow : IsSlow rules) where
    turn_up : (n : ℕ) (w v : Scene S M) (actor choice : ℕ) → SceneUpTo n w → turn_of rules w actor choice ≡ Some v → SceneUpTo (n + 1) v
    turn_up n w v actor choice h did =
        elim (turn_is rules w actor choice v did) [
          | inl t ↦
              let k = link_in w.plan.links actor choice in
              let queue : AllUpTo n (t.0.message ∷ t.0.rest) = subst (AllUpTo n) t.0.queue_is (each_at (λ (l : Line M). AllUpTo n l.queue) w.lines k t.0.line h.lines t.0.line_is) in
              let before = set w.lines k (without_first t.0.line t.0.rest) in
              subst (SceneUpTo (n + 1)) (sym t.1)
              (done_up n w actor choice before (rules.take t.0.state choice t.0.message) h
              (each_set (λ (l : Line M). AllUpTo n l.queue) w.lines k (without_first t.0.line t.0.rest) h.lines queue.1)
              (slow.take n t.0.state choice t.0.message (each_at (λ s. time s ≤ n) w.states actor t.0.state h.states t.0.state_is) queue.0))
          | inr t ↦
              subst (SceneUpTo (n + 1)) (sym t.1)
              (done_up n w actor choice w.lines t.0.after h h.lines (slow.act n t.0.state choice t.0.after (each_at (λ s. time s ≤ n) w.states actor t.0.state h.states t.0.state_is) t.0.act_is))
        ]

    time_up : (n : ℕ) (states : List S) (a : ℕ) (s : Option S) → AllByRecursion (λ (s : S). time s ≤ n) states → slice_get states a ≡ s → time_in time s ≤ n
    time_up n states a None h e = omega arith
    time_up n states a (Some s) h e = each_at (λ s. time s ≤ n) states a s h e

    turned_up : (n : ℕ) (w v : Scene S M) (e : ℕ × ℕ) (es : List (ℕ × ℕ)) (o : Option (Scene S M)) → SceneUpTo n w → turn_of rules w e.0 e.1 ≡ o → option_and_then (λ x. run_of rules x es) o ≡ Some v
        → (x : Scene S M) × SceneUpTo (n + 1) x × (run_of rules x es ≡ Some v) × (unwrap_or (turn_of rules w e.0 e.1) w ≡ x)
    turned_up n w v e es None h turn run = absurd (cc)
    turned_up n w v e es (Some x) h turn run = (x, turn_up n w x e.0 e.1 h turn, run, ap (λ (o : Option (Scene S M)). unwrap_or o w) turn)

    -- so the times of a schedule's entries are its length at most, where they begin at 0
    pub times_up : (n m : ℕ) (w v : Scene S M) (es : List (ℕ × ℕ)) → n + length es ≤ m → SceneUpTo n w → run_of rules w es ≡ Some v → AllByRecursion (λ k. k ≤ m) (times_of rules time w es)
    times_up n m w v [] le h run = tt
    times_up n m w v (e ∷ es) le h run =
        let x = turned_up n w v e es (turn_of rules w e.0 e.1) h refl run in
        let first : time_in time (slice_get x.0.states e.0) ≤ n + 1 = time_up (n + 1) x.0.states e.0 (slice_get x.0.states e.0) x.1.states refl in
        let rest : AllByRecursion (λ k. k ≤ m) (times_of rules time x.0 es) = times_up (n + 1) m x.0 v es (omega arith) x.1 x.2 in
        let here : time_in time (slice_get x.0.states e.0) ≤ m = omega arith in
        subst (λ (y : Scene S M). AllByRecursion (λ k. k ≤ m) (time_in time (slice_get y.states e.0) ∷ times_of rules time y es)) (sym x.3) (here, rest)
