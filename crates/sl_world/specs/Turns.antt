-- What a turn comes to, and the turns of a schedule, with their answers.
use Rattle.std.specs.Prelude.{◌≡◌, ◌+◌, ◌≤◌, ℕ, List, length, Result, Ok, Some, None, OnOk, OnErr}
use Rattle.sl_machine.specs.Machine.{Rules}
use Rattle.sl_world.specs.Scene.{Scene, turn_of, after_turn, after_all, IsFront}
use Rattle.sl_world.specs.declared.world.Turn.{Turn}
use Rattle.sl_world.specs.declared.world.Turn.TheVariants.{Did, Idle}

-- a turn of an actor: what the definition says, or nothing has changed where it was refused
pub record IsTurn {S M E : Type 0} (rules : Rules S M) (actor choice : ℕ) (answer : Result Turn E) (old new : Scene S M) : Type 0 where
  pub after : OnOk answer (new ≡ after_turn rules old (actor, choice))
  pub did : answer ≡ Ok Did → turn_of rules old actor choice ≡ Some new
  pub idle : answer ≡ Ok Idle → turn_of rules old actor choice ≡ None
  pub same : answer ≡ Ok Idle → new ≡ old
  pub err : OnErr answer (new ≡ old)

-- the turns of a schedule, or of a front of it
pub record AreTurns {S M T E : Type 0} (rules : Rules S M) (schedule : List (ℕ × ℕ)) (answer : Result T E) (old new : Scene S M) : Type 0 where
  pub ok : OnOk answer (new ≡ after_all rules old schedule)
  pub front : IsFront rules old schedule new
  pub plan : new.plan ≡ old.plan
  pub book : length new.book ≤ length old.book + length schedule
