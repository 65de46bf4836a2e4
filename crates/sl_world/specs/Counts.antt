-- The numbers of machines.
use Rattle.std.specs.Prelude.{◌≡◌, List}
use Rattle.sl_machine.specs.Machine.{Counts}
use Rattle.sl_machine.specs.Fit.{ins_of, outs_of, actions_of}

-- the numbers of the machines are as they were
pub record SameCounts {A : Type 0} (counts : A → Counts) (old new : List A) : Type 0 where
  pub same_ins : ins_of counts new ≡ ins_of counts old
  pub same_outs : outs_of counts new ≡ outs_of counts old
  pub same_actions : actions_of counts new ≡ actions_of counts old
