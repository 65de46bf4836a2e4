use Rattle.sl_value.proofs.Held.{none-exactly, served-exactly}
use Rattle.sl_value.proofs.laws.values_are_none_exactly.Goals as goal

pub returns-clause-none : goal.returns-clause-none
returns-clause-none c net a sizes ts unit k n = none-exactly net a sizes ts unit k (c.nets_are_wired.ensures net n)

pub returns-clause-served : goal.returns-clause-served
returns-clause-served c net a sizes ts unit n = served-exactly net a sizes ts unit (c.nets_are_wired.ensures net n)
