use Rattle.sl_sleep.proofs.WakeLemmas.{none_lost, none_held_back}
use Rattle.sl_sleep.proofs.laws.no_wake_up_is_lost.Goals as goal

pub returns-clause-told : goal.returns-clause-told
returns-clause-told c e acts may = none_lost e acts may

pub returns-clause-room : goal.returns-clause-room
returns-clause-room c e acts may = none_held_back e acts may
