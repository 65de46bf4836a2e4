use Rattle.std.proofs.Common.{◌≡◌, take}
use Rattle.sl_model.specs.History.{without_lost}
use Rattle.sl_model.specs.Losses.{loss_after, losses}
use Rattle.sl_cut.proofs.losses.carried.Given as goal

abbrev pub invariant-loop-message : goal.invariant-loop-message
invariant-loop-message l = (l.kept.items ≡ without_lost (losses l.input l.link) 0 (take l.message-index l.message-items)) × (l.loss ≡ loss_after l.input l.link l.message-index)
