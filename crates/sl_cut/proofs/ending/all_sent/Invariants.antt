use Rattle.std.proofs.Common.{ℕ, ◌<◌}
use Rattle.sl_model.specs.Setup.{setup_of}
use Rattle.sl_cut.specs.Sent.{HasSent}
use Rattle.sl_cut.proofs.ending.all_sent.Given as goal

abbrev pub invariant-loop-actor : goal.invariant-loop-actor
invariant-loop-actor l = (a : ℕ) → a < l.actor → HasSent (setup_of l.input) l.world a
