use Rattle.sl_model.specs.Findings.{finding}
use Rattle.sl_model.specs.Losses.{losses}
use Rattle.std.proofs.Common.{arith, ℕ, ◌+◌}
use Rattle.std.proofs.lemmas.Grind.{common_steps}
use Rattle.std.proofs.lemmas.List.FromFn.{map-range_with_len_more}
use Rattle.sl_cut.proofs.gather.finding_list.Goals as goal

pub loop-done-preserved : goal.loop-done-preserved
loop-done-preserved c = let f = λ (k : ℕ). finding c.args.input.now.snapshot.credits c.args.input.now.net (losses c.args.input.now) c.args.world.now k in
    rw (map-range_with_len_more f 1 c.loop-done.done (c.loop-done.done + 1) (omega arith)) (grind (arith, common_steps))
