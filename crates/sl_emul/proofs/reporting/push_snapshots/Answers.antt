use Rattle.std.proofs.Common.{arith, ◌+◌}
use Rattle.std.proofs.lemmas.List.{flat_map_more}
use Rattle.std.proofs.lemmas.List.FromFn.{map-range_with_len_more}
use Rattle.sl_model.specs.Accounts.{finding_by}
use Rattle.sl_proto.specs.Told.{accounts_of}
use Rattle.sl_emul.proofs.reporting.push_snapshots.Goals as goal

pub loop-done-preserved : goal.loop-done-preserved
loop-done-preserved c = let o = c.args.observer.now.state in
    rw (map-range_with_len_more (finding_by o.issued (accounts_of o)) 1 c.loop-done.done (c.loop-done.done + 1) (omega arith)) (grind (arith, flat_map_more))
