use Rattle.std.proofs.Common.{◌*◌, ◌<◌, map, sym, subst, arith}
use Rattle.sl_merge.specs.Merging.{IsMerge, IsAscending, all_entries}
use Rattle.sl_merge.proofs.WindowLemmas.{logs_merged, logs_ascend}
use Rattle.sl_merge.proofs.logs.merge_logs.Goals as goal

pub returns-clause-merge : goal.returns-clause-merge
returns-clause-merge c =
    let past : c.last_in.result < c.loop-window.window * 256 = omega arith in
    subst (IsMerge (all_entries (map (λ log. log.items) c.args.logs.now))) (sym c.loop-window.invariant.0)
    (logs_merged (λ log. log.items) c.args.logs.now (c.loop-window.window * 256) c.last_in.result c.requires.logs c.last_in.ensures past)

pub returns-clause-ascending : goal.returns-clause-ascending
returns-clause-ascending c = subst IsAscending (sym c.loop-window.invariant.0) (logs_ascend (λ log. log.items) c.args.logs.now (c.loop-window.window * 256) c.last_in.result c.requires.logs)
