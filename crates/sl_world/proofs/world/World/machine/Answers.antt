use Rattle.std.proofs.Common.{◌<◌, subst, length}
use Rattle.std.proofs.lemmas.List.{length-map}
use Rattle.sl_world.proofs.MachineLemmas.{meaning_read, counts_read}
use Rattle.sl_world.proofs.world.World.machine.Goals as goal

pub returns-clause-state : goal.returns-clause-state
returns-clause-state g c =
    let xs = c.args.self.now.machines.items in
    meaning_read g.A.Machine.state xs c.args.actor c.index.result.now (subst (λ n. c.args.actor < n) (length-map xs g.A.Machine.state) c.requires) c.index.ensures

pub returns-clause-counts : goal.returns-clause-counts
returns-clause-counts g c =
    let w = c.args.self.now in
    let low : c.args.actor < length w.machines.items = subst (λ n. c.args.actor < n) (length-map w.machines.items g.A.Machine.state) c.requires in
    counts_read g.A.Machine.counts w.links.plan w.machines.items c.args.actor c.index.result.now w.machines_fit low c.index.ensures
