use Rattle.std.proofs.Common.{◌∙◌, ap, Some}
use Rattle.std.proofs.Math.Seq.{map-set_same}
use Rattle.std.proofs.lemmas.Result.{on_ok_weaker}
use Rattle.sl_world.proofs.MachineLemmas.{same_counts, meaning_set}
use Rattle.sl_world.proofs.machines.ready_at.Goals as goal

pub returns-clause-states : goal.returns-clause-states
returns-clause-states g c = map-set_same _ _ _ _ c.index_mut.result.now (c.ready.ensures.state ∙ ap g.A.Machine.state c.index_mut.ensures.value)

pub returns-clause-counts : goal.returns-clause-counts
returns-clause-counts g c = same_counts _ _ _ c.index_mut.result.now _ (c.ready.ensures.counts ∙ ap g.A.Machine.counts c.index_mut.ensures.value)

pub returns-clause-ready : goal.returns-clause-ready
returns-clause-ready g c = on_ok_weaker c.ready.result (λ h. meaning_set _ _ _ _ c.requires.actor ∙ ap Some h) c.ready.ensures.ok
