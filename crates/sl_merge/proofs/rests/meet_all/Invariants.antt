use Rattle.sl_merge.specs.Parted.{AreLeftOnLinksOf}
use Rattle.sl_merge.proofs.rests.meet_all.Given as goal
use Rattle.sl_merge.proofs.RestLemmas.{AreAsBefore}

abbrev pub invariant-loop-link : goal.invariant-loop-link
invariant-loop-link g l =
    AreLeftOnLinksOf l.links l.link-index l.initial.takes.items l.initial.outs.items l.rests
    × AreAsBefore l.links l.link-index l.initial.takes.items l.takes.items l.initial.outs.items l.outs.items
