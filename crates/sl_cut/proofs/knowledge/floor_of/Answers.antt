use Rattle.std.proofs.Common.{refl, ◌∙◌}
use Rattle.sl_cut.proofs.knowledge.floor_of.Goals as goal

pub returns : goal.returns
returns c = c.least_last.ensures ∙ rw (c.deref-2.ensures.value, c.in_ok-inits.ensures.choices, c.least_last-upto.ensures, c.deref.ensures.value, c.in_ok-channels.ensures.channels, c.id.ensures) refl
