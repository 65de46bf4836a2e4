use Rattle.sl_cut.proofs.knowledge.unit_floor.Goals as goal

pub returns : goal.returns
returns c = rw (c.first_steps.ensures, c.steps-2.ensures.steps, c.known-count.ensures, c.unit_place.ensures, c.steps.ensures.steps) at c.floor_of.ensures
