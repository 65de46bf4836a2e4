use Rattle.sl_unit.proofs.Numbers.{sorts_are, toward_are, entrances_are}
use Rattle.sl_unit.proofs.laws.ways_are_links.Goals as goal

pub returns : goal.returns
returns c = record { sorts = sorts_are; toward = toward_are; entrances = entrances_are }
