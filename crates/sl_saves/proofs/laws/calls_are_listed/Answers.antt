use Rattle.std.proofs.Common.{refl}
use Rattle.sl_saves.proofs.Lists.{list-adopt, list-credit, list-shown}
use Rattle.sl_saves.proofs.laws.calls_are_listed.Goals as goal

pub returns-clause-first : goal.returns-clause-first
returns-clause-first c n size one = record { rising = tt; some = one; last = refl; entries = refl }

pub returns-clause-adopted : goal.returns-clause-adopted
returns-clause-adopted c = list-adopt

pub returns-clause-credited : goal.returns-clause-credited
returns-clause-credited c = list-credit

pub returns-clause-shown : goal.returns-clause-shown
returns-clause-shown c = list-shown
