use Rattle.sl_saves.proofs.Rings.{ring-adopt, ring-credit, ring-first}
use Rattle.sl_saves.proofs.laws.calls_are_shown.Goals as goal

pub returns-clause-first : goal.returns-clause-first
returns-clause-first c = ring-first

pub returns-clause-adopted : goal.returns-clause-adopted
returns-clause-adopted c n by packets bytes view = ring-adopt n view by packets bytes

pub returns-clause-credited : goal.returns-clause-credited
returns-clause-credited c n x view = ring-credit n view x
