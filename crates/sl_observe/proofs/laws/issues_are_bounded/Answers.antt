use Rattle.sl_observe.proofs.Runs.{issued_few, begins_are_of, issues_within}
use Rattle.sl_observe.proofs.laws.issues_are_bounded.Goals as goal

pub returns-clause-count : goal.returns-clause-count
returns-clause-count c = issued_few

pub returns-clause-begun : goal.returns-clause-begun
returns-clause-begun c = begins_are_of

pub returns-clause-window : goal.returns-clause-window
returns-clause-window c = issues_within
