use Rattle.std.proofs.Common.{[], refl}
use Rattle.sl_proto.specs.Runs.{grown}
use Rattle.sl_world.specs.Scene.{last_number}
use Rattle.sl_proto.proofs.Schedules.{grown-append, schedule-grown, numbered_book}
use Rattle.sl_proto.proofs.laws.books_grow_by_turns.Goals as goal

pub returns-clause-append : goal.returns-clause-append
returns-clause-append c book es fs = grown-append book es fs

pub returns-clause-schedule : goal.returns-clause-schedule
returns-clause-schedule c book es = schedule-grown book (grown book es) (last_number book) es refl

pub returns-clause-numbers : goal.returns-clause-numbers
returns-clause-numbers c es = numbered_book (grown [] es) es refl
