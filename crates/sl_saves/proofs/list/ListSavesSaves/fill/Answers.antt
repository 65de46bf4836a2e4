use Rattle.sl_saves.proofs.Lists.{list-shown, length-view}
use Rattle.sl_saves.proofs.list.ListSavesSaves.fill.Goals as goal

pub returns-clause-slots : goal.returns-clause-slots
returns-clause-slots c = length-view c.args.self.now.ring c.args.self.now.entries.items

pub returns-clause-shows : goal.returns-clause-shows
returns-clause-shows c = list-shown c.args.self.now.credits _
