use Rattle.sl_observe.proofs.Links.{begins_are_all}
use Rattle.sl_observe.proofs.laws.begins_take_all_links.Goals as goal

pub returns : goal.returns
returns c = λ net made. begins_are_all net (c.nets_are_wired.ensures net made)
