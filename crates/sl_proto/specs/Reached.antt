-- What the observer tells a call that finishes.
--     HasReached x w told             what it tells in the world w
--     TellsCollected told answer      the answer says of a settled world in which this is told whether all is issued and collected
use Rattle.std.specs.Prelude.{◌≡◌, ◌<◌, Bool, List}
use Rattle.sl_net.specs.Wired.{IsNet}
use Rattle.sl_model.specs.History.{World}
use Rattle.sl_model.specs.Knowledge.{floor, issued, observer}
use Rattle.sl_model.specs.World.{Entry, world}
use Rattle.sl_model.specs.End.{is_collected, Settled}
use Rattle.sl_proto.specs.declared.finishing.Reached.{Reached}
use Rattle.sl_proto.specs.Standing.{Case}

-- F and K
pub record HasReached (x : Case) (w : World) (told : Reached) : Type 0 where
  pub floor : told.floor ≡ floor x.setup.net w
  pub issued : told.issued ≡ issued x.setup.net (observer w)

abbrev pub TellsCollected : Reached → Bool → Type 0
TellsCollected told answer = (x : Case) (es : List Entry) → IsNet x.setup.net → 0 < x.setup.window → Settled x.setup x.lost (world x.setup x.lost es)
    → HasReached x (world x.setup x.lost es) told → answer ≡ is_collected x.setup (world x.setup x.lost es)
