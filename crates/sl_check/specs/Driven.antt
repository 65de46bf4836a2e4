-- What turns of a world of nodes do, from the scene v before them to the scene u after them, of each case whose world v stands for.
--     Turns net v e did u       one entry: it did something, and is the next turn of the book, or it is idle
--     FirstIdle net v es n      the n-th of these entries, n from 1, is the first idle one
--     TakesAll net v es u       none of these entries is idle, and u has just these turns
--     IsIdle net v idle u       a settling pass: the world was settled exactly where it does nothing, and then u has the book of v
--     Tells s w o               the floor, and how often it issued and resent, as the observer's machine tells them of the world w
use Rattle.std.specs.Prelude.{◌≡◌, ℕ, Bool, true, false, List, [], ◌∷◌, ◌++◌, None}
use Rattle.sl_layout.specs.Net.{Net}
use Rattle.sl_net.specs.Input.{Input}
use Rattle.sl_wire.specs.declared.message.Msg.{Msg}
use Rattle.sl_observe.specs.Observer.{ObserverState, register_floor}
use Rattle.sl_model.specs.History.{World}
use Rattle.sl_model.specs.Setup.{Setup}
use Rattle.sl_model.specs.Knowledge.{observer, floor, issued, resent}
use Rattle.sl_model.specs.World.{Entry, next_step}
use Rattle.sl_model.specs.Books.{schedule_of}
use Rattle.sl_model.specs.End.{Settled}
use Rattle.sl_model.specs.Losses.{losses}
use Rattle.sl_world.specs.Scene.{Scene}
use Rattle.sl_proto.specs.Nodes.{NodeState}
use Rattle.sl_proto.specs.Standing.{Case, case_of, world_of, StandsFor}
use Rattle.sl_model.specs.Ending.{IsFirstIdle}

abbrev pub Turned : Case → Scene NodeState Msg → Entry → Bool → Scene NodeState Msg → Type 0
Turned x v e true u = schedule_of u.book ≡ schedule_of v.book ++ (e ∷ [])
Turned x v e false u = next_step x.setup x.lost (world_of x v) e ≡ None

abbrev pub Turns : Net → Scene NodeState Msg → Entry → Bool → Scene NodeState Msg → Type 0
Turns net v e did u = (x : Case) → StandsFor net x v → Turned x v e did u

abbrev pub FirstIdle : Net → Scene NodeState Msg → List Entry → ℕ → Type 0
FirstIdle net v es n = (x : Case) → StandsFor net x v → IsFirstIdle x.setup x.lost es n

abbrev pub TakesAll : Net → Scene NodeState Msg → List Entry → Scene NodeState Msg → Type 0
TakesAll net v es u = (x : Case) → StandsFor net x v → schedule_of u.book ≡ es

abbrev pub Rested : Case → Scene NodeState Msg → Bool → Scene NodeState Msg → Type 0
Rested x v true u = Settled x.setup x.lost (world_of x v) × (schedule_of u.book ≡ schedule_of v.book)
Rested x v false u = Settled x.setup x.lost (world_of x v) → ⊥

abbrev pub IsIdle : Net → Scene NodeState Msg → Bool → Scene NodeState Msg → Type 0
IsIdle net v idle u = (x : Case) → StandsFor net x v → Rested x v idle u

-- the scene stands for the world of its book, in a run of the input
abbrev pub StandsIn : Input → Scene NodeState Msg → Type 0
StandsIn i v = StandsFor i.net (case_of i (losses i)) v

-- what the observer's machine tells is what the world says
pub record Tells (s : Setup) (w : World) (o : ObserverState) : Type 0 where
  pub floor : register_floor o ≡ floor s.net w
  pub issued : o.issued ≡ issued s.net (observer w)
  pub resent : o.resent ≡ resent s.net (observer w)
