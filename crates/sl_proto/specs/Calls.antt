-- What a call over whoever takes turns does, from the scene v before it to the scene u after it, of each case whose world v stands for.
--     KeepsStanding net v u                u stands for the world of its book
--     Keeps scene_of fixed_of net old new  what each call keeps: the net's plan, an observer, standing, and what no turn changes
--     Drives, DrivesFront net v es u       u is after the schedule es, after a front of it
--     HasDriven .. es answer new           both, by what the call answers
--     Settles, Finishes net v u            u is after settling, after finishing
--     SettlesFront, FinishesFront net v u  u is after the first turns of these
-- Within settling and finishing, by what the call answers:
--     LeadsFrom x P v Q u                  by the first turns of each schedule of P at v; those that are left are a schedule of Q
--     CanFinish net v p es                 the scene, and what a round goes by
--     AllDone answer, MoreRounds x u more, RoundsLeft x u answer     what is left; of a call that ends for want of memory nothing is said
--     SettlingLeads, ResendingLeads, SweepingLeads, FinishingLeads net v answer u     by the first turns of whatever settling takes, of
--         what finishing takes from where it resends, from where it has settled, from its start
--     IsSettledAfter net v u               u is settled
use Rattle.std.specs.Prelude.{◌≡◌, ◌<◌, Bool, true, false, List, Result, Ok, Err, OnOk}
use Rattle.sl_layout.specs.Net.{Net}
use Rattle.sl_layout.specs.Wiring.{plan_of}
use Rattle.sl_wire.specs.declared.message.Msg.{Msg}
use Rattle.sl_model.specs.History.{World, Losses}
use Rattle.sl_model.specs.Setup.{Setup}
use Rattle.sl_model.specs.World.{Entry}
use Rattle.sl_model.specs.Schedule.{sweeps}
use Rattle.sl_model.specs.End.{Settled, IsFin}
use Rattle.sl_world.specs.Scene.{Scene}
use Rattle.sl_proto.specs.Nodes.{NodeState}
use Rattle.sl_proto.specs.Runs.{Follows}
use Rattle.sl_proto.specs.Standing.{Case, world_of, run_at, StandsFor, HasObserver, SettlesTo, FinishesTo}
use Rattle.sl_proto.specs.declared.passes.Pass.{Pass}
use Rattle.sl_proto.specs.Passes.{IsPass}
use Rattle.sl_proto.specs.Fronts.{FollowsFront, SettlesTowards, FinishesTowards, Leads, Whatever, Nothing, SettlesBy, SweepsBy, ResendsBy}

abbrev pub KeepsStanding : Net → Scene NodeState Msg → Scene NodeState Msg → Type 0
KeepsStanding net v u = (x : Case) → StandsFor net x v → StandsFor net x u

-- old and new are whoever takes turns, before the call and after it
pub record Keeps {T F : Type 0} (scene_of : T → Scene NodeState Msg) (fixed_of : T → F) (net : Net) (old new : T) : Type 0 where
  pub plan : (scene_of new).plan ≡ plan_of net
  pub observer : HasObserver (scene_of old) → HasObserver (scene_of new)
  pub stands : KeepsStanding net (scene_of old) (scene_of new)
  pub fixed : fixed_of new ≡ fixed_of old

abbrev pub Drives : Net → Scene NodeState Msg → List Entry → Scene NodeState Msg → Type 0
Drives net v es u = (x : Case) → StandsFor net x v → Follows x.setup x.lost (run_at x v) es (run_at x u)

abbrev pub DrivesFront : Net → Scene NodeState Msg → List Entry → Scene NodeState Msg → Type 0
DrivesFront net v es u = (x : Case) → StandsFor net x v → FollowsFront x.setup x.lost (run_at x v) es (run_at x u)

pub record HasDriven {T F A E : Type 0} (scene_of : T → Scene NodeState Msg) (fixed_of : T → F) (net : Net) (old : T) (es : List Entry) (answer : Result A E) (new : T) : Type 0 where
  pub keeps : Keeps scene_of fixed_of net old new
  pub follows : OnOk answer (Drives net (scene_of old) es (scene_of new))
  pub front : DrivesFront net (scene_of old) es (scene_of new)

abbrev pub Settles : Net → Scene NodeState Msg → Scene NodeState Msg → Type 0
Settles net v u = (x : Case) → StandsFor net x v → SettlesTo x v u

abbrev pub SettlesFront : Net → Scene NodeState Msg → Scene NodeState Msg → Type 0
SettlesFront net v u = (x : Case) → StandsFor net x v → SettlesTowards x.setup x.lost (run_at x v) (run_at x u)

-- finishing asks for a window

abbrev pub Finishes : Net → Scene NodeState Msg → Scene NodeState Msg → Type 0
Finishes net v u = (x : Case) → 0 < x.setup.window → StandsFor net x v → FinishesTo x v u

abbrev pub FinishesFront : Net → Scene NodeState Msg → Scene NodeState Msg → Type 0
FinishesFront net v u = (x : Case) → 0 < x.setup.window → StandsFor net x v → FinishesTowards x.setup x.lost (run_at x v) (run_at x u)

-- Within settling and finishing.

-- the scene has the net's plan and an observer; these are the net's settling pass and its sweeps
pub record CanFinish (net : Net) (v : Scene NodeState Msg) (p : Pass) (es : List Entry) : Type 0 where
  pub plan : v.plan ≡ plan_of net
  pub observer : HasObserver v
  pub pass : IsPass net true p
  pub sweep : es ≡ sweeps net

abbrev pub LeadsFrom : Case → (Setup → Losses → World → List Entry → Type 0) → Scene NodeState Msg → (List Entry → Type 0) → Scene NodeState Msg → Type 0
LeadsFrom x P v Q u = Leads x.setup x.lost (P x.setup x.lost (world_of x v)) (run_at x v) Q (run_at x u)

abbrev pub AllDone : {A E : Type 0} → Result A E → List Entry → Type 0
AllDone (Ok _) = Nothing
AllDone (Err _) = Whatever

-- where a further round follows, what finishing takes from there
abbrev pub MoreRounds : Case → Scene NodeState Msg → Bool → List Entry → Type 0
MoreRounds x u true = IsFin x.setup x.lost (world_of x u)
MoreRounds x u false = Nothing

abbrev pub RoundsLeft : {E : Type 0} → Case → Scene NodeState Msg → Result Bool E → List Entry → Type 0
RoundsLeft x u (Ok more) = MoreRounds x u more
RoundsLeft x u (Err _) = Whatever

abbrev pub SettlingLeads : {A E : Type 0} → Net → Scene NodeState Msg → Result A E → Scene NodeState Msg → Type 0
SettlingLeads net v answer u = (x : Case) → StandsFor net x v → LeadsFrom x SettlesBy v (AllDone answer) u

abbrev pub IsSettledAfter : Net → Scene NodeState Msg → Scene NodeState Msg → Type 0
IsSettledAfter net v u = (x : Case) → StandsFor net x v → Settled x.setup x.lost (world_of x u)

abbrev pub ResendingLeads : {E : Type 0} → Net → Scene NodeState Msg → Result Bool E → Scene NodeState Msg → Type 0
ResendingLeads net v answer u = (x : Case) → StandsFor net x v → LeadsFrom x ResendsBy v (RoundsLeft x u answer) u

abbrev pub SweepingLeads : {E : Type 0} → Net → Scene NodeState Msg → Result Bool E → Scene NodeState Msg → Type 0
SweepingLeads net v answer u = (x : Case) → 0 < x.setup.window → StandsFor net x v → Settled x.setup x.lost (world_of x v)
    → LeadsFrom x SweepsBy v (RoundsLeft x u answer) u

abbrev pub FinishingLeads : {A E : Type 0} → Net → Scene NodeState Msg → Result A E → Scene NodeState Msg → Type 0
FinishingLeads net v answer u = (x : Case) → 0 < x.setup.window → StandsFor net x v → LeadsFrom x IsFin v (AllDone answer) u
