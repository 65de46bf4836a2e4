-- Trusted text for nodes, but for told_at, ControlSimulates, ControlActSimulates, GrowsBy, IsAwaited, Awaits.
-- What the machine of a control plane stands for. us gives the history of each actor, a is the control plane's number, sizes are those of what dumps hold.
--     IsControlOf net sizes us a m      the state m is what these histories tell the control plane
--     told_at net us a place            how many steps of the unit at a place were told to it
--     ControlSimulates net sizes us ws a    a turn of the machine simulates a step of a, which leads from the histories us to ws;
--         ControlActSimulates an action
--     GrowsBy us ws a step              the histories ws are us with this step of a
--     Awaits net sizes window us a c m  what is asked of a message m that comes by the choice c: of a dump, that it answers a poll and that its
--         numbers lie within the window above those that are known
use Rattle.std.specs.Prelude.{◌≡◌, ℕ, ◌+◌, ◌^◌, ◌<◌, Bool, true, List, ◌∷◌, map, slice_index, Option}
use Rattle.sl_ids.specs.Ids.{modulus}
use Rattle.sl_machine.specs.Machine.{After}
use Rattle.sl_layout.specs.declared.actor.Sort.TheVariants.{Dump}
use Rattle.sl_layout.specs.Net.{Net, units, action_choice}
use Rattle.sl_layout.specs.Serving.{ServedUnit, choice_from, served}
use Rattle.sl_wire.specs.declared.message.Msg.{Msg}
use Rattle.sl_wire.specs.Sizes.{Sizes}
use Rattle.sl_control.specs.declared.known.Known.{Known}
use Rattle.sl_control.specs.Control.{ControlState}
use Rattle.sl_control.specs.Wires.{unit_wires, control_wires}
use Rattle.sl_parts.specs.Lists.{Each}
use Rattle.sl_model.specs.declared.message.Message.{Message}
use Rattle.sl_model.specs.declared.message.Message.TheVariants.{Dump as DumpMsg}
use Rattle.sl_model.specs.declared.message.Put.{Put}
use Rattle.sl_model.specs.declared.message.Step.{Step}
use Rattle.sl_model.specs.Brought.{IsBrought}
use Rattle.sl_model.specs.History.{History, id, first}
use Rattle.sl_model.specs.Knowledge.{upto_of, dumped, told_of, is_outstanding, is_again}
use Rattle.sl_model.specs.LastSeen.{lasts, cpu_last}
use Rattle.sl_simulation.specs.Messages.{eight}
use Rattle.sl_simulation.specs.Simulates.{Simulates, ActSimulates}

-- what is known of a unit of which the history g was told
abbrev pub known_by : Net → ServedUnit → History → Bool → Bool → Known
known_by net v g waits again = record {
  wires = unit_wires net v;
  id = id g;
  last = eight (lasts net v.unit g);
  cpu = cpu_last net v.unit g;
  upto = upto_of net v.unit g;
  waits = waits;
  again = again;
}

abbrev pub known_of : Net → (ℕ → History) → ℕ → ServedUnit → Known
known_of net us a v = known_by net v (told_of us v (us a)) (is_outstanding v (us a)) (is_again (action_choice net a) v (us a))

pub record IsControlOf (net : Net) (sizes : Sizes) (us : ℕ → History) (a : ℕ) (m : ControlState) : Type 0 where
  pub wires : m.wires ≡ control_wires net a sizes
  pub units : m.units ≡ map (known_of net us a) (served net a)

abbrev pub told_at : Net → (ℕ → History) → ℕ → ℕ → ℕ
told_at net us a place = dumped (choice_from net a (slice_index (units net) place) Dump) (us a)

-- ps are the puts of the step
abbrev pub ControlSimulates : Net → Sizes → (ℕ → History) → (ℕ → History) → ℕ → List Put → After ControlState Msg → Type 0
ControlSimulates net sizes us ws a ps turn = Simulates (IsControlOf net sizes ws a) net sizes ws a (told_at net us a) ps turn

abbrev pub ControlActSimulates : Net → Sizes → (ℕ → History) → (ℕ → History) → ℕ → List Put → Option (After ControlState Msg) → Type 0
ControlActSimulates net sizes us ws a ps acts = ActSimulates (IsControlOf net sizes ws a) net sizes ws a (told_at net us a) ps acts

pub record GrowsBy (us ws : ℕ → History) (a : ℕ) (step : Step) : Type 0 where
  pub same : ws a ≡ step ∷ us a
  pub other : (b : ℕ) → (b ≡ a → ⊥) → ws b ≡ us b

-- a dump of the unit that tells its first n steps: a poll is outstanding, what it tells lies within the window above what is known, and the
-- known id leaves room for a wrapped one
pub record IsAwaited (net : Net) (sizes : Sizes) (window : ℕ) (us : ℕ → History) (a n : ℕ) (v : ServedUnit) : Type 0 where
  pub waits : is_outstanding v (us a) ≡ true
  pub brought : IsBrought net window v.unit (us v.unit) (dumped v.dump (us a)) n
  pub room : id (first (dumped v.dump (us a)) (us v.unit)) + modulus sizes.bits < 2 ^ 64

abbrev pub Awaits : Net → Sizes → ℕ → (ℕ → History) → ℕ → ℕ → Message → Type 0
Awaits net sizes window us a c (DumpMsg n) = Each (λ v. c ≡ v.dump → IsAwaited net sizes window us a n v) (served net a)
Awaits net sizes window us a c _ = Unit {0}
