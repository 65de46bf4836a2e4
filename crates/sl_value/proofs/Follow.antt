-- Nodes that keep values follow the steps of histories.
use Rattle.std.proofs.Common.{◌≡◌, ℕ, ◌+◌, ◌^◌, ◌<◌, ◌≤◌, List, ◌∷◌, length, map, refl, sym, ap, subst, ◌∙◌, Option, Some, None, arith, inl, inr}
use Rattle.std.specs.Prelude.{Bool, true, false, cond, if◌then◌else◌, ◌==◌, ◌⊎◌, nat_lt, flat_map, slice_get, option_map, option_and_then}
use Rattle.sl_machine.specs.Machine.{After}
use Rattle.sl_parts.specs.Lists.{Each, Member}
use Rattle.sl_layout.specs.declared.actor.ActorId.{ActorId}
use Rattle.sl_layout.specs.declared.actor.ActorId.TheVariants.{Observer, Control, Unit as OfUnit, Host as OfHost}
use Rattle.sl_layout.specs.declared.actor.Sort.TheVariants.{Poll}
use Rattle.sl_layout.specs.Net.{Net, actor_of, link_of, links_into, links_out, unit_place}
use Rattle.sl_layout.specs.Serving.{serving, served}
use Rattle.sl_net.specs.declared.input.Snapshot.{Snapshot}
use Rattle.sl_net.specs.Wired.{IsNet, IsWired}
use Rattle.sl_wire.specs.declared.message.Dump.{Dump as UnitDump}
use Rattle.sl_wire.specs.declared.message.Msg.{Msg}
use Rattle.sl_wire.specs.declared.message.Msg.TheVariants as wire
use Rattle.sl_wire.specs.Sizes.{Sizes, sizes_of, lengths}
use Rattle.sl_observe.specs.Observer.{observer_rules, observer_counts}
use Rattle.sl_unit.specs.Step.{unit_rules}
use Rattle.sl_host.specs.Host.{host_rules, host_counts}
use Rattle.sl_control.specs.Control.{ControlState, numbers_told, dump_by, dump_puts, control_take, control_act}
use Rattle.sl_model.specs.declared.message.Message.{Message}
use Rattle.sl_model.specs.declared.message.Message.TheVariants.{Host, Data, Probe, Init, Poll as PollMsg, Notice, Dump as DumpMsg, Begin, Done as DoneMsg}
use Rattle.sl_model.specs.declared.message.Step.{Step}
use Rattle.sl_model.specs.History.{History, World, Losses, history, first, dump_of}
use Rattle.sl_model.specs.Setup.{Setup}
use Rattle.sl_model.specs.Knowledge.{dumped}
use Rattle.sl_model.specs.World.{Entry, next_step, turn, world}
use Rattle.sl_model.specs.Turns.{Takes, Acts, TakesTurns}
use Rattle.sl_model.specs.Reported.{AreReported}
use Rattle.sl_model.specs.Brought.{IsBrought}
use Rattle.sl_simulation.specs.Messages.{HoldWindow, IsMessage, IsDumpOf, numbers_after}
use Rattle.sl_simulation.specs.Taking.{TakesMessage}
use Rattle.sl_simulation.specs.ControlImage.{known_of, IsControlOf}
use Rattle.sl_proto.specs.Nodes.{ObserverNode, ControlNode, UnitNode, HostNode, as_node, node_rules}
use Rattle.sl_proto.specs.Meaning.{StandsAs, NodeStands, IsRunnable}
use Rattle.sl_proto.specs.Image.{told_by}
use Rattle.sl_proto.specs.Machines.{MachineSimulates, MachineActSimulates, FollowHistories}
use Rattle.sl_value.specs.Valued.{UnitValues, ValueState, kept_after, kept_by, first_done, with_kept}
use Rattle.sl_value.specs.Nodes.{ValueNodeState, plain, value_node_rules}
use Rattle.sl_value.specs.Standing.{values_told, kept_told, AreKept, KeepsValues, ValueStands}
use Rattle.sl_value.proofs.Plain.{take-plain, act-plain}
use Rattle.sl_value.proofs.Takes.{Counts, joined, of_some, same-map, kept-same, kept-dump}

-- What laws of lower crates say.

abbrev pub Brings : Type 0
Brings = (s : Setup) (lost : Losses) (es : List Entry) (e : Entry) (n : ℕ) (step : Step) → IsNet s.net → next_step s lost (world s lost es) e ≡ Some step → step.taken ≡ Some (DumpMsg n)
    → Each (λ v. step.choice ≡ v.dump → IsBrought s.net s.window v.unit (history (world s lost es) v.unit) (dumped v.dump (history (world s lost es) e.0)) n) (served s.net e.0)

abbrev pub Unwraps : Type 0
Unwraps = (s : Setup) (lost : Losses) (es : List Entry) (e : Entry) (n : ℕ) (sizes : Sizes) (step : Step) (d : UnitDump) → TakesMessage s lost es e step (DumpMsg n) → HoldWindow s.window sizes
    → Each (λ v. step.choice ≡ v.dump → IsDumpOf s.net sizes v.unit (first n (history (world s lost es) v.unit)) d
    → numbers_told sizes.bits d (known_of s.net (history (world s lost es)) e.0 v) ≡ numbers_after s.net v.unit (first n (history (world s lost es) v.unit))) (served s.net e.0)

-- A state that is a control plane's.

record IsControlAt (s : Setup) (table : Snapshot) (w : World) (a : ℕ) (y : ActorId) (t : ControlState) : Type 0 where
  device : ℕ
  actor : y ≡ Control device
  stands : IsControlOf s.net (sizes_of table) (history w) a t

control-at : (s : Setup) (table : Snapshot) (w : World) (a : ℕ) (y : ActorId) (t : ControlState) → StandsAs s table w a y (ControlNode t) → IsControlAt s table w a y t
control-at s table w a Observer t h = absurd h
control-at s table w a (Control d) t h = record { device = d; actor = refl; stands = h }
control-at s table w a (OfUnit i) t h = absurd h
control-at s table w a (OfHost i) t h = absurd h

-- An action of a machine, where it is one of it, leaves a state of that machine.

acted : {S : Type 0} (wrap : S → ValueNodeState) (P : ValueNodeState → Type 0) → ((s : S) → P (wrap s)) → (b : Bool) (o : Option (After S Msg)) (r : After ValueNodeState Msg) → (if b then option_map (as_node wrap) o else None) ≡ Some r → P r.state
acted wrap P each true (Some x) r e = subst (λ (y : After ValueNodeState Msg). P y.state) (of_some e) (each x.state)
acted wrap P each true None r e = absurd (cc)
acted wrap P each false o r e = absurd (cc)

acted-keeps : (net : Net) (w : World) (a c : ℕ) (state : ValueNodeState) (r : After ValueNodeState Msg) → value_node_rules.act state c ≡ Some r → KeepsValues net w a state → KeepsValues net w a r.state
acted-keeps net w a c (ObserverNode o) r e h = acted ObserverNode (KeepsValues net w a) (λ s. tt) (nat_lt c ((observer_counts o).ins + (observer_counts o).actions)) (observer_rules.act o c) r e
acted-keeps net w a c (UnitNode o) r e h = acted UnitNode (KeepsValues net w a) (λ s. tt) true (unit_rules.act o c) r e
acted-keeps net w a c (HostNode o) r e h = acted HostNode (KeepsValues net w a) (λ s. tt) (nat_lt c (host_counts.ins + host_counts.actions)) (host_rules.act o c) r e
acted-keeps net w a c (ControlNode o) r e h = by_act (control_act o.control c) e
  where
    by_act : (b : Option (After ControlState Msg)) → option_map (as_node ControlNode) (option_map (with_kept o.kept) b) ≡ Some r → KeepsValues net w a r.state
    by_act (Some b) e = subst (λ (y : After ValueNodeState Msg). KeepsValues net w a y.state) (of_some e) h
    by_act None e = absurd (cc)

-- Messages that are no dumps.

no-dump : (net : Net) (sizes : Sizes) (us : ℕ → History) (a : ℕ) (told : ℕ → ℕ) (m : Message) (x : Msg) (ps : List (ℕ × Msg)) (kept : List UnitValues) → dump_of m ≡ None → IsMessage net sizes us a told m x → kept_after x ps kept ≡ kept
no-dump net sizes us a told (Host bytes) x ps kept e h = ap (λ x. kept_after x ps kept) h ∙ by_bool (length bytes == 24)
  where
    by_bool : (b : Bool) → kept_after (cond b (wire.Frame (record { bytes = bytes })) (wire.Wire bytes)) ps kept ≡ kept
    by_bool true = refl
    by_bool false = refl
no-dump net sizes us a told (Data s p) x ps kept e h = ap (λ x. kept_after x ps kept) h
no-dump net sizes us a told (Probe s) x ps kept e h = ap (λ x. kept_after x ps kept) h
no-dump net sizes us a told (Init s) x ps kept e h = ap (λ x. kept_after x ps kept) h
no-dump net sizes us a told PollMsg x ps kept e h = ap (λ x. kept_after x ps kept) h
no-dump net sizes us a told Notice x ps kept e h = ap (λ x. kept_after x ps kept) h
no-dump net sizes us a told (DumpMsg n) x ps kept e h = absurd (cc)
no-dump net sizes us a told (Begin k) x ps kept e h = ap (λ x. kept_after x ps kept) h
no-dump net sizes us a told (DoneMsg place n) x ps kept e h = ap (λ x. kept_after x ps kept) h.is

module _ (s : Setup) (table : Snapshot) (lost : Losses) (r : IsRunnable s table lost) (node : FollowHistories s lost (sizes_of table) (NodeStands s table) node_rules) (z : IsWired s.net)
    (turns : TakesTurns) (reported : AreReported s) (brings : Brings) (unwraps : Unwraps) (counts : Counts) where
  window : HoldWindow s.window (sizes_of table)
  window = let size = r.is_table.window in let apart = r.is_table.apart in let room = r.is_table.room in
      record { few_bits = r.is_table.few_bits; apart = omega (arith, size, apart); room = omega (arith, size, room) }

  -- Takes.

  take-kept : (es : List Entry) (a c l d : ℕ) (step : Step) (m : Message) (x : Msg) (o : ValueState) → next_step s lost (world s lost es) (a, c) ≡ Some step → slice_get (links_into s.net a) c ≡ Some l → step.taken ≡ Some m
      → IsMessage s.net (sizes_of table) (history (world s lost es)) (link_of s.net l).from (told_by c (history (world s lost es) a)) m x → actor_of s.net a ≡ Control d
      → IsControlOf s.net (sizes_of table) (history (world s lost es)) a o.control → AreKept s.net (history (world s lost es)) a o.kept
      → IsControlOf s.net (sizes_of table) (history (turn s lost (world s lost es) (a, c))) a (control_take o.control c x).state
      → AreKept s.net (history (turn s lost (world s lost es) (a, c))) a (kept_after x (control_take o.control c x).puts o.kept)
  take-kept es a c l d step m x o next into taken msg q old kept new = by_message m taken msg
    where
      us : ℕ → History
      us = history (world s lost es)

      ws : ℕ → History
      ws = history (turn s lost (world s lost es) (a, c))

      choice : step.choice ≡ c
      choice = turns.choice s lost (world s lost es) (a, c) step next

      same : ws a ≡ step ∷ us a
      same = (turns.grows s lost es (a, c) step next).same

      other : (b : ℕ) → (b ≡ a → ⊥) → ws b ≡ us b
      other = (turns.grows s lost es (a, c) step next).other

      still : (m : Message) → dump_of m ≡ None → step.taken ≡ Some m → IsMessage s.net (sizes_of table) us (link_of s.net l).from (told_by c (us a)) m x → AreKept s.net ws a (kept_after x (control_take o.control c x).puts o.kept)
      still m e t h = no-dump s.net (sizes_of table) us (link_of s.net l).from (told_by c (us a)) m x (control_take o.control c x).puts o.kept e h ∙ kept
          ∙ kept-same s.net us ws a d step q same other z (ap (option_and_then dump_of) t ∙ e)

      dump : (n : ℕ) (y : UnitDump) → x ≡ wire.Dump y → IsDumpOf s.net (sizes_of table) (link_of s.net l).from (first n (us (link_of s.net l).from)) y → step.taken ≡ Some (DumpMsg n)
          → AreKept s.net ws a (kept_after x (control_take o.control c x).puts o.kept)
      dump n y is of t =
          let sizes = ap (λ w. w.sizes) old.wires in
          let units : map (dump_by (lengths (sizes_of table)) step.choice y) (map (known_of s.net us a) (served s.net a)) ≡ map (known_of s.net ws a) (served s.net a) =
          ap (λ b. map (dump_by (lengths (sizes_of table)) b y) (map (known_of s.net us a) (served s.net a))) choice
          ∙ sym (ap (λ z. map (dump_by z c y) o.control.units) sizes ∙ ap (map (dump_by (lengths (sizes_of table)) c y)) old.units)
          ∙ ap (λ m. (control_take o.control c m).state.units) (sym is) ∙ new.units in
          ap (λ m. kept_after m (control_take o.control c m).puts o.kept) is
          ∙ ap (λ z. kept_by y.view (first_done (flat_map (dump_puts z o.control.wires.done c y) o.control.units)) o.kept) sizes
          ∙ ap (λ rs. kept_by y.view (first_done (flat_map (dump_puts (lengths (sizes_of table)) o.control.wires.done c y) rs)) o.kept) old.units
          ∙ ap (λ k. kept_by y.view (first_done (flat_map (dump_puts (lengths (sizes_of table)) o.control.wires.done c y) (map (known_of s.net us a) (served s.net a)))) k) kept
          ∙ ap (λ b. kept_by y.view (first_done (flat_map (dump_puts (lengths (sizes_of table)) o.control.wires.done b y) (map (known_of s.net us a) (served s.net a)))) (map (kept_told s.net us a) (served s.net a))) (sym choice)
          ∙ kept-dump s.net (sizes_of table) us ws a d l n step y z q same other t (ap (slice_get (links_into s.net a)) choice ∙ into) of units s.window window.room
          (brings s lost es (a, c) n step r.net next t) (unwraps s lost es (a, c) n (sizes_of table) step y (record { net = r.net; next = next; taken = t }) window) counts o.control.wires.done

      by_message : (m : Message) → step.taken ≡ Some m → IsMessage s.net (sizes_of table) us (link_of s.net l).from (told_by c (us a)) m x → AreKept s.net ws a (kept_after x (control_take o.control c x).puts o.kept)
      by_message (Host bytes) t h = still (Host bytes) refl t h
      by_message (Data k p) t h = still (Data k p) refl t h
      by_message (Probe k) t h = still (Probe k) refl t h
      by_message (Init k) t h = still (Init k) refl t h
      by_message PollMsg t h = still PollMsg refl t h
      by_message Notice t h = still Notice refl t h
      by_message (DumpMsg n) t h = dump n h.dump h.is h.of t
      by_message (Begin k) t h = still (Begin k) refl t h
      by_message (DoneMsg place n) t h = still (DoneMsg place n) refl t h

  taken-keeps : (es : List Entry) (a c l : ℕ) (step : Step) (m : Message) (x : Msg) (state : ValueNodeState) → next_step s lost (world s lost es) (a, c) ≡ Some step → slice_get (links_into s.net a) c ≡ Some l → step.taken ≡ Some m
      → IsMessage s.net (sizes_of table) (history (world s lost es)) (link_of s.net l).from (told_by c (history (world s lost es) a)) m x → ValueStands s table (world s lost es) a state
      → NodeStands s table (turn s lost (world s lost es) (a, c)) a (plain (value_node_rules.take state c x).state) → KeepsValues s.net (turn s lost (world s lost es) (a, c)) a (value_node_rules.take state c x).state
  taken-keeps es a c l step m x (ControlNode o) next into taken msg st g =
      let old = control-at s table (world s lost es) a (actor_of s.net a) o.control st.node in
      let new = control-at s table (turn s lost (world s lost es) (a, c)) a (actor_of s.net a) (control_take o.control c x).state g in
      take-kept es a c l old.device step m x o next into taken msg old.actor old.stands st.values new.stands
  taken-keeps es a c l step m x (ObserverNode o) next into taken msg st g = tt
  taken-keeps es a c l step m x (UnitNode o) next into taken msg st g = tt
  taken-keeps es a c l step m x (HostNode o) next into taken msg st g = tt

  takes : (es : List Entry) (a c l : ℕ) (step : Step) (m : Message) (x : Msg) (state : ValueNodeState) → length es < 2 ^ 40 → next_step s lost (world s lost es) (a, c) ≡ Some step → slice_get (links_into s.net a) c ≡ Some l → step.taken ≡ Some m
      → IsMessage s.net (sizes_of table) (history (world s lost es)) (link_of s.net l).from (told_by c (history (world s lost es) a)) m x → ValueStands s table (world s lost es) a state
      → MachineSimulates s (sizes_of table) (ValueStands s table) (world s lost es) (turn s lost (world s lost es) (a, c)) a step (value_node_rules.take state c x)
  takes es a c l step m x state few next into taken msg st =
      let g = subst (MachineSimulates s (sizes_of table) (NodeStands s table) (world s lost es) (turn s lost (world s lost es) (a, c)) a step) (take-plain state c x)
      (node.steps.take es a c l step m x (plain state) few next into taken msg st.node) in
      record { state = record { node = g.state; values = taken-keeps es a c l step m x state next into taken msg st g.state }; puts = g.puts }

  -- Actions.

  takes-none : (w : World) (a c : ℕ) (step : Step) → next_step s lost w (a, c) ≡ Some step → slice_get (links_into s.net a) c ≡ None → step.taken ≡ None
  takes-none w a c step next none = of_view (turns.view s lost w (a, c) step next)
    where
      of_view : Takes s lost w a step ⊎ Acts s w a step → step.taken ≡ None
      of_view (inr y) = y.acted.taken
      of_view (inl y) = absurd (let k : Some y.took.link ≡ None = sym y.took.into ∙ ap (slice_get (links_into s.net a)) (turns.choice s lost w (a, c) step next) ∙ none in cc)

  -- a step that takes no message leaves what is kept
  still-keeps : (es : List Entry) (a c : ℕ) (step : Step) (state : ValueNodeState) → next_step s lost (world s lost es) (a, c) ≡ Some step → slice_get (links_into s.net a) c ≡ None → ValueStands s table (world s lost es) a state
      → KeepsValues s.net (turn s lost (world s lost es) (a, c)) a state
  still-keeps es a c step (ControlNode o) next none st =
      let old = control-at s table (world s lost es) a (actor_of s.net a) o.control st.node in
      let g = turns.grows s lost es (a, c) step next in
      st.values ∙ kept-same s.net (history (world s lost es)) (history (turn s lost (world s lost es) (a, c))) a old.device step old.actor g.same g.other z
      (ap (option_and_then dump_of) (takes-none (world s lost es) a c step next none))
  still-keeps es a c step (ObserverNode o) next none st = tt
  still-keeps es a c step (UnitNode o) next none st = tt
  still-keeps es a c step (HostNode o) next none st = tt

  acts : (es : List Entry) (a c : ℕ) (step : Step) (state : ValueNodeState) → length es < 2 ^ 40 → next_step s lost (world s lost es) (a, c) ≡ Some step → slice_get (links_into s.net a) c ≡ None → ValueStands s table (world s lost es) a state
      → MachineActSimulates s (sizes_of table) (ValueStands s table) (world s lost es) (turn s lost (world s lost es) (a, c)) a step (value_node_rules.act state c)
  acts es a c step state few next none st = by_act (value_node_rules.act state c) refl (sym (act-plain state c) ∙ g.is)
    where
      w : World
      w = world s lost es

      v : World
      v = turn s lost w (a, c)

      g : MachineActSimulates s (sizes_of table) (NodeStands s table) w v a step (node_rules.act (plain state) c)
      g = node.steps.act es a c step (plain state) few next none st.node

      by_act : (b : Option (After ValueNodeState Msg)) → value_node_rules.act state c ≡ b → option_map (as_node plain) b ≡ Some g.after → MachineActSimulates s (sizes_of table) (ValueStands s table) w v a step b
      by_act None e is = absurd (cc)
      by_act (Some b) e is =
          let h = subst (MachineSimulates s (sizes_of table) (NodeStands s table) w v a step) (sym (of_some is)) g.simulates in record {
            after = b;
            is = refl;
            simulates = record { state = record { node = h.state; values = acted-keeps s.net v a c state b e (still-keeps es a c step state next none st) }; puts = h.puts };
          }

  idles : (es : List Entry) (a c : ℕ) (state : ValueNodeState) → length es < 2 ^ 40 → a < length s.net.actors → next_step s lost (world s lost es) (a, c) ≡ None → slice_get (links_into s.net a) c ≡ None → ValueStands s table (world s lost es) a state
      → value_node_rules.act state c ≡ None
  idles es a c state few low next none st = by_act (value_node_rules.act state c) (sym (act-plain state c) ∙ node.steps.idle es a c (plain state) few low next none st.node)
    where
      by_act : (b : Option (After ValueNodeState Msg)) → option_map (as_node plain) b ≡ None → b ≡ None
      by_act None e = refl
      by_act (Some b) e = absurd (cc)

  -- A step of another actor.

  stay-kept : (es : List Entry) (a b c : ℕ) (kept : List UnitValues) → (b ≡ a → ⊥) → AreKept s.net (history (world s lost es)) b kept → AreKept s.net (history (turn s lost (world s lost es) (a, c))) b kept
  stay-kept es a b c kept ne h = h ∙ same-map (kept_told s.net us b) (kept_told s.net ws b) (serving s.net b) (links_out s.net b Poll) one
    where
      w : World
      w = world s lost es

      us : ℕ → History
      us = history w

      ws : ℕ → History
      ws = history (turn s lost w (a, c))

      one : (k : ℕ) → Member k (links_out s.net b Poll) → kept_told s.net us b (serving s.net b k) ≡ kept_told s.net ws b (serving s.net b k)
      one k m =
          let j = joined s.net b k z m in
          let u : ℕ = (link_of s.net k).to in
          let most = (reported lost w u j.id j.reports (turns.fifo_run s lost es) j.unit).dumped_at_most in
          let few : dumped (serving s.net b k).dump (us b) ≤ length (us u) = subst (λ x. dumped (serving s.net b k).dump (us x) ≤ length (us u)) j.control (subst (λ x. dumped x (us j.reports.control) ≤ length (us u)) (sym j.dump) most) in
          let e : us b ≡ ws b = sym (turns.others s lost w (a, c) b ne) in
          let f : first (dumped (serving s.net b k).dump (us b)) (us u) ≡ first (dumped (serving s.net b k).dump (us b)) (ws u) = sym ((turns.extends s lost w (a, c) u).steps (dumped (serving s.net b k).dump (us b)) few) in
          let g : first (dumped (serving s.net b k).dump (us b)) (us u) ≡ first (dumped (serving s.net b k).dump (ws b)) (ws u) = f ∙ ap (λ x. first (dumped (serving s.net b k).dump x) (ws u)) e in
          λ i. record { unit = unit_place s.net u; values = values_told s.net u (g i) }

  stay-keeps : (es : List Entry) (a b c : ℕ) (state : ValueNodeState) → (b ≡ a → ⊥) → KeepsValues s.net (world s lost es) b state → KeepsValues s.net (turn s lost (world s lost es) (a, c)) b state
  stay-keeps es a b c (ControlNode o) ne h = stay-kept es a b c o.kept ne h
  stay-keeps es a b c (ObserverNode o) ne h = tt
  stay-keeps es a b c (UnitNode o) ne h = tt
  stay-keeps es a b c (HostNode o) ne h = tt

  stays : (es : List Entry) (a b c : ℕ) (step : Step) (state : ValueNodeState) → length es < 2 ^ 40 → next_step s lost (world s lost es) (a, c) ≡ Some step → (b ≡ a → ⊥)
      → ValueStands s table (world s lost es) b state → ValueStands s table (turn s lost (world s lost es) (a, c)) b state
  stays es a b c step state few next ne st = record { node = node.steps.stays es a b c step (plain state) few next ne st.node; values = stay-keeps es a b c state ne st.values }

  pub follow : FollowHistories s lost (sizes_of table) (ValueStands s table) value_node_rules
  follow = record {
    net = r.net;
    sound = r.sound;
    table = r.losses;
    steps = record { take = takes; act = acts; idle = idles; stays = stays };
  }
