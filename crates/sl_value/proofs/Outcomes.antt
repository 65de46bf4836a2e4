-- What a finished world of nodes that keep values tells is what its histories say.
use Rattle.std.proofs.Common.{◌≡◌, ℕ, ◌+◌, ◌-◌, ◌<◌, ◌≤◌, List, length, map, get_or, refl, sym, ap, subst, ◌∙◌, Some, None, arith, inl, inr, zero-add}
use Rattle.std.specs.Prelude.{true, ◌⊎◌, slice_get, slice_index, option_map}
use Rattle.std.specs.List.{All, range_with_len}
use Rattle.std.proofs.lemmas.List.{length-map, get_or-map}
use Rattle.std.proofs.lemmas.List.Elements.{All-map}
use Rattle.std.proofs.lemmas.Option.{slice_get_cases, slice_get_within, slice_get-get_or, slice_get-map}
use Rattle.std.proofs.lemmas.List.Elements.{filter_passes}
use Rattle.std.proofs.lemmas.List.FromFn.{get_or-range_with_len, length-range_with_len}
use Rattle.sl_parts.specs.Parts.{below}
use Rattle.sl_layout.specs.declared.actor.ActorId.{ActorId}
use Rattle.sl_layout.specs.declared.actor.ActorId.TheVariants.{Observer, Control, Unit as OfUnit, Host as OfHost}
use Rattle.sl_layout.specs.declared.actor.UnitId.{UnitId}
use Rattle.sl_layout.specs.Net.{Net, is_unit, actor_of, units, unit_place}
use Rattle.sl_layout.specs.Roster.{IsActor}
use Rattle.sl_net.specs.Wired.{IsNet, IsWired, Reports, home, is_inner}
use Rattle.sl_net.specs.Input.{Input}
use Rattle.sl_wire.specs.declared.message.Msg.{Msg}
use Rattle.sl_control.specs.Wires.{control_of}
use Rattle.sl_observe.specs.Observer.{ObserverState}
use Rattle.sl_model.specs.declared.findings.Finding.{Finding}
use Rattle.sl_model.specs.declared.findings.Findings.{Findings}
use Rattle.sl_model.specs.Accounts.{finding_by}
use Rattle.sl_model.specs.Books.{schedule_of}
use Rattle.sl_model.specs.Findings.{finding, findings}
use Rattle.sl_model.specs.History.{World, history}
use Rattle.sl_model.specs.Losses.{losses}
use Rattle.sl_model.specs.Setup.{setup_of}
use Rattle.sl_model.specs.Window.{IsInWindow}
use Rattle.sl_model.specs.World.{world}
use Rattle.sl_world.specs.Scene.{Scene}
use Rattle.sl_proto.specs.Meaning.{StandsAs, NodeStands}
use Rattle.sl_proto.specs.Nodes.{NodeState, ObserverNode, ControlNode, UnitNode, HostNode}
use Rattle.sl_proto.specs.Standing.{case_of, StandsFor}
use Rattle.sl_proto.specs.Told.{HasAllRows, accounts_of, told}
use Rattle.sl_value.specs.Counted.{counted}
use Rattle.sl_value.specs.Valued.{ValueState, value_in}
use Rattle.sl_value.specs.Nodes.{ValueNodeState, plain, plain_scene, controls_in}
use Rattle.sl_value.specs.Standing.{ValueStands}
use Rattle.sl_value.specs.Verdicts.{value_verdict, values_for, value_finding, valued}
use Rattle.sl_value.specs.declared.verdict.ValueVerdict.{ValueVerdict}
use Rattle.sl_value.specs.declared.verdict.ValueVerdict.TheVariants.{Whole as IsWhole, Pending, NotIssued}
use Rattle.sl_value.specs.Outcome.{control_for, value_at, CanList}
use Rattle.sl_value.specs.Controls.{device_at, answer_of, IsAnswered}
use Rattle.sl_value.proofs.Lists.{number-place}
use Rattle.sl_value.proofs.Collected.{KnownVerdicts, valued-is, told-value}
use Rattle.sl_value.proofs.ControlList.{control-at, are-controls}

-- Lists.

same-at : {A : Type 0} (f g : ℕ → A) (n count : ℕ) → map f (range_with_len n count) ≡ map g (range_with_len n count) → (k : ℕ) → n ≤ k → k < n + count → f k ≡ g k
same-at f g n count e k low high =
    let ks : List ℕ = range_with_len n count in
    let size = length-range_with_len n count in
    let within : k - n < length ks = omega (arith, size, low, high) in
    let sum : n + (k - n) ≡ k = omega (arith, low) in
    let is : get_or ks (k - n) 0 ≡ k = get_or-range_with_len n count (k - n) 0 (omega (arith, low, high)) ∙ sum in
    ap f (sym is) ∙ sym (get_or-map f ks (k - n) 0 (f 0) within) ∙ ap (λ ys. get_or ys (k - n) (f 0)) e ∙ get_or-map g ks (k - n) 0 (f 0) within ∙ ap g is

get-some : {A : Type 0} (xs : List A) (i : ℕ) → i < length xs → (x : A) × (slice_get xs i ≡ Some x)
get-some {A = A} xs i h = by_cases (slice_get_cases xs i).1
  where
    by_cases : ((x : A) × (i < length xs) × (slice_get xs i ≡ Some x) × (get_or xs i x ≡ x)) ⊎ ((length xs ≤ i) × (slice_get xs i ≡ None))
        → (x : A) × (slice_get xs i ≡ Some x)
    by_cases (inl e) = (e.0, e.2)
    by_cases (inr e) = let low = e.0 in absurd (omega (arith, h, low))

unit-of : (a : ActorId) → is_unit a ≡ true → (i : UnitId) × (a ≡ OfUnit i)
unit-of (OfUnit i) e = (i, refl)
unit-of Observer e = absurd (cc)
unit-of (Control d) e = absurd (cc)
unit-of (OfHost h) e = absurd (cc)

-- the control plane of a unit
control-is : (net : Net) (u : ℕ) (i : UnitId) → IsWired net → actor_of net u ≡ OfUnit i → (r : Reports net u) → control_of net i.device ≡ r.control
control-is net u i z q r =
    let e = z.ends r.dump r.dump_out.is_link in
    let from : e.sender ≡ OfUnit i = sym e.from_is ∙ ap (actor_of net) r.dump_out.from ∙ q in
    let to : e.receiver ≡ Control r.device = sym e.to_is ∙ ap (actor_of net) r.dump_to ∙ r.is_control in
    let device : i.device ≡ r.device = sym (ap home from) ∙ e.inner (ap is_inner r.dump_out.sort) ∙ ap home to in
    ap (control_of net) device ∙ z.numbered r.control (Control r.device) r.is_control (λ x. cc)

-- the unit at a place among the units
listed-unit : (net : Net) (unit : ℕ) → unit < length (units net) → (i : UnitId) × (actor_of net (slice_index (units net) unit) ≡ OfUnit i)
listed-unit net unit low = let is_one = λ (a : ℕ). is_unit (actor_of net a) in
    unit-of (actor_of net (slice_index (units net) unit))
    (filter_passes is_one (below (length net.actors)) unit 0 low)

listed-place : (net : Net) (unit : ℕ) → unit < length (units net) → unit_place net (slice_index (units net) unit) ≡ unit
listed-place net unit low = number-place (λ a. is_unit (actor_of net a)) 0 (length net.actors) 0 unit low ∙ zero-add unit

module _ (i : Input) (v : Scene ValueNodeState Msg) (z : IsWired i.net) (stands : StandsFor i.net (case_of i (losses i)) (plain_scene v))
    (window : IsInWindow (setup_of i) (losses i) (world (setup_of i) (losses i) (schedule_of v.book))) (known : KnownVerdicts (setup_of i) (world (setup_of i) (losses i) (schedule_of v.book)))
    (keeps : (a : ℕ) (state : ValueNodeState) → slice_get v.states a ≡ Some state → ValueStands (setup_of i) i.snapshot (world (setup_of i) (losses i) (schedule_of v.book)) a state) where
  abbrev w : World
  w = world (setup_of i) (losses i) (schedule_of v.book)

  each : length v.states ≡ length i.net.actors
  each = sym (length-map v.states plain) ∙ stands.image.states_each

  kept-value : (u k : ℕ) (id : UnitId) → actor_of i.net u ≡ OfUnit id → 1 ≤ k → value_verdict i.net w k ≡ IsWhole
      → value_at (slice_get v.states (control_for i.net (actor_of i.net u))) (unit_place i.net u) k ≡ Some (counted k (history w u))
  kept-value u k id q one whole =
      ap (λ a. value_at (slice_get v.states a) (unit_place i.net u) k) place ∙ ap (λ x. value_at x (unit_place i.net u) k) here.1 ∙ by_state here.0 (keeps r.control here.0 here.1)
    where
      r : Reports i.net u
      r = z.reports u id q

      place : control_for i.net (actor_of i.net u) ≡ r.control
      place = ap (control_for i.net) q ∙ control-is i.net u id z q r

      low : r.control < length v.states
      low = let n = z.ways.within r.control (Control r.device) r.is_control (λ x. cc) in omega (arith, n, each)

      here : (x : ValueNodeState) × (slice_get v.states r.control ≡ Some x)
      here = get-some v.states r.control low

      no-control : (n : NodeState) → (StandsAs (setup_of i) i.snapshot w r.control (Control r.device) n → ⊥) → NodeStands (setup_of i) i.snapshot w r.control n → ⊥
      no-control n other st = other (subst (λ y. StandsAs (setup_of i) i.snapshot w r.control y n) r.is_control st)

      by_state : (x : ValueNodeState) → ValueStands (setup_of i) i.snapshot w r.control x → value_at (Some x) (unit_place i.net u) k ≡ Some (counted k (history w u))
      by_state (ObserverNode o) st = absurd (no-control (ObserverNode o) (λ h. h) st.node)
      by_state (UnitNode o) st = absurd (no-control (UnitNode o) (λ h. h) st.node)
      by_state (HostNode o) st = absurd (no-control (HostNode o) (λ h. h) st.node)
      by_state (ControlNode s) st = told-value (setup_of i) (losses i) w z window known u id q r k s.kept st.values one whole

  pub can-list : (o : ObserverState) → HasAllRows i.net o
      → told i.net i.snapshot.count (plain_scene v) o ≡ findings (setup_of i) (losses i) (schedule_of v.book)
      → CanList (record { scene = v; input = i }) o i.snapshot.count
  can-list o rows tells = record {
    each = each;
    collected = rows;
    verdicts = λ k one le. ap (λ (f : Finding). valued f.verdict)
        (same-at (finding_by o.issued (accounts_of o)) (finding (setup_of i).credits i.net (losses i) w) 1 i.snapshot.count (ap (λ (f : Findings). f.list) tells) k one (omega (arith, le)))
        ∙ valued-is (setup_of i).credits i.net w k;
    values = λ k one whole unit low. let x = listed-unit i.net unit low in kept-value (slice_index (units i.net) unit) k x.0 x.1 one whole;
  }

  -- the control plane of a unit's device answers the value of a snapshot that is whole
  value-answered : IsNet i.net → (k unit : ℕ) → 1 ≤ k → value_verdict i.net w k ≡ IsWhole → unit < length (units i.net)
      → answer_of (slice_get (controls_in v.states) (device_at i.net unit)) unit k ≡ Some (counted k (history w (slice_index (units i.net) unit)))
  value-answered made k unit one whole low =
      ap (λ d. answer_of (slice_get cs d) unit k) (ap home q) ∙ ap (λ o. answer_of o unit k) c.1
      ∙ ap (λ p. value_in c.0.kept p k) (sym (listed-place i.net unit low))
      ∙ ap (λ o. value_at o (unit_place i.net u) k) (sym node) ∙ ap (λ x. value_at (slice_get v.states (control_for i.net x)) (unit_place i.net u) k) (sym q)
      ∙ kept-value u k id q one whole
    where
      cs : List ValueState
      cs = controls_in v.states

      u : ℕ
      u = slice_index (units i.net) unit

      id : UnitId
      id = (listed-unit i.net unit low).0

      q : actor_of i.net u ≡ OfUnit id
      q = (listed-unit i.net unit low).1

      part : IsActor i.net.parts (OfUnit id)
      part = subst (IsActor i.net.parts) q (z.actor u (z.ways.within u (OfUnit id) q (λ x. cc)))

      c : (x : ValueState) × (slice_get cs id.device ≡ Some x)
      c = let d = part.0 in let n = (are-controls i v.book v.states made z each keeps).each in get-some cs id.device (omega (arith, d, n))

      node : slice_get v.states (control_of i.net id.device) ≡ Some (ControlNode c.0)
      node = control-at i w v.states made z each keeps id.device c.0 c.1

  answered-by : IsNet i.net → (k : ℕ) → 1 ≤ k → IsAnswered i.net (controls_in v.states) (value_finding i.net w k)
  answered-by made k one unit x here = by_verdict (value_verdict i.net w k) refl here
    where
      by_verdict : (y : ValueVerdict) → value_verdict i.net w k ≡ y → slice_get (values_for i.net w k y) unit ≡ Some x
          → answer_of (slice_get (controls_in v.states) (device_at i.net unit)) unit k ≡ Some x
      by_verdict IsWhole q here =
          let f = λ (u : ℕ). counted k (history w u) in
          let size = length-map (units i.net) f in
          let within = slice_get_within (map f (units i.net)) unit x here in
          let low : unit < length (units i.net) = omega (arith, size, within) in
          value-answered made k unit one q low
          ∙ sym (ap (option_map f) (slice_get-get_or (units i.net) unit 0 low)) ∙ sym (slice_get-map f (units i.net) unit) ∙ here
      by_verdict (Pending u l) q here = absurd (cc)
      by_verdict (NotIssued u n) q here = absurd (cc)

  pub answered : IsNet i.net → (count : ℕ) → All (IsAnswered i.net (controls_in v.states)) (map (value_finding i.net w) (range_with_len 1 count))
  answered made count = All-map (IsAnswered i.net (controls_in v.states)) (value_finding i.net w) (range_with_len 1 count)
      (λ n d low. subst (λ k. IsAnswered i.net (controls_in v.states) (value_finding i.net w k))
      (sym (get_or-range_with_len 1 count n d (let size = length-range_with_len 1 count in omega (arith, low, size)))) (answered-by made (1 + n) (omega arith)))
