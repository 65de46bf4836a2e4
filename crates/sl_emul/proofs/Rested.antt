-- Where no actor of a plan can act, all hosts have sent and there is nothing to issue.
use Rattle.std.proofs.Common.{◌≡◌, ℕ, suc, ◌^◌, ◌<◌, ◌≤◌, List, [], ◌∷◌, ◌++◌, length, get_or, refl, sym, ap, ◌∙◌, subst, arith, inl, inr, length-append, Option, Some, None, is_some, zero-add}
use Rattle.std.specs.Prelude.{◌⊎◌, false, slice_get, slice_index, option_map}
use Rattle.std.specs.List.{All}
use Rattle.std.proofs.lemmas.List.{length-map}
use Rattle.std.proofs.lemmas.Option.{get_or_from_slice_get, slice_get_cases, slice_get_within}
use Rattle.std.proofs.lemmas.List.FromFn.{get_or-map-range_with_len}
use Rattle.sl_parts.specs.Parts.{below}
use Rattle.std.proofs.Math.Seq.{get_or-append_seam}
use Rattle.sl_layout.specs.declared.actor.ActorId.TheVariants.{Observer, Host as OfHost}
use Rattle.sl_layout.specs.declared.actor.Sort.TheVariants.{FromHost}
use Rattle.sl_layout.specs.Net.{Net, actor_of, links_into, links_out, action_choice, nobody}
use Rattle.sl_layout.specs.Wiring.{plan_of}
use Rattle.sl_wire.specs.declared.message.Msg.{Msg}
use Rattle.sl_wire.specs.Sizes.{sizes_of}
use Rattle.sl_model.specs.declared.message.Message.TheVariants.{Host as HostMsg}
use Rattle.sl_model.specs.declared.message.Step.{Step}
use Rattle.sl_model.specs.History.{history, taken}
use Rattle.sl_model.specs.Setup.{frames_of}
use Rattle.sl_model.specs.Knowledge.{observer, floor, issued, can_issue}
use Rattle.sl_model.specs.Puts.{action, begin_all, send_all}
use Rattle.sl_model.specs.World.{next_step, acting}
use Rattle.sl_model.specs.Books.{schedule_of}
use Rattle.sl_model.specs.End.{AllSent}
use Rattle.sl_model.proofs.Finishing.NetWiring.{Wiring, wiring}
use Rattle.sl_model.proofs.Finishing.Idle.{get-past, none-past, none-of-idle, own-step, sent-within, there, guard-fails}
use Rattle.sl_world.specs.Scene.{Scene}
use Rattle.sl_threads.specs.Threads.{AreAtRest}
use Rattle.sl_proto.specs.Nodes.{NodeState, node_rules}
use Rattle.sl_proto.specs.Meaning.{NodeStands}
use Rattle.sl_proto.specs.Machines.{FollowHistories}
use Rattle.sl_proto.specs.Standing.{Case, world_of, StandsFor}
use Rattle.sl_emul.specs.Threaded.{tried_actions, tried_by, plans_of, HasRested}

none-some : {A : Type 0} (x : A) → None ≡ Some x → ⊥
none-some x e = absurd cc

module _ (x : Case) (v : Scene NodeState Msg) (stands : StandsFor x.setup.net x v) (few : length v.book < 2 ^ 40)
    (follow : FollowHistories x.setup x.lost (sizes_of x.table) (NodeStands x.setup x.table) node_rules)
    (rest : AreAtRest node_rules (plan_of x.setup.net).ins (plans_of x.setup.net) v.states) where
  abbrev net : Net
  net = x.setup.net

  short : length (schedule_of v.book) < 2 ^ 40
  short = subst (λ (n : ℕ). n < 2 ^ 40) (sym (length-map v.book _)) few

  state-at : (a : ℕ) → a < length v.states → (s : NodeState) × (slice_get v.states a ≡ Some s)
  state-at a low = by_place (slice_get_cases v.states a).1
    where
      by_place : ((s : NodeState) × (a < length v.states) × (slice_get v.states a ≡ Some s) × (get_or v.states a s ≡ s)) ⊎ ((length v.states ≤ a) × (slice_get v.states a ≡ None)) → (s : NodeState) × (slice_get v.states a ≡ Some s)
      by_place (inl q) = (q.0, q.2)
      by_place (inr q) = absurd (omega (arith, low, q.0))

  -- an actor that tries its first action
  module _ (a : ℕ) (low : a < length net.actors) (own : tried_actions net a (actor_of net a) ≡ action_choice net a ∷ []) where
    abbrev m : ℕ
    m = action_choice net a

    here : a < length v.states
    here = subst (λ (n : ℕ). a < n) (sym stands.image.states_each) low

    abbrev RestsBy : NodeState → ℕ → Type 0
    RestsBy y choice = slice_index (plan_of net).ins a ≤ choice → node_rules.act y choice ≡ None

    plan : get_or (plans_of net) a [] ≡ below m ++ m ∷ []
    plan = get_or-map-range_with_len (tried_by net) 0 (length net.actors) a _ [] low (zero-add a) ∙ ap (λ (l : List ℕ). below m ++ l) own

    ins : slice_index (plan_of net).ins a ≡ m
    ins = get_or-map-range_with_len (λ (b : ℕ). length (links_into net b)) 0 (length net.actors) a _ 0 low (zero-add a)

    none : (s : NodeState) → slice_get v.states a ≡ Some s → node_rules.act s m ≡ None
    none s is =
        let all : All (RestsBy s) (below m ++ m ∷ []) = subst (λ (y : NodeState). All (RestsBy y) (below m ++ m ∷ [])) (get_or_from_slice_get v.states a s s is) (subst (All (RestsBy (get_or v.states a s))) plan (rest a s here)) in
        let by_m : RestsBy s m = let n = length-append (below m) (m ∷ []) in subst (RestsBy s) (get_or-append_seam (below m) m [] 0) (all (length (below m)) 0 (omega (arith, n))) in
        by_m (omega (arith, ins))

    by_step : (o : Option Step) (s : NodeState) → slice_get v.states a ≡ Some s → next_step x.setup x.lost (world_of x v) (a, m) ≡ o → o ≡ None
    by_step None s is q = refl
    by_step (Some step) s is q =
        let sim = follow.steps.act (schedule_of v.book) a m step s short q (get-past (links_into net a) m (omega arith)) (stands.image.states a s is) in
        absurd (none-some sim.after (sym (none s is) ∙ sim.is))

    idle : next_step x.setup x.lost (world_of x v) (a, m) ≡ None
    idle = let s = state-at a here in by_step (next_step x.setup x.lost (world_of x v) (a, m)) s.0 s.1 refl

  all-sent : AllSent x.setup (world_of x v)
  all-sent a h q =
      let is : actor_of net a ≡ OfHost h = get_or_from_slice_get net.actors a (OfHost h) nobody q in
      let i = idle a (slice_get_within net.actors a (OfHost h) q) (ap (tried_actions net a) is) in
      let n = none-of-idle (acting (action_choice net a)) (action x.setup 0 a (OfHost h) (history (world_of x v) a) 0) (ap is_some (sym (own-step x.setup x.lost (world_of x v) a (OfHost h) q) ∙ i)) in
      omega (arith, by_frame (slice_get (frames_of x.setup h) (taken (action_choice net a) (history (world_of x v) a))) refl n, sent-within x.setup x.lost (world_of x v) (schedule_of v.book, refl) a h is)
    where
      by_frame : (o : Option (List ℕ)) → slice_get (frames_of x.setup h) (taken (action_choice net a) (history (world_of x v) a)) ≡ o → option_map (λ bytes. send_all (HostMsg bytes) (links_out net a FromHost)) o ≡ None
          → length (frames_of x.setup h) ≤ taken (action_choice net a) (history (world_of x v) a)
      by_frame None k m = none-past (frames_of x.setup h) (taken (action_choice net a) (history (world_of x v) a)) k
      by_frame (Some f) k m = absurd cc

  no-issue : can_issue x.setup (floor net (world_of x v)) (observer (world_of x v)) ≡ false
  no-issue =
      let g : Wiring net = wiring net follow.net in
      let first : slice_get net.actors 0 ≡ Some Observer = there net 0 g.some_actor ∙ ap Some g.wired.observer in
      let i = idle 0 g.some_actor (ap (tried_actions net 0) g.wired.observer) in
      let n = none-of-idle (acting (action_choice net 0)) (action x.setup (floor net (world_of x v)) 0 Observer (observer (world_of x v)) 0) (ap is_some (sym (own-step x.setup x.lost (world_of x v) 0 Observer first) ∙ i)) in
      guard-fails (can_issue x.setup (floor net (world_of x v)) (observer (world_of x v))) (begin_all net (suc (issued net (observer (world_of x v))))) n

  pub rested : HasRested x.setup (world_of x v)
  rested = record { sent_all = all-sent; none_to_issue = no-issue }
