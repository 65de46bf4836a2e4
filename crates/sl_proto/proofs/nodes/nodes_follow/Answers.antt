use Rattle.std.proofs.Common.{◌≡◌, ℕ, zero, suc, ◌+◌, ◌^◌, ◌<◌, ◌≤◌, List, length, refl, sym, ap, subst, ◌∙◌, Some, None, arith, inl, inr}
use Rattle.std.specs.Prelude.{◌⊎◌, if◌then◌else◌, slice_get, option_map, IsSome}
use Rattle.std.proofs.lemmas.Bool.{cases_lt, lt-ltb, le-ltb}
use Rattle.std.proofs.lemmas.Option.{slice_get-get_or, get_or_from_slice_get}
use Rattle.sl_layout.specs.declared.actor.ActorId.{ActorId}
use Rattle.sl_layout.specs.declared.actor.ActorId.TheVariants.{Observer, Control, Unit as OfUnit, Host as OfHost}
use Rattle.sl_layout.specs.Net.{nobody, actor_of, action_choice, link_of, link_at, links_into}
use Rattle.sl_net.specs.Wired.{IsWired}
use Rattle.sl_wire.specs.declared.message.Msg.{Msg}
use Rattle.sl_wire.specs.Sizes.{sizes_of}
use Rattle.sl_observe.specs.Observer.{ObserverState, observer_take, observer_act}
use Rattle.sl_control.specs.Control.{control_take}
use Rattle.sl_unit.specs.Step.{unit_rules}
use Rattle.sl_host.specs.Host.{host_take, host_act}
use Rattle.sl_model.specs.declared.message.Message.{Message}
use Rattle.sl_model.specs.declared.message.Step.{Step}
use Rattle.sl_model.specs.History.{history}
use Rattle.sl_model.specs.World.{Entry, next_step, turn, world}
use Rattle.sl_model.specs.Turns.{TakesTurns}
use Rattle.sl_model.specs.Reported.{AreReported}
use Rattle.sl_simulation.specs.ControlImage.{told_at}
use Rattle.sl_simulation.specs.HostImage.{IsHostOf}
use Rattle.sl_simulation.specs.Messages.{IsMessage}
use Rattle.sl_simulation.specs.ObserverImage.{IsObserverOf, known_at}
use Rattle.sl_proto.specs.Image.{told_by}
use Rattle.sl_proto.specs.Machines.{MachineSimulates, MachineActSimulates}
use Rattle.sl_proto.specs.Meaning.{StandsAs, NodeStands}
use Rattle.sl_proto.specs.Nodes.{NodeState, ObserverNode, ControlNode, UnitNode, HostNode, as_node, node_rules}
use Rattle.sl_proto.proofs.Queues.{retold, untold}
use Rattle.sl_proto.proofs.Sent.{put-by-told, put-by-any}
use Rattle.sl_proto.proofs.NodeSteps.{stands-here, leaves, does}
use Rattle.sl_proto.proofs.Known.{none-past, takes-none, observer-within, host-within, does-put, step-dones, told-known}
use Rattle.sl_proto.proofs.nodes.nodes_follow.Goals as goal

pub returns : goal.returns
returns c s table lost r = record {
  net = r.net;
  sound = r.sound;
  table = r.losses;
  steps = record {
    take = λ es a k l step m x state few next into taken msg st. takes es a k l step m x few next into taken msg (actor_of s.net a) refl state st;
    act = λ es a k step state few next none st. acts es a k step next none (actor_of s.net a) refl state st;
    idle = λ es a k state few low next none st. idles es a k low next none (actor_of s.net a) refl state st;
    stays = λ es a b k step state few next ne st. stays es a b k ne (actor_of s.net b) refl state st;
  };
}
  where
    wired : IsWired s.net
    wired = c.nets_are_wired.ensures s.net r.net

    turns : TakesTurns
    turns = c.worlds_take_turns.ensures

    reported : AreReported s
    reported = c.known_steps_are_made.ensures s r.net

    is-host : (a i : ℕ) → a < length s.net.actors → actor_of s.net a ≡ OfHost i → slice_get s.net.actors a ≡ Some (OfHost i)
    is-host a i p q = slice_get-get_or s.net.actors a nobody p ∙ ap Some q

    -- Takes.

    observer-takes : (es : List Entry) (a k l : ℕ) (step : Step) (m : Message) (x : Msg) → next_step s lost (world s lost es) (a, k) ≡ Some step → slice_get (links_into s.net a) k ≡ Some l → step.taken ≡ Some m
        → IsMessage s.net (sizes_of table) (history (world s lost es)) (link_of s.net l).from (told_by k (history (world s lost es) a)) m x → actor_of s.net a ≡ Observer → (o : ObserverState) → IsObserverOf s.net table (world s lost es) o
        → MachineSimulates s (sizes_of table) (NodeStands s table) (world s lost es) (turn s lost (world s lost es) (a, k)) a step (as_node ObserverNode (observer_take o k x))
    observer-takes es (suc a) k l step m x next into taken msg q o st = absurd (let e : suc a ≡ 0 = wired.one_observer (suc a) q in omega (arith, e))
    observer-takes es zero k l step m x next into taken msg q o st = let w = world s lost es in let v = turn s lost w (0, k) in
        let g = λ (told : ℕ → ℕ). c.observers_take.ensures s lost table es k (sizes_of table) (link_of s.net l).from told step m x o (record { net = r.net; next = next; taken = taken }) r.is_table refl st
        (retold s.net (sizes_of table) (history w) (link_of s.net l).from (told_by k (history w 0)) (known_at w) m x (told-known turns c.links_pass_messages.ensures s lost w k l m step reported wired (turns.fifo_run s lost es) next into taken) msg) in
        leaves s table w v 0 step Observer (as_node ObserverNode (observer_take o k x)) q (g untold).stands (put-by-any s.net (sizes_of table) (history v) 0 (history w 0) step.puts (observer_take o k x).puts (λ told. (g told).sent))

    takes : (es : List Entry) (a k l : ℕ) (step : Step) (m : Message) (x : Msg) → length es < 2 ^ 40 → next_step s lost (world s lost es) (a, k) ≡ Some step → slice_get (links_into s.net a) k ≡ Some l → step.taken ≡ Some m
        → IsMessage s.net (sizes_of table) (history (world s lost es)) (link_of s.net l).from (told_by k (history (world s lost es) a)) m x → (y : ActorId) → actor_of s.net a ≡ y → (state : NodeState) → StandsAs s table (world s lost es) a y state
        → MachineSimulates s (sizes_of table) (NodeStands s table) (world s lost es) (turn s lost (world s lost es) (a, k)) a step (node_rules.take state k x)
    takes es a k l step m x few next into taken msg Observer q (ObserverNode o) st = observer-takes es a k l step m x next into taken msg q o st
    takes es a k l step m x few next into taken msg (Control d) q (ControlNode o) st = let w = world s lost es in let v = turn s lost w (a, k) in
        let at : link_at s.net a k ≡ l = get_or_from_slice_get (links_into s.net a) k l 0 into in let size = r.is_table.window in let apart = r.is_table.apart in let room = r.is_table.room in
        let g = c.controls_take.ensures s lost es (a, k) d (sizes_of table) step m (told_by k (history w a)) x o (record { net = r.net; next = next; taken = taken }) q (record { few_bits = r.is_table.few_bits; apart = omega (arith, size, apart); room = omega (arith, size, room) }) r.is_table.some_credits few
        (subst (λ l. IsMessage s.net (sizes_of table) (history w) (link_of s.net l).from (told_by k (history w a)) m x) (sym at) msg) st in
        leaves s table w v a step (Control d) (as_node ControlNode (control_take o k x)) q g.stands
        (put-by-told s.net (sizes_of table) (history v) a (told_at s.net (history w) a) (history w a) step.puts (control_take o k x).puts (step-dones turns c.links_pass_messages.ensures s lost w a d k step reported wired (turns.fifo_run s lost es) q next) g.sent)
    takes es a k l step m x few next into taken msg (OfUnit i) q (UnitNode o) st = let w = world s lost es in let v = turn s lost w (a, k) in
        let g = λ (told : ℕ → ℕ). c.units_take_messages.ensures.follows s table lost es a k (link_of s.net l).from i step m x o (history w) (told_by k (history w a)) told (record { net = r.net; next = next; taken = taken }) (sym r.is_table.window) r.is_table.apart r.is_table.room r.is_table.carried r.short few q msg st in
        leaves s table w v a step (OfUnit i) (as_node UnitNode (unit_rules.take o k x)) q (g untold).stands (put-by-any s.net (sizes_of table) (history v) a (history w a) step.puts (unit_rules.take o k x).puts (λ told. (g told).sent))
    takes es a k l step m x few next into taken msg (OfHost i) q (HostNode o) st = let w = world s lost es in let v = turn s lost w (a, k) in
        let g = λ (told : ℕ → ℕ). c.hosts_take.ensures s lost es a k i (sizes_of table) (link_of s.net l).from told (told_by k (history w a)) step m x o (record { net = r.net; next = next; taken = taken }) (is-host a i (turns.within s lost w (a, k) step next) q) few st msg in
        leaves s table w v a step (OfHost i) (as_node HostNode (host_take o k x)) q (g untold).stands (put-by-any s.net (sizes_of table) (history v) a (history w a) step.puts (host_take o k x).puts (λ told. (g told).sent))
    takes es a k l step m x few next into taken msg _ q _ st = absurd st

    -- Actions.

    observer-acts : (es : List Entry) (a k : ℕ) (step : Step) → next_step s lost (world s lost es) (a, k) ≡ Some step → slice_get (links_into s.net a) k ≡ None → actor_of s.net a ≡ Observer
        → (o : ObserverState) → IsObserverOf s.net table (world s lost es) o → MachineActSimulates s (sizes_of table) (NodeStands s table) (world s lost es) (turn s lost (world s lost es) (a, k)) a step (node_rules.act (ObserverNode o) k)
    observer-acts es (suc a) k step next none q o st = absurd (let e : suc a ≡ 0 = wired.one_observer (suc a) q in omega (arith, e))
    observer-acts es zero k step next none q o st = let w = world s lost es in let v = turn s lost w (0, k) in
        let g = λ (told : ℕ → ℕ). c.observers_act.ensures.did s lost table es k (sizes_of table) told step o r.net r.is_table st next (takes-none turns s lost w 0 k step next none) in
        let ins : o.ins ≡ length (links_into s.net 0) = ap (λ (y : ObserverState). y.ins) st in let low = observer-within turns s lost w 0 k step q next none in
        does s table w v 0 step Observer (as_node ObserverNode (g untold).after) (node_rules.act (ObserverNode o) k)
        (ap (λ b. if b then option_map (as_node ObserverNode) (observer_act o k) else None) (lt-ltb k (o.ins + 2) (omega (arith, ins, low))) ∙ ap (option_map (as_node ObserverNode)) (g untold).is) q (g untold).simulates.stands
        (does-put (IsObserverOf s.net table v) s.net (sizes_of table) (history v) 0 (history w 0) step.puts (observer_act o k) g)

    acts : (es : List Entry) (a k : ℕ) (step : Step) → next_step s lost (world s lost es) (a, k) ≡ Some step → slice_get (links_into s.net a) k ≡ None → (y : ActorId) → actor_of s.net a ≡ y
        → (state : NodeState) → StandsAs s table (world s lost es) a y state → MachineActSimulates s (sizes_of table) (NodeStands s table) (world s lost es) (turn s lost (world s lost es) (a, k)) a step (node_rules.act state k)
    acts es a k step next none Observer q (ObserverNode o) st = observer-acts es a k step next none q o st
    acts es a k step next none (Control d) q (ControlNode o) st = let w = world s lost es in let v = turn s lost w (a, k) in
        let g = c.controls_act.ensures.acts s lost es (a, k) d (sizes_of table) step o r.net q next (takes-none turns s lost w a k step next none) st in
        does s table w v a step (Control d) (as_node ControlNode g.after) (node_rules.act (ControlNode o) k) (ap (option_map (as_node ControlNode)) g.is) q g.simulates.stands
        (put-by-told s.net (sizes_of table) (history v) a (told_at s.net (history w) a) (history w a) step.puts g.after.puts (step-dones turns c.links_pass_messages.ensures s lost w a d k step reported wired (turns.fifo_run s lost es) q next) g.simulates.sent)
    acts es a k step next none (OfUnit i) q (UnitNode o) st = absurd (let e = subst (λ o. IsSome o) none (c.units_take_messages.ensures.link s lost es a k i step q next) in cc)
    acts es a k step next none (OfHost i) q (HostNode o) st = let w = world s lost es in let v = turn s lost w (a, k) in let at = is-host a i (turns.within s lost w (a, k) step next) q in
        let g = λ (told : ℕ → ℕ). c.hosts_act.ensures.did s lost es a k i (sizes_of table) told step o r.net at st next (takes-none turns s lost w a k step next none) in
        let ins = c.hosts_have_two_links.ensures.ins s.net a i r.net at in let low = host-within turns s lost w a k i step q next none in
        does s table w v a step (OfHost i) (as_node HostNode (g untold).after) (node_rules.act (HostNode o) k)
        (ap (λ b. if b then option_map (as_node HostNode) (host_act o k) else None) (lt-ltb k 2 (omega (arith, ins, low))) ∙ ap (option_map (as_node HostNode)) (g untold).is) q (g untold).simulates.stands
        (does-put (IsHostOf s a i v) s.net (sizes_of table) (history v) a (history w a) step.puts (host_act o k) g)
    acts es a k step next none _ q _ st = absurd st

    -- Idle turns.

    observer-idles : (es : List Entry) (a k : ℕ) → next_step s lost (world s lost es) (a, k) ≡ None → slice_get (links_into s.net a) k ≡ None → actor_of s.net a ≡ Observer
        → (o : ObserverState) → IsObserverOf s.net table (world s lost es) o → node_rules.act (ObserverNode o) k ≡ None
    observer-idles es (suc a) k next none q o st = absurd (let e : suc a ≡ 0 = wired.one_observer (suc a) q in omega (arith, e))
    observer-idles es zero k next none q o st = by_order (cases_lt k (o.ins + 2))
      where
        ins : o.ins ≡ length (links_into s.net 0)
        ins = ap (λ (y : ObserverState). y.ins) st

        by_order : (k < o.ins + 2) ⊎ (o.ins + 2 ≤ k) → node_rules.act (ObserverNode o) k ≡ None
        by_order (inl p) = ap (λ b. if b then option_map (as_node ObserverNode) (observer_act o k) else None) (lt-ltb k (o.ins + 2) p)
            ∙ ap (option_map (as_node ObserverNode)) (c.observers_act.ensures.idle s lost table es k o r.net r.is_table st next (none-past (links_into s.net 0) k none) (omega (arith, ins, p)))
        by_order (inr p) = ap (λ b. if b then option_map (as_node ObserverNode) (observer_act o k) else None) (le-ltb k (o.ins + 2) p)

    idles : (es : List Entry) (a k : ℕ) → a < length s.net.actors → next_step s lost (world s lost es) (a, k) ≡ None → slice_get (links_into s.net a) k ≡ None → (y : ActorId) → actor_of s.net a ≡ y
        → (state : NodeState) → StandsAs s table (world s lost es) a y state → node_rules.act state k ≡ None
    idles es a k low next none Observer q (ObserverNode o) st = observer-idles es a k next none q o st
    idles es a k low next none (Control d) q (ControlNode o) st = ap (option_map (as_node ControlNode)) (c.controls_act.ensures.idle s lost es (a, k) d (sizes_of table) o q next st)
    idles es a k low next none (OfUnit i) q (UnitNode o) st = ap (option_map (as_node UnitNode)) (c.units_take_messages.ensures.acts o k)
    idles es a k low next none (OfHost i) q (HostNode o) st = by_order (cases_lt k 2)
      where
        by_order : (k < 2) ⊎ (2 ≤ k) → node_rules.act (HostNode o) k ≡ None
        by_order (inl p) = let at = is-host a i low q in let ins = c.hosts_have_two_links.ensures.ins s.net a i r.net at in let past = none-past (links_into s.net a) k none in
            let e : k ≡ action_choice s.net a = omega (arith, ins, past, p) in
            ap (λ b. if b then option_map (as_node HostNode) (host_act o k) else None) (lt-ltb k 2 p)
            ∙ ap (option_map (as_node HostNode)) (c.hosts_act.ensures.idle s lost es a i o at st (subst (λ k. next_step s lost (world s lost es) (a, k) ≡ None) e next))
        by_order (inr p) = ap (λ b. if b then option_map (as_node HostNode) (host_act o k) else None) (le-ltb k 2 p)
    idles es a k low next none _ q _ st = absurd st

    -- Turns of others.

    observer-stays : (es : List Entry) (a b k : ℕ) → (b ≡ a → ⊥) → actor_of s.net b ≡ Observer → (o : ObserverState) → IsObserverOf s.net table (world s lost es) o → NodeStands s table (turn s lost (world s lost es) (a, k)) b (ObserverNode o)
    observer-stays es a (suc b) k ne q o st = absurd (let e : suc b ≡ 0 = wired.one_observer (suc b) q in omega (arith, e))
    observer-stays es a zero k ne q o st = stands-here s table (turn s lost (world s lost es) (a, k)) 0 Observer (ObserverNode o) q (c.observers_stay.ensures s lost table es (a, k) o r.net (λ e. ne (sym e)) st)

    stays : (es : List Entry) (a b k : ℕ) → (b ≡ a → ⊥) → (y : ActorId) → actor_of s.net b ≡ y → (state : NodeState) → StandsAs s table (world s lost es) b y state → NodeStands s table (turn s lost (world s lost es) (a, k)) b state
    stays es a b k ne Observer q (ObserverNode o) st = observer-stays es a b k ne q o st
    stays es a b k ne (Control d) q (ControlNode o) st = stands-here s table (turn s lost (world s lost es) (a, k)) b (Control d) (ControlNode o) q (c.controls_stay.ensures s lost es (a, k) b (sizes_of table) o r.net ne st)
    stays es a b k ne (OfUnit i) q (UnitNode o) st = stands-here s table (turn s lost (world s lost es) (a, k)) b (OfUnit i) (UnitNode o) q (c.units_stay.ensures s table lost es b i (a, k) o ne st)
    stays es a b k ne (OfHost i) q (HostNode o) st = stands-here s table (turn s lost (world s lost es) (a, k)) b (OfHost i) (HostNode o) q (c.hosts_stay.ensures s lost es b i (a, k) o (λ e. ne (sym e)) st)
    stays es a b k ne _ q _ st = absurd st
