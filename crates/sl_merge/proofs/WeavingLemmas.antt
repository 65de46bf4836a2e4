-- Steps of many actors, woven into one list in the order of their times, are a run of the world: for any machines that
-- have a clock and stamp their messages by it.
use Rattle.std.proofs.Common.{◌≡◌, ℕ, ◌<◌, ◌≤◌, ◌==◌, Bool, true, false, if◌then◌else◌, List, [], ◌∷◌, ◌++◌, length, map, set, slice_get, Option, Some, None, sym, refl, ap, ◌∙◌, subst, arith, append_assoc, length-set, get_or-set_same, get_or-set_other, eqb-true, le_trans, le_refl, eq-eqb, append-nil}
use Rattle.std.specs.Prelude.{⊤}
use Rattle.std.specs.Option.{option_and_then}
use Rattle.std.proofs.lemmas.Bool.{eqb-false}
use Rattle.std.proofs.lemmas.Option.{slice_get_within}
use Rattle.sl_machine.specs.Machine.{After, Rules}
use Rattle.sl_machine.specs.Plan.{link_in, link_out}
use Rattle.sl_machine.specs.declared.wiring.Link.{Link}
use Rattle.sl_loss.specs.Loss.{Loss, loses_next, after_put}
use Rattle.sl_actor.specs.Histories.{Step, step_of, took}
use Rattle.sl_actor.specs.Losses.{kept}
use Rattle.sl_world.specs.Scene.{Scene, Line, empty_line, line_at, without_first, done, turn_of, run_of}
use Rattle.sl_world.proofs.ShapeLaws.{length-put_each}
use Rattle.sl_world.proofs.TurnLemmas as world
use Rattle.sl_merge.specs.Lamport.{times_of}
use Rattle.sl_merge.proofs.GetLemmas.{slice_get-set_same}
use Rattle.sl_merge.proofs.LineLemmas.{line_all, puts_at, puts_go_on, tally, tally_after, tally-line_all, tally_after-append, put_all_at}

-- each step's actor and choice
abbrev pub schedule_by : {S M : Type 0} → List (ℕ × Step S M) → List (ℕ × ℕ)
schedule_by es = map (λ e. (e.0, e.1.choice)) es

module _ {M : Type 0} (stamp : M → ℕ) where
  -- each of these is stamped with n or more
  abbrev pub AllFrom : ℕ → List M → Type 0
  AllFrom n [] = ⊤
  AllFrom n (m ∷ ms) = (n ≤ stamp m) × AllFrom n ms

  abbrev pub PutsFrom : ℕ → List (ℕ × M) → Type 0
  PutsFrom n [] = ⊤
  PutsFrom n (p ∷ ps) = (n ≤ stamp p.1) × PutsFrom n ps

  from-append : (n : ℕ) (xs ys : List M) → AllFrom n xs → AllFrom n ys → AllFrom n (xs ++ ys)
  from-append n [] ys h k = k
  from-append n (x ∷ xs) ys h k = (h.0, from-append n xs ys h.1 k)

  from-puts_at : (n t : ℕ) (links : List Link) (actor l : ℕ) (ps : List (ℕ × M)) → n ≤ t → PutsFrom t ps → AllFrom n (puts_at links actor l ps)
  from-puts_at n t links actor l [] le h = tt
  from-puts_at n t links actor l (p ∷ ps) le h =
      let rest : AllFrom n (puts_at links actor l ps) = from-puts_at n t links actor l ps le h.1 in
      elim (link_out links actor p.0 == l) as (λ (b : Bool). AllFrom n (if b then p.1 ∷ puts_at links actor l ps else puts_at links actor l ps)) [
        | true ↦ (le_trans le h.0, rest)
        | false ↦ rest
      ]

  -- so is the first that is not lost
  first_from : (n : ℕ) (x : Option Loss) (ms : List M) (m : M) (rest : List M) → AllFrom n ms → kept x ms ≡ m ∷ rest → n ≤ stamp m
  first_from n k [] m rest h e = absurd (cc)
  first_from n k (x ∷ ms) m rest h e =
      (elim (loses_next k) as (λ (b : Bool). (if b then kept (after_put k) ms else x ∷ kept (after_put k) ms) ≡ m ∷ rest → n ≤ stamp m) [
        | true ↦ λ f. first_from n (after_put k) ms m rest h.1 f
        | false ↦ λ f. let is : x ≡ m = cc in subst (λ (y : M). n ≤ stamp y) is h.0
      ]) e

-- what a machine puts is stamped with the time after the turn, and a message is older than the turn that takes it
pub record IsTimed {S M : Type 0} (rules : Rules S M) (time : S → ℕ) (stamp : M → ℕ) : Type 0 where
  pub later : (s : S) (choice : ℕ) (m : M) → stamp m < time (rules.take s choice m).state
  pub take_puts : (s : S) (choice : ℕ) (m : M) → PutsFrom stamp (time (rules.take s choice m).state) (rules.take s choice m).puts
  pub act_puts : (s : S) (choice : ℕ) (a : After S M) → rules.act s choice ≡ Some a → PutsFrom stamp (time a.state) a.puts

-- a message was taken exactly where the actor's choice is a link
abbrev pub IsLinked : {M : Type 0} → List Link → ℕ → ℕ → Option M → Type 0
IsLinked links actor choice None = length links ≤ link_in links actor choice
IsLinked links actor choice (Some m) = link_in links actor choice < length links

module _ {S M : Type 0} (links : List Link) where
  abbrev pub all_taken : ℕ → List (ℕ × Step S M) → List M
  all_taken l [] = []
  all_taken l (e ∷ es) = took (link_in links e.0 e.1.choice == l) e.1.message ++ all_taken l es

  abbrev pub all_put : ℕ → List (ℕ × Step S M) → List M
  all_put l [] = []
  all_put l (e ∷ es) = puts_at links e.0 l e.1.after.puts ++ all_put l es

  abbrev pub AllLinked : List (ℕ × Step S M) → Type 0
  AllLinked [] = ⊤
  AllLinked (e ∷ es) = IsLinked links e.0 e.1.choice e.1.message × AllLinked es

module _ {S M : Type 0} where
  abbrev pub states_after : List S → List (ℕ × Step S M) → List S
  states_after states [] = states
  states_after states (e ∷ es) = states_after (set states e.0 e.1.after.state) es

  -- each step is one of its actor's machine
  abbrev pub IsWoven : Rules S M → List S → List (ℕ × Step S M) → Type 0
  IsWoven rules states [] = ⊤
  IsWoven rules states (e ∷ es) =
      (s : S) × (slice_get states e.0 ≡ Some s) × (step_of rules s e.1.choice e.1.message ≡ Some e.1.after) × IsWoven rules (set states e.0 e.1.after.state) es

module _ {S M : Type 0} (time : S → ℕ) where
  abbrev pub StepsFrom : ℕ → List (ℕ × Step S M) → Type 0
  StepsFrom n [] = ⊤
  StepsFrom n (e ∷ es) = (n ≤ time e.1.after.state) × StepsFrom n es

  -- the times never fall
  abbrev pub Ascends : List (ℕ × Step S M) → Type 0
  Ascends [] = ⊤
  Ascends (e ∷ es) = StepsFrom (time e.1.after.state) es × Ascends es

module _ {S M : Type 0} (rules : Rules S M) (time : S → ℕ) (stamp : M → ℕ) (timed : IsTimed rules time stamp) where
  step_puts : (s : S) (choice : ℕ) (o : Option M) (a : After S M) → step_of rules s choice o ≡ Some a → PutsFrom stamp (time a.state) a.puts
  step_puts s choice None a e = timed.act_puts s choice a e
  step_puts s choice (Some m) a e = let is : rules.take s choice m ≡ a = grind arith in subst (λ (b : After S M). PutsFrom stamp (time b.state) b.puts) is (timed.take_puts s choice m)

  puts_from : (links : List Link) (n l : ℕ) (states : List S) (es : List (ℕ × Step S M)) → IsWoven rules states es → StepsFrom time n es → AllFrom stamp n (all_put links l es)
  puts_from links n l states [] w h = tt
  puts_from links n l states (e ∷ es) w h =
      from-append stamp n (puts_at links e.0 l e.1.after.puts) (all_put links l es)
      (from-puts_at stamp n (time e.1.after.state) links e.0 l e.1.after.puts h.0 (step_puts w.0 e.1.choice e.1.message e.1.after w.2))
      (puts_from links n l (set states e.0 e.1.after.state) es w.3 h.1)

  -- on each link, what is taken from now on and what is left are what is on it now and what is put and not lost
  abbrev pub Flows : List Link → List (Line M) → (ℕ → List M) → (ℕ → List M) → Type 0
  Flows links lines out into = (l : ℕ) → l < length links → out l ≡ (line_at lines l).queue ++ kept (line_at lines l).loss (into l)

  -- a turn that did something, before its puts
  record Turned (w : Scene S M) (actor choice : ℕ) (a : After S M) (out into : ℕ → List M) : Type 0 where
    before : List (Line M)
    turn : turn_of rules w actor choice ≡ Some (done w actor choice before a)
    len : length before ≡ length w.lines
    flows : Flows w.plan.links before out into
    same : (l : ℕ) → l < length w.plan.links → tally (line_at before l) ≡ tally (line_at w.lines l)

  takes : (w : Scene S M) (actor choice : ℕ) (s : S) (m : M) (rest : List M) → link_in w.plan.links actor choice < length w.plan.links → slice_get w.states actor ≡ Some s → (line_at w.lines (link_in w.plan.links actor choice)).queue ≡ m ∷ rest
      → turn_of rules w actor choice ≡ Some (done w actor choice (set w.lines (link_in w.plan.links actor choice) (without_first (line_at w.lines (link_in w.plan.links actor choice)) rest)) (rules.take s choice m))
  takes w actor choice s m rest low state queue =
      let k = link_in w.plan.links actor choice in
      world.took rules w actor choice k s (line_at w.lines k) m rest refl low state (world.line_some w.lines k m rest queue) queue

  line_set : (lines : List (Line M)) (k l : ℕ) (x : Line M) (b : Bool) → (k == l) ≡ b → l < length lines → line_at (set lines k x) l ≡ (if b then x else line_at lines l)
  line_set lines k l x true e low = subst (λ (j : ℕ). line_at (set lines j x) l ≡ x) (sym (eqb-true k l e)) (get_or-set_same lines l x empty_line low)
  line_set lines k l x false e low = get_or-set_other lines k l x empty_line (λ s. eqb-false k l e (sym s))

  -- a link from which a message was taken, or another one
  flow_on : (lines : List (Line M)) (k l : ℕ) (m : M) (rest out into : List M) (b : Bool) → (k == l) ≡ b → l < length lines → (line_at lines k).queue ≡ m ∷ rest
      → took b (Some m) ++ out ≡ (line_at lines l).queue ++ kept (line_at lines l).loss into
      → out ≡ (if b then without_first (line_at lines k) rest else line_at lines l).queue ++ kept (if b then without_first (line_at lines k) rest else line_at lines l).loss into
  flow_on lines k l m rest out into true e low queue flow =
      let F : Line M → Type 0 = λ x. m ∷ out ≡ x.queue ++ kept x.loss into in
      let here : m ∷ out ≡ (line_at lines k).queue ++ kept (line_at lines k).loss into = subst (λ (j : ℕ). F (line_at lines j)) (sym (eqb-true k l e)) flow in
      let all : m ∷ out ≡ m ∷ (rest ++ kept (line_at lines k).loss into) = here ∙ ap (λ (q : List M). q ++ kept (line_at lines k).loss into) queue in
      cc
  flow_on lines k l m rest out into false e low queue flow = flow

  puts_on : (lines : List (Line M)) (k l : ℕ) (rest : List M) (b : Bool) → (k == l) ≡ b → tally (if b then without_first (line_at lines k) rest else line_at lines l) ≡ tally (line_at lines l)
  puts_on lines k l rest true e = ap (λ (j : ℕ). tally (line_at lines j)) (eqb-true k l e)
  puts_on lines k l rest false e = refl

  turned_from : (w : Scene S M) (actor choice : ℕ) (s : S) (m : M) (out into : ℕ → List M) (rest : List M) → length w.lines ≡ length w.plan.links
      → link_in w.plan.links actor choice < length w.plan.links → slice_get w.states actor ≡ Some s → (line_at w.lines (link_in w.plan.links actor choice)).queue ≡ m ∷ rest
      → Flows w.plan.links w.lines (λ l. took (link_in w.plan.links actor choice == l) (Some m) ++ out l) into
      → Turned w actor choice (rules.take s choice m) out into
  turned_from w actor choice s m out into rest len low state queue flows =
      let k = link_in w.plan.links actor choice in
      let x : Line M = without_first (line_at w.lines k) rest in
      record {
        before = set w.lines k x;
        turn = takes w actor choice s m rest low state queue;
        len = length-set w.lines k x;
        flows = λ l below.
            let below' : l < length w.lines = subst (λ (n : ℕ). l < n) (sym len) below in
            let F : Line M → Type 0 = λ y. out l ≡ y.queue ++ kept y.loss (into l) in
            subst F (sym (line_set w.lines k l x (k == l) refl below')) (flow_on w.lines k l m rest (out l) (into l) (k == l) refl below' queue (flows l below));
        same = λ l below.
            let below' : l < length w.lines = subst (λ (n : ℕ). l < n) (sym len) below in
            ap tally (line_set w.lines k l x (k == l) refl below') ∙ puts_on w.lines k l rest (k == l) refl;
      }

  -- the message is on the link, since what is still to be put has later stamps
  waits : (n : ℕ) (line : Line M) (m : M) (out into queue : List M) → line.queue ≡ queue → m ∷ out ≡ line.queue ++ kept line.loss into → AllFrom stamp n into → stamp m < n
      → (rest : List M) × (line.queue ≡ m ∷ rest)
  waits n line m out into [] e flow from older =
      let first : kept line.loss into ≡ m ∷ out = sym (flow ∙ ap (λ (q : List M). q ++ kept line.loss into) e) in
      let newer : n ≤ stamp m = first_from stamp n line.loss into m out from first in
      absurd (omega arith)
  waits n line m out into (x ∷ rest) e flow from older =
      let all : m ∷ out ≡ x ∷ (rest ++ kept line.loss into) = flow ∙ ap (λ (q : List M). q ++ kept line.loss into) e in
      let is : m ≡ x = cc in
      (rest, e ∙ ap (λ (y : M). y ∷ rest) (sym is))

  turns : (w : Scene S M) (actor choice : ℕ) (s : S) (o : Option M) (a : After S M) (out into : ℕ → List M) → length w.lines ≡ length w.plan.links
      → slice_get w.states actor ≡ Some s → step_of rules s choice o ≡ Some a → IsLinked w.plan.links actor choice o
      → Flows w.plan.links w.lines (λ l. took (link_in w.plan.links actor choice == l) o ++ out l) into → ((l : ℕ) → AllFrom stamp (time a.state) (into l))
      → Turned w actor choice a out into
  turns w actor choice s None a out into len state step linked flows from =
      record { before = w.lines; turn = world.acted rules w actor choice s (Some a) linked state step; len = refl; flows = flows; same = λ l below. refl }
  turns w actor choice s (Some m) a out into len state step linked flows from =
      let k = link_in w.plan.links actor choice in
      let is : rules.take s choice m ≡ a = grind arith in
      let here : m ∷ out k ≡ (line_at w.lines k).queue ++ kept (line_at w.lines k).loss (into k) =
      subst (λ (b : Bool). took b (Some m) ++ out k ≡ (line_at w.lines k).queue ++ kept (line_at w.lines k).loss (into k)) (eq-eqb k k refl) (flows k linked) in
      let older : stamp m < time a.state = subst (λ (b : After S M). stamp m < time b.state) is (timed.later s choice m) in
      let found = waits (time a.state) (line_at w.lines k) m (out k) (into k) (line_at w.lines k).queue refl here (from k) older in
      subst (λ (b : After S M). Turned w actor choice b out into) is (turned_from w actor choice s m out into found.0 len linked state found.1 flows)

  -- the world to which woven steps lead
  pub record LeadsTo (w : Scene S M) (es : List (ℕ × Step S M)) (left : ℕ → List M) : Type 0 where
    pub world : Scene S M
    pub run : run_of rules w (schedule_by es) ≡ Some world
    pub states : world.states ≡ states_after w.states es
    pub len : length world.lines ≡ length w.plan.links
    pub queues : (l : ℕ) → l < length w.plan.links → (line_at world.lines l).queue ≡ left l
    pub tallies : (l : ℕ) → l < length w.plan.links → tally (line_at world.lines l) ≡ tally_after (tally (line_at w.lines l)) (all_put w.plan.links l es)
    pub times : times_of rules time w (schedule_by es) ≡ map (λ e. time e.1.after.state) es

  pub leads : (w : Scene S M) (es : List (ℕ × Step S M)) (left : ℕ → List M) → length w.lines ≡ length w.plan.links → IsWoven rules w.states es → AllLinked w.plan.links es → Ascends time es
      → Flows w.plan.links w.lines (λ l. all_taken w.plan.links l es ++ left l) (λ l. all_put w.plan.links l es)
      → LeadsTo w es left
  leads w [] left len woven linked up flows =
      record { world = w; run = refl; states = refl; len = len; queues = λ l below. sym (flows l below ∙ append-nil (line_at w.lines l).queue); tallies = λ l below. refl; times = refl }
  leads w (e ∷ es) left len woven linked up flows =
      let links : List Link = w.plan.links in
      let a : After S M = e.1.after in
      let turned : Turned w e.0 e.1.choice a (λ l. all_taken links l es ++ left l) (λ l. all_put links l (e ∷ es)) =
      turns w e.0 e.1.choice woven.0 e.1.message a (λ l. all_taken links l es ++ left l) (λ l. all_put links l (e ∷ es)) len woven.1 woven.2 linked.0
      (λ l below. sym (append_assoc (took (link_in links e.0 e.1.choice == l) e.1.message) (all_taken links l es) (left l)) ∙ flows l below)
      (λ l. puts_from links (time a.state) l w.states (e ∷ es) woven (le_refl _, up.0)) in
      let v : Scene S M = done w e.0 e.1.choice turned.before a in
      let at_line : (l : ℕ) → l < length links → line_at v.lines l ≡ line_all (line_at turned.before l) (puts_at links e.0 l a.puts) =
      λ l below. put_all_at links e.0 a.puts turned.before l (subst (λ (n : ℕ). l < n) (sym (turned.len ∙ len)) below) in
      let rest : LeadsTo v es left =
      leads v es left (length-put_each (link_out links e.0) a.puts turned.before ∙ turned.len ∙ len) woven.3 linked.1 up.1
      (λ l below. turned.flows l below ∙ sym (puts_go_on (line_at turned.before l) (puts_at links e.0 l a.puts) (all_put links l es))
      ∙ ap (λ (x : Line M). x.queue ++ kept x.loss (all_put links l es)) (sym (at_line l below))) in
      record {
        world = rest.world;
        run = ap (option_and_then (λ x. run_of rules x (schedule_by es))) turned.turn ∙ rest.run;
        states = rest.states;
        len = rest.len;
        queues = rest.queues;
        tallies = λ l below.
            let first : tally (line_at v.lines l) ≡ tally_after (tally (line_at w.lines l)) (puts_at links e.0 l a.puts) =
            ap tally (at_line l below) ∙ tally-line_all (line_at turned.before l) (puts_at links e.0 l a.puts) ∙ ap (λ (x : Option Loss × ℕ). tally_after x (puts_at links e.0 l a.puts)) (turned.same l below) in
            rest.tallies l below ∙ ap (λ (x : Option Loss × ℕ). tally_after x (all_put links l es)) first ∙ sym (tally_after-append (tally (line_at w.lines l)) (puts_at links e.0 l a.puts) (all_put links l es));
        times =
            let low : e.0 < length w.states = slice_get_within w.states e.0 woven.0 woven.1 in
            rw turned.turn (rw (slice_get-set_same w.states e.0 a.state low) (ap (λ (ts : List ℕ). time a.state ∷ ts) rest.times));
      }
