-- The turns of a control plane: from any state that stands for histories, and in a world.
--     Facts, Given s     what the laws say, of any histories and of the worlds of s
use Rattle.std.proofs.Common.{◌≡◌, ℕ, zero, suc, ◌-◌, ◌<◌, ◌≤◌, List, [], ◌∷◌, length, refl, sym, ap, subst, ◌∙◌, Some, None, arith, map, inl, inr, eq-eqb}
use Rattle.std.specs.Prelude.{◌+◌, ◌^◌, cond, true, false, Bool, not, nat_eq, ◌==◌, ◌&&◌, ◌⊎◌, if◌then◌else◌, flat_map, slice_get, option_map, option_and_then}
use Rattle.std.specs.List.{list_all}
use Rattle.std.proofs.Math.Pow.{pow_mono}
use Rattle.std.proofs.lemmas.Bool.{cases_lt}
use Rattle.std.proofs.lemmas.Bool.Decides.{eqb_tells}
use Rattle.std.proofs.lemmas.List.{get_or_past}
use Rattle.std.proofs.lemmas.Option.{slice_get-get_or, slice_get_past, get_or_from_slice_get}
use Rattle.sl_ids.specs.Ids.{most_bits, modulus}
use Rattle.sl_layout.specs.declared.actor.ActorId.TheVariants.{Control}
use Rattle.sl_layout.specs.declared.actor.Sort.TheVariants.{Init, Poll, Notice, Dump, Begin}
use Rattle.sl_layout.specs.Net.{Net, nobody, actor_of, link_of, link_at, links_into, links_out, action_choice, data_channels}
use Rattle.sl_layout.specs.Serving.{ServedUnit, serving, served}
use Rattle.sl_net.specs.Wired.{IsWired, receives}
use Rattle.sl_saves.specs.declared.entry.View.{View}
use Rattle.sl_saves.specs.Views.{IsShown, IsLive, held_saved, read}
use Rattle.sl_wire.specs.declared.message.Dump.{Dump as UnitDump}
use Rattle.sl_wire.specs.declared.message.Msg.{Msg}
use Rattle.sl_wire.specs.declared.message.Msg.TheVariants as wire
use Rattle.sl_wire.specs.Sizes.{Sizes, lengths}
use Rattle.sl_control.specs.declared.known.Known.{Known}
use Rattle.sl_machine.specs.Machine.{send_all as send_each}
use Rattle.sl_control.specs.Control.{ControlState, initiation, numbers_told, ask_by, ask_puts, dump_by, dump_puts, is_swept as is_swept_by, asked_all, control_take, control_act}
use Rattle.sl_control.specs.Wires.{control_wires, outs_of}
use Rattle.sl_model.specs.declared.message.Message.{Message}
use Rattle.sl_model.specs.declared.message.Message.TheVariants.{Notice as NoticeMsg, Dump as DumpMsg, Begin as BeginMsg}
use Rattle.sl_model.specs.declared.message.Put.{Put}
use Rattle.sl_model.specs.declared.message.Step.{Step}
use Rattle.sl_parts.specs.Lists.{Each, Member}
use Rattle.sl_parts.proofs.Lists.{each-of, each-at, each-imp, each-both-of}
use Rattle.sl_model.specs.History.{History, Losses, history, id, last, first}
use Rattle.sl_model.specs.Setup.{Setup}
use Rattle.sl_model.specs.Knowledge.{observer, upto_of, dumped, is_outstanding, is_again, is_swept}
use Rattle.sl_model.specs.Puts.{poll_puts, dump_answer, control_puts, puts_of, guarded, action}
use Rattle.sl_model.specs.World.{Entry, next_step, step_by, acting, turn, world, taking}
use Rattle.sl_model.specs.Fit.{fits_link}
use Rattle.sl_net.specs.Ways.{IsOut}
use Rattle.sl_model.specs.Calls.{calls}
use Rattle.sl_model.specs.Rows.{row}
use Rattle.sl_model.specs.Brought.{IsBrought}
use Rattle.sl_model.specs.Window.{IsInWindow}
use Rattle.sl_model.proofs.Worlds.Numbers.{falls-first}
use Rattle.sl_model.proofs.Worlds.Stamps.{id-falls}
use Rattle.sl_model.specs.Polls.{IsAsked}
use Rattle.sl_model.specs.Turns.{Takes, Acts, TakesTurns}
use Rattle.sl_simulation.specs.Messages.{HoldWindow, numbers_after, IsDumpOf, IsMessage, AreSent}
use Rattle.sl_simulation.specs.ControlImage.{known_of, IsControlOf, ControlSimulates, ControlActSimulates, told_at, GrowsBy, IsAwaited, Awaits}
use Rattle.sl_simulation.proofs.ObserverUnits.{past-end}
use Rattle.sl_simulation.proofs.ControlTells.{Unwraps, Raised, numbers-are, sent-each, flat-map, sent-inits}
use Rattle.sl_simulation.proofs.ControlSteps.{dump-from, is_heard, heard, begin-sort, notice-sort, Answers, each-unmap, units-are, same-units, served-at, begin-one, notice-one, notice-sent, sweep-one, sweep-sent, dump-one, answer-one}

-- the state that stands for these histories
abbrev pub control_at : Net → Sizes → (ℕ → History) → ℕ → ControlState
control_at net sizes us a = record { wires = control_wires net a sizes; units = map (known_of net us a) (served net a) }

pub is-at : (net : Net) (sizes : Sizes) (us : ℕ → History) (a : ℕ) (t : ControlState) → IsControlOf net sizes us a t → t ≡ control_at net sizes us a
is-at net sizes us a t s = let x = s.wires in let y = s.units in λ i. record { wires = x i; units = y i }

-- Takes.

pub take-begin : (net : Net) (sizes : Sizes) (us ws : ℕ → History) (a d k b : ℕ) (step : Step) → IsWired net → actor_of net a ≡ Control d → GrowsBy us ws a step → slice_get (links_into net a) step.choice ≡ Some k → (link_of net k).sort ≡ Begin
    → step.taken ≡ Some (BeginMsg b) → step.puts ≡ control_puts net a (us a) step.choice (BeginMsg b) → ControlSimulates net sizes us ws a step.puts (control_take (control_at net sizes us a) step.choice (wire.Begin b))
take-begin net sizes us ws a d k b step z q t i o e p = record {
  stands = record {
    wires = refl;
    units = same-units (known_of net us a) (known_of net ws a) (serving net a) (links_out net a Poll)
        (each-of (λ l. known_of net us a (serving net a l) ≡ known_of net ws a (serving net a l)) (links_out net a Poll) (λ l m. begin-one net us ws a d l k b step z q t m i o e p));
  };
  sent = let c : step.choice ≡ 0 = z.begin_first a step.choice k i o in
      subst (λ y. AreSent net sizes ws a (told_at net us a) step.puts (cond y (send_each (initiation sizes.bits sizes.version b) (outs_of net a Init)) [])) (sym (eq-eqb step.choice 0 c))
      (subst (λ ps. AreSent net sizes ws a (told_at net us a) ps (send_each (initiation sizes.bits sizes.version b) (outs_of net a Init))) (sym p) (sent-inits net sizes ws a (told_at net us a) b (links_out net a Init)));
}

pub take-notice : (net : Net) (sizes : Sizes) (us ws : ℕ → History) (a d k : ℕ) (step : Step) → IsWired net → actor_of net a ≡ Control d → GrowsBy us ws a step → Each (λ l. IsAsked (serving net a l) (us a)) (links_out net a Poll)
    → slice_get (links_into net a) step.choice ≡ Some k → (link_of net k).sort ≡ Notice → step.taken ≡ Some NoticeMsg → step.puts ≡ control_puts net a (us a) step.choice NoticeMsg
    → ControlSimulates net sizes us ws a step.puts (control_take (control_at net sizes us a) step.choice wire.Notice)
take-notice net sizes us ws a d k step z q t b i o e p = record {
  stands = record {
    wires = refl;
    units = units-are (ask_by (Some step.choice)) (known_of net us a) (known_of net ws a) (serving net a) (links_out net a Poll)
        (each-of (λ l. ask_by (Some step.choice) (known_of net us a (serving net a l)) ≡ known_of net ws a (serving net a l)) (links_out net a Poll)
        (λ l m. notice-one net us ws a d l k step z q t m (each-at (λ l. IsAsked (serving net a l) (us a)) l (links_out net a Poll) b m) i o e p));
  };
  sent = subst (λ ps. AreSent net sizes ws a (told_at net us a) ps (flat_map (ask_puts (Some step.choice)) (map (known_of net us a) (served net a)))) (sym p) (notice-sent net sizes us ws a step.choice (served net a));
}

pub take-dump : (net : Net) (sizes : Sizes) (us ws : ℕ → History) (a c n : ℕ) (step : Step) (d : UnitDump) → IsWired net → actor_of net a ≡ Control c → GrowsBy us ws a step → Each (λ l. IsAsked (serving net a l) (us a)) (links_out net a Poll)
    → ((l : ℕ) → Member l (links_out net a Poll) → step.choice ≡ (serving net a l).dump → Answers net sizes us a l n d) → step.taken ≡ Some (DumpMsg n) → step.puts ≡ control_puts net a (us a) step.choice (DumpMsg n)
    → ControlSimulates net sizes us ws a step.puts (control_take (control_at net sizes us a) step.choice (wire.Dump d))
take-dump net sizes us ws a c n step d z q t b f e p = record {
  stands = record {
    wires = refl;
    units = units-are (dump_by (lengths sizes) step.choice d) (known_of net us a) (known_of net ws a) (serving net a) (links_out net a Poll)
        (each-of (λ l. dump_by (lengths sizes) step.choice d (known_of net us a (serving net a l)) ≡ known_of net ws a (serving net a l)) (links_out net a Poll)
        (λ l m. dump-one net sizes us ws a c l n step d z q t m (each-at (λ l. IsAsked (serving net a l) (us a)) l (links_out net a Poll) b m) (f l m) e p));
  };
  sent = subst (λ ps. AreSent net sizes ws a (told_at net us a) ps (flat_map out (map (known_of net us a) (served net a)))) (sym (p ∙ flat-map answer (serving net a) (links_out net a Poll)))
      (subst (AreSent net sizes ws a (told_at net us a) (flat_map (λ l. answer (serving net a l)) (links_out net a Poll)))
      (sym (flat-map out (known_of net us a) (served net a) ∙ flat-map (λ v. out (known_of net us a v)) (serving net a) (links_out net a Poll)))
      (sent-each net sizes ws a (told_at net us a) (λ l. answer (serving net a l)) (λ l. out (known_of net us a (serving net a l))) (links_out net a Poll)
      (each-of (λ l. AreSent net sizes ws a (told_at net us a) (answer (serving net a l)) (out (known_of net us a (serving net a l)))) (links_out net a Poll)
      (λ l m. answer-one net sizes us ws a step.choice c l n step d z q t m (f l m)))));
}
  where
    answer : ServedUnit → List Put
    answer v = if step.choice == v.dump then dump_answer net a (us a) n v else []

    out : Known → List (ℕ × Msg)
    out r = dump_puts (lengths sizes) (control_wires net a sizes).done step.choice d r

-- The sweep.

swept-is : (net : Net) (us : ℕ → History) (a : ℕ) (vs : List ServedUnit) → is_swept_by (map (known_of net us a) vs) ≡ list_all (λ v. is_outstanding v (us a) && is_again (action_choice net a) v (us a)) vs
swept-is net us a [] = refl
swept-is net us a (v ∷ vs) = ap (λ b. (is_outstanding v (us a) && is_again (action_choice net a) v (us a)) && b) (swept-is net us a vs)

pub sweep-acts : (net : Net) (sizes : Sizes) (us ws : ℕ → History) (a d : ℕ) (step : Step) → IsWired net → actor_of net a ≡ Control d → GrowsBy us ws a step → Each (λ l. IsAsked (serving net a l) (us a)) (links_out net a Poll)
    → slice_get (links_into net a) step.choice ≡ None → step.choice ≡ action_choice net a → is_swept net a (us a) ≡ false → step.taken ≡ None → step.puts ≡ flat_map (λ v. poll_puts v (us a)) (served net a)
    → ControlActSimulates net sizes us ws a step.puts (control_act (control_at net sizes us a) step.choice)
sweep-acts net sizes us ws a d step z q t b i c n e p = record {
  after = asked_all None (control_at net sizes us a);
  is = let x = eq-eqb step.choice (action_choice net a) c in let y = swept-is net us a (served net a) ∙ n in λ j. cond (x j && not (y j)) (Some (asked_all None (control_at net sizes us a))) None;
  simulates = record {
    stands = record {
      wires = refl;
      units = units-are (ask_by None) (known_of net us a) (known_of net ws a) (serving net a) (links_out net a Poll)
          (each-of (λ l. ask_by None (known_of net us a (serving net a l)) ≡ known_of net ws a (serving net a l)) (links_out net a Poll)
          (λ l m. sweep-one net us ws a d l step z q t m (each-at (λ l. IsAsked (serving net a l) (us a)) l (links_out net a Poll) b m) i c e p));
    };
    sent = subst (λ ps. AreSent net sizes ws a (told_at net us a) ps (flat_map (ask_puts None) (map (known_of net us a) (served net a)))) (sym p) (sweep-sent net sizes us ws a (served net a));
  };
}

-- From any state.

-- that the rows of a dump can be read, and what is read
abbrev pub AreLive : Type 0
AreLive = (net : Net) (window u : ℕ) (h : History) (m n credits : ℕ) (cs : List ℕ) (view : View) (k : ℕ) → IsBrought net window u h m n → IsShown credits view (calls cs (first n h)) → window ≤ length view.slots
    → upto_of net u (first m h) < k → k ≤ upto_of net u (first n h) → IsLive view (id (first n h)) k

abbrev pub AreRead : Type 0
AreRead = (net : Net) (window u : ℕ) (h : History) (m n credits : ℕ) (cs : List ℕ) (view : View) (k : ℕ) → IsBrought net window u h m n → 1 ≤ credits → IsShown credits view (calls cs (first n h)) → window ≤ length view.slots
    → upto_of net u (first m h) < k → k ≤ upto_of net u (first n h) → read view (id (first n h)) k ≡ held_saved (row credits cs k (first n h))

-- what is known and what a dump brings
pub raised-by : (net : Net) (window : ℕ) (sizes : Sizes) (u : ℕ) (h : History) (m n : ℕ) → HoldWindow window sizes → IsBrought net window u h m n → Raised net sizes.bits u (first m h) (first n h)
raised-by net window sizes u h m n p b = record { window = window; apart = p.apart; id = b.id_raised; lasts = b.lasts_raised; inits = b.inits_raised }

-- what laws say of what a dump brings
pub record Facts : Type 0 where
  pub live : AreLive
  pub reads : AreRead
  pub unwraps : Unwraps
  pub below : (c : ℕ) (h : History) → last c h ≤ id h

module _ (facts : Facts) (net : Net) (sizes : Sizes) (window a d : ℕ) (us ws : ℕ → History) (z : IsWired net) (q : actor_of net a ≡ Control d) (p : HoldWindow window sizes) (some : 1 ≤ sizes.credits)
    (asked : Each (λ v. IsAsked v (us a)) (served net a)) where
  asked-by : Each (λ l. IsAsked (serving net a l) (us a)) (links_out net a Poll)
  asked-by = each-unmap (λ v. IsAsked v (us a)) (serving net a) (links_out net a Poll) asked

  -- the dump of a unit that it takes
  answers : (c k n l : ℕ) (x : UnitDump) → slice_get (links_into net a) c ≡ Some k → IsDumpOf net sizes (link_of net k).from (first n (us (link_of net k).from)) x → Awaits net sizes window us a c (DumpMsg n)
      → Member l (links_out net a Poll) → c ≡ (serving net a l).dump → Answers net sizes us a l n x
  answers c k n l x g of awaits m e = let v = served-at net a l z m in record {
    tells = record {
      dump = is;
      few = z.few_channels u v.unit v.is_unit;
      one = z.one_init u v.unit v.is_unit;
      unwraps = facts.unwraps;
      raised = raised-by net window sizes u (us u) (dumped (serving net a l).dump (us a)) n p brought;
      small = λ c. facts.below c (first (dumped (serving net a l).dump (us a)) (us u));
      room = here.room;
      rises = brought.rises;
      near = λ j q. let y = brought.near j q in let o = p.room in omega (arith, y, o);
      live = λ j q r. facts.live net window u (us u) (dumped (serving net a l).dump (us a)) n sizes.credits (data_channels net u) x.view j brought is.shown size q r;
      reads = λ j q r. facts.reads net window u (us u) (dumped (serving net a l).dump (us a)) n sizes.credits (data_channels net u) x.view j brought some is.shown size q r;
    };
    waits = here.waits;
  }
    where
      u : ℕ
      u = (link_of net l).to

      here : IsAwaited net sizes window us a n (serving net a l)
      here = each-at (λ l. c ≡ (serving net a l).dump → IsAwaited net sizes window us a n (serving net a l)) l (links_out net a Poll)
          (each-unmap (λ v. c ≡ v.dump → IsAwaited net sizes window us a n v) (serving net a) (links_out net a Poll) awaits) m e

      brought : IsBrought net window u (us u) (dumped (serving net a l).dump (us a)) n
      brought = here.brought

      out : IsOut net u Dump k
      out = dump-from net a l c k (served-at net a l z m) g e

      is : IsDumpOf net sizes u (first n (us u)) x
      is = subst (λ b. IsDumpOf net sizes b (first n (us b)) x) out.from of

      size : window ≤ length x.view.slots
      size = let y = is.size in let o = p.room in omega (arith, y, o)

  heard-here : (c k : ℕ) (m : Message) → slice_get (links_into net a) c ≡ Some k → fits_link net k m ≡ true → is_heard m ≡ true
  heard-here c k m i f = let x = z.ways.into a c k i in
      heard d (link_of net k).sort m (subst (λ y. receives y (link_of net k).sort ≡ true) (ap (actor_of net) x.to ∙ q) (z.receiver k x.is_link)) f

  takes-one : (c k : ℕ) (m : Message) (told : ℕ → ℕ) (x : Msg) → slice_get (links_into net a) c ≡ Some k → fits_link net k m ≡ true → is_heard m ≡ true → Awaits net sizes window us a c m
      → GrowsBy us ws a (taking c m (control_puts net a (us a) c m)) → IsMessage net sizes us (link_of net k).from told m x
      → ControlSimulates net sizes us ws a (control_puts net a (us a) c m) (control_take (control_at net sizes us a) c x)
  takes-one c k (BeginMsg b) told x g f y awaits grows is =
      subst (λ x. ControlSimulates net sizes us ws a (control_puts net a (us a) c (BeginMsg b)) (control_take (control_at net sizes us a) c x)) (sym is)
      (take-begin net sizes us ws a d k b (taking c (BeginMsg b) (control_puts net a (us a) c (BeginMsg b))) z q grows g (begin-sort (link_of net k).sort b f) refl refl)
  takes-one c k NoticeMsg told x g f y awaits grows is =
      subst (λ x. ControlSimulates net sizes us ws a (control_puts net a (us a) c NoticeMsg) (control_take (control_at net sizes us a) c x)) (sym is)
      (take-notice net sizes us ws a d k (taking c NoticeMsg (control_puts net a (us a) c NoticeMsg)) z q grows asked-by g (notice-sort (link_of net k).sort f) refl refl)
  takes-one c k (DumpMsg n) told x g f y awaits grows is =
      subst (λ x. ControlSimulates net sizes us ws a (control_puts net a (us a) c (DumpMsg n)) (control_take (control_at net sizes us a) c x)) (sym is.is)
      (take-dump net sizes us ws a d n (taking c (DumpMsg n) (control_puts net a (us a) c (DumpMsg n))) is.dump z q grows asked-by
      (λ l m e. answers c k n l is.dump g is.of awaits m e) refl refl)
  takes-one c k _ told x g f y awaits grows is = absurd cc

  pub takes-anywhere : (c k : ℕ) (m : Message) (told : ℕ → ℕ) (x : Msg) (t : ControlState) → slice_get (links_into net a) c ≡ Some k → fits_link net k m ≡ true → Awaits net sizes window us a c m
      → GrowsBy us ws a (taking c m (control_puts net a (us a) c m)) → IsMessage net sizes us (link_of net k).from told m x → IsControlOf net sizes us a t
      → ControlSimulates net sizes us ws a (control_puts net a (us a) c m) (control_take t c x)
  takes-anywhere c k m told x t g f awaits grows is r = subst (λ t. ControlSimulates net sizes us ws a (control_puts net a (us a) c m) (control_take t c x)) (sym (is-at net sizes us a t r))
      (takes-one c k m told x g f (heard-here c k m g f) awaits grows is)

pub sweeps-anywhere : (net : Net) (sizes : Sizes) (a d : ℕ) (us ws : ℕ → History) (t : ControlState) → IsWired net → actor_of net a ≡ Control d → Each (λ v. IsAsked v (us a)) (served net a) → is_swept net a (us a) ≡ false
    → GrowsBy us ws a (acting (action_choice net a) (flat_map (λ v. poll_puts v (us a)) (served net a))) → IsControlOf net sizes us a t
    → ControlActSimulates net sizes us ws a (flat_map (λ v. poll_puts v (us a)) (served net a)) (control_act t (action_choice net a))
sweeps-anywhere net sizes a d us ws t z q asked n grows r = let ps = flat_map (λ v. poll_puts v (us a)) (served net a) in
    subst (λ t. ControlActSimulates net sizes us ws a ps (control_act t (action_choice net a))) (sym (is-at net sizes us a t r))
    (sweep-acts net sizes us ws a d (acting (action_choice net a) ps) z q grows (each-unmap (λ v. IsAsked v (us a)) (serving net a) (links_out net a Poll) asked)
    (slice_get_past (links_into net a) (length (links_into net a)) (omega arith)) refl n refl refl)

-- In a world.

-- what the laws of worlds say of control planes
pub record Given (s : Setup) : Type 0 where
  pub turns : TakesTurns
  pub asked : (lost : Losses) (es : List Entry) (a d : ℕ) → actor_of s.net a ≡ Control d → Each (λ v. IsAsked v (history (world s lost es) a)) (served s.net a)
  pub awaited : (lost : Losses) (es : List Entry) (e : Entry) (step : Step) → next_step s lost (world s lost es) e ≡ Some step
      → Each (λ v. step.choice ≡ v.dump → is_outstanding v (history (world s lost es) e.0) ≡ true) (served s.net e.0)
  pub brought : (lost : Losses) (es : List Entry) (e : Entry) (n : ℕ) (step : Step) → next_step s lost (world s lost es) e ≡ Some step → step.taken ≡ Some (DumpMsg n)
      → Each (λ v. step.choice ≡ v.dump → IsBrought s.net s.window v.unit (history (world s lost es) v.unit) (dumped v.dump (history (world s lost es) e.0)) n) (served s.net e.0)
  pub windows : (lost : Losses) (es : List Entry) → IsInWindow s lost (world s lost es)
  pub facts : Facts

-- ids are small: they are at most K, which is no more than there are entries
id-room : (s : Setup) (lost : Losses) (es : List Entry) (u m : ℕ) (sizes : Sizes) → Given s → HoldWindow s.window sizes → length es < 2 ^ 40 → id (first m (history (world s lost es) u)) + modulus sizes.bits < 2 ^ 64
id-room s lost es u m sizes given p small =
    let a = falls-first id m (history (world s lost es) u) (id-falls (history (world s lost es) u)) in
    let b = (given.windows lost es).ids u in
    let c = given.turns.at_most (action_choice s.net 0) (observer (world s lost es)) in
    let d = given.turns.few s lost es 0 in
    let e : modulus sizes.bits ≤ modulus most_bits = pow_mono p.few_bits in
    let f : modulus most_bits ≤ 2 ^ 16 = omega arith in
    omega (arith, a, b, c, d, e, f, small)

-- a dump that comes answers a poll, and brings what lies within the window
awaits-at : (s : Setup) (lost : Losses) (es : List Entry) (e : Entry) (sizes : Sizes) (step : Step) → Given s → HoldWindow s.window sizes → length es < 2 ^ 40 → next_step s lost (world s lost es) e ≡ Some step
    → (m : Message) → step.taken ≡ Some m → Awaits s.net sizes s.window (history (world s lost es)) e.0 step.choice m
awaits-at s lost es e sizes step given p small x (DumpMsg n) t = let us = history (world s lost es) in
    each-both-of (λ v. step.choice ≡ v.dump → is_outstanding v (us e.0) ≡ true) (λ v. step.choice ≡ v.dump → IsBrought s.net s.window v.unit (us v.unit) (dumped v.dump (us e.0)) n)
    (λ v. step.choice ≡ v.dump → IsAwaited s.net sizes s.window us e.0 n v) (served s.net e.0)
    (λ v waits brought q. record { waits = waits q; brought = brought q; room = id-room s lost es v.unit (dumped v.dump (us e.0)) sizes given p small })
    (given.awaited lost es e step x) (given.brought lost es e n step x t)
awaits-at s lost es e sizes step given p small x _ t = tt

module _ (s : Setup) (lost : Losses) (es : List Entry) (e : Entry) (d : ℕ) (sizes : Sizes) (step : Step) where
  -- before the entry and after it
  abbrev us : ℕ → History
  us = history (world s lost es)

  abbrev ws : ℕ → History
  ws = history (turn s lost (world s lost es) e)

  pub takes-message : (m : Message) (told : ℕ → ℕ) (x : Msg) (t : ControlState) → Given s → IsWired s.net → actor_of s.net e.0 ≡ Control d → HoldWindow s.window sizes → 1 ≤ sizes.credits → length es < 2 ^ 40
      → next_step s lost (world s lost es) e ≡ Some step → step.taken ≡ Some m → IsMessage s.net sizes (history (world s lost es)) (link_of s.net (link_at s.net e.0 e.1)).from told m x → IsControlOf s.net sizes (history (world s lost es)) e.0 t
      → ControlSimulates s.net sizes (history (world s lost es)) (history (turn s lost (world s lost es) e)) e.0 step.puts (control_take t e.1 x)
  takes-message m told x t given z q p some small n k is r = by_view (given.turns.view s lost (world s lost es) e step n)
    where
      c : step.choice ≡ e.1
      c = given.turns.choice s lost (world s lost es) e step n

      by_view : Takes s lost (world s lost es) e.0 step ⊎ Acts s (world s lost es) e.0 step → ControlSimulates s.net sizes us ws e.0 step.puts (control_take t e.1 x)
      by_view (inr y) = absurd (let o : None ≡ Some m = sym y.acted.taken ∙ k in cc)
      by_view (inl y) = let same : y.took.message ≡ m = of_message (sym y.took.taken ∙ k) in
          let at : link_at s.net e.0 e.1 ≡ y.took.link = get_or_from_slice_get (links_into s.net e.0) e.1 y.took.link 0 (ap (slice_get (links_into s.net e.0)) (sym c) ∙ y.took.into) in
          let f : fits_link s.net y.took.link m ≡ true = ap (fits_link s.net y.took.link) (sym same) ∙ given.turns.fits s lost (world s lost es) e.0 step (given.turns.fifo_run s lost es) y in
          let puts : step.puts ≡ control_puts s.net e.0 (us e.0) step.choice m = y.took.puts ∙ ap (λ x. puts_of s e.0 x (us e.0) step.choice y.took.link y.took.message) q ∙ ap (control_puts s.net e.0 (us e.0) step.choice) same in
          let whole : step ≡ taking step.choice m (control_puts s.net e.0 (us e.0) step.choice m) = λ i. record { choice = step.choice; taken = k i; puts = puts i } in
          let g = given.turns.grows s lost es e step n in
          subst (λ b. ControlSimulates s.net sizes us ws e.0 step.puts (control_take t b x)) c
          (subst (λ ps. ControlSimulates s.net sizes us ws e.0 ps (control_take t step.choice x)) (sym puts)
          (takes-anywhere given.facts s.net sizes s.window e.0 d us ws z q p some (given.asked lost es e.0 d q) step.choice y.took.link m told x t y.took.into f
          (awaits-at s lost es e sizes step given p small n m k) (record { same = g.same ∙ ap (λ o. o ∷ us e.0) whole; other = g.other })
          (subst (λ l. IsMessage s.net sizes us (link_of s.net l).from told m x) at is) r))
        where
          of_message : {x y : Message} → Some x ≡ Some y → x ≡ y
          of_message e = cc

  -- Actions.

  pub acts : (t : ControlState) → TakesTurns → Each (λ v. IsAsked v (history (world s lost es) e.0)) (served s.net e.0) → IsWired s.net → actor_of s.net e.0 ≡ Control d
      → next_step s lost (world s lost es) e ≡ Some step → step.taken ≡ None → IsControlOf s.net sizes (history (world s lost es)) e.0 t
      → ControlActSimulates s.net sizes (history (world s lost es)) (history (turn s lost (world s lost es) e)) e.0 step.puts (control_act t e.1)
  acts t turns asked z q n k r = by_view (turns.view s lost (world s lost es) e step n)
    where
      c : step.choice ≡ e.1
      c = turns.choice s lost (world s lost es) e step n

      by_view : Takes s lost (world s lost es) e.0 step ⊎ Acts s (world s lost es) e.0 step → ControlActSimulates s.net sizes us ws e.0 step.puts (control_act t e.1)
      by_view (inl y) = absurd (let o : None ≡ Some y.took.message = sym k ∙ y.took.taken in cc)
      by_view (inr y) = of_choice (step.choice - action_choice s.net e.0) refl (subst (λ x. action s y.acted.floor e.0 x (us e.0) (step.choice - action_choice s.net e.0) ≡ Some step.puts) q y.acted.puts)
        where
          of_guard : step.choice ≡ action_choice s.net e.0 → (b : Bool) → is_swept s.net e.0 (us e.0) ≡ b → guarded (not b) (flat_map (λ v. poll_puts v (us e.0)) (served s.net e.0)) ≡ Some step.puts → ControlActSimulates s.net sizes us ws e.0 step.puts (control_act t e.1)
          of_guard at true g h = absurd cc
          of_guard at false g0 h = let p : flat_map (λ v. poll_puts v (us e.0)) (served s.net e.0) ≡ step.puts = cc in
              let whole : step ≡ acting (action_choice s.net e.0) (flat_map (λ v. poll_puts v (us e.0)) (served s.net e.0)) = λ i. record { choice = at i; taken = k i; puts = sym p i } in
              let g = turns.grows s lost es e step n in
              subst (λ ps. ControlActSimulates s.net sizes us ws e.0 ps (control_act t e.1)) p
              (subst (λ b. ControlActSimulates s.net sizes us ws e.0 (flat_map (λ v. poll_puts v (us e.0)) (served s.net e.0)) (control_act t b)) (sym at ∙ c)
              (sweeps-anywhere s.net sizes e.0 d us ws t z q asked g0 (record { same = g.same ∙ ap (λ o. o ∷ us e.0) whole; other = g.other }) r))

          of_choice : (j : ℕ) → step.choice - action_choice s.net e.0 ≡ j → action s y.acted.floor e.0 (Control d) (us e.0) j ≡ Some step.puts → ControlActSimulates s.net sizes us ws e.0 step.puts (control_act t e.1)
          of_choice zero j h = let l : action_choice s.net e.0 ≤ step.choice = past-end (links_into s.net e.0) step.choice y.acted.past in of_guard (omega (arith, j, l)) (is_swept s.net e.0 (us e.0)) refl h
          of_choice (suc i) j h = absurd cc

is-there : (net : Net) (a d : ℕ) → actor_of net a ≡ Control d → slice_get net.actors a ≡ Some (Control d)
is-there net a d q = by_cases (cases_lt a (length net.actors))
  where
    by_cases : (a < length net.actors) ⊎ (length net.actors ≤ a) → slice_get net.actors a ≡ Some (Control d)
    by_cases (inl h) = slice_get-get_or net.actors a nobody h ∙ ap Some q
    by_cases (inr h) = absurd (let x : actor_of net a ≡ nobody = get_or_past net.actors a nobody h in let y : nobody ≡ Control d = sym x ∙ q in cc)

pub idles : (s : Setup) (lost : Losses) (es : List Entry) (e : Entry) (d : ℕ) (sizes : Sizes) (t : ControlState) → actor_of s.net e.0 ≡ Control d
    → next_step s lost (world s lost es) e ≡ None → IsControlOf s.net sizes (history (world s lost es)) e.0 t → control_act t e.1 ≡ None
idles s lost es e d sizes t q n r = ap (λ t. control_act t e.1) (is-at s.net sizes us e.0 t r) ∙ by_test (eqb_tells e.1 (action_choice s.net e.0))
  where
    us : ℕ → History
    us = history (world s lost es)

    ps : List Put
    ps = flat_map (λ v. poll_puts v (us e.0)) (served s.net e.0)

    by_guard : e.1 ≡ action_choice s.net e.0 → (b : Bool) → is_swept s.net e.0 (us e.0) ≡ b → control_act (control_at s.net sizes us e.0) e.1 ≡ None
    by_guard c true g = let x = eq-eqb e.1 (action_choice s.net e.0) c in let y = swept-is s.net us e.0 (served s.net e.0) ∙ g in λ j. cond (x j && not (y j)) (Some (asked_all None (control_at s.net sizes us e.0))) None
    by_guard c false g = absurd (let z : e.1 - action_choice s.net e.0 ≡ 0 = omega (arith, c) in
        let x : next_step s lost (world s lost es) e ≡ Some (acting e.1 ps) =
        ap (option_and_then (step_by s lost (world s lost es) e.0 e.1 (slice_get (links_into s.net e.0) e.1))) (is-there s.net e.0 d q)
        ∙ ap (λ o. step_by s lost (world s lost es) e.0 e.1 o (Control d)) (ap (slice_get (links_into s.net e.0)) c ∙ slice_get_past (links_into s.net e.0) (length (links_into s.net e.0)) (omega arith))
        ∙ ap (λ j. option_map (acting e.1) (action s 0 e.0 (Control d) (us e.0) j)) z
        ∙ ap (λ b. option_map (acting e.1) (guarded (not b) ps)) g in
        let y : None ≡ Some (acting e.1 ps) = sym n ∙ x in cc)

    by_test : ((nat_eq e.1 (action_choice s.net e.0) ≡ true) × (e.1 ≡ action_choice s.net e.0)) ⊎ ((nat_eq e.1 (action_choice s.net e.0) ≡ false) × (e.1 ≡ action_choice s.net e.0 → ⊥)) → control_act (control_at s.net sizes us e.0) e.1 ≡ None
    by_test (inl c) = by_guard c.1 (is_swept s.net e.0 (us e.0)) refl
    by_test (inr c) = ap (λ b. cond (b && not (is_swept_by (control_at s.net sizes us e.0).units)) (Some (asked_all None (control_at s.net sizes us e.0))) None) c.0

-- What dumps tell.

pub dumps-unwrapped : Unwraps → (s : Setup) (lost : Losses) (es : List Entry) (e : Entry) (n : ℕ) (sizes : Sizes) (step : Step) (d : UnitDump) → HoldWindow s.window sizes
    → Each (λ v. step.choice ≡ v.dump → IsBrought s.net s.window v.unit (history (world s lost es) v.unit) (dumped v.dump (history (world s lost es) e.0)) n) (served s.net e.0)
    → Each (λ v. step.choice ≡ v.dump → IsDumpOf s.net sizes v.unit (first n (history (world s lost es) v.unit)) d
    → numbers_told sizes.bits d (known_of s.net (history (world s lost es)) e.0 v) ≡ numbers_after s.net v.unit (first n (history (world s lost es) v.unit))) (served s.net e.0)
dumps-unwrapped u s lost es e n sizes step d p brought = let us = history (world s lost es) in
    each-imp (λ v. step.choice ≡ v.dump → IsBrought s.net s.window v.unit (us v.unit) (dumped v.dump (us e.0)) n)
    (λ v. step.choice ≡ v.dump → IsDumpOf s.net sizes v.unit (first n (us v.unit)) d → numbers_told sizes.bits d (known_of s.net us e.0 v) ≡ numbers_after s.net v.unit (first n (us v.unit))) (served s.net e.0)
    (λ v b q o. numbers-are s.net sizes v (first (dumped v.dump (us e.0)) (us v.unit)) (first n (us v.unit)) d (is_outstanding v (us e.0)) (is_again (action_choice s.net e.0) v (us e.0)) u o
    (raised-by s.net s.window sizes v.unit (us v.unit) (dumped v.dump (us e.0)) n p (b q))) brought
