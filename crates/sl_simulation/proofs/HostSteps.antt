-- The steps of hosts, by their machines.
use Rattle.std.proofs.Common.{◌≡◌, ◌≢◌, ℕ, zero, suc, ◌-◌, ◌<◌, ◌≤◌, ◌^◌, List, [], ◌∷◌, length, refl, sym, ap, subst, ◌∙◌, Option, Some, None, arith, inl, inr}
use Rattle.std.specs.Prelude.{◌⊎◌, true, false, ◌==◌, if◌then◌else◌, is_some, slice_get, option_map, option_and_then}
use Rattle.std.proofs.lemmas.Option.{slice_get_within, slice_get_past}
use Rattle.sl_machine.specs.Machine.{After}
use Rattle.sl_layout.specs.declared.actor.ActorId.TheVariants.{Host as OfHost}
use Rattle.sl_layout.specs.declared.actor.Sort.{Sort}
use Rattle.sl_layout.specs.declared.actor.Sort.TheVariants.{FromHost, ToHost}
use Rattle.sl_layout.specs.Net.{actor_of, action_choice, link_of, links_into, links_out}
use Rattle.sl_net.specs.Wired.{IsWired, receives, HostLinks}
use Rattle.sl_net.specs.Ways.{IsInto}
use Rattle.sl_wire.specs.declared.message.Msg.{Msg}
use Rattle.sl_wire.specs.declared.message.Msg.TheVariants.{Frame, Wire}
use Rattle.sl_wire.specs.Carried.{bytes_on, carrying}
use Rattle.sl_wire.specs.Sizes.{Sizes}
use Rattle.sl_machine.specs.Counting.{one_more}
use Rattle.sl_host.specs.Host.{HostState, counted, host_take, host_act, sending}
use Rattle.sl_model.specs.declared.message.Message.{Message}
use Rattle.sl_model.specs.declared.message.Message.TheVariants.{Host as HostMsg}
use Rattle.sl_model.specs.declared.message.Step.{Step}
use Rattle.sl_model.specs.Fit.{fits, fits_link}
use Rattle.sl_model.specs.History.{World, Losses, history, taken}
use Rattle.sl_model.specs.Made.{IsFifoRun}
use Rattle.sl_model.specs.Puts.{send_all, action, puts_of}
use Rattle.sl_model.specs.Setup.{Setup, frames_of}
use Rattle.sl_model.specs.World.{Entry, next_step, step_by, acting, turn, world}
use Rattle.sl_model.specs.Turns.{Takes, Acts, TakesTurns}
use Rattle.sl_simulation.specs.HostImage.{host_of, IsHostOf}
use Rattle.sl_simulation.specs.Simulates.{Simulates, ActSimulates}
use Rattle.sl_simulation.specs.Messages.{IsMessage, AreSent}
use Rattle.sl_simulation.proofs.ObserverUnits.{past-end}

-- Another actor's turn.

pub host-stays : TakesTurns → (s : Setup) (lost : Losses) (w : World) (a i : ℕ) (e : Entry) → e.0 ≢ a → host_of s a i (history (turn s lost w e) a) ≡ host_of s a i (history w a)
host-stays turns s lost w a i e ne = ap (host_of s a i) (turns.others s lost w e a (λ q. ne (sym q)))

-- What comes to a host is a frame.

to-host : (i : ℕ) (t : Sort) → receives (OfHost i) t ≡ true → t ≡ ToHost
to-host i ToHost q = refl
to-host i _ q = absurd cc

frame-fits : (m : Message) → fits ToHost m ≡ true → (b : List ℕ) × (m ≡ HostMsg b)
frame-fits (HostMsg b) q = (b, refl)
frame-fits _ q = absurd cc

comes-frame : TakesTurns → (s : Setup) (lost : Losses) (w : World) (a i : ℕ) (step : Step) → IsWired s.net → IsFifoRun s lost w → actor_of s.net a ≡ OfHost i → (t : Takes s lost w a step) → (b : List ℕ) × (t.took.message ≡ HostMsg b)
comes-frame turns s lost w a i step z r q t = frame-fits t.took.message (ap (λ k. fits k t.took.message) (sym sort) ∙ fit)
  where
    into : IsInto s.net a t.took.link
    into = z.ways.into a step.choice t.took.link t.took.into

    sort : (link_of s.net t.took.link).sort ≡ ToHost
    sort = to-host i (link_of s.net t.took.link).sort (ap (λ x. receives x (link_of s.net t.took.link).sort) (sym (ap (actor_of s.net) into.to ∙ q)) ∙ z.receiver t.took.link into.is_link)

    fit : fits_link s.net t.took.link t.took.message ≡ true
    fit = turns.fits s lost w a step r t

counts-bytes : (h : HostState) (link : ℕ) (b : List ℕ) → host_take h link (carrying b) ≡ record { state = counted h; puts = [] }
counts-bytes h link b = ap (λ y. record { state = if y then counted h else h; puts = [] })
    (elim (length b == 24) as (λ e. is_some (bytes_on (if e then Frame (record { bytes = b }) else Wire b)) ≡ true) [ true ↦ refl | false ↦ refl ])

module _ (turns : TakesTurns) (s : Setup) (lost : Losses) (es : List Entry) (a c i : ℕ) (sizes : Sizes) (told : ℕ → ℕ) (step : Step) (z : IsWired s.net) (q : actor_of s.net a ≡ OfHost i) (k : HostLinks s.net a) (x : next_step s lost (world s lost es) (a, c) ≡ Some step) where
  abbrev SimulatesIt : After HostState Msg → Type 0
  SimulatesIt y = Simulates (IsHostOf s a i (turn s lost (world s lost es) (a, c))) s.net sizes (λ u. history (turn s lost (world s lost es) (a, c)) u) a told step.puts y

  takes-frame : (b : List ℕ) → step.choice ≡ 0 → step.puts ≡ [] → length es < 2 ^ 40 → SimulatesIt (host_take (host_of s a i (history (world s lost es) a)) c (carrying b))
  takes-frame b e ps l =
      let w = world s lost es in let h = history w a in let g = turns.grows s lost es (a, c) step x in
      let n = turns.at_most 0 h in let m = turns.few s lost es a in let one = k.one_in in
      let sent : taken (action_choice s.net a) h ≡ taken (action_choice s.net a) (history (turn s lost w (a, c)) a) = sym (ap (taken (action_choice s.net a)) g.same ∙ turns.uncounted (action_choice s.net a) step h (λ p. absurd (omega (arith, p, e, one)))) in
      let more : one_more (taken 0 h) ≡ suc (taken 0 h) = omega (arith, n, m, l) in
      let delivered : one_more (taken 0 h) ≡ taken 0 (history (turn s lost w (a, c)) a) = more ∙ sym (ap (taken 0) g.same ∙ turns.counted 0 step h e) in
      subst SimulatesIt (sym (counts-bytes (host_of s a i h) c b)) (record {
        stands = λ j. record { messages = frames_of s i; sent = sent j; delivered = delivered j };
        sent = subst (λ ps. AreSent s.net sizes (λ u. history (turn s lost w (a, c)) u) a told ps []) (sym ps) tt;
      })

  pub host-takes : (b : ℕ) (before : ℕ → ℕ) (m : Message) (y : Msg) → step.taken ≡ Some m → length es < 2 ^ 40 → IsMessage s.net sizes (λ u. history (world s lost es) u) b before m y
      → SimulatesIt (host_take (host_of s a i (history (world s lost es) a)) c y)
  host-takes b before m y e l is = by_view (turns.view s lost (world s lost es) (a, c) step x)
    where
      by_view : Takes s lost (world s lost es) a step ⊎ Acts s (world s lost es) a step → SimulatesIt (host_take (host_of s a i (history (world s lost es) a)) c y)
      by_view (inl t) =
          let f = comes-frame turns s lost (world s lost es) a i step z (turns.fifo_run s lost es) q t in
          let same : m ≡ HostMsg f.0 = (let u : Some m ≡ Some t.took.message = sym e ∙ t.took.taken in let v : m ≡ t.took.message = cc in v ∙ f.1) in
          let frame : y ≡ carrying f.0 = subst (λ m. IsMessage s.net sizes (λ u. history (world s lost es) u) b before m y) same is in
          let low = slice_get_within (links_into s.net a) step.choice t.took.link t.took.into in let one = k.one_in in
          subst (λ y. SimulatesIt (host_take (host_of s a i (history (world s lost es) a)) c y)) (sym frame)
          (takes-frame f.0 (omega (arith, low, one)) (t.took.puts ∙ ap (λ y. puts_of s a y (history (world s lost es) a) step.choice t.took.link t.took.message) q) l)
      by_view (inr t) = absurd (let u : None ≡ Some m = sym t.acted.taken ∙ e in cc)

  -- the frame that a host injects
  record Injects : Type 0 where
    pub bytes : List ℕ
    pub found : slice_get (frames_of s i) (taken (action_choice s.net a) (history (world s lost es) a)) ≡ Some bytes
    pub puts : step.puts ≡ send_all (HostMsg bytes) (links_out s.net a FromHost)
    pub choice : step.choice - action_choice s.net a ≡ 0

  injects : (fl : ℕ) (n : ℕ) → step.choice - action_choice s.net a ≡ n → action s fl a (OfHost i) (history (world s lost es) a) n ≡ Some step.puts → Injects
  injects fl zero d p = by_frame (slice_get (frames_of s i) (taken (action_choice s.net a) (history (world s lost es) a))) refl p
    where
      by_frame : (o : Option (List ℕ)) → slice_get (frames_of s i) (taken (action_choice s.net a) (history (world s lost es) a)) ≡ o
          → option_map (λ bytes. send_all (HostMsg bytes) (links_out s.net a FromHost)) o ≡ Some step.puts → Injects
      by_frame None f p = absurd cc
      by_frame (Some bytes) f p = record { bytes = bytes; found = f; puts = (let y : send_all (HostMsg bytes) (links_out s.net a FromHost) ≡ step.puts = cc in sym y); choice = d }
  injects fl (suc n) d p = absurd cc

  pub host-acts : step.taken ≡ None → ActSimulates (IsHostOf s a i (turn s lost (world s lost es) (a, c))) s.net sizes (λ u. history (turn s lost (world s lost es) (a, c)) u) a told step.puts (host_act (host_of s a i (history (world s lost es) a)) c)
  host-acts e = by_view (turns.view s lost (world s lost es) (a, c) step x)
    where
      of_frame : length (links_into s.net a) ≤ step.choice → Injects
          → ActSimulates (IsHostOf s a i (turn s lost (world s lost es) (a, c))) s.net sizes (λ u. history (turn s lost (world s lost es) (a, c)) u) a told step.puts (host_act (host_of s a i (history (world s lost es) a)) c)
      of_frame p f =
          let w = world s lost es in let h = history w a in let g = turns.grows s lost es (a, c) step x in let d = f.choice in let one = k.one_in in
          let here : step.choice ≡ action_choice s.net a = omega (arith, p, d) in
          let sent : suc (taken (action_choice s.net a) h) ≡ taken (action_choice s.net a) (history (turn s lost w (a, c)) a) = sym (ap (taken (action_choice s.net a)) g.same ∙ turns.counted (action_choice s.net a) step h here) in
          let delivered : taken 0 h ≡ taken 0 (history (turn s lost w (a, c)) a) = sym (ap (taken 0) g.same ∙ turns.uncounted 0 step h (λ r. absurd (omega (arith, r, here, one)))) in
          record {
            after = sending (host_of s a i h) f.bytes;
            is = ap (option_map (sending (host_of s a i h))) f.found;
            simulates = record {
              stands = λ j. record { messages = frames_of s i; sent = sent j; delivered = delivered j };
              sent = subst (λ ps. AreSent s.net sizes (λ u. history (turn s lost w (a, c)) u) a told ps ((0, carrying f.bytes) ∷ [])) (sym (f.puts ∙ ap (send_all (HostMsg f.bytes)) k.puts_on)) ((sym k.is_out, refl), tt);
            };
          }

      by_view : Takes s lost (world s lost es) a step ⊎ Acts s (world s lost es) a step
          → ActSimulates (IsHostOf s a i (turn s lost (world s lost es) (a, c))) s.net sizes (λ u. history (turn s lost (world s lost es) (a, c)) u) a told step.puts (host_act (host_of s a i (history (world s lost es) a)) c)
      by_view (inl t) = absurd (let u : None ≡ Some t.took.message = sym e ∙ t.took.taken in cc)
      by_view (inr t) = of_frame (past-end (links_into s.net a) step.choice t.acted.past)
          (injects t.acted.floor (step.choice - action_choice s.net a) refl (subst (λ y. action s t.acted.floor a y (history (world s lost es) a) (step.choice - action_choice s.net a) ≡ Some step.puts) q t.acted.puts))

-- Where nothing is left to inject.

pub host-idle : (s : Setup) (lost : Losses) (w : World) (a i : ℕ) → slice_get s.net.actors a ≡ Some (OfHost i) → next_step s lost w (a, action_choice s.net a) ≡ None → host_act (host_of s a i (history w a)) (action_choice s.net a) ≡ None
host-idle s lost w a i here x = of_found (slice_get (frames_of s i) (taken c (history w a))) refl
    (ap (λ n. option_map (acting c) (action s 0 a (OfHost i) (history w a) n)) (let d : 0 ≡ c - c = omega arith in d)
    ∙ sym (ap (option_and_then (step_by s lost w a c (slice_get (links_into s.net a) c))) here ∙ ap (λ o. step_by s lost w a c o (OfHost i)) (slice_get_past (links_into s.net a) c (omega arith))) ∙ x)
  where
    c : ℕ
    c = action_choice s.net a

    of_found : (o : Option (List ℕ)) → slice_get (frames_of s i) (taken (action_choice s.net a) (history w a)) ≡ o
        → option_map (acting (action_choice s.net a)) (option_map (λ bytes. send_all (HostMsg bytes) (links_out s.net a FromHost)) (slice_get (frames_of s i) (taken (action_choice s.net a) (history w a)))) ≡ None
        → host_act (host_of s a i (history w a)) (action_choice s.net a) ≡ None
    of_found None f p = ap (option_map (sending (host_of s a i (history w a)))) f
    of_found (Some bytes) f p = absurd (let y : option_map (acting (action_choice s.net a)) (option_map (λ bytes. send_all (HostMsg bytes) (links_out s.net a FromHost)) (Some bytes)) ≡ None =
        ap (λ o. option_map (acting (action_choice s.net a)) (option_map (λ bytes. send_all (HostMsg bytes) (links_out s.net a FromHost)) o)) (sym f) ∙ p in cc)
