-- What a settled world says of a settling pass.
use Rattle.std.proofs.Common.{◌≡◌, ℕ, suc, ◌-◌, ◌<◌, List, [], ◌∷◌, ◌++◌, length, true, false, Bool, Some, None, refl, sym, ap, ◌∙◌, arith, inl, inr}
use Rattle.std.specs.Prelude.{◌⊎◌, ◌==◌, ◌&&◌, ◌||◌, cond, slice_get, option_map, option_and_then, is_some}
use Rattle.std.proofs.lemmas.Bool.{and_parts, eq-eqb, eqb-true}
use Rattle.std.proofs.lemmas.Option.{slice_get_past, slice_get-get_or}
use Rattle.sl_layout.specs.declared.actor.ActorId.{ActorId}
use Rattle.sl_layout.specs.declared.actor.ActorId.TheVariants.{Observer, Control, Unit as OfUnit, Host as OfHost}
use Rattle.sl_layout.specs.declared.actor.Sort.TheVariants.{FromHost}
use Rattle.sl_parts.specs.Lists.{Each}
use Rattle.sl_parts.specs.Parts.{below}
use Rattle.sl_layout.specs.Net.{actor_of, nobody, link_at, links_into, links_out, choice_of, action_choice}
use Rattle.sl_net.specs.Wired.{IsWired}
use Rattle.sl_model.specs.declared.message.Message.TheVariants.{Host as HostMsg}
use Rattle.sl_model.specs.History.{World, Losses, history, taken}
use Rattle.sl_model.specs.Setup.{Setup, frames_of}
use Rattle.sl_model.specs.Knowledge.{observer, issued, resent, floor}
use Rattle.sl_model.specs.Puts.{puts_of, action, begin_all, guarded, send_all}
use Rattle.sl_model.specs.World.{Entry, carried, floor_for, front, next_step, step_by, taking, acting, turn, kept_from}
use Rattle.sl_model.specs.Schedule.{link_entries, pass_actions, settling_pass}
use Rattle.sl_model.specs.End.{Settled, IsFinished, IsSpent, is_collected, KnowsAll}
use Rattle.sl_check.specs.Polled.{all_polled, ends_well}
use Rattle.sl_parts.proofs.Lists.{each-flat, each-append, each-map, each-below}

kept-none : (s : Setup) (lost : Losses) (w : World) (es : List Entry) → Each (λ e. next_step s lost w e ≡ None) es → kept_from s lost w es ≡ []
kept-none s lost w [] h = refl
kept-none s lost w (e ∷ es) h = ap (λ o. cond (is_some o) (e ∷ kept_from s lost (turn s lost w e) es) (kept_from s lost w es)) h.0 ∙ kept-none s lost w es h.1

module _ (s : Setup) (lost : Losses) (w : World) (wired : IsWired s.net) (settled : Settled s lost w) where
  there : (a : ℕ) → a < length s.net.actors → slice_get s.net.actors a ≡ Some (actor_of s.net a)
  there a h = slice_get-get_or s.net.actors a nobody h

  at : (a c : ℕ) → a < length s.net.actors → next_step s lost w (a, c) ≡ step_by s lost w a c (slice_get (links_into s.net a) c) (actor_of s.net a)
  at a c h = ap (option_and_then (step_by s lost w a c (slice_get (links_into s.net a) c))) (there a h)

  -- each link is empty
  link-idle : (a c : ℕ) → a < length s.net.actors → c < length (links_into s.net a) → next_step s lost w (a, c) ≡ None
  link-idle a c h k =
      let l = link_at s.net a c in
      let into : slice_get (links_into s.net a) c ≡ Some l = slice_get-get_or (links_into s.net a) c 0 k in
      let i = wired.ways.into a c l into in
      let n : taken c (history w a) ≡ length (carried s.net lost w l) =
      ap (λ d. taken d (history w a)) (sym (wired.ways.choice a c l into)) ∙ ap (λ b. taken (choice_of s.net l) (history w b)) (sym i.to) ∙ settled.taken_all l i.is_link in
      let e : front s.net lost w a c l ≡ None = slice_get_past (carried s.net lost w l) (taken c (history w a)) (omega (arith, n)) in
      at a c h ∙ ap (λ o. step_by s lost w a c o (actor_of s.net a)) into
      ∙ ap (option_map (λ m. taking c m (puts_of s a (actor_of s.net a) (history w a) c l m))) e

  own-step : (a : ℕ) (x : ActorId) → a < length s.net.actors → actor_of s.net a ≡ x
      → next_step s lost w (a, action_choice s.net a) ≡ option_map (acting (action_choice s.net a)) (action s (floor_for s.net w x) a x (history w a) 0)
  own-step a x h q = at a (action_choice s.net a) h
      ∙ ap (λ o. step_by s lost w a (action_choice s.net a) o (actor_of s.net a)) (slice_get_past (links_into s.net a) (action_choice s.net a) (omega arith))
      ∙ ap (λ y. option_map (acting (action_choice s.net a)) (action s (floor_for s.net w y) a y (history w a) (action_choice s.net a - action_choice s.net a))) q
      ∙ (let e : action_choice s.net a - action_choice s.net a ≡ 0 = omega arith in ap (λ j. option_map (acting (action_choice s.net a)) (action s (floor_for s.net w x) a x (history w a) j)) e)

  -- each host has put all its frames
  host-idle : (a i : ℕ) → a < length s.net.actors → actor_of s.net a ≡ OfHost i → next_step s lost w (a, action_choice s.net a) ≡ None
  host-idle a i h q =
      let n = settled.sent_all a i (there a h ∙ ap (λ x. Some x) q) in
      let e : slice_get (frames_of s i) (taken (action_choice s.net a) (history w a)) ≡ None = slice_get_past (frames_of s i) (taken (action_choice s.net a) (history w a)) (omega (arith, n)) in
      own-step a (OfHost i) h q ∙ ap (λ o. option_map (acting (action_choice s.net a)) (option_map (λ bytes. send_all (HostMsg bytes) (links_out s.net a FromHost)) o)) e

  -- there is nothing to issue
  observer-idle : (a : ℕ) → a < length s.net.actors → actor_of s.net a ≡ Observer → next_step s lost w (a, action_choice s.net a) ≡ None
  observer-idle a h q = let z : a ≡ 0 = wired.one_observer a q in
      own-step a Observer h q ∙ ap (λ b. option_map (acting (action_choice s.net a)) (action s (floor s.net w) a Observer (history w b) 0)) z
      ∙ ap (λ b. option_map (acting (action_choice s.net a)) (guarded b (begin_all s.net (suc (issued s.net (observer w)))))) settled.none_to_issue

  own-idle : (a : ℕ) (x : ActorId) → a < length s.net.actors → actor_of s.net a ≡ x → Each (λ e. next_step s lost w e ≡ None) (pass_actions s.net true a x)
  own-idle a Observer h q = (observer-idle a h q, tt)
  own-idle a (Control d) h q = tt
  own-idle a (OfUnit u) h q = tt
  own-idle a (OfHost i) h q = (host-idle a i h q, tt)

  pub pass-idle : kept_from s lost w (settling_pass s.net) ≡ []
  pass-idle = kept-none s lost w (settling_pass s.net)
      (each-flat (λ e. next_step s lost w e ≡ None) (λ a. link_entries s.net a ++ pass_actions s.net true a (actor_of s.net a)) (below (length s.net.actors))
      (each-below (λ a. Each (λ e. next_step s lost w e ≡ None) (link_entries s.net a ++ pass_actions s.net true a (actor_of s.net a))) (length s.net.actors) (λ a h.
      each-append (λ e. next_step s lost w e ≡ None) (link_entries s.net a) (pass_actions s.net true a (actor_of s.net a))
      (each-map (λ e. next_step s lost w e ≡ None) (λ c. (a, c)) (below (length (links_into s.net a))) (each-below (λ c. next_step s lost w (a, c) ≡ None) (length (links_into s.net a)) (λ c k. link-idle a c h k)))
      (own-idle a (actor_of s.net a) h refl))))

-- The end.

pub ended_well : (s : Setup) (lost : Losses) (w : World) → Settled s lost w → (all_polled s.net w ≡ true → KnowsAll s.net w) → ends_well s w ≡ true → IsFinished s lost w
ended_well s lost w settled known h = record { settled = settled; ended = go (is_collected s w) refl h }
  where
    go : (b : Bool) → is_collected s w ≡ b → (b || ((resent s.net (observer w) == s.retries) && all_polled s.net w)) ≡ true → (is_collected s w ≡ true) ⊎ IsSpent s w
    go true e k = inl e
    go false e k = let p = and_parts (resent s.net (observer w) == s.retries) (all_polled s.net w) k in
        inr (record { no_retry = eqb-true (resent s.net (observer w)) s.retries p.0; knows_all = known p.1 })

pub finished_well : (s : Setup) (lost : Losses) (w : World) → (KnowsAll s.net w → all_polled s.net w ≡ true) → IsFinished s lost w → ends_well s w ≡ true
finished_well s lost w polled f = go f.ended
  where
    or-true : (b : Bool) → (b || true) ≡ true
    or-true true = refl
    or-true false = refl

    go : (is_collected s w ≡ true) ⊎ IsSpent s w → ends_well s w ≡ true
    go (inl e) = ap (λ b. b || ((resent s.net (observer w) == s.retries) && all_polled s.net w)) e
    go (inr t) = ap (λ b. is_collected s w || (b && all_polled s.net w)) (eq-eqb (resent s.net (observer w)) s.retries t.no_retry) ∙ ap (λ b. is_collected s w || b) (polled t.knows_all) ∙ or-true (is_collected s w)
