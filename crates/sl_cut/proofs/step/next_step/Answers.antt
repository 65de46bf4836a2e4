use Rattle.std.proofs.lemmas.Grind.{elements}
use Rattle.std.proofs.Common.{◌≡◌, ◌-◌, ◌<◌, ℕ, List, Some, None, length, ap, sym, ◌∙◌, arith}
use Rattle.std.specs.Prelude.{slice_get, slice_index_or, option_map, option_and_then}
use Rattle.std.proofs.lemmas.Option.{slice_get_past, slice_get-get_or}
use Rattle.sl_layout.specs.Net.{Net, nobody, links_into, action_choice}
use Rattle.sl_net.specs.Input.{Input}
use Rattle.sl_model.specs.History.{history}
use Rattle.sl_model.specs.Setup.{setup_of}
use Rattle.sl_model.specs.Puts.{action}
use Rattle.sl_model.specs.World.{acting, step_by, floor_for}
use Rattle.sl_model.specs.Losses.{losses}
use Rattle.sl_cut.proofs.step.next_step.Goals as goal

pub returns-in_ok-puts-in-None : goal.returns-in_ok-puts-in-None
returns-in_ok-puts-in-None c =
    let i = c.args.input.now in
    let w = c.args.world.now in
    let a = c.args.actor in
    let of = c.actor-of.result in
    let step = step_by (setup_of i) (losses i) w a c.args.choice in
    let n : c.input.inside.net ≡ i.net = ap (λ (j : Input). j.net) c.input.view_is in
    let few : a < length i.net.actors = (let all = ap length c.actors.ensures.now in let same = ap (λ (m : Net). length m.actors) n in omega (arith, all, same, c.if-actor-actors.false)) in
    let here : slice_get i.net.actors a ≡ Some of = slice_get-get_or i.net.actors a nobody few ∙ ap Some (sym (c.actor-of.ensures.actor ∙ ap (λ (m : Net). slice_index_or m.actors a nobody) n)) in
    let none : slice_get (links_into i.net a) c.args.choice ≡ None = ap (λ (m : Net). slice_get (links_into m a) c.args.choice) (sym n)
    ∙ ap (λ (ls : List ℕ). slice_get ls c.args.choice) (sym c.links_into.ensures.links) ∙ slice_get_past c.links_into.result.now c.args.choice c.in-None.ensures.lookup.3 in
    let number = c.saturating_sub-number.ensures ∙ ap (λ k. c.args.choice - k) (c.action_choice.ensures.value ∙ ap (λ (m : Net). action_choice m a) n) in
    c.acting.ensures ∙ ap (option_map (acting c.args.choice)) (c.in_ok-puts-in-None.ensures ∙ ap (action (setup_of i) (floor_for i.net w of) a of (history w a)) number)
    ∙ ap (λ o. step o of) (sym none) ∙ ap (option_and_then (step (slice_get (links_into i.net a) c.args.choice))) (sym here)

pub returns-then-actor-actors : goal.returns-then-actor-actors
returns-then-actor-actors c = grind (arith, elements)
