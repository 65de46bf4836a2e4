use Rattle.sl_machine.specs.declared.wiring.Link.{Link}
use Rattle.sl_cut.proofs.Judging.{total-same}
use Rattle.sl_model.specs.Cut.{before, crossing, data_bytes, data_count}
use Rattle.sl_model.specs.History.{carried_by, history, taken}
use Rattle.sl_model.specs.Losses.{losses}
use Rattle.sl_model.specs.Words.{weigh}
use Rattle.sl_model.specs.World.{receiver, sender, taken_by}
use Rattle.sl_layout.specs.Net.{link_of, choice_of}
use Rattle.sl_net.specs.Input.{Input}
use Rattle.std.proofs.Common.{ap, drop, take, ◌∙◌, ◌≡◌}
use Rattle.std.specs.Prelude.{reverse}
use Rattle.sl_cut.proofs.values.channel_value.Goals as goal

pub returns : goal.returns
returns c = let l = c.args.link in let net = c.args.input.now.net in let w = c.args.world.now in let k = c.args.snapshot in let n : c.input.inside.net ≡ net = ap (λ (i : Input). i.net) c.input.view_is in
    let ends = c.link-ends.ensures.link ∙ ap (λ m. link_of m l) n in let choice = ap (λ (k : Link). k.choice) c.wire-choice.ensures ∙ ap (λ m. choice_of m l) n in
    let sent : c.in_ok-messages.messages.items ≡ carried_by (losses c.args.input.now) l (before k (sender net w l)) = c.in_ok-messages.ensures
    ∙ ap (carried_by (losses c.args.input.now) l) (c.before-sender.ensures.value ∙ ap (before k) (c.steps.ensures.steps ∙ ap (λ e. history w e.from) ends)) in
    let taker : reverse c.steps-receiver.result.now ≡ receiver net w l = c.steps-receiver.ensures.steps ∙ ap (λ e. history w e.to) ends in
    let all : c.taken-upto.result ≡ taken_by net l (receiver net w l) = c.taken-upto.ensures.value ∙ ap (λ ch. taken ch (reverse c.steps-receiver.result.now)) choice ∙ ap (taken (choice_of net l)) taker in
    let inside : c.taken-from.result ≡ taken_by net l (before k (receiver net w l)) = c.taken-from.ensures.value ∙ ap (λ ch. taken ch (reverse c.before-2.result.now)) choice
    ∙ ap (taken (choice_of net l)) (c.before-2.ensures.value ∙ ap (before k) taker) in
    let sent_in = carried_by (losses c.args.input.now) l (before k (sender net w l)) in
    let x : c.part_of.result.now ≡ crossing net (losses c.args.input.now) w k l = c.part_of.ensures.value
    ∙ ap (λ ms. drop c.taken-from.result (take c.taken-upto.result ms)) (c.deref.ensures.value ∙ sent)
    ∙ ap (λ n. drop c.taken-from.result (take n sent_in)) all ∙ ap (λ n. drop n (take (taken_by net l (receiver net w l)) sent_in)) inside in
    total-same c.total_of.result _ _ (c.total_of.ensures.packets ∙ ap (weigh data_count) x) (c.total_of.ensures.bytes ∙ ap (weigh data_bytes) x)
