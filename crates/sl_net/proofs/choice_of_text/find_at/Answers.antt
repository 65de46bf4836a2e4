use Rattle.std.proofs.Common.{◌≡◌, length, Some, ap, sym, ◌∙◌}
use Rattle.std.specs.Prelude.{codes}
use Rattle.sl_layout.specs.Net.{actor_of}
use Rattle.sl_net.specs.Spelling.{skip, actor_text, choice_text, choice_word, choice_count}
use Rattle.sl_net.proofs.Skips.{skip_past, found_past}
use Rattle.sl_net.proofs.choice_of_text.find_at.Goals as goal

pub returns : goal.returns
returns c =
    let text = c.args.text.now in
    let net = c.args.net.now in
    let a = c.args.actor in
    let first : skip text (actor_text net.parts (actor_of net a)) 0 ≡ Some c.in_ok-at.at = ap (λ x. skip text (actor_text net.parts x) 0) (sym c.actor.ensures.actor) ∙ ap (λ p. skip text (actor_text p c.actor.result) 0) (sym c.parts.ensures.now) ∙ sym c.in_ok-at.ensures.next in
    let second : skip text (codes " ") c.in_ok-at.at ≡ Some c.in_ok-at-2.at = sym c.in_ok-at-2.ensures.next in
    found_past (λ w. skip text (choice_text net a w) 0) (λ w. skip text (choice_word net a w) c.in_ok-at-2.at) (choice_count net a) (length text)
    (λ w. skip_past text (actor_text net.parts (actor_of net a)) (codes " ") (choice_word net a w) c.in_ok-at.at c.in_ok-at-2.at first second) c.find_word.result c.find_word.ensures
