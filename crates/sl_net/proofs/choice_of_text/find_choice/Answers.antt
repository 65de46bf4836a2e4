use Rattle.std.proofs.Common.{◌≡◌, ℕ, ◌+◌, ◌<◌, ◌≤◌, ap, sym, subst, ◌∙◌, inl, inr, arith}
use Rattle.std.specs.Prelude.{◌⊎◌}
use Rattle.std.proofs.lemmas.Bool.{cases_lt}
use Rattle.sl_net.specs.Spelling.{choice_text, choice_count}
use Rattle.sl_net.proofs.Skips.{skip_whole, skip_spelled}
use Rattle.sl_net.proofs.choice_of_text.find_choice.Goals as goal

pub returns-in-Some-clause-spelled : goal.returns-in-Some-clause-spelled
returns-in-Some-clause-spelled c =
    skip_whole c.as_bytes.result.now (choice_text c.args.net.now c.loop-actor.actor c.in-Some.choice) c.in-Some.ensures.1 ∙ c.as_bytes.ensures.value

pub loop-actor-preserved : goal.loop-actor-preserved
loop-actor-preserved c = λ a c' h k e.
    let net = c.args.net.now in
    let actor = c.loop-actor.actor in
    let last = λ (q : a ≡ actor). c.in_default.ensures c' (subst (λ a. c' < choice_count net a) q k)
    (skip_spelled c.as_bytes.result.now (choice_text net actor c') (ap (λ a. choice_text net a c') (sym q) ∙ e ∙ sym c.as_bytes.ensures.value)) in
    let earlier = λ (p : a < actor). c.loop-actor.invariant a c' p k e in
    by_cases (a < actor) (a ≡ actor) earlier last (two a actor h)
  where
    by_cases : (A B : Type 0) → (A → ⊥) → (B → ⊥) → A ⊎ B → ⊥
    by_cases A B f g (inl x) = f x
    by_cases A B f g (inr y) = g y

    two : (a n : ℕ) → a < n + 1 → (a < n) ⊎ (a ≡ n)
    two a n h = of_order (cases_lt a n)
      where
        of_order : (a < n) ⊎ (n ≤ a) → (a < n) ⊎ (a ≡ n)
        of_order (inl p) = inl p
        of_order (inr p) = inr (omega arith)
