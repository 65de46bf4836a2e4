use Rattle.std.proofs.Common.{◌≡◌, ℕ, ◌<◌}
use Rattle.sl_net.specs.Spelling.{choice_text, choice_count}
use Rattle.sl_net.proofs.choice_of_text.find_choice.Given as goal

abbrev pub invariant-loop-actor : goal.invariant-loop-actor
invariant-loop-actor l = (a c : ℕ) → a < l.actor → c < choice_count l.net a → choice_text l.net a c ≡ l.text → ⊥
