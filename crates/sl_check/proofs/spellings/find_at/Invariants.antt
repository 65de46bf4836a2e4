use Rattle.std.proofs.Common.{◌≡◌, ℕ, ◌<◌}
use Rattle.sl_net.specs.Spelling.{choice_text}
use Rattle.sl_check.proofs.spellings.find_at.Given as goal

abbrev pub invariant-loop-choice : goal.invariant-loop-choice
invariant-loop-choice l = (k : ℕ) → k < l.choice → choice_text l.net l.actor k ≡ l.text → ⊥
