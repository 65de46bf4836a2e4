use Rattle.std.proofs.Common.{◌≡◌, ℕ, ◌<◌, Some, length}
use Rattle.sl_net.specs.Spelling.{skip, choice_word}
use Rattle.sl_net.proofs.choice_of_text.find_word.Given as goal

abbrev pub invariant-loop-choice : goal.invariant-loop-choice
invariant-loop-choice l = (c : ℕ) → c < l.choice → skip l.text (choice_word l.net l.actor c) l.at ≡ Some (length l.text) → ⊥
