use Rattle.std.proofs.Common.{◌≡◌, ℕ, ◌<◌}
use Rattle.sl_net.specs.Spelling.{choice_text, HasChoice}
use Rattle.sl_check.proofs.spellings.find_slowly.Given as goal

abbrev pub invariant-loop-actor : goal.invariant-loop-actor
invariant-loop-actor l = (a : ℕ) → a < l.actor → (c : ℕ) → HasChoice l.net a c → choice_text l.net a c ≡ l.text → ⊥
