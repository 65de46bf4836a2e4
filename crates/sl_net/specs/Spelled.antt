-- That a text spells one choice at most.
use Rattle.std.specs.Prelude.{◌≡◌, ℕ}
use Rattle.sl_layout.specs.Net.{Net}
use Rattle.sl_net.specs.Spelling.{choice_text, HasChoice}

-- no two choices of the net have one spelling
pub record HasOneSpelling (net : Net) : Type 0 where
  pub one : (a c b d : ℕ) → HasChoice net a c → HasChoice net b d → choice_text net a c ≡ choice_text net b d → (a ≡ b) × (c ≡ d)
