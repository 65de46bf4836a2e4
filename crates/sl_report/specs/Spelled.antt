-- The choices of a net beside their spellings.
--     IsSpelled net s   a choice with its spelling
use Rattle.std.specs.Prelude.{◌≡◌, ℕ, List, map}
use Rattle.sl_layout.specs.Net.{Net}
use Rattle.sl_net.specs.Spelling.{choice_text, HasChoice}
use Rattle.sl_report.specs.declared.spelled.Spelled.{Spelled}

pub record IsSpelled (net : Net) (s : Spelled) : Type 0 where
  pub choice : HasChoice net s.actor s.choice
  pub text : s.text ≡ choice_text net s.actor s.choice

-- the choices without their spellings
abbrev pub choices_in : List Spelled → List (ℕ × ℕ)
choices_in spelled = map (λ s. (s.actor, s.choice)) spelled
