-- The spellings of the choices of a net.
--     SpellsLines net       each is a line
--     FindsTurn net text t  a turn with this spelling, or none where no choice has it
--     IsScript net text es  the text has the spellings of these turns, a line each
use Rattle.std.specs.Prelude.{◌≡◌, ℕ, List, map, Option, Some, None}
use Rattle.std.specs.List.{All}
use Rattle.sl_layout.specs.Net.{Net}
use Rattle.sl_net.specs.Spelling.{choice_text, HasChoice}
use Rattle.sl_check.specs.Lines.{IsLine, lines_text}

abbrev pub SpellsLines : Net → Type 0
SpellsLines net = (a c : ℕ) → HasChoice net a c → IsLine (choice_text net a c)

abbrev pub IsTurn : Net → ℕ × ℕ → Type 0
IsTurn net e = HasChoice net e.0 e.1

abbrev pub FindsTurn : Net → List ℕ → Option (ℕ × ℕ) → Type 0
FindsTurn net text (Some e) = IsTurn net e × (choice_text net e.0 e.1 ≡ text)
FindsTurn net text None = (a c : ℕ) → HasChoice net a c → ¬ (choice_text net a c ≡ text)

abbrev pub script_text : Net → List (ℕ × ℕ) → List ℕ
script_text net es = lines_text (map (λ e. choice_text net e.0 e.1) es)

pub record IsScript (net : Net) (text : List ℕ) (es : List (ℕ × ℕ)) : Type 0 where
  pub choices : All (IsTurn net) es
  pub text_is : text ≡ script_text net es
