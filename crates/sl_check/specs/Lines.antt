-- Trusted text.
-- Texts as lines, each of which ends with a newline.
--     PartsAt mark text front back     the first line that is exactly the mark stands between the lines of the front and the back
use Rattle.std.specs.Prelude.{◌≡◌, ℕ, List, ◌++◌, flat_map, codes}
use Rattle.sl_parts.specs.Lists.{Each}

-- a line without its newline
abbrev pub IsLine : List ℕ → Type 0
IsLine line = Each (λ b. b ≡ 10 → ⊥) line

abbrev pub lines_text : List (List ℕ) → List ℕ
lines_text lines = flat_map (λ line. line ++ codes "\n") lines

pub record PartsAt (mark text front back : List ℕ) : Type 0 where
  pub lines : List (List ℕ)
  pub each : Each IsLine lines
  pub none : Each (λ line. line ≡ mark → ⊥) lines
  pub front_is : front ≡ lines_text lines
  pub whole : text ≡ front ++ (mark ++ (codes "\n" ++ back))
