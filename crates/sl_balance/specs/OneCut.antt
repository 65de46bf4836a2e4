-- What a line of the table speaks of: one consistent cut (Chandy and Lamport 1985) of the histories of a run.
use Rattle.std.specs.Prelude.{◌≡◌, ℕ, ◌∷◌, [], map}
use Rattle.sl_layout.specs.Net.{Net}
use Rattle.sl_model.specs.declared.verdict.Verdict.TheVariants.{Consistent}
use Rattle.sl_model.specs.History.{World, Losses, history}
use Rattle.sl_model.specs.Cut.{value, cuts}
use Rattle.sl_model.specs.Matching.{IsConsistentCut}
use Rattle.sl_model.specs.Verdict.{verdict}
use Rattle.sl_balance.specs.declared.line.Line1.{Line1}
use Rattle.sl_balance.specs.Cabled.{cabled, unit_at}
use Rattle.sl_balance.specs.Balance.{line_of}

-- what the unit at a place counted before its id reached k
abbrev pub packets_before : Net → World → ℕ → ℕ → ℕ
packets_before net w k i = (value k (history w (unit_at net i))).packets

-- the verdict on the line's snapshot, where a data packet is credited to n numbers at most, is consistent, its cut is a consistent cut, and the line is that of what the device's units counted before it
pub record IsOfOneCut (n : ℕ) (net : Net) (lost : Losses) (w : World) (line : Line1) : Type 0 where
  pub is_consistent : verdict n net w line.k ≡ Consistent
  pub cut : IsConsistentCut net lost w (cuts w line.k)
  pub counts : line_of line.k line.device (map (packets_before net w line.k) (cabled net line.device)) ≡ line ∷ []
