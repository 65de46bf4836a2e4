-- What is collected of snapshots.
--     IsKept n net u k g h     what the history g of the unit u tells of k, the history h tells
--     known_verdict n net w k  the verdict from what the observer knows of the units
use Rattle.std.specs.Prelude.{◌≡◌, ℕ, None}
use Rattle.sl_layout.specs.Net.{Net, units, data_channels}
use Rattle.sl_model.specs.declared.verdict.Verdict.{Verdict}
use Rattle.sl_parts.specs.Lists.{Each}
use Rattle.sl_model.specs.Words.{first_told}
use Rattle.sl_model.specs.History.{History, World}
use Rattle.sl_model.specs.Cut.{value}
use Rattle.sl_model.specs.Verdict.{cause, lag, judged}
use Rattle.sl_model.specs.Knowledge.{collected}
use Rattle.sl_model.specs.Late.{late}

-- the unit has not fallen back behind k; its value, its cause against k and the late data of each of its data channels are the same
pub record IsKept (n : ℕ) (net : Net) (u k : ℕ) (g h : History) : Type 0 where
  pub reached : lag net k u h ≡ None
  pub value : value k h ≡ value k g
  pub cause : cause n k h ≡ cause n k g
  pub channels : Each (λ c. late k c h ≡ late k c g) (data_channels net u)

abbrev pub known_verdict : ℕ → Net → World → ℕ → Verdict
known_verdict n net w k = judged (first_told (λ u. lag net k u (collected net w u)) (units net)) (first_told (λ u. cause n k (collected net w u)) (units net))
