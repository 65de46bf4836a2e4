-- Findings from accounts of the units, with no history in sight. An account of a unit has its id, the last-seen numbers of its data channels
-- in order, its floor, and the rows of 1, 2, .. up to the least of the id and these numbers.
--     account n net u h   the account that a history gives of the unit u, where a data packet is credited to n numbers at most
--     accounts n net w    those of all units, by what the observer knows of them
--     finding_by n xs k   the finding of k by accounts, where n snapshots were issued
use Rattle.std.specs.Prelude.{ℕ, ◌-◌, List, [], map, nat_lt, nat_le, ◌==◌, if◌then◌else◌, Option, Some, None, slice_get, unwrap_or, option_and_then}
use Rattle.std.specs.List.{range_with_len}
use Rattle.sl_layout.specs.Net.{Net, units, data_channels}
use Rattle.sl_saves.specs.declared.entry.Saved.{Saved}
use Rattle.sl_saves.specs.declared.entry.Saved.TheVariants.{Value, Skipped, Miscredited}
use Rattle.sl_model.specs.declared.verdict.Cause.{Cause}
use Rattle.sl_model.specs.declared.verdict.Cause.TheVariants.{Skipped as WasSkipped, Miscredited as WasMiscredited}
use Rattle.sl_model.specs.declared.verdict.Lag.{Lag}
use Rattle.sl_model.specs.declared.verdict.Lag.TheVariants.{Id}
use Rattle.sl_model.specs.declared.verdict.Verdict.{Verdict}
use Rattle.sl_model.specs.declared.verdict.Verdict.TheVariants.{Consistent, NotIssued}
use Rattle.sl_model.specs.declared.findings.Row.{Row}
use Rattle.sl_model.specs.declared.findings.Finding.{Finding}
use Rattle.sl_model.specs.Words.{first_told}
use Rattle.sl_route.specs.Least.{least}
use Rattle.sl_model.specs.History.{History, World, id, last}
use Rattle.sl_model.specs.Knowledge.{upto_of, floor_of, collected}
use Rattle.sl_model.specs.Verdict.{lag_at, judged, place_or_zero}
use Rattle.sl_model.specs.Rows.{row}

pub record Account : Type 0 where
  pub id : ℕ
  pub last : List ℕ
  pub floor : ℕ
  pub rows : List Saved

abbrev pub account : ℕ → Net → ℕ → History → Account
account n net u h = record {
  id = id h;
  last = map (λ c. last c h) (data_channels net u);
  floor = floor_of net u h;
  rows = map (λ k. row n (data_channels net u) k h) (range_with_len 1 (upto_of net u h));
}

abbrev pub accounts : ℕ → Net → World → List Account
accounts n net w = map (λ u. account n net u (collected net w u)) (units net)

-- What an account says of k.

abbrev pub row_of : ℕ → Account → Option Saved
row_of k a = slice_get a.rows (k - 1)

abbrev pub behind : ℕ → ℕ → Option ℕ
behind k n = if nat_lt n k then Some n else None

-- the id, or else the first data channel, that is below k
abbrev pub lag_by : ℕ → Account → Option Lag
lag_by k a = if nat_lt a.id k then Some (Id a.id) else lag_at (first_told (behind k) a.last)

abbrev pub cause_in : Saved → Option Cause
cause_in (Value packets bytes inflight) = None
cause_in (Skipped to) = Some (WasSkipped to)
cause_in (Miscredited by reach) = Some (WasMiscredited by)

abbrev pub cause_by : ℕ → Account → Option Cause
cause_by k a = option_and_then cause_in (row_of k a)

-- a value as it is reported; nothing is where there is none
abbrev pub value_row : Option Saved → Row
value_row (Some (Value p b inflight)) = record { packets = p; bytes = b; inflight = inflight }
value_row _ = record { packets = 0; bytes = 0; inflight = [] }

-- What all accounts say.

abbrev pub floor_by : ℕ → List Account → ℕ
floor_by n xs = unwrap_or (least (map (λ a. a.floor) xs)) n

abbrev pub holds : ℕ → Account → Option ℕ
holds floor a = if a.floor == floor then Some a.floor else None

abbrev pub verdict_by : ℕ → List Account → ℕ → Verdict
verdict_by n xs k = if nat_le k n then judged (first_told (lag_by k) xs) (first_told (cause_by k) xs)
    else NotIssued (place_or_zero (first_told (holds (floor_by n xs)) xs)) (floor_by n xs)

abbrev pub rows_by : List Account → ℕ → Verdict → List Row
rows_by xs k Consistent = map (λ a. value_row (row_of k a)) xs
rows_by xs k _ = []

abbrev pub finding_by : ℕ → List Account → ℕ → Finding
finding_by n xs k = record { k = k; verdict = verdict_by n xs k; rows = rows_by xs k (verdict_by n xs k) }
