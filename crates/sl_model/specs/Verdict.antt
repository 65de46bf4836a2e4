-- Trusted text.
-- Verdicts (Yaseen, Sonchack and Liu 2018). Units and data channels are named by their places among the units and among the unit's data channels.
--     skipped_to k h    the number to which a unit skipped k
--     adopted h         the numbers to which its id rose, the newest first
--     miscredits n k h  the numbers by which it miscredited k, where a data packet is credited to n saved numbers at most
--     verdict n net w k the verdict on the snapshot k in a world
use Rattle.std.specs.Prelude.{ℕ, ◌-◌, Bool, false, ◌&&◌, List, [], ◌∷◌, nat_lt, nat_le, ◌==◌, cond, if◌then◌else◌, Option, Some, None, slice_index_or}
use Rattle.sl_layout.specs.Net.{Net, units, data_channels}
use Rattle.sl_model.specs.declared.message.Message.{Message}
use Rattle.sl_model.specs.declared.message.Message.TheVariants.{Data}
use Rattle.sl_model.specs.declared.verdict.Cause.{Cause}
use Rattle.sl_model.specs.declared.verdict.Cause.TheVariants.{Skipped, Miscredited}
use Rattle.sl_model.specs.declared.verdict.Lag.{Lag}
use Rattle.sl_model.specs.declared.verdict.Lag.TheVariants.{Id, Channel}
use Rattle.sl_model.specs.declared.verdict.Verdict.{Verdict}
use Rattle.sl_model.specs.declared.verdict.Verdict.TheVariants.{Consistent, Inconsistent, Pending, NotIssued}
use Rattle.sl_model.specs.Words.{first_told}
use Rattle.sl_route.specs.Least.{least}
use Rattle.sl_model.specs.History.{History, World, history, id, last}
use Rattle.sl_model.specs.Knowledge.{observer, issued, floor, unit_floor}

-- one step goes from an id below k to this id above k
abbrev pub skipped_to : ℕ → History → Option ℕ
skipped_to k [] = None
skipped_to k (s ∷ h) = if nat_lt (id h) k && nat_lt k (id (s ∷ h)) then Some (id (s ∷ h)) else skipped_to k h

-- a data packet with a stamp below k; only data channels carry stamped ones
abbrev pub is_old_data : ℕ → Option Message → Bool
is_old_data k (Some (Data s p)) = nat_lt s k
is_old_data k _ = false

abbrev pub adopted : History → List ℕ
adopted [] = []
adopted (s ∷ h) = if nat_lt (id h) (id (s ∷ h)) then id (s ∷ h) ∷ adopted h else adopted h

-- the n-th greatest number adopted, 0 where fewer were
abbrev pub nth_adopted : ℕ → History → ℕ
nth_adopted n h = slice_index_or (adopted h) (n - 1) 0

-- a data packet with a stamp below k came, and it went to n numbers above k
abbrev pub miscredits : ℕ → ℕ → History → List ℕ
miscredits n k [] = []
miscredits n k (s ∷ h) = cond (is_old_data k s.taken && nat_lt k (nth_adopted n (s ∷ h))) (nth_adopted n (s ∷ h) ∷ miscredits n k h) (miscredits n k h)

-- skipped before miscredited
abbrev pub first_cause : Option ℕ → Option ℕ → Option Cause
first_cause (Some j) o = Some (Skipped j)
first_cause None (Some j) = Some (Miscredited j)
first_cause None None = None

abbrev pub cause : ℕ → ℕ → History → Option Cause
cause n k h = first_cause (skipped_to k h) (least (miscredits n k h))

abbrev pub channel_lag : ℕ → History → ℕ → Option ℕ
channel_lag k h c = if nat_lt (last c h) k then Some (last c h) else None

abbrev pub lag_at : Option (ℕ × ℕ) → Option Lag
lag_at None = None
lag_at (Some c) = Some (Channel c.0 c.1)

-- the id, or else the first data channel, that is below k
abbrev pub lag : Net → ℕ → ℕ → History → Option Lag
lag net k u h = if nat_lt (id h) k then Some (Id (id h)) else lag_at (first_told (channel_lag k h) (data_channels net u))

abbrev pub judged : Option (ℕ × Lag) → Option (ℕ × Cause) → Verdict
judged (Some l) o = Pending l.0 l.1
judged None (Some c) = Inconsistent c.0 c.1
judged None None = Consistent

-- the first unit that lags, or else the first with a cause
abbrev pub issued_verdict : ℕ → Net → World → ℕ → Verdict
issued_verdict n net w k = judged (first_told (λ u. lag net k u (history w u)) (units net)) (first_told (λ u. cause n k (history w u)) (units net))

abbrev pub holds_floor : Net → World → ℕ → Option ℕ
holds_floor net w u = if unit_floor net w u == floor net w then Some u else None

abbrev pub place_or_zero : Option (ℕ × ℕ) → ℕ
place_or_zero None = 0
place_or_zero (Some p) = p.0

-- the first unit that holds the floor, by its place, 0 where there is no unit
abbrev pub floor_holder : Net → World → ℕ
floor_holder net w = place_or_zero (first_told (holds_floor net w) (units net))

abbrev pub verdict : ℕ → Net → World → ℕ → Verdict
verdict n net w k = if nat_le k (issued net (observer w)) then issued_verdict n net w k else NotIssued (floor_holder net w) (floor net w)
