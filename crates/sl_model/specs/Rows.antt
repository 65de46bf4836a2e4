-- Trusted text for nodes, but for entry, entries.
-- What a unit's history says of a number: its value, or that it was skipped or miscredited. cs are the unit's data channels, as choices, and a
-- data packet is credited to n saved numbers at most.
--     credits_at n cs k h  the data packets that came while k was among the last n adopted numbers, with a stamp below k
--     feet_at n k h        the ages, from k, of the data packets whose foot was k: the least of the last n adopted numbers above their stamp
--     row n cs k h         the row of the number k
--     entries n cs h       the entries, one for each number that was adopted
use Rattle.std.specs.Prelude.{ℕ, ◌-◌, Bool, List, [], ◌∷◌, ◌++◌, map, take, nat_lt, ◌==◌, if◌then◌else◌, Option, Some, None}
use Rattle.std.specs.List.{list_any}
use Rattle.sl_saves.specs.declared.entry.Saved.{Saved}
use Rattle.sl_saves.specs.declared.entry.Saved.TheVariants.{Value, Skipped, Miscredited}
use Rattle.sl_saves.specs.Calls.{Credit, Save, totals, greatest}
use Rattle.sl_model.specs.declared.verdict.Cause.{Cause}
use Rattle.sl_model.specs.declared.verdict.Cause.TheVariants.{Skipped as WasSkipped, Miscredited as WasMiscredited}
use Rattle.sl_model.specs.declared.message.Message.{Message}
use Rattle.sl_model.specs.declared.message.Message.TheVariants.{Data}
use Rattle.sl_model.specs.Words.{listed}
use Rattle.sl_model.specs.History.{History, id}
use Rattle.sl_model.specs.Counting.{packets, bytes}
use Rattle.sl_model.specs.Cut.{before, value}
use Rattle.sl_model.specs.Verdict.{adopted, cause}
use Rattle.sl_model.specs.Calls.{credits_in}

abbrev pub is_among : ℕ → List ℕ → Bool
is_among k xs = list_any (λ x. x == k) xs

-- the first of two that is there
abbrev pub or_else : Option ℕ → Option ℕ → Option ℕ
or_else None o = o
or_else (Some x) o = Some x

-- the last number that passes
abbrev pub lowest : (ℕ → Bool) → List ℕ → Option ℕ
lowest p [] = None
lowest p (x ∷ xs) = or_else (lowest p xs) (if p x then Some x else None)

abbrev pub credits_at : ℕ → List ℕ → ℕ → History → List Credit
credits_at n cs k [] = []
credits_at n cs k (s ∷ h) = if is_among k (take n (adopted (s ∷ h))) then credits_in cs k s.choice s.taken ++ credits_at n cs k h else credits_at n cs k h

-- of falling numbers, the last that lies above a stamp
abbrev pub foot : ℕ → List ℕ → Option ℕ
foot stamp js = lowest (nat_lt stamp) js

-- the age from k of a data packet whose foot is k
abbrev pub feet_in : List ℕ → ℕ → Option Message → List ℕ
feet_in js k (Some (Data s p)) = if is_among k (listed (foot s js)) then (k - s) ∷ [] else []
feet_in js k _ = []

abbrev pub feet_at : ℕ → ℕ → History → List ℕ
feet_at n k [] = []
feet_at n k (s ∷ h) = feet_in (take n (adopted (s ∷ h))) k s.taken ++ feet_at n k h

-- the greatest of these
abbrev pub reach_at : ℕ → ℕ → History → ℕ
reach_at n k h = greatest (feet_at n k h)

abbrev pub told : ℕ → List ℕ → ℕ → History → Option Cause → Saved
told n cs k h (Some (WasSkipped j)) = Skipped j
told n cs k h (Some (WasMiscredited j)) = Miscredited j (reach_at n j h)
told n cs k h None = Value (value k h).packets (value k h).bytes (totals (credits_at n cs k h))

abbrev pub row : ℕ → List ℕ → ℕ → History → Saved
row n cs k h = told n cs k h (cause n k h)

-- how far k lies above the id before, what was counted before, and what was credited to k
abbrev pub entry : ℕ → List ℕ → History → ℕ → Save
entry n cs h k = record {
  number = k;
  by = k - id (before k h);
  packets = packets (before k h);
  bytes = bytes (before k h);
  credits = credits_at n cs k h;
  feet = feet_at n k h;
}

abbrev pub entries : ℕ → List ℕ → History → List Save
entries n cs h = map (entry n cs h) (adopted h)
