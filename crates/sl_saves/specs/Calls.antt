-- Trusted text for nodes, in part.
-- What a unit saved, as the calls that made it say. A unit saves its counters when it adopts a number, and credits the
-- data packets that were in flight for it to the last numbers that it saved, to so many of them at most (Yaseen, Sonchack
-- and Liu 2018). Calls and entries stand newest first.
use Rattle.std.specs.Prelude.{ℕ, zero, suc, ◌+◌, ◌-◌, ◌≤◌, max, Bool, true, false, ◌&&◌, ◌||◌, List, [], ◌∷◌, map, filter, nat_lt, nat_le, ◌==◌, if◌then◌else◌, Option, Some, None}
use Rattle.std.specs.List.{list_any}
use Rattle.sl_saves.specs.declared.entry.Total.{Total}
use Rattle.sl_saves.specs.declared.entry.Saved.{Saved}
use Rattle.sl_saves.specs.declared.entry.Saved.TheVariants.{Value, Skipped, Miscredited}

-- a data packet of a channel whose stamp lay below the number at which it came, and by how much
pub record Credit : Type 0 where
  pub channel : ℕ
  pub age : ℕ
  pub bytes : ℕ

-- Adopt by packets bytes, or a credit
pub data Call : Type 0 where
  Adopt : ℕ → ℕ → ℕ → Call
  Credited : Credit → Call

-- an entry: its number, how far it lies above the number before, the counters given, the credits that belong to it, each with its age from
-- this number, and the ages of those whose foot it is
pub record Save : Type 0 where
  pub number : ℕ
  pub by : ℕ
  pub packets : ℕ
  pub bytes : ℕ
  pub credits : List Credit
  pub feet : List ℕ

-- the number that calls lead to
abbrev pub number : List Call → ℕ
number [] = 0
number (Adopt by packets bytes ∷ cs) = number cs + by
number (Credited c ∷ cs) = number cs

-- Of the last n of some entries a credit belongs to those that lie above its stamp, and the least of these is its foot. A credit whose stamp
-- lies `age` below an entry lies above no entry before it where that one is `age` or more below, or is not there.

abbrev pub is_empty : {A : Type 0} → List A → Bool
is_empty [] = true
is_empty (x ∷ xs) = false

-- a credit as it is seen from a number that lies so much lower
abbrev pub lower : ℕ → Credit → Credit
lower by c = record c { age = c.age - by }

-- A credit is written into the last entry, which is its foot or not, and if not, goes on to the entry before. `by` tells how far that one lies
-- below, and `write` what becomes of an entry.
abbrev pub written_to : {A : Type 0} → (A → ℕ) → (Bool → Credit → A → A) → ℕ → Credit → List A → List A
written_to by write zero c xs = xs
written_to by write (suc n) c [] = []
written_to by write (suc n) c (x ∷ xs) = if n == 0 || (nat_le c.age (by x) || is_empty xs) then write true c x ∷ xs
    else write false c x ∷ written_to by write n (lower (by x) c) xs

abbrev pub saved_credit : Bool → Credit → Save → Save
saved_credit is_foot c s = record s { credits = c ∷ s.credits; feet = if is_foot then c.age ∷ s.feet else s.feet }

-- a credit to n entries at most
abbrev pub with_credit : ℕ → Credit → List Save → List Save
with_credit n c ss = written_to (λ s. s.by) saved_credit n c ss

-- the entries that calls save, where each credit goes to n entries at most
abbrev pub saves : ℕ → List Call → List Save
saves n [] = []
saves n (Adopt by packets bytes ∷ cs) =
    record { number = number cs + by; by = by; packets = packets; bytes = bytes; credits = []; feet = [] } ∷ saves n cs
saves n (Credited c ∷ cs) = with_credit n c (saves n cs)

-- each adoption is by one at least
abbrev pub IsRising : List Call → Type 0
IsRising [] = Unit {0}
IsRising (Adopt by packets bytes ∷ cs) = (1 ≤ by) × IsRising cs
IsRising (Credited c ∷ cs) = IsRising cs

-- The answer for a number.

abbrev pub one_more : ℕ → Total → Total
one_more bytes t = record { packets = t.packets + 1; bytes = t.bytes + bytes }

-- the credits of a channel, added up
abbrev pub total_on : ℕ → List Credit → Total
total_on c [] = record { packets = 0; bytes = 0 }
total_on c (x ∷ xs) = if x.channel == c then one_more x.bytes (total_on c xs) else total_on c xs

abbrev pub channels : List ℕ
channels = 0 ∷ 1 ∷ 2 ∷ 3 ∷ 4 ∷ 5 ∷ 6 ∷ 7 ∷ []

-- the credits, added up by channel
abbrev pub totals : List Credit → List Total
totals cs = map (λ c. total_on c cs) channels

abbrev pub greatest : List ℕ → ℕ
greatest [] = 0
greatest (x ∷ xs) = max x (greatest xs)

abbrev pub is_above : ℕ → Save → Bool
is_above k s = nat_lt k s.number

-- whether it lies above k and is the foot of a credit that is older than k
abbrev pub is_miscredit : ℕ → Save → Bool
is_miscredit k s = is_above k s && list_any (λ a. nat_lt (s.number - k) a) s.feet

-- the entry of a number
abbrev pub find : ℕ → List Save → Option Save
find k [] = None
find k (s ∷ ss) = if s.number == k then Some s else find k ss

abbrev pub lesser : Save → Option Save → Save
lesser s None = s
lesser s (Some t) = if nat_le t.number s.number then t else s

-- the entry with the least number
abbrev pub least_save : List Save → Option Save
least_save [] = None
least_save (s ∷ ss) = Some (lesser s (least_save ss))

abbrev pub number_or : ℕ → Option Save → ℕ
number_or n None = n
number_or n (Some s) = s.number

-- from the entry of k, the least miscredit of k, and the least entry above k
abbrev pub judged : Option Save → Option Save → Option Save → Saved
judged None o above = Skipped (number_or 0 above)
judged (Some s) (Some b) above = Miscredited b.number (greatest b.feet)
judged (Some s) None above = Value s.packets s.bytes (totals s.credits)

-- what entries say of the number k: skipped, else miscredited by the least, else its value
abbrev pub saved : ℕ → List Save → Saved
saved k ss = judged (find k ss) (least_save (filter (is_miscredit k) ss)) (least_save (filter (is_above k) ss))
