-- How logs are merged, a window of 256 numbers at a time: each number of a window has a bucket.
use Rattle.std.specs.Prelude.{◌≡◌, ◌+◌, ◌<◌, ◌≤◌, ◌==◌, ℕ, zero, suc, List, [], ◌++◌, length, slice_index, slice_index_or}
use Rattle.std.specs.List.{filter}
use Rattle.sl_machine.specs.declared.wiring.Entry.{Entry}

-- the entries of a number, in their order
abbrev pub numbered : ℕ → List Entry → List Entry
numbered number entries = filter (λ e. e.number == number) entries

-- those of each number below n, number by number
abbrev pub up_to : ℕ → List Entry → List Entry
up_to zero entries = []
up_to (suc n) entries = up_to n entries ++ numbered n entries

-- no bucket holds anything
pub record AreEmpty (buckets : List (List Entry)) : Type 0 where
  pub each : length buckets ≡ 256
  pub empty : (k : ℕ) → k < 256 → slice_index_or buckets k [] ≡ []

-- each bucket holds the entries of its number
pub record HaveNumbered (low : ℕ) (entries : List Entry) (buckets : List (List Entry)) : Type 0 where
  pub each : length buckets ≡ 256
  pub held : (k : ℕ) → k < 256 → slice_index_or buckets k [] ≡ numbered (low + k) entries

-- each bucket holds what it held, and then the entries of its number
pub record HaveMore (low : ℕ) (entries : List Entry) (old new : List (List Entry)) : Type 0 where
  pub each : length new ≡ 256
  pub more : (k : ℕ) → k < 256 → slice_index_or new k [] ≡ slice_index_or old k [] ++ numbered (low + k) entries

-- the numbers of a log before a place are below this one, and those from it on are not
pub record IsAt (low : ℕ) (log : List (ℕ × ℕ)) (place : ℕ) : Type 0 where
  pub within : place ≤ length log
  pub before : (i : ℕ) (d : ℕ × ℕ) → i < place → (slice_index_or log i d).0 < low
  pub after : (i : ℕ) (d : ℕ × ℕ) → place ≤ i → i < length log → low ≤ (slice_index_or log i d).0

-- so of each log and its place
pub record AreAt (low : ℕ) (logs : List (List (ℕ × ℕ))) (places : List ℕ) : Type 0 where
  pub each : length places ≡ length logs
  pub places_are : (a : ℕ) → a < length logs → IsAt low (slice_index_or logs a []) (slice_index places a)
