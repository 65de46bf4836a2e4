-- Trusted text, but for entries_by, joined, all_entries, IsLog, IsMerge, AreLogs.
-- The merge of logs: all their entries in the order of their numbers. It is a total order of the events of a distributed
-- system in the sense of Lamport, "Time, Clocks, and the Ordering of Events in a Distributed System", 1978.
use Rattle.std.specs.Prelude.{◌≡◌, ◌<◌, ◌⊎◌, ℕ, zero, suc, map, List, [], ◌++◌, length, slice_index_or}
use Rattle.std.specs.List.Sorted.{IsPermutation, IsNonDecreasingBy}
use Rattle.sl_machine.specs.declared.wiring.Entry.{Entry}

-- the entries of an actor's log, which has the number of each turn and its choice
abbrev pub entries_by : ℕ → List (ℕ × ℕ) → List Entry
entries_by actor log = map (λ p. record { number = p.0; actor = actor; choice = p.1 }) log

-- the entries of the logs of so many actors, one log after the other
abbrev pub joined : ℕ → (ℕ → List (ℕ × ℕ)) → List Entry
joined zero logs = []
joined (suc n) logs = joined n logs ++ entries_by n (logs n)

-- the entries of all logs, of which each actor has one
abbrev pub all_entries : List (List (ℕ × ℕ)) → List Entry
all_entries logs = joined (length logs) (λ a. slice_index_or logs a [])

-- the numbers of a log rise
abbrev pub IsLog : List (ℕ × ℕ) → Type 0
IsLog log = (i j : ℕ) (d : ℕ × ℕ) → i < j → j < length log → (slice_index_or log i d).0 < (slice_index_or log j d).0

-- a book has just these entries, and its numbers never fall; which of two with one number stands first is left to IsAscending
pub record IsMerge (entries book : List Entry) : Type 0 where
  pub same_entries : IsPermutation entries book
  pub rising : IsNonDecreasingBy (λ e. e.number) book

-- an entry has a smaller number than another, or the same number and a smaller actor
abbrev pub IsBefore : Entry → Entry → Type 0
IsBefore e f = (e.number < f.number) ⊎ ((e.number ≡ f.number) × (e.actor < f.actor))

-- each entry is before all later ones
abbrev pub IsAscending : List Entry → Type 0
IsAscending book = (i j : ℕ) (d : Entry) → i < j → j < length book → IsBefore (slice_index_or book i d) (slice_index_or book j d)

-- the numbers of each actor rise
abbrev pub AreLogs : List Entry → Type 0
AreLogs entries =
    (i j : ℕ) (d : Entry) → i < j → j < length entries → (slice_index_or entries i d).actor ≡ (slice_index_or entries j d).actor
    → (slice_index_or entries i d).number < (slice_index_or entries j d).number
