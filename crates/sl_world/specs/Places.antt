-- Tables of places: for each actor and each number below its count a place, in one flat list.
use Rattle.std.specs.Prelude.{◌≡◌, ◌+◌, ◌^◌, ◌<◌, ℕ, zero, suc, List, [], ◌∷◌, length, slice_index, slice_index_or, map}
use Rattle.sl_machine.specs.declared.wiring.Link.{Link}
use Rattle.sl_world.specs.declared.places.Places.{Places}

-- where an actor's part of the table begins, where each actor has these many places
abbrev pub start_of : List ℕ → ℕ → ℕ
start_of [] actor = 0
start_of (n ∷ ns) zero = 0
start_of (n ∷ ns) (suc actor) = n + start_of ns actor

abbrev pub place_of : Places → ℕ → ℕ → ℕ
place_of t actor number = slice_index t.places.items (slice_index t.starts.items actor + number)

-- the table has a place for each actor and number
pub record IsLaidOut (t : Places) (counts : List ℕ) : Type 0 where
  pub starts_each : length t.starts.items ≡ length counts
  pub starts : (a : ℕ) → a < length counts → slice_index t.starts.items a ≡ start_of counts a
  pub long : length t.places.items ≡ start_of counts (length counts)

abbrev pub pair_at : List (ℕ × ℕ) → ℕ → ℕ × ℕ
pair_at pairs l = slice_index_or pairs l (0, 0)

-- each pair of the list is an actor and a number below its count, and no two are the same
pub record IsNumbering (counts : List ℕ) (pairs : List (ℕ × ℕ)) : Type 0 where
  pub fits : length pairs < 2 ^ 32
  pub actor_below : (l : ℕ) → l < length pairs → (pair_at pairs l).0 < length counts
  pub number_below : (l : ℕ) → l < length pairs → (pair_at pairs l).1 < slice_index counts (pair_at pairs l).0
  pub apart : (l k : ℕ) → l < length pairs → k < length pairs → (pair_at pairs l).0 ≡ (pair_at pairs k).0 → (pair_at pairs l).1 ≡ (pair_at pairs k).1 → l ≡ k

-- looking up a pair of the list gives its place there
abbrev pub Finds : Places → List (ℕ × ℕ) → ℕ → Type 0
Finds t pairs end = (l : ℕ) → l < end → place_of t (pair_at pairs l).0 (pair_at pairs l).1 ≡ l

-- the table of a numbering
pub record IsTableOf (t : Places) (counts : List ℕ) (pairs : List (ℕ × ℕ)) : Type 0 where
  pub laid_out : IsLaidOut t counts
  pub finds : Finds t pairs (length pairs)

-- for each actor and number the table has the place that a search finds
pub record Leads (t : Places) (counts : List ℕ) (search_for : ℕ → ℕ → ℕ) : Type 0 where
  pub laid_out : IsLaidOut t counts
  pub is : (a n : ℕ) → a < length counts → n < slice_index counts a → place_of t a n ≡ search_for a n

-- the pairs by which links come to their receivers, and go from their senders
abbrev pub incoming : List Link → List (ℕ × ℕ)
incoming links = map (λ l. (l.to, l.choice)) links

abbrev pub outgoing : List Link → List (ℕ × ℕ)
outgoing links = map (λ l. (l.from, l.out)) links
