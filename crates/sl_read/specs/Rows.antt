-- Trusted text.
-- Tables in tables, and lists of tables.
use Rattle.std.specs.Prelude.{ℕ, ◌+◌, List, [], ◌∷◌, Option, Some, None, Result, Ok, Err}
use Rattle.toml.specs.Data.{Data, array, table, Items, no_items, item, Members}
use Rattle.sl_form.specs.declared.path.TableName.{TableName}
use Rattle.sl_form.specs.declared.path.Key.{Key}
use Rattle.sl_form.specs.declared.path.Path.{Path}
use Rattle.sl_form.specs.declared.refusal.Refusal.{Refusal}
use Rattle.sl_form.specs.declared.refusal.Refusal.TheVariants.{Form}
use Rattle.sl_form.specs.Paths.{at, element}
use Rattle.sl_form.specs.Refusals.{◌>>=◌}
use Rattle.sl_form.specs.Fields.{get_key, required, optional}

abbrev pub table_at : Path → Data → Result Members Refusal
table_at p (table ms) = Ok ms
table_at p _ = Err (Form p)

abbrev pub items_at : Path → Data → Result Items Refusal
items_at p (array ds) = Ok ds
items_at p _ = Err (Form p)

-- each element of the list at a key is a table, from place i on
abbrev pub all_tables : TableName → Key → ℕ → Items → Result (Unit {0}) Refusal
all_tables t k i no_items = Ok tt
all_tables t k i (item d ds) = table_at (element t k i) d >>= (λ _. all_tables t k (i + 1) ds)

-- a list of tables
abbrev pub tables_at : TableName → Key → Data → Result Items Refusal
tables_at t k d = items_at (at t k) d >>= (λ ds. all_tables t k 0 ds >>= (λ _. Ok ds))

abbrev pub required_tables : TableName → Key → Members → Result Items Refusal
required_tables t k ms = required (at t k) (λ _. tables_at t k) (get_key k ms)

-- no tables where the key is absent
abbrev pub optional_tables : TableName → Key → Members → Result Items Refusal
optional_tables t k ms = optional (at t k) no_items (λ _. tables_at t k) (get_key k ms)

abbrev pub required_table : TableName → Key → Members → Result Members Refusal
required_table t k ms = required (at t k) table_at (get_key k ms)

abbrev pub optional_table : TableName → Key → Members → Result (Option Members) Refusal
optional_table t k ms = optional (at t k) None (λ p d. table_at p d >>= (λ inner. Ok (Some inner))) (get_key k ms)

-- The tables of the list at a key, each read by its place.
module _ {A : Type 0} (t : TableName) (k : Key) (read : ℕ → Members → Result A Refusal) where
  abbrev pub row : ℕ → Data → Result A Refusal
  row i d = table_at (element t k i) d >>= read i

  -- from place i on
  abbrev pub rows : ℕ → Items → Result (List A) Refusal
  rows i no_items = Ok []
  rows i (item d ds) = row i d >>= (λ r. rows (i + 1) ds >>= (λ rest. Ok (r ∷ rest)))
