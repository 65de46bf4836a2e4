-- Trusted text.
-- Tables and their keys.
use Rattle.std.specs.Prelude.{ℕ, ℤ, pos, negsuc, Bool, true, ◌&&◌, if◌then◌else◌, nat_le, List, Option, Some, None, Result, Ok, Err}
use Rattle.std.specs.List.{list_any}
use Rattle.std.specs.Str.{bytes_eq}
use Rattle.toml.specs.Data.{Data, string, integer, Members, no_members, member, get_member}
use Rattle.sl_form.specs.declared.path.TableName.{TableName}
use Rattle.sl_form.specs.declared.path.Key.{Key}
use Rattle.sl_form.specs.declared.path.Path.{Path}
use Rattle.sl_form.specs.declared.refusal.Refusal.{Refusal}
use Rattle.sl_form.specs.declared.refusal.Refusal.TheVariants.{Absent, Unlisted, Form, Range}
use Rattle.sl_form.specs.Paths.{key_text, at}
use Rattle.sl_form.specs.Refusals.{◌>>=◌}

abbrev pub is_listed : List Key → List ℕ → Bool
is_listed keys name = list_any (λ k. bytes_eq (key_text k) name) keys

-- each key of the table is listed
abbrev pub has_only : List Key → Members → Bool
has_only keys no_members = true
has_only keys (member name d rest) = is_listed keys name && has_only keys rest

-- a key that isn't listed is refused, and the table named
abbrev pub only : TableName → List Key → Members → Result (Unit {0}) Refusal
only t keys ms = if has_only keys ms then Ok tt else Err (Unlisted t)

-- the value at a key
abbrev pub get_key : Key → Members → Option Data
get_key k ms = get_member (key_text k) ms

-- a key that has to be there
abbrev pub required : {A : Type 0} → Path → (Path → Data → Result A Refusal) → Option Data → Result A Refusal
required p read None = Err (Absent p)
required p read (Some d) = read p d

-- a key that may be absent, and what then stands for it
abbrev pub optional : {A : Type 0} → Path → A → (Path → Data → Result A Refusal) → Option Data → Result A Refusal
optional p default read None = Ok default
optional p default read (Some d) = read p d

-- a number within its range
abbrev pub in_range : Path → ℕ → ℕ → ℤ → Result ℕ Refusal
in_range p low high (pos n) = if nat_le low n && nat_le n high then Ok n else Err (Range p (pos n))
in_range p low high (negsuc n) = Err (Range p (negsuc n))

abbrev pub number : Path → ℕ → ℕ → Data → Result ℕ Refusal
number p low high (integer z) = in_range p low high z
number p low high _ = Err (Form p)

abbrev pub required_number : TableName → Key → ℕ → ℕ → Members → Result ℕ Refusal
required_number t k low high ms = required (at t k) (λ p. number p low high) (get_key k ms)

-- the least one where it is absent
abbrev pub optional_number : TableName → Key → ℕ → ℕ → Members → Result ℕ Refusal
optional_number t k low high ms = optional (at t k) low (λ p. number p low high) (get_key k ms)

-- none where it is absent
abbrev pub given_number : TableName → Key → ℕ → ℕ → Members → Result (Option ℕ) Refusal
given_number t k low high ms = optional (at t k) None (λ p d. number p low high d >>= (λ n. Ok (Some n))) (get_key k ms)

abbrev pub text_at : Path → Data → Result (List ℕ) Refusal
text_at p (string text) = Ok text
text_at p _ = Err (Form p)

abbrev pub required_text : TableName → Key → Members → Result (List ℕ) Refusal
required_text t k ms = required (at t k) text_at (get_key k ms)

-- what a form finds in a text
abbrev pub formed : {A : Type 0} → Path → Option A → Result A Refusal
formed p None = Err (Form p)
formed p (Some x) = Ok x

-- a text of a form
abbrev pub required_form : {A : Type 0} → (List ℕ → Option A) → TableName → Key → Members → Result A Refusal
required_form form t k ms = required_text t k ms >>= (λ text. formed (at t k) (form text))
