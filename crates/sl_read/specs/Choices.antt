-- Trusted text, but for NamesChoices.
-- Spellings of links and of script entries, looked up in the net.
use Rattle.std.specs.Prelude.{◌≡◌, ℕ, ◌+◌, Bool, ◌&&◌, nat_lt, nat_le, if◌then◌else◌, List, [], ◌∷◌, map, flat_map, length, Option, Some, None, option_map, option_and_then, bytes_eq, Result, Ok, Err}
use Rattle.sl_net.specs.declared.input.Drop1.{Drop1}
use Rattle.sl_net.specs.declared.input.Script1.{Script1}
use Rattle.sl_net.specs.declared.input.Script1.TheVariants.{Pass, Choice}
use Rattle.sl_parts.specs.Parts.{below}
use Rattle.sl_layout.specs.Net.{Net, link_of, link_at, action_choice}
use Rattle.sl_layout.specs.Wiring.{kind_of, is_lossy}
use Rattle.sl_net.specs.Spelling.{choice_text, choice_count, HasChoice}
use Rattle.sl_form.specs.declared.path.TableName.TheVariants as table
use Rattle.sl_form.specs.declared.path.Key.TheVariants.{Link}
use Rattle.sl_form.specs.declared.refusal.Refusal.{Refusal}
use Rattle.sl_form.specs.declared.refusal.Refusal.TheVariants.{Entry}
use Rattle.sl_read.specs.declared.loss.DropRow.{DropRow}
use Rattle.sl_form.specs.Paths.{at}
use Rattle.sl_form.specs.Refusals.{◌>>=◌}
use Rattle.sl_read.specs.Places.{known}
use Rattle.sl_form.specs.Forms.{pass_of}

-- each choice of each actor
abbrev pub choices : Net → List (ℕ × ℕ)
choices net = flat_map (λ a. map (λ c. (a, c)) (below (choice_count net a))) (below (length net.actors))

-- the first pair that passes
abbrev pub first : (ℕ × ℕ → Bool) → List (ℕ × ℕ) → Option (ℕ × ℕ)
first passes [] = None
first passes (p ∷ ps) = if passes p then Some p else first passes ps

-- the choice whose spelling a text is
unfoldable pub choice_named : Net → List ℕ → Option (ℕ × ℕ)
choice_named net text = first (λ p. bytes_eq (choice_text net p.0 p.1) text) (choices net)

-- each choice of the net is the one that its spelling names
abbrev pub NamesChoices : Net → Type 0
NamesChoices net = (a c : ℕ) → HasChoice net a c → choice_named net (choice_text net a c) ≡ Some (a, c)

-- the link that a choice takes from, where messages on it may be lost
abbrev pub lossy_link : Net → ℕ → ℕ → Option ℕ
lossy_link net a c = if nat_lt c (action_choice net a) && is_lossy (kind_of (link_of net (link_at net a c)).sort) then Some (link_at net a c) else None

-- the lossy link whose spelling a text is: that of the choice that takes from it
unfoldable pub link_named : Net → List ℕ → Option ℕ
link_named net text = option_and_then (λ p. lossy_link net p.0 p.1) (choice_named net text)

abbrev pub drop_part : Net → ℕ → DropRow → Result Drop1 Refusal
drop_part net i row = known (at (table.Drop i) Link) (link_named net row.link) >>= (λ l. Ok (record { link = l; n = row.n }))

abbrev pub as_choice : ℕ × ℕ → Script1
as_choice p = Choice p.0 p.1

-- so many passes, or else a choice
abbrev pub pass_or : Option ℕ → Option (ℕ × ℕ) → Option Script1
pass_or (Some n) choice = Some (Pass n)
pass_or None choice = option_map as_choice choice

unfoldable pub entry_of : Net → List ℕ → Option Script1
entry_of net text = pass_or (pass_of text) (choice_named net text)

-- how many passes an entry asks for
abbrev pub passes : Script1 → ℕ
passes (Pass n) = n
passes (Choice a c) = 0

-- an entry after so many passes, which may be 10000 in all
abbrev pub fits : ℕ → ℕ → Option Script1 → Result Script1 Refusal
fits i used None = Err (Entry i)
fits i used (Some e) = if nat_le (used + passes e) 10000 then Ok e else Err (Entry i)

unfoldable pub fitting : Net → ℕ → ℕ → List ℕ → Result Script1 Refusal
fitting net i used text = fits i used (entry_of net text)

-- the entries from place i on
abbrev pub entries_of : Net → ℕ → ℕ → List (List ℕ) → Result (List Script1) Refusal
entries_of net i used [] = Ok []
entries_of net i used (text ∷ texts) = fitting net i used text >>= (λ e. entries_of net (i + 1) (used + passes e) texts >>= (λ es. Ok (e ∷ es)))
