-- Trusted text, but for flag_rule, flag_app, HasNumber.
-- Which lists of words ask for something, and for what.
--     words_of ws         the command of the words with its option, or None where they are no spelling of one
-- One word -- may stand among the words after the first, and after it no option.
use Rattle.std.specs.Prelude.{ℕ, ◌≤◌, ◌+◌, ◌-◌, ◌*◌, ◌==◌, ◌&&◌, nat_le, option_map, option_and_then, codes, Bool, true, false, if◌then◌else◌, List, [], ◌∷◌, Option, Some, None}
use Rattle.std.specs.Str.{bytes_eq}
use Rattle.sl_parts.specs.Number.{plain_number}
use Rattle.clap.specs.Simple.{App, new_rule, new_shape, with_rule}
use Rattle.clap.specs.Walk.{Rule}
use Rattle.sl_words.specs.declared.flags.Flag.{Flag}
use Rattle.sl_words.specs.declared.flags.Flag.TheVariants.{Trace, Input}
use Rattle.sl_words.specs.declared.command.Command.{Command}
use Rattle.sl_words.specs.declared.command.Command.TheVariants.{Step, Run, Routes, Sample, Check, Balance, Poll, Values}
use Rattle.clap.specs.declared.builder.action.ArgAction.TheVariants.{SetTrue}

abbrev pub dashes : List ℕ
dashes = codes "--"

-- nothing more, or one word --
abbrev pub ends : Bool → List (List ℕ) → Option Bool
ends asked [] = Some asked
ends asked (w ∷ []) = if bytes_eq w dashes then Some asked else None
ends asked (w ∷ x ∷ rest) = None

-- the option may stand first
abbrev pub flag_words : List ℕ → List (List ℕ) → Option Bool
flag_words name [] = Some false
flag_words name (w ∷ rest) = if bytes_eq w name then ends true rest else ends false (w ∷ rest)

-- the name of the option, and the word
abbrev pub name_of : Flag → List ℕ
name_of Trace = codes "trace"
name_of Input = codes "input"

abbrev pub flag_word : Flag → List ℕ
flag_word f = 45 ∷ 45 ∷ name_of f

-- the command that reads the words
abbrev pub flag_rule : Flag → Rule
flag_rule f = record (new_rule (codes "flag")) { long = Some (name_of f); action = Some SetTrue }

abbrev pub flag_app : Flag → App
flag_app f = with_rule (record { top = record (new_shape (codes "command")) { no_binary_name = true; disable_help_flag = true }; subs = [] }) (flag_rule f)

-- a number from 1 to 64, with no sign and no leading zero
abbrev pub two_digits : ℕ → ℕ → Option ℕ
two_digits t o =
    if (nat_le 49 t && nat_le t 53) && (nat_le 48 o && nat_le o 57) then Some ((t - 48) * 10 + (o - 48))
    else if t == 54 && (nat_le 48 o && nat_le o 52) then Some (60 + (o - 48)) else None

abbrev pub sample_number : List ℕ → Option ℕ
sample_number [] = None
sample_number (o ∷ []) = if nat_le 49 o && nat_le o 57 then Some (o - 48) else None
sample_number (t ∷ o ∷ []) = two_digits t o
sample_number (t ∷ o ∷ x ∷ rest) = None

-- the first word that is a number, and the other words
abbrev pub number_or : List ℕ → List (List ℕ) → Option ℕ → Option (ℕ × List (List ℕ)) → Option (ℕ × List (List ℕ))
number_or w rest (Some n) later = Some (n, rest)
number_or w rest None later = option_map (λ p. (p.0, w ∷ p.1)) later

abbrev pub take_number : List (List ℕ) → Option (ℕ × List (List ℕ))
take_number [] = None
take_number (w ∷ rest) = number_or w rest (sample_number w) (take_number rest)

-- one number, and around it the words of the option
abbrev pub sample_words : List (List ℕ) → Option (ℕ × Bool)
sample_words ws = option_and_then (λ p. option_map (λ asked. (p.0, asked)) (flag_words (flag_word Input) p.1)) (take_number ws)

-- the words without the first that is --
abbrev pub without_dashes : List (List ℕ) → List (List ℕ)
without_dashes [] = []
without_dashes (w ∷ ws) = if bytes_eq w dashes then ws else w ∷ without_dashes ws

-- a number from 0 to 1,000,000, with no sign and no leading zero
abbrev pub pace_number : List ℕ → Option ℕ
pace_number w = plain_number 1000000 w

-- two such numbers and nothing else
abbrev pub two_numbers : List (List ℕ) → Option (ℕ × ℕ)
two_numbers (s ∷ g ∷ []) = option_and_then (λ start. option_map (λ gap. (start, gap)) (pace_number g)) (pace_number s)
two_numbers _ = None

-- the same, and one word -- among them
abbrev pub poll_words : List (List ℕ) → Option (ℕ × ℕ)
poll_words ws = two_numbers (without_dashes ws)

-- The commands.

abbrev pub step_of : List (List ℕ) → Option Command
step_of ws = option_map Step (flag_words (flag_word Trace) ws)

abbrev pub run_of : List (List ℕ) → Option Command
run_of ws = option_map Run (flag_words (flag_word Trace) ws)

-- a command that has no option
abbrev pub bare : Command → List (List ℕ) → Option Command
bare command ws = option_map (λ asked. command) (ends false ws)

abbrev pub sample_of : List (List ℕ) → Option Command
sample_of ws = option_map (λ p. Sample p.0 p.1) (sample_words ws)

abbrev pub poll_of : List (List ℕ) → Option Command
poll_of ws = option_map (λ p. Poll p.0 p.1) (poll_words ws)

-- the first word is the command's name
abbrev pub command_of : List ℕ → List (List ℕ) → Option Command
command_of w ws =
    if bytes_eq w (codes "step") then step_of ws
    else if bytes_eq w (codes "run") then run_of ws
    else if bytes_eq w (codes "routes") then bare Routes ws
    else if bytes_eq w (codes "sample") then sample_of ws
    else if bytes_eq w (codes "check") then bare Check ws
    else if bytes_eq w (codes "balance") then bare Balance ws
    else if bytes_eq w (codes "poll") then poll_of ws
    else if bytes_eq w (codes "values") then bare Values ws
    else None

abbrev pub words_of : List (List ℕ) → Option Command
words_of [] = None
words_of (w ∷ ws) = command_of w ws

-- a sample has a number from 1 to 64
abbrev pub HasNumber : Command → Type 0
HasNumber (Sample n input) = (1 ≤ n) × (n ≤ 64)
HasNumber _ = Unit {0}
