-- Trusted text, but for IsEntryOf, in_script, ReadsBack.
-- The text of a trace: how many entries the book has, then the spelling of each. Each line ends with a newline.
use Rattle.std.specs.Prelude.{◌≡◌, ℕ, List, ◌++◌, map, flat_map, length, Ok, codes, decimal}
use Rattle.sl_machine.specs.declared.wiring.Entry.{Entry}
use Rattle.sl_net.specs.declared.input.Script1.{Script1}
use Rattle.sl_net.specs.declared.input.Script1.TheVariants.{Choice}
use Rattle.sl_layout.specs.Net.{Net}
use Rattle.sl_net.specs.Spelling.{choice_text, HasChoice}
use Rattle.sl_read.specs.Choices.{entries_of}

-- the entry is a choice of the net
abbrev pub IsEntryOf : Net → Entry → Type 0
IsEntryOf net e = HasChoice net e.actor e.choice

abbrev pub entry_text : Net → Entry → List ℕ
entry_text net e = choice_text net e.actor e.choice

unfoldable pub count_line : ℕ → List ℕ
count_line count = codes "trace " ++ (decimal count ++ codes "\n")

unfoldable pub entry_line : Net → Entry → List ℕ
entry_line net e = entry_text net e ++ codes "\n"

abbrev pub trace_text : Net → List Entry → List ℕ
trace_text net entries = count_line (length entries) ++ flat_map (entry_line net) entries

-- the entry of a script
abbrev pub in_script : Entry → Script1
in_script e = Choice e.actor e.choice

-- the lines of the entries, read as those of a script, are these entries
abbrev pub ReadsBack : Net → List Entry → Type 0
ReadsBack net entries = entries_of net 0 0 (map (entry_text net) entries) ≡ Ok (map in_script entries)
