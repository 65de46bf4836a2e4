-- What saved entries in a list are.
use Rattle.std.specs.Prelude.{ℕ, ◌<◌, length, vec_len, vec_capacity}
use Rattle.sl_saves.specs.declared.list.ListSaves.{ListSaves}
use Rattle.sl_saves.specs.Keeping.{EntryList}

abbrev pub list_kept : ListSaves → EntryList
list_kept l = record { size = l.ring; last = l.number; entries = l.entries.items }

abbrev pub list_window : ListSaves → ℕ
list_window l = l.window

abbrev pub list_size : ListSaves → ℕ
list_size l = l.ring

abbrev pub list_credits : ListSaves → ℕ
list_credits l = l.credits

-- there is room for one entry more
abbrev pub ListHasRoom : ListSaves → Type 0
ListHasRoom l = (vec_len l.entries < vec_capacity l.entries) × (length l.entries.items < 140737488355328)
