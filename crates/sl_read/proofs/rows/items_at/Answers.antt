use Rattle.std.proofs.Common.{refl, rules}
use Rattle.toml.specs.declared.value.Value.{the_lemmas}
use Rattle.toml.proofs.Views.{view-Array}
use Rattle.sl_read.proofs.rows.items_at.Goals as goal

pub returns-in-Array : goal.returns-in-Array
returns-in-Array c = rw (c.in-Array.is, view-Array, c.as_slice.ensures.value) refl

pub returns-in_default : goal.returns-in_default
returns-in_default c = search (rules, the_lemmas)
