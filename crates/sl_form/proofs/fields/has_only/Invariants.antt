use Rattle.std.proofs.Common.{◌≡◌, string_bytes}
use Rattle.std.specs.List.{list_all}
use Rattle.toml.specs.View.{table_view}
use Rattle.sl_form.specs.Fields.{is_listed, has_only}
use Rattle.sl_form.proofs.fields.has_only.Given as goal

abbrev pub invariant-loop-name : goal.invariant-loop-name
invariant-loop-name l = list_all (λ k. is_listed l.keys (string_bytes k)) l.name-iterator ≡ has_only l.keys (table_view l.table)
