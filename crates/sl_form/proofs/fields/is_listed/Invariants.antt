use Rattle.std.proofs.Common.{◌≡◌, drop}
use Rattle.sl_form.specs.Fields.{is_listed}
use Rattle.sl_form.proofs.fields.is_listed.Given as goal

abbrev pub invariant-loop-key : goal.invariant-loop-key
invariant-loop-key l = is_listed (drop l.key-index l.keys) l.name ≡ is_listed l.keys l.name
