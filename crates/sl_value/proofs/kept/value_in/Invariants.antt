use Rattle.std.proofs.Common.{◌≡◌, map, drop}
use Rattle.sl_value.specs.Valued.{value_in, kept_view}
use Rattle.sl_value.proofs.kept.value_in.Given as goal

abbrev pub invariant-loop-u : goal.invariant-loop-u
invariant-loop-u l = value_in (map kept_view (drop l.u-index l.kept)) l.unit l.k ≡ value_in (map kept_view l.kept) l.unit l.k
