use Rattle.std.proofs.Common.{◌≡◌, ◌++◌, map, take}
use Rattle.sl_value.specs.Counted.{value_read}
use Rattle.sl_value.proofs.kept.Kept.add.Given as goal

abbrev pub invariant-loop-row : goal.invariant-loop-row
invariant-loop-row l = record {
  unit : l.self.unit ≡ l.initial.self.unit;
  values : l.self.values.items ≡ l.initial.self.values.items ++ map (λ r. value_read l.view l.done.id r.0) (take l.row-index l.row-items);
  cap : l.self.values.cap ≡ l.initial.self.values.cap;
}
