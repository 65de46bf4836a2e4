use Rattle.std.proofs.Common.{arith, string_bytes, drop}
use Rattle.sl_value.specs.ValuesText.{value_lines}
use Rattle.sl_value.proofs.Texts.{lines_none, written_all}
use Rattle.sl_value.proofs.text.push_values.Goals as goal

pub returns : goal.returns
returns c = written_all (string_bytes c.loop-i.out) (string_bytes c.args.out.now) (value_lines c.args.net.now (drop c.loop-i.i c.args.units.now) (drop c.loop-i.i c.args.values.now))
    (value_lines c.args.net.now c.args.units.now c.args.values.now) c.loop-i.invariant (lines_none c.args.net.now c.args.units.now c.args.values.now c.loop-i.i (omega (arith, c.min-i-end.ensures)))
