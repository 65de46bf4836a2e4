use Rattle.std.proofs.Common.{ap, sym}
use Rattle.sl_value.specs.Verdicts.{valued}
use Rattle.sl_value.proofs.verdict.ValueVerdict.of.Goals as goal

pub returns-in-Inconsistent : goal.returns-in-Inconsistent
returns-in-Inconsistent c = sym (ap valued c.in-Inconsistent.is)
