use Rattle.std.proofs.Common.{rules}
use Rattle.sl_parts.proofs.NumberLemmas.{plain_refused}
use Rattle.sl_parts.proofs.number.plain_number.Goals as goal

pub returns-in_default-2 : goal.returns-in_default-2
returns-in_default-2 c = plain_refused c.args.text.now c.args.most c.parse.result _ c.in_default.is c.parse.ensures.value.0 (search rules) c.ranges.most.fits
