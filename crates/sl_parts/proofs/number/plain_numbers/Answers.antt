use Rattle.sl_parts.proofs.NumberLemmas.{is_plain_number}
use Rattle.sl_parts.proofs.number.plain_numbers.Goals as goal

pub returns : goal.returns
returns c = is_plain_number
