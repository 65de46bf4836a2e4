use Rattle.sl_model.proofs.Worlds.Passing.{puts-fields, takes-fields, fields-short}
use Rattle.sl_model.proofs.row_laws.packets_have_fields.Goals as goal

pub returns : goal.returns
returns c = record { put = puts-fields; counted = takes-fields; short = fields-short }
