-- Trusted text.
-- The shape of the input: the top table, and then each table in order.
use Rattle.std.specs.Prelude.{Result, Ok}
use Rattle.toml.specs.Data.{Members}
use Rattle.sl_form.specs.declared.path.TableName.TheVariants.{Top}
use Rattle.sl_form.specs.declared.path.Key.TheVariants.{Device, Cable, Host, Flow, Raw}
use Rattle.sl_form.specs.declared.refusal.Refusal.{Refusal}
use Rattle.sl_read.specs.declared.document.Document.{Document}
use Rattle.sl_form.specs.Refusals.{◌>>=◌}
use Rattle.sl_read.specs.Rows.{rows}
use Rattle.sl_read.specs.Sections.{Sections, sections_of}
use Rattle.sl_read.specs.Tables.{device_of, cable_of, host_of, snapshot_of, any_loss_of, flow_of, raw_of, any_script_of}

unfoldable pub walk_of : Sections → Result Document Refusal
walk_of top = do
  devices ← rows Top Device device_of 0 top.devices
  cables ← rows Top Cable cable_of 0 top.cables
  hosts ← rows Top Host host_of 0 top.hosts
  snapshot ← snapshot_of top.snapshot
  loss ← any_loss_of top.loss
  flows ← rows Top Flow flow_of 0 top.flows
  raws ← rows Top Raw raw_of 0 top.raws
  script ← any_script_of top.script
  Ok (record { devices = devices; cables = cables; hosts = hosts; snapshot = snapshot; loss = loss; flows = flows; raws = raws; script = script })

unfoldable pub document_of : Members → Result Document Refusal
document_of ms = sections_of ms >>= walk_of
