-- Trusted text, but for sections_view.
-- The top table.
use Rattle.std.specs.Prelude.{[], ◌∷◌, Option, option_map, Result, Ok}
use Rattle.toml.specs.Data.{Items, Members}
use Rattle.toml.specs.View.{items_view, table_view}
use Rattle.sl_form.specs.declared.path.TableName.TheVariants.{Top}
use Rattle.sl_form.specs.declared.path.Key.TheVariants.{Device, Cable, Host, Snapshot, Loss, Flow, Raw, Script}
use Rattle.sl_form.specs.declared.refusal.Refusal.{Refusal}
use Rattle.sl_read.specs.declared.top.Sections as code
use Rattle.sl_form.specs.Refusals.{◌>>=◌}
use Rattle.sl_form.specs.Fields.{only}
use Rattle.sl_read.specs.Rows.{required_tables, optional_tables, required_table, optional_table}

-- the values of the top table, each of the kind that it has to be
pub record Sections : Type 0 where
  pub devices : Items
  pub cables : Items
  pub hosts : Items
  pub snapshot : Members
  pub loss : Option Members
  pub flows : Items
  pub raws : Items
  pub script : Option Members

unfoldable pub sections_of : Members → Result Sections Refusal
sections_of ms = do
  _ ← only Top (Device ∷ Cable ∷ Host ∷ Snapshot ∷ Loss ∷ Flow ∷ Raw ∷ Script ∷ []) ms
  devices ← required_tables Top Device ms
  cables ← optional_tables Top Cable ms
  hosts ← optional_tables Top Host ms
  snapshot ← required_table Top Snapshot ms
  loss ← optional_table Top Loss ms
  flows ← optional_tables Top Flow ms
  raws ← optional_tables Top Raw ms
  script ← optional_table Top Script ms
  Ok (record { devices = devices; cables = cables; hosts = hosts; snapshot = snapshot; loss = loss; flows = flows; raws = raws; script = script })

-- what the code's references lead to
abbrev pub sections_view : code.Sections → Sections
sections_view s = record {
  devices = items_view s.devices.now;
  cables = items_view s.cables.now;
  hosts = items_view s.hosts.now;
  snapshot = table_view s.snapshot.now;
  loss = option_map (λ t. table_view t.now) s.loss;
  flows = items_view s.flows.now;
  raws = items_view s.raws.now;
  script = option_map (λ t. table_view t.now) s.script;
}
