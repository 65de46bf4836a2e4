-- Trusted text.
-- Tables of the input, their keys, and how both are written.
use Rattle.std.specs.Prelude.{ℕ, List, [], ◌++◌, Option, Some, None, codes, decimal}
use Rattle.sl_form.specs.declared.path.TableName.{TableName}
use Rattle.sl_form.specs.declared.path.TableName.TheVariants as table
use Rattle.sl_form.specs.declared.path.Key.{Key}
use Rattle.sl_form.specs.declared.path.Key.TheVariants as key
use Rattle.sl_form.specs.declared.path.Path.{Path}

abbrev pub key_text : Key → List ℕ
key_text key.Device = codes "device"
key_text key.Cable = codes "cable"
key_text key.Host = codes "host"
key_text key.Snapshot = codes "snapshot"
key_text key.Loss = codes "loss"
key_text key.Flow = codes "flow"
key_text key.Raw = codes "raw"
key_text key.Script = codes "script"
key_text key.Name = codes "name"
key_text key.Ports = codes "ports"
key_text key.A = codes "a"
key_text key.B = codes "b"
key_text key.At = codes "at"
key_text key.Bits = codes "bits"
key_text key.Window = codes "window"
key_text key.Ring = codes "ring"
key_text key.Count = codes "count"
key_text key.Retries = codes "retries"
key_text key.Credits = codes "credits"
key_text key.Version = codes "version"
key_text key.Seed = codes "seed"
key_text key.Crossbar = codes "crossbar"
key_text key.Init = codes "init"
key_text key.Notice = codes "notice"
key_text key.Drop = codes "drop"
key_text key.Link = codes "link"
key_text key.N = codes "n"
key_text key.From = codes "from"
key_text key.To = codes "to"
key_text key.Bytes = codes "bytes"
key_text key.Hops = codes "hops"
key_text key.Hex = codes "hex"
key_text key.Entries = codes "entries"

-- a key of a table
abbrev pub at : TableName → Key → Path
at t k = record { table = t; key = k; element = None }

-- an element of the list at a key
abbrev pub element : TableName → Key → ℕ → Path
element t k i = record { table = t; key = k; element = Some i }

-- The paths as they are written: places in lists, from 0, are parts of their own.

abbrev pub table_text : TableName → List ℕ
table_text table.Top = codes "top"
table_text (table.Device i) = codes "device." ++ decimal i
table_text (table.Cable i) = codes "cable." ++ decimal i
table_text (table.Host i) = codes "host." ++ decimal i
table_text table.Snapshot = codes "snapshot"
table_text table.Loss = codes "loss"
table_text (table.Drop i) = codes "loss.drop." ++ decimal i
table_text (table.Flow i) = codes "flow." ++ decimal i
table_text (table.Raw i) = codes "raw." ++ decimal i
table_text table.Script = codes "script"

-- what stands before a key of a table
abbrev pub before_key : TableName → List ℕ
before_key table.Top = []
before_key t = table_text t ++ codes "."

abbrev pub after_key : Option ℕ → List ℕ
after_key None = []
after_key (Some i) = codes "." ++ decimal i

abbrev pub path_text : Path → List ℕ
path_text p = before_key p.table ++ (key_text p.key ++ after_key p.element)
