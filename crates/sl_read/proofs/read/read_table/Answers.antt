use Rattle.sl_read.proofs.Ranges.{document_ok}
use Rattle.sl_read.proofs.read.read_table.Goals as goal

pub settle-input-requires : goal.settle-input-requires
settle-input-requires c = let d = document_ok _ _ c.in_ok-document.ensures in record { versions = record { version = d.snapshot.version; cables = d.cables }; count = d.snapshot.count }
