use Rattle.sl_model.proofs.Saved.Fits.{few-packets, few-bytes, fits-row}
use Rattle.sl_model.proofs.saved_laws.counts_fit.Goals as goal

pub returns : goal.returns
returns c = record { packets = few-packets; bytes = few-bytes; rows = fits-row }
