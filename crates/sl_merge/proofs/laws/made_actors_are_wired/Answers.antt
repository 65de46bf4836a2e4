use Rattle.sl_merge.proofs.WiredLemmas.{made_wired, made_losses, kept_wired, kept_losses, logs_few}
use Rattle.sl_merge.proofs.laws.made_actors_are_wired.Goals as goal

pub returns : goal.returns
returns g c =
    record {
      wired = λ plan machines losses capacity actors fit counts ends tied. made_wired plan g.A.Machine.counts machines losses capacity actors fit counts ends tied;
      losses = λ plan losses capacity actors wired tied each fresh. made_losses plan losses capacity actors wired tied each fresh;
      kept = λ plan old new kept wired. kept_wired plan old new kept wired;
      same_losses = λ plan old new kept wired. kept_losses plan old new kept wired;
      few = λ bound actors all. logs_few bound actors all;
    }
