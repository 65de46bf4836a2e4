use Rattle.sl_merge.proofs.EndedLemmas.{ended_is_run, ended_logs, ended_in_order}
use Rattle.sl_merge.proofs.laws.actors_are_runs.Goals as goal

pub returns : goal.returns
returns g c =
    record {
      run = λ e book h m. ended_is_run g.A.Machine.rules e h book m;
      logs = λ e h. ended_logs g.A.Machine.rules e h;
      in_order = λ e h. ended_in_order g.A.Machine.rules e h;
    }
