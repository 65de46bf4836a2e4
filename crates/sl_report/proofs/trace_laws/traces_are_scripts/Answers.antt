use Rattle.sl_report.proofs.Traces.{reads_back}
use Rattle.sl_report.proofs.trace_laws.traces_are_scripts.Goals as goal

pub returns : goal.returns
returns c = reads_back c.args.net.now c.spellings_name_choices.ensures
