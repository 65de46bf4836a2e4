use Rattle.sl_simulation.proofs.ControlTurns.{acts, idles}
use Rattle.sl_simulation.proofs.controls.controls_act.Goals as goal

pub returns-clause-acts : goal.returns-clause-acts
returns-clause-acts c s lost es e d sizes step t n q k o r =
    acts s lost es e d sizes step t c.worlds_take_turns.ensures (c.dumps_answer_polls.ensures.polls s lost es e.0 d n q) (c.nets_are_wired.ensures s.net n) q k o r

pub returns-clause-idle : goal.returns-clause-idle
returns-clause-idle c s lost es e d sizes t q k r = idles s lost es e d sizes t q k r
