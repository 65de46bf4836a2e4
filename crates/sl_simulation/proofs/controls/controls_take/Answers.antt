use Rattle.sl_simulation.proofs.ControlTurns.{takes-message}
use Rattle.sl_simulation.proofs.controls.controls_take.Goals as goal

pub returns : goal.returns
returns c s lost es e d sizes step m told x t h q p some few i r = takes-message s lost es e d sizes step m told x t (record {
  turns = c.worlds_take_turns.ensures;
  asked = λ lost es a d. c.dumps_answer_polls.ensures.polls s lost es a d h.net;
  awaited = λ lost es e step. c.dumps_answer_polls.ensures.next s lost es e step h.net;
  brought = λ lost es e m step. c.dumps_bring_rows.ensures s lost es e m step h.net;
  windows = λ lost es. c.worlds_are_in_window.ensures s lost es h.net;
  facts = record {
    live = c.brought_rows_are_read.ensures.live;
    reads = c.brought_rows_are_read.ensures.read;
    unwraps = c.numbers_near_are_unwrapped.ensures;
    below = c.last_seen_numbers_are_below.ensures;
  };
}) (c.nets_are_wired.ensures s.net h.net) q p some few h.next h.taken i r
