use Rattle.sl_simulation.proofs.ControlTurns.{takes-anywhere, sweeps-anywhere}
use Rattle.sl_simulation.proofs.controls.controls_step_from_any_state.Goals as goal

pub returns-clause-takes : goal.returns-clause-takes
returns-clause-takes c net sizes window a k d l us ws m told x t n q p some g f asked awaits grows is r =
    takes-anywhere (record {
      live = c.brought_rows_are_read.ensures.live;
      reads = c.brought_rows_are_read.ensures.read;
      unwraps = c.numbers_near_are_unwrapped.ensures;
      below = c.last_seen_numbers_are_below.ensures;
    })
    net sizes window a d us ws (c.nets_are_wired.ensures net n) q p some asked k l m told x t g f awaits grows is r

pub returns-clause-sweeps : goal.returns-clause-sweeps
returns-clause-sweeps c net sizes a d us ws t n q asked swept grows r = sweeps-anywhere net sizes a d us ws t (c.nets_are_wired.ensures net n) q asked swept grows r
