use Rattle.std.proofs.Common.{arith}
use Rattle.sl_model.specs.History.{id}
use Rattle.sl_simulation.proofs.Bad.{id-gone, no-old}
use Rattle.sl_simulation.proofs.Erased.{id-same, last-same, packets-same, bytes-same, expired-same, noroute-same, no-bad, calls-same, value-same, cause-same, lag-same, row-same}
use Rattle.sl_simulation.proofs.forged_laws.forged_frames_change_nothing.Goals as goal

pub returns : goal.returns
returns c = record {
  id = id-same;
  last = last-same;
  packets = packets-same;
  bytes = bytes-same;
  expired = expired-same;
  noroute = noroute-same;
  bad = no-bad;
  calls = λ cs. calls-same cs (λ s h q. c.calls_follow_steps.ensures.stays cs s h (let e = id-gone s h q in omega (arith, e)) (no-old (id h) s.taken q));
  value = value-same;
  cause = cause-same;
  lag = lag-same;
  row = row-same;
}
