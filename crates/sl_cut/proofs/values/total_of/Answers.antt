use Rattle.sl_model.specs.Cut.{data_bytes, data_count}
use Rattle.sl_model.specs.Words.{weigh}
use Rattle.std.proofs.Common.{arith, take, ◌+◌, ◌≡◌}
use Rattle.sl_cut.proofs.Judging.{weigh_next}
use Rattle.sl_cut.proofs.values.total_of.Goals as goal

pub loop-message-preserved : goal.loop-message-preserved
loop-message-preserved c = let ms = c.args.messages.now in let i = c.loop-message.message-index in let m = c.message-item.result in
    let p : weigh data_count (take (i + 1) ms) ≡ weigh data_count (take i ms) + data_count m = weigh_next data_count ms i m m c.loop-message-test.true c.message-item.is in
    let b : weigh data_bytes (take (i + 1) ms) ≡ weigh data_bytes (take i ms) + data_bytes m = weigh_next data_bytes ms i m m c.loop-message-test.true c.message-item.is in
    record {
      packets = omega (arith, p, c.loop-message.invariant.packets, c.count_data.ensures.value);
      few = omega (arith, c.loop-message.invariant.few, c.count_data.ensures.bound);
      bytes = omega (arith, b, c.loop-message.invariant.bytes, c.data_bytes.ensures.value);
      bound = omega (arith, c.loop-message.invariant.bound, c.data_bytes.ensures.bound);
    }
