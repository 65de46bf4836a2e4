use Rattle.std.proofs.Common.{List, length, map, ap, ◌∙◌}
use Rattle.sl_parts.specs.Parts.{below}
use Rattle.sl_layout.specs.Net.{units}
use Rattle.sl_poll.specs.declared.sums.Pace.{Pace}
use Rattle.sl_poll.specs.declared.sums.Sum.{Sum}
use Rattle.sl_poll.specs.Reading.{read_after}
use Rattle.sl_poll.specs.Sums.{read_of_sum}
use Rattle.sl_poll.proofs.Told.{reads_same}
use Rattle.sl_poll.proofs.poll.Polling.finish.Goals as goal

pub returns-clause-reads : goal.returns-clause-reads
returns-clause-reads c = λ first ps cs h.
    let at = read_after first.pace.count first.pace.start first.pace.gap in let sums = c.args.self.sums.items in
    c.in_ok-items.ensures
    ∙ ap (λ (k : Pace). map (read_of_sum (read_after k.count k.start k.gap) c.as_slice.result.now) (below c.unit_count-count.result)) h.pace
    ∙ ap (λ (xs : List Sum). map (read_of_sum at xs) (below c.unit_count-count.result)) c.as_slice.ensures.value
    ∙ ap (λ n. map (read_of_sum at sums) (below n)) c.unit_count-count.ensures.count
    ∙ reads_same at cs (length (units c.args.net.now)) sums h.sums
