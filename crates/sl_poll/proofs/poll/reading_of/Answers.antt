use Rattle.std.proofs.Common.{◌<◌, [], length, map, refl, ap, sym, subst, ◌∙◌}
use Rattle.std.specs.Prelude.{find, IfSome}
use Rattle.sl_parts.specs.Parts.{below}
use Rattle.sl_layout.specs.Net.{units}
use Rattle.sl_poll.specs.declared.sums.Pace.{Pace}
use Rattle.sl_poll.specs.HasRead.{HasRead}
use Rattle.sl_poll.specs.Reading.{read_after, breaks}
use Rattle.sl_poll.specs.Sums.{read_by}
use Rattle.sl_poll.proofs.Heard.{hears_apart}
use Rattle.sl_poll.proofs.Told.{reads-from, broken-from}
use Rattle.sl_poll.proofs.poll.reading_of.Goals as goal

pub returns : goal.returns
returns c =
    let net = c.args.net.now in let ps = c.as_slice.result.now in let cs = c.as_slice-2.result.now in
    let first = c.in_ok-polling.polling in
    let all = hears_apart HasRead net first _ _ ps cs c.in_ok-tell_pairs.ensures c.in_ok-tell_counts.ensures first [] [] c.in_ok-polling.ensures.first in record {
      reads = λ s lost es n k same. reads-from s lost es es c.args.start c.args.gap c.args.count net cs _ c.worlds_take_turns.ensures (c.nets_have_ways.ensures net) n k (c.as_slice-2.ensures ∙ same) (λ i h. refl)
          (c.in_ok-polled.ensures.reads first ps cs all ∙ ap (λ (k : Pace). map (read_by (read_after k.count k.start k.gap) cs) (below (length (units net)))) c.in_ok-polling.ensures.pace);
      broken = λ s lost es n k same. broken-from s lost es es c.args.start c.args.gap c.args.count net ps _ n k (c.as_slice.ensures ∙ same) refl
          (c.in_ok-polled.ensures.broken ∙ all.broken ∙ ap (λ (k : Pace). find (breaks net k.count k.start k.gap) ps) c.in_ok-polling.ensures.pace);
      link = subst (λ o. IfSome o (λ q. q.link < length net.links)) (sym c.in_ok-polled.ensures.broken) all.link;
    }
