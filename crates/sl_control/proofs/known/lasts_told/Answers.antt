use Rattle.std.proofs.Common.{◌≡◌, ◌<◌, ap, sym, ◌∙◌, arith, length, get_or}
use Rattle.std.specs.Prelude.{min, slice_set}
use Rattle.std.proofs.lemmas.List.Sums.{fold_more}
use Rattle.sl_wire.specs.Reach.{reached}
use Rattle.sl_wire.specs.Wids.{unwrapped_each}
use Rattle.sl_control.specs.Rows.{seen_on}
use Rattle.sl_control.proofs.Telling.{length-each, each-at, seen-more, seen-few, reached-few}
use Rattle.sl_control.proofs.known.lasts_told.Goals as goal

pub loop-channel-preserved : goal.loop-channel-preserved
loop-channel-preserved c =
    let known = c.args.known.now in
    let wids = c.args.wids.now in
    let told = unwrapped_each c.args.width.bits known wids in
    let i = c.loop-channel.channel in
    let inv = c.loop-channel.invariant in
    let few : i < 8 = omega arith in
    let known_size : length known ≡ 8 = omega arith in
    let wids_size : length wids ≡ 8 = omega arith in
    let size : length told ≡ 8 = length-each c.args.width.bits known wids (known_size ∙ sym wids_size) ∙ known_size in
    let number : c.unwrap_from-number.result ≡ get_or told i 0 =
    c.unwrap_from-number.ensures.value ∙ sym (each-at c.args.width.bits known wids i (omega arith) (omega arith)) in
    record {
      last = ap (slice_set c.loop-channel.last i) number ∙ ap (λ ns. slice_set ns i (get_or told i 0)) inv.last ∙ seen-more i told few;
      reached = c.min-reached.ensures ∙ ap (min c.loop-channel.reached) number ∙ ap (λ n. min n (get_or told i 0)) inv.reached
          ∙ sym (fold_more min c.args.id told i 0 (omega arith));
      most = omega arith;
    }

pub returns-clause-last : goal.returns-clause-last
returns-clause-last c =
    let told = unwrapped_each c.args.width.bits c.args.known.now c.args.wids.now in
    let all : c.loop-channel.channel ≡ min c.args.count 8 = omega arith in
    c.loop-channel.invariant.last ∙ ap (λ n. seen_on n told) all ∙ seen-few c.args.count told

pub returns-clause-reached : goal.returns-clause-reached
returns-clause-reached c =
    let known = c.args.known.now in
    let wids = c.args.wids.now in
    let told = unwrapped_each c.args.width.bits known wids in
    let known_size : length known ≡ 8 = omega arith in
    let wids_size : length wids ≡ 8 = omega arith in
    let all : c.loop-channel.channel ≡ min c.args.count 8 = omega arith in
    c.loop-channel.invariant.reached ∙ ap (λ n. reached n c.args.id told) all
    ∙ reached-few c.args.count c.args.id told (length-each c.args.width.bits known wids (known_size ∙ sym wids_size) ∙ known_size)
