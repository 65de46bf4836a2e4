use Rattle.std.proofs.Common.{◌∙◌, ◌<◌, ◌≤◌, ap, arith, sym, refl, length, map, get_or, [], None}
use Rattle.std.proofs.lemmas.List.{get_or_read, get_or-map, length-set, length-map, map-set}
use Rattle.sl_world.proofs.ResumeLemmas.{line_pushed, left_more}
use Rattle.sl_world.proofs.make.lines_with.Goals as goal

pub loop-link-preserved : goal.loop-link-preserved
loop-link-preserved g c =
    let i = c.loop-link.link in
    let losses = c.loop-link.losses.items in
    let rests = c.loop-link.rests.items in
    let low : i < length losses = omega (arith, c.loop-link.invariant.losses_each, c.requires.lost, c.loop-link-test.true) in
    let low_rests : i < length rests = omega (arith, c.loop-link.invariant.rests_each, c.requires.rests, c.requires.lost, c.loop-link-test.true) in
    let now : i ≤ i = omega arith in
    record {
      made = line_pushed c.loop-link.lines.items c.push.new.self.items c.with-line.result c.args.losses.items c.args.lost.now (map (λ v. v.items) c.args.rests.items) i c.take.result _ c.replace-rest.result.items
          c.in_ok-push.ensures.items c.with-line.ensures c.loop-link.invariant.made (omega (arith, c.loop-link.invariant.losses_each)) c.requires.lost (length-map c.args.rests.items (λ v. v.items) ∙ c.requires.rests)
          (ap (λ v. v.items) (c.replace-rest.ensures.value ∙ c.index_mut.ensures.value) ∙ (sym (get_or-map (λ v. v.items) rests i c.index_mut.result.now [] low_rests) ∙ c.loop-link.invariant.rests_left i now))
          (c.take.ensures.value ∙ (get_or_read losses i c.index_mut-in-loop-link.result.now low c.index_mut-in-loop-link.ensures.value None ∙ c.loop-link.invariant.losses_left i now))
          refl;
      losses_left = left_more losses c.args.losses.items i c.take.new.self None c.loop-link.invariant.losses_left;
      rests_left = λ j h.
          ap (λ qs. get_or qs j []) (map-set (λ v. v.items) rests i c.replace-rest.new.dest)
          ∙ left_more (map (λ v. v.items) rests) (map (λ v. v.items) c.args.rests.items) i c.replace-rest.new.dest.items [] c.loop-link.invariant.rests_left j h;
      losses_each = length-set _ _ _ ∙ c.loop-link.invariant.losses_each;
      rests_each = length-set _ _ _ ∙ c.loop-link.invariant.rests_each;
    }
