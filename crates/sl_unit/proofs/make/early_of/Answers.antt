use Rattle.std.proofs.Common.{◌≡◌, ◌<◌, ◌∙◌, arith, below_more, get_or, length}
use Rattle.std.specs.Prelude.{◌≢◌, slice_set}
use Rattle.std.proofs.lemmas.List.{get_or-set_same, get_or-set_other, length-set}
use Rattle.sl_unit.specs.declared.wires.Entrance.TheVariants.{Other}
use Rattle.sl_unit.proofs.make.early_of.Goals as goal

pub loop-choice-preserved : goal.loop-choice-preserved
loop-choice-preserved c =
    let i = c.loop-choice.choice in
    let early = c.loop-choice.early in
    let entrance = c.entrance_in.result in
    let here : i < length early = omega (arith, c.loop-choice.invariant.many, c.loop-choice-test.true) in record {
      early = below_more (λ k. get_or (slice_set early i entrance) k Other ≡ get_or c.args.entrances.now k Other) i
          (λ k low. let apart : k ≢ i = (λ q. omega arith) in rw (get_or-set_other early i k entrance Other apart) (c.loop-choice.invariant.early k low))
          (rw (get_or-set_same early i entrance Other here) c.entrance_in.ensures);
      many = length-set early i entrance ∙ c.loop-choice.invariant.many;
    }
