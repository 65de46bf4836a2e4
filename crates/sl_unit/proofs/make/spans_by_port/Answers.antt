use Rattle.std.proofs.Common.{◌<◌, ◌∙◌, arith, below_more, get_or, length}
use Rattle.std.specs.Prelude.{◌≢◌, slice_set}
use Rattle.std.proofs.lemmas.List.{get_or-set_same, get_or-set_other, length-set}
use Rattle.sl_unit.specs.declared.wires.Way.TheVariants.{Toward}
use Rattle.sl_unit.specs.Spans.{IsSpanOf, no_span}
use Rattle.sl_unit.proofs.make.spans_by_port.Goals as goal

pub loop-port-preserved : goal.loop-port-preserved
loop-port-preserved c =
    let i = c.loop-port.port in
    let spans = c.loop-port.spans in
    let span = c.span_of.result in
    let here : i < length spans = omega (arith, c.loop-port.invariant.many, c.loop-port-test.true) in record {
      ports = below_more (λ k. IsSpanOf (Toward c.args.device k) c.args.exits.now (get_or (slice_set spans i span) k no_span)) i
          (λ k low. let apart : k ≢ i = (λ q. omega arith) in rw (get_or-set_other spans i k span no_span apart) (c.loop-port.invariant.ports k low))
          (rw (get_or-set_same spans i span no_span here) c.span_of.ensures);
      many = length-set spans i span ∙ c.loop-port.invariant.many;
    }
