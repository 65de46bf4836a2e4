use Rattle.std.proofs.Common.{◌≡◌, ◌+◌, length, ap, sym, ◌∙◌, arith}
use Rattle.std.specs.Prelude.{true, false, cond, filter}
use Rattle.std.proofs.lemmas.List.FromFn.{length-range_with_len}
use Rattle.std.proofs.lemmas.List.Sums.{length-filter, count_by-le-length}
use Rattle.sl_parts.specs.Parts.{below}
use Rattle.sl_balance.specs.Equal.{begins_by}
use Rattle.sl_balance.proofs.Loops.{count_more}
use Rattle.sl_balance.proofs.equal.count_ports.Goals as goal
use Rattle.sl_balance.proofs.equal.count_ports.Goals.{then-begins_by, else-begins_by}

pub overflow_add-count : goal.overflow_add-count
overflow_add-count c =
    let test = begins_by c.args.net.now.parts c.args.device c.args.host c.args.hops in let ports = below c.loop-port.port in
    omega (arith, length-filter test ports, count_by-le-length test ports, length-range_with_len 0 c.loop-port.port, c.loop-port.invariant)

pub loop-port-preserved : goal.loop-port-preserved
loop-port-preserved c =
    let test = begins_by c.args.net.now.parts c.args.device c.args.host c.args.hops in
    let next = count_more test c.loop-port.port in
    elim c.if-begins_by.branch [
      | then-begins_by w ↦ (let is : test c.loop-port.port ≡ true = sym c.begins_by.ensures ∙ w.if-begins_by.true in w.count-is ∙ ap (λ n. n + 1) c.loop-port.invariant ∙ sym (next ∙ ap (λ b. length (filter test (below c.loop-port.port)) + cond b 1 0) is))
      | else-begins_by w ↦ (let is : test c.loop-port.port ≡ false = sym c.begins_by.ensures ∙ w.if-begins_by.false in let last : length (filter test (below c.loop-port.port)) + 0 ≡ length (filter test (below c.loop-port.port)) = omega arith in
          w.count-is ∙ c.loop-port.invariant ∙ sym (next ∙ ap (λ b. length (filter test (below c.loop-port.port)) + cond b 1 0) is ∙ last))
    ]
