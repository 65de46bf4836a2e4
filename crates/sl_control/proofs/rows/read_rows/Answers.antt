use Rattle.std.proofs.Common.{◌+◌, ◌∷◌, ◌++◌, [], length, map, sym, ap, ◌∙◌, arith, append_assoc}
use Rattle.std.specs.Prelude.{◌&&◌}
use Rattle.std.specs.List.{list_all}
use Rattle.sl_control.specs.Rows.{span, is_readable, row}
use Rattle.sl_control.proofs.ReadableSpans.{span-more, readable-near, near-first}
use Rattle.sl_control.proofs.rows.read_rows.Goals as goal

pub returns-in-None-clause-readable : goal.returns-in-None-clause-readable
returns-in-None-clause-readable c =
    let test = is_readable c.args.view.now c.args.id in
    let more = span-more c.loop-k.k c.args.to (omega arith) in
    ap (λ b. b && list_all test (span (c.loop-k.k + 1) c.args.to)) c.in-None.ensures.some ∙ sym (ap (list_all test) more) ∙ c.loop-k.invariant.readable

pub loop-k-preserved : goal.loop-k-preserved
loop-k-preserved c =
    let test = is_readable c.args.view.now c.args.id in
    let rest = span (c.loop-k.k + 1) c.args.to in
    let rows = map (row c.args.view.now c.args.id) rest in
    let more = span-more c.loop-k.k c.args.to (omega arith) in
    let inv = c.loop-k.invariant in record {
      readable = ap (λ b. b && list_all test rest) c.in-Some.ensures.some ∙ sym (ap (list_all test) more) ∙ inv.readable;
      rows = ap (λ xs. xs ++ rows) c.push_reserved.ensures.items ∙ append_assoc c.loop-k.rows.items ((c.loop-k.k + 1, c.in-Some.saved) ∷ []) rows
          ∙ ap (λ s. c.loop-k.rows.items ++ (c.loop-k.k + 1, s) ∷ rows) c.in-Some.ensures.value
          ∙ sym (ap (λ ks. c.loop-k.rows.items ++ map (row c.args.view.now c.args.id) ks) more) ∙ inv.rows;
      count = omega (arith, inv.count, c.push_reserved.ensures.len, c.loop-k.auto.k);
      room = omega (arith, inv.room, c.push_reserved.ensures.capacity);
      near = λ _. near-first c.args.from c.loop-k.k (length c.args.view.now.slots) c.args.id c.loop-k.auto.k inv.near
          (readable-near c.args.view.now c.args.id (c.loop-k.k + 1) (sym c.in-Some.ensures.some));
    }
