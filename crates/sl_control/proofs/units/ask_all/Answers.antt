use Rattle.std.proofs.Common.{◌≡◌, ◌<◌, ◌++◌, List, ap, subst, sym, ◌∙◌, length, take, drop, map, get_or, arith, append_assoc, add-one, length-append}
use Rattle.std.specs.Prelude.{None, flat_map, slice_set}
use Rattle.std.proofs.lemmas.List.{length-set}
use Rattle.sl_control.specs.declared.known.Known.{Known}
use Rattle.sl_control.specs.Control.{ask_by, ask_puts}
use Rattle.sl_control.proofs.EachUnit.{next-changed, not-yet-changed, next-joined, asks-few}
use Rattle.sl_control.proofs.units.ask_all.Goals as goal

pub loop-i-preserved : goal.loop-i-preserved
loop-i-preserved c =
    let inv = c.loop-i.invariant in
    let i = c.loop-i.i in
    let units = c.args.units.now.items in
    let x = c.index_mut.result.now in
    let low : i < length units = omega (arith, c.args.units.now.ok) in
    let there : x ≡ get_or (map (ask_by None) (take i units) ++ drop i units) i x =
    subst (λ (rs : List Known). x ≡ get_or rs i x) inv.units c.index_mut.ensures.value in record {
      units = ap (λ (rs : List Known). slice_set rs i c.ask.new.self) inv.units
          ∙ next-changed (ask_by None) units i x c.ask.new.self low there c.ask.ensures.known
          ∙ sym (ap (λ n. map (ask_by None) (take n units) ++ drop n units) (add-one i));
      puts = c.ask.ensures.puts ∙ ap (λ ps. ps ++ ask_puts None x) inv.puts
          ∙ append_assoc c.args.out.now.items (flat_map (ask_puts None) (take i units)) (ask_puts None x)
          ∙ sym (ap (λ ps. c.args.out.now.items ++ ps) (next-joined (ask_puts None) units i x low (not-yet-changed (ask_by None) units i x low there)))
          ∙ sym (ap (λ n. c.args.out.now.items ++ flat_map (ask_puts None) (take n units)) (add-one i));
      few = let e = ap length c.ask.ensures.puts ∙ length-append c.loop-i.out.items (ask_puts None x) in omega (arith, e, asks-few None x, inv.few);
      len = length-set c.loop-i.units.items i c.ask.new.self ∙ inv.len;
      room = c.ask.ensures.room ∙ inv.room;
    }
