use Rattle.std.proofs.Common.{◌≡◌, ℕ, List, ap, subst, sym, length, rules}
use Rattle.std.specs.Prelude.{slice_index_or}
use Rattle.sl_layout.specs.declared.actor.Sort.TheVariants.{Init, Done}
use Rattle.sl_layout.specs.Net.{links_from}
use Rattle.sl_control.specs.declared.known.Known.{Known}
use Rattle.sl_control.specs.Wires.{outs_of}
use Rattle.sl_control.specs.Joined.{IsJoined}
use Rattle.sl_control.proofs.Joining.{joined}
use Rattle.sl_control.proofs.control.Control.make.Goals as goal

pub invariant_of-result : goal.invariant_of-result
invariant_of-result c =
    let net = c.args.net.now in
    let a = c.args.actor in
    let done = slice_index_or (outs_of net a Done) 0 0 in
    let count = length (links_from net a) in
    let outs : length c.links_from.result.now ≡ count = ap length c.links_from.ensures.links in (
      subst (λ (n : ℕ). IsJoined n c.in_ok-inits.inits.items c.in_ok-done.done c.in_ok-units.units.items) (sym outs)
          (subst (λ (is : List ℕ). IsJoined count is c.in_ok-done.done c.in_ok-units.units.items) (sym c.in_ok-inits.ensures)
          (subst (λ (d : ℕ). IsJoined count (outs_of net a Init) d c.in_ok-units.units.items) (sym c.in_ok-done.ensures)
          (subst (λ (rs : List Known). IsJoined count (outs_of net a Init) done rs) (sym c.in_ok-units.ensures)
          (joined net a (c.nets_are_wired.ensures net (record { made = c.parts-parts.ensures.net; right = c.parts-parts.ensures.right })))))),
      record { empty = c.in_ok-blanks.ensures; room = λ n. search rules; report = λ n. search rules },
    )
