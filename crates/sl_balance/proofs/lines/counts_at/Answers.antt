use Rattle.std.proofs.Common.{◌≡◌, ◌+◌, ◌<◌, ◌^◌, ◌++◌, ◌∷◌, [], ap, sym, subst, ◌∙◌, take, map}
use Rattle.std.proofs.lemmas.List.{map_more}
use Rattle.std.proofs.lemmas.List.Elements.{All-push}
use Rattle.std.specs.List.{All}
use Rattle.std.specs.Prelude.{ℕ, List}
use Rattle.sl_balance.specs.Balance.{packets_at}
use Rattle.sl_balance.proofs.lines.counts_at.Goals as goal

pub loop-place-preserved : goal.loop-place-preserved
loop-place-preserved c =
    let at = packets_at c.args.rows.now in
    let so_far = c.loop-place.counts.items in
    let here = c.packets_at.result in
    record {
      counts = c.in_ok-push.ensures.items ∙ ap (λ (xs : List ℕ). xs ++ here ∷ []) c.loop-place.invariant.counts ∙ ap (λ (n : ℕ). map at (take c.loop-place.place-index c.args.places.now) ++ n ∷ []) c.packets_at.ensures.packets
          ∙ sym (map_more at c.args.places.now c.loop-place.place-index 0 c.loop-place-test.true);
      few = subst (All (λ n. n < 2 ^ 40)) (sym c.in_ok-push.ensures.items) (All-push (λ n. n < 2 ^ 40) so_far here c.loop-place.invariant.few c.packets_at.ensures.few);
    }
