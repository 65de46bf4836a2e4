use Rattle.std.proofs.Common.{◌≡◌, ◌++◌, ◌∷◌, [], arith, ap, sym, ◌∙◌, length, get_or, set, map, zero-add}
use Rattle.std.specs.Prelude.{slice_index}
use Rattle.std.proofs.lemmas.List.FromFn.{get_or-map-range_with_len, length-map-range_with_len, map-range_with_len_more}
use Rattle.sl_parts.specs.Parts.{below}
use Rattle.sl_layout.specs.Groups.{grouped}
use Rattle.sl_layout.proofs.Grouping.{before_in_group, group_grows, places-are, few_in_group}
use Rattle.sl_layout.proofs.groups.group.Goals as goal

pub add_to-requires-clause-key : goal.add_to-requires-clause-key
add_to-requires-clause-key c =
    let keys = c.args.keys.now in
    omega (arith, ap length c.loop-i.invariant.lists, length-map-range_with_len (grouped keys c.loop-i.i) 0 c.args.count, c.requires.keys c.loop-i.i 0 c.loop-i-test.true)

pub add_to-requires-clause-few : goal.add_to-requires-clause-few
add_to-requires-clause-few c =
    let keys = c.args.keys.now in
    let key = slice_index keys c.loop-i.i in
    let list : get_or c.loop-i.lists.items key [] ≡ grouped keys c.loop-i.i key = ap (λ xs. get_or xs key []) c.loop-i.invariant.lists ∙ get_or-map-range_with_len (grouped keys c.loop-i.i) 0 c.args.count key _ [] (c.requires.keys c.loop-i.i 0 c.loop-i-test.true) (zero-add key) in
    omega (arith, ap length list, few_in_group keys c.loop-i.i key)

pub loop-i-preserved : goal.loop-i-preserved
loop-i-preserved c =
    let keys = c.args.keys.now in
    let i = c.loop-i.i in
    let key = slice_index keys i in
    let list : get_or c.loop-i.lists.items key [] ≡ grouped keys i key = ap (λ xs. get_or xs key []) c.loop-i.invariant.lists ∙ get_or-map-range_with_len (grouped keys i) 0 c.args.count key _ [] (c.requires.keys i 0 c.loop-i-test.true) (zero-add key) in
    record {
      lists = c.in_ok-add_to.ensures.added ∙ ap (λ xs. set xs key (get_or xs key [] ++ i ∷ [])) c.loop-i.invariant.lists ∙ group_grows keys c.args.count i (c.requires.keys i 0 c.loop-i-test.true);
      places = c.in_ok-push.ensures.items ∙ ap (λ xs. xs ++ c.in_ok-add_to.field-0 ∷ []) c.loop-i.invariant.places
          ∙ ap (λ n. map (before_in_group keys) (below i) ++ n ∷ []) (c.in_ok-add_to.ensures.place ∙ ap length list) ∙ sym (map-range_with_len_more (before_in_group keys) 0 i _ (zero-add i));
    }

pub returns-clause-places : goal.returns-clause-places
returns-clause-places c =
    let keys = c.args.keys.now in
    let all : c.loop-i.i ≡ length keys = omega arith in
    c.loop-i.invariant.places ∙ ap (λ n. map (before_in_group keys) (below n)) all ∙ places-are keys
