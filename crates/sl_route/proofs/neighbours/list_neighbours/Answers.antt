use Rattle.std.proofs.lemmas.Grind.{common_steps}
use Rattle.std.proofs.Common.{◌≡◌, ℕ, ◌<◌, List, ◌++◌, ◌∷◌, [], length, get_or, set, take, map, ap, ◌∙◌, arith}
use Rattle.std.proofs.lemmas.List.Elements.{All-same}
use Rattle.std.proofs.lemmas.List.FromFn.{length-map-range_with_len}
use Rattle.sl_parts.specs.declared.parts.CablePart.{CablePart}
use Rattle.sl_parts.specs.Parts.{Parts, below}
use Rattle.sl_parts.specs.Valid.{IsValid}
use Rattle.sl_route.specs.Route.{turned}
use Rattle.sl_route.proofs.Walks.{directed}
use Rattle.sl_route.proofs.Graphs.{IsJoined, all-joined, listed_of, table-more}
use Rattle.sl_route.proofs.neighbours.list_neighbours.Goals as goal

abbrev none : CablePart
none = record { a = record { device = 0; port = 0 }; b = record { device = 0; port = 0 }; version = 0 }

-- each cable, or cable turned, joins ports that are there
joined : (parts : Parts) (shown listed own : List CablePart) (i : ℕ) → IsValid parts → shown ≡ listed → listed ≡ own ++ map turned own → own ≡ parts.cables → i < length shown
    → IsJoined (length parts.devices) (get_or shown i none)
joined parts shown listed own i valid s l o within =
    All-same (IsJoined (length parts.devices)) shown (directed parts) (s ∙ l ∙ ap (λ cs. cs ++ map turned cs) o) (all-joined parts valid) i none within

pub neighbour_by-requires : goal.neighbour_by-requires
neighbour_by-requires c =
    (joined c.args.parts.now _ _ _ _ c.requires c.deref-cable-items.ensures.value c.in_ok-cables.ensures (c.deref.ensures.value ∙ ap (λ (p : Parts). p.cables) c.parts.view_is) c.loop-cable-test.true).a.port

pub add_neighbour-requires : goal.add_neighbour-requires
add_neighbour-requires c =
    let parts = c.args.parts.now in
    let cables = c.deref-cable-items.result.now in
    let own = c.deref.ensures.value ∙ ap (λ (p : Parts). p.cables) c.parts.view_is in
    let near = (joined parts cables _ _ c.loop-cable.cable-index c.requires c.deref-cable-items.ensures.value c.in_ok-cables.ensures own c.loop-cable-test.true).a.device in
    omega (arith, near, ap length c.loop-cable.invariant, length-map-range_with_len (listed_of (take c.loop-cable.cable-index cables)) 0 (length parts.devices))

pub loop-cable-preserved : goal.loop-cable-preserved
loop-cable-preserved c =
    let parts = c.args.parts.now in
    let cables = c.deref-cable-items.result.now in
    let i = c.loop-cable.cable-index in
    let own = c.deref.ensures.value ∙ ap (λ (p : Parts). p.cables) c.parts.view_is in
    let near = (joined parts cables _ _ i c.requires c.deref-cable-items.ensures.value c.in_ok-cables.ensures own c.loop-cable-test.true).a.device in
    let x = (get_or cables i none).a.device in
    let table = map (listed_of (take i cables)) (below (length parts.devices)) in
    c.in_ok-add_neighbour.ensures ∙ ap (λ t. set t x (get_or t x [] ++ c.neighbour_by.result ∷ [])) c.loop-cable.invariant
    ∙ ap (λ k. set table x (get_or table x [] ++ k ∷ [])) c.neighbour_by.ensures
    ∙ table-more cables (length parts.devices) i none c.loop-cable-test.true near

pub loop-cable-init : goal.loop-cable-init
loop-cable-init c = grind (arith, common_steps)

pub returns : goal.returns
returns c = grind (arith, common_steps)
