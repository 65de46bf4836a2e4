-- The packets of a host, flow by flow.
use Rattle.std.proofs.Common.{◌≡◌, ℕ, ◌+◌, ◌<◌, List, [], ◌∷◌, ◌++◌, length, refl, ap, ◌∙◌, take, get_or, append-nil}
use Rattle.std.specs.Prelude.{filter, flat_map, ◌==◌, true, false, cond}
use Rattle.std.proofs.lemmas.Grind.{flat_map-append}
use Rattle.std.proofs.lemmas.List.{take_more}
use Rattle.sl_net.specs.declared.input.Flow.{Flow}
use Rattle.sl_net.specs.declared.input.Packet.{Packet}
use Rattle.std.proofs.lemmas.List.Elements.{filter-append}
use Rattle.sl_flow.specs.Flow.{flow_packets, packets_of}

-- what a host sends of a flow
abbrev pub share_packets : Flow → ℕ → List Packet
share_packets f h = cond (f.from == h) (flow_packets f) []

pub packets-snoc : (fs : List Flow) (f : Flow) (h : ℕ) → packets_of (fs ++ f ∷ []) h ≡ packets_of fs h ++ share_packets f h
packets-snoc fs f h = ap (flat_map flow_packets) (filter-append (λ g. g.from == h) fs (f ∷ [])) ∙ flat_map-append flow_packets (filter (λ g. g.from == h) fs) (cond (f.from == h) (f ∷ []) [])
    ∙ ap (λ r. packets_of fs h ++ r) (elim (f.from == h) as (λ b. flat_map flow_packets (cond b (f ∷ []) []) ≡ cond b (flow_packets f) []) [ true ↦ append-nil (flow_packets f) | false ↦ refl ])

pub packets_more : (fs : List Flow) (h i : ℕ) (none : Flow) → i < length fs → packets_of (take (i + 1) fs) h ≡ packets_of (take i fs) h ++ share_packets (get_or fs i none) h
packets_more fs h i none l = ap (λ gs. packets_of gs h) (take_more fs i none l) ∙ packets-snoc (take i fs) (get_or fs i none) h
