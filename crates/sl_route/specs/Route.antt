-- Trusted text.
-- Routes by walks. A walk is a list of cables, each beginning at the device where the one before ends.
--     hops parts d h         the least length of a walk from the device d to the device of the host h
--     next_port parts d h    the lowest port whose cable begins such a walk, or the host's own port on its own device
-- Both are None where there is no walk or no such host. A least walk meets no device twice, so it has fewer cables than the net has devices,
-- and only the walks of fewer cables are looked at.
use Rattle.std.specs.Prelude.{ℕ, suc, zero, List, [], ◌∷◌, ◌++◌, map, filter, flat_map, length, ◌==◌, Option, Some, None, slice_get, option_and_then}
use Rattle.sl_parts.specs.declared.parts.PortRef.{PortRef}
use Rattle.sl_parts.specs.declared.parts.CablePart.{CablePart}
use Rattle.sl_parts.specs.Parts.{Parts, below}
use Rattle.sl_route.specs.Least.{least}

abbrev pub Walk : Type 0
Walk = List CablePart

abbrev pub turned : CablePart → CablePart
turned c = record { a = c.b; b = c.a; version = c.version }

-- the cables at a device, each turned so that it begins there; one with both ends there stands twice
abbrev pub cables_from : Parts → ℕ → List CablePart
cables_from parts d = filter (λ c. c.a.device == d) (parts.cables ++ map turned parts.cables)

-- the walks of n cables that begin at a device
abbrev pub walks : Parts → ℕ → ℕ → List Walk
walks parts zero d = [] ∷ []
walks parts (suc n) d = flat_map (λ c. map (λ walk. c ∷ walk) (walks parts n c.b.device)) (cables_from parts d)

-- the device where a walk from d ends
abbrev pub end_of : ℕ → Walk → ℕ
end_of d [] = d
end_of d (c ∷ cs) = end_of c.b.device cs

-- the walks of n cables from one device to another
abbrev pub walks_between : Parts → ℕ → ℕ → ℕ → List Walk
walks_between parts d e n = filter (λ walk. end_of d walk == e) (walks parts n d)

abbrev pub first_nonempty : {A : Type 0} → List (List A) → List A
first_nonempty [] = []
first_nonempty ([] ∷ later) = first_nonempty later
first_nonempty ((x ∷ xs) ∷ later) = x ∷ xs

-- the walks of the least length from one device to another
abbrev pub least_walks : Parts → ℕ → ℕ → List Walk
least_walks parts d e = first_nonempty (map (walks_between parts d e) (below (length parts.devices)))

abbrev pub length_of : List Walk → Option ℕ
length_of [] = None
length_of (walk ∷ others) = Some (length walk)

-- the port by which a walk begins, or the host's own where it is empty
abbrev pub first_port : ℕ → Walk → ℕ
first_port own [] = own
first_port own (c ∷ cs) = c.a.port

abbrev pub host_port : Parts → ℕ → Option PortRef
host_port parts h = slice_get (map (λ host. host.at) parts.hosts) h

unfoldable pub hops : Parts → ℕ → ℕ → Option ℕ
hops parts d h = option_and_then (λ at. length_of (least_walks parts d at.device)) (host_port parts h)

unfoldable pub next_port : Parts → ℕ → ℕ → Option ℕ
next_port parts d h = option_and_then (λ at. least (map (first_port at.port) (least_walks parts d at.device))) (host_port parts h)
