-- What the kept ways tell.
use Rattle.std.proofs.Common.{◌≡◌, ℕ, ◌<◌, ◌≤◌, List, length, get_or, map, Option, refl, ap, ◌∙◌, arith, zero-add}
use Rattle.std.specs.Prelude.{None, option_and_then}
use Rattle.std.proofs.lemmas.List.{length-map}
use Rattle.std.proofs.lemmas.Option.{slice_get_past}
use Rattle.std.proofs.lemmas.List.FromFn.{get_or-map-range_with_len, length-map-range_with_len}
use Rattle.sl_parts.specs.declared.parts.PortRef.{PortRef}
use Rattle.sl_parts.specs.declared.parts.HostPart.{HostPart}
use Rattle.sl_parts.specs.Parts.{Parts, below}
use Rattle.sl_layout.specs.Net.{Net}
use Rattle.sl_route.specs.Least.{least}
use Rattle.sl_route.specs.Route.{least_walks, length_of, first_port, host_port, hops, next_port}
use Rattle.sl_route.specs.Ways.{Ways}
use Rattle.sl_route.specs.Routes.{ways_of, routes_of}

no-host : (parts : Parts) (h : ℕ) → length parts.hosts ≤ h → host_port parts h ≡ None
no-host parts h l = slice_get_past (map (λ (host : HostPart). host.at) parts.hosts) h (simp length-map l)

-- there is no such host
pub no-hops : (parts : Parts) (d h : ℕ) → length parts.hosts ≤ h → hops parts d h ≡ None
unfolding hops
no-hops parts d h l = ap (option_and_then (λ (at : PortRef). length_of (least_walks parts d at.device))) (no-host parts h l)

pub no-port : (parts : Parts) (d h : ℕ) → length parts.hosts ≤ h → next_port parts d h ≡ None
unfolding next_port
no-port parts d h l = ap (option_and_then (λ (at : PortRef). least (map (first_port at.port) (least_walks parts d at.device)))) (no-host parts h l)

length-routes : (net : Net) → length (routes_of net) ≡ length net.parts.hosts
unfolding routes_of
length-routes net = length-map-range_with_len (ways_of net.parts) 0 (length net.parts.hosts)

-- what is kept for a host
module _ (net : Net) (h : ℕ) (routes : List Ways) (all : routes ≡ routes_of net) where
  pub past-hosts : length routes ≤ h → length net.parts.hosts ≤ h
  past-hosts past = omega (arith, past, ap length all, length-routes net)

  way-is : (w : Ways) → h < length routes → ((d : Ways) → w ≡ get_or routes h d) → w ≡ ways_of net.parts h
  unfolding routes_of
  way-is w low is = is w ∙ ap (λ rs. get_or rs h w) all ∙ get_or-map-range_with_len (ways_of net.parts) 0 (length net.parts.hosts) h _ w (omega (arith, low, ap length all, length-routes net)) (zero-add h)

  -- a row of its ways, by device
  pub kept-at : {T : Type 0} (row : Ways → List (Option T)) (of : ℕ → Option T) → row (ways_of net.parts h) ≡ map of (below (length net.parts.devices))
      → (w : Ways) (kept : List (Option T)) (d : ℕ) → h < length routes → ((x : Ways) → w ≡ get_or routes h x) → kept ≡ row w → d < length net.parts.devices → get_or kept d None ≡ of d
  kept-at row of rows w kept d low is kept_is here =
      ap (λ os. get_or os d None) (kept_is ∙ ap row (way-is w low is) ∙ rows) ∙ get_or-map-range_with_len of 0 (length net.parts.devices) d _ None here (zero-add d)

pub hops-kept : (parts : Parts) (h : ℕ) → (ways_of parts h).hops ≡ map (λ d. hops parts d h) (below (length parts.devices))
unfolding ways_of
hops-kept parts h = refl

pub ports-kept : (parts : Parts) (h : ℕ) → (ways_of parts h).ports ≡ map (λ d. next_port parts d h) (below (length parts.devices))
unfolding ways_of
ports-kept parts h = refl
