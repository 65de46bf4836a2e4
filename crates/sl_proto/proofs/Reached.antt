-- What the observer tells a call that finishes.
use Rattle.std.proofs.Common.{◌≡◌, ℕ, suc, ◌+◌, ◌<◌, ◌≤◌, List, sym, ap, subst, ◌∙◌, Some, arith, inl, inr, lt-ltb, le-leb, eq-eqb}
use Rattle.std.specs.Prelude.{◌≢◌, ◌==◌, ◌&&◌, ◌⊎◌, true, false, nat_lt, nat_le, nat_eq, slice_get}
use Rattle.std.proofs.lemmas.Bool.{cases_lt}
use Rattle.std.proofs.lemmas.Bool.Decides.{eqb_tells}
use Rattle.sl_layout.specs.declared.actor.ActorId.{ActorId}
use Rattle.sl_layout.specs.declared.actor.ActorId.TheVariants.{Observer}
use Rattle.sl_layout.specs.Net.{Net, actor_of}
use Rattle.sl_wire.specs.declared.message.Msg.{Msg}
use Rattle.sl_observe.specs.Observer.{ObserverState}
use Rattle.sl_simulation.specs.ObserverImage.{IsObserverOf}
use Rattle.sl_model.specs.History.{World}
use Rattle.sl_model.specs.Knowledge.{floor, issued, observer}
use Rattle.sl_model.specs.World.{Entry, world}
use Rattle.sl_model.specs.End.{is_collected, Settled}
use Rattle.sl_world.specs.Scene.{Scene}
use Rattle.sl_proto.specs.declared.finishing.Reached.{Reached}
use Rattle.sl_proto.specs.Nodes.{NodeState, ObserverNode}
use Rattle.sl_proto.specs.Meaning.{StandsAs}
use Rattle.sl_proto.specs.Standing.{Case, world_of, StandsFor}
use Rattle.sl_proto.specs.Reached.{HasReached}

tells-as : (x : Case) (w : World) (i : ActorId) (o : ObserverState) → i ≡ Observer → StandsAs x.setup x.table w 0 i (ObserverNode o) → IsObserverOf x.setup.net x.table w o
tells-as x w i o q h = subst (λ i. StandsAs x.setup x.table w 0 i (ObserverNode o)) q h

pub stands-first : (net : Net) (x : Case) (v : Scene NodeState Msg) (o : ObserverState) → actor_of x.setup.net 0 ≡ Observer → StandsFor net x v
    → slice_get v.states 0 ≡ Some (ObserverNode o) → IsObserverOf x.setup.net x.table (world_of x v) o
stands-first net x v o q stands h = tells-as x (world_of x v) (actor_of x.setup.net 0) o q (stands.image.states 0 (ObserverNode o) h)

-- In a settled world all is issued and collected where F is K.

can-issue-more : (k count f window : ℕ) → 0 < window → f ≡ k → k < count → (nat_lt k count && nat_le (suc k) (f + window)) ≡ true
can-issue-more k count f window pos e h = ap (λ b. b && nat_le (suc k) (f + window)) (lt-ltb k count h) ∙ le-leb (suc k) (f + window) (omega (arith, pos, e))

all-issued : (k count f window : ℕ) → 0 < window → k ≤ count → f ≡ k → (nat_lt k count && nat_le (suc k) (f + window)) ≡ false → k ≡ count
all-issued k count f window pos most e h = by_cases (cases_lt k count)
  where
    by_cases : (k < count) ⊎ (count ≤ k) → k ≡ count
    by_cases (inl l) = let t : true ≡ false = sym (can-issue-more k count f window pos e l) ∙ h in absurd cc
    by_cases (inr l) = omega (arith, l, most)

floor-decides : (k count f window : ℕ) → 0 < window → k ≤ count → (nat_lt k count && nat_le (suc k) (f + window)) ≡ false → ((f == k) && (k == count)) ≡ (f == k)
floor-decides k count f window pos most h = by_cases (eqb_tells f k)
  where
    by_cases : ((nat_eq f k ≡ true) × (f ≡ k)) ⊎ ((nat_eq f k ≡ false) × (f ≢ k)) → ((f == k) && (k == count)) ≡ (f == k)
    by_cases (inl q) = ap (λ b. b && (k == count)) q.0 ∙ eq-eqb k count (all-issued k count f window pos most q.1 h) ∙ sym q.0
    by_cases (inr q) = ap (λ b. b && (k == count)) q.0 ∙ sym q.0

pub collected-is : (x : Case) (es : List Entry) (told : Reached) → issued x.setup.net (observer (world x.setup x.lost es)) ≤ x.setup.count → 0 < x.setup.window → Settled x.setup x.lost (world x.setup x.lost es)
    → HasReached x (world x.setup x.lost es) told → (told.floor == told.issued) ≡ is_collected x.setup (world x.setup x.lost es)
collected-is x es told most pos settled tells = let s = x.setup in let w = world s x.lost es in
    ap (λ f. f == told.issued) tells.floor ∙ ap (λ k. floor s.net w == k) tells.issued
    ∙ sym (floor-decides (issued s.net (observer w)) s.count (floor s.net w) s.window pos most settled.none_to_issue)
