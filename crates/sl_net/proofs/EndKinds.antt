-- What the actors at the ends of a link are, by its sort.
use Rattle.std.proofs.Common.{◌≡◌, ℕ, refl, subst, sym, inl, inr, ◌∙◌}
use Rattle.std.specs.Prelude.{◌⊎◌, Bool, false, true}
use Rattle.sl_layout.specs.declared.actor.ActorId.{ActorId}
use Rattle.sl_layout.specs.declared.actor.ActorId.TheVariants.{Observer, Control, Unit as OfUnit, Host as OfHost}
use Rattle.sl_layout.specs.declared.actor.UnitId.{UnitId}
use Rattle.sl_layout.specs.declared.actor.Side.{Side}
use Rattle.sl_layout.specs.declared.actor.Side.TheVariants.{Ingress, Egress}
use Rattle.sl_layout.specs.declared.actor.Sort.{Sort}
use Rattle.sl_layout.specs.declared.actor.Sort.TheVariants.{Cable, Crossbar, Init, Poll, Notice, Dump, Begin, Done}
use Rattle.sl_net.specs.Wired.{home, sends, receives, unit_sends, unit_receives}

not-both : (b : Bool) → b ≡ false → b ≡ true → ⊥
not-both b p q = let z : true ≡ false = sym q ∙ p in cc

-- a test that neither side of a unit passes
no-side : (t : Side → Bool) → t Ingress ≡ false → t Egress ≡ false → (s : Side) → t s ≡ false
no-side t i e Ingress = i
no-side t i e Egress = e

-- an actor is a control plane, where no other passes the test that it passes
only-control : (t : ActorId → Bool) → t Observer ≡ false → ((u : UnitId) → t (OfUnit u) ≡ false) → ((h : ℕ) → t (OfHost h) ≡ false)
    → (x : ActorId) → t x ≡ true → x ≡ Control (home x)
only-control t o u h Observer k = absurd (not-both (t Observer) o k)
only-control t o u h (Control d) k = refl
only-control t o u h (OfUnit i) k = absurd (not-both (t (OfUnit i)) (u i) k)
only-control t o u h (OfHost i) k = absurd (not-both (t (OfHost i)) (h i) k)

-- and the observer, where only that passes
only-observer : (t : ActorId → Bool) → ((d : ℕ) → t (Control d) ≡ false) → ((u : UnitId) → t (OfUnit u) ≡ false) → ((h : ℕ) → t (OfHost h) ≡ false)
    → (x : ActorId) → t x ≡ true → x ≡ Observer
only-observer t c u h Observer k = refl
only-observer t c u h (Control d) k = absurd (not-both (t (Control d)) (c d) k)
only-observer t c u h (OfUnit i) k = absurd (not-both (t (OfUnit i)) (u i) k)
only-observer t c u h (OfHost i) k = absurd (not-both (t (OfHost i)) (h i) k)

-- and a unit, where only units pass
only-unit : (t : ActorId → Bool) → t Observer ≡ false → ((d : ℕ) → t (Control d) ≡ false) → ((h : ℕ) → t (OfHost h) ≡ false)
    → (x : ActorId) → t x ≡ true → (i : UnitId) × (x ≡ OfUnit i)
only-unit t o c h Observer k = absurd (not-both (t Observer) o k)
only-unit t o c h (Control d) k = absurd (not-both (t (Control d)) (c d) k)
only-unit t o c h (OfUnit i) k = (i, refl)
only-unit t o c h (OfHost i) k = absurd (not-both (t (OfHost i)) (h i) k)

pub dump-receiver : (y : ActorId) → receives y Dump ≡ true → y ≡ Control (home y)
dump-receiver = only-control (λ y. receives y Dump) refl (λ u. no-side (λ s. unit_receives s Dump) refl refl u.side) (λ h. refl)

pub notice-receiver : (y : ActorId) → receives y Notice ≡ true → y ≡ Control (home y)
notice-receiver = only-control (λ y. receives y Notice) refl (λ u. no-side (λ s. unit_receives s Notice) refl refl u.side) (λ h. refl)

pub begin-receiver : (y : ActorId) → receives y Begin ≡ true → y ≡ Control (home y)
begin-receiver = only-control (λ y. receives y Begin) refl (λ u. no-side (λ s. unit_receives s Begin) refl refl u.side) (λ h. refl)

pub done-receiver : (y : ActorId) → receives y Done ≡ true → y ≡ Observer
done-receiver = only-observer (λ y. receives y Done) (λ d. refl) (λ u. no-side (λ s. unit_receives s Done) refl refl u.side) (λ h. refl)

pub poll-sender : (x : ActorId) → sends x Poll ≡ true → x ≡ Control (home x)
poll-sender = only-control (λ x. sends x Poll) refl (λ u. no-side (λ s. unit_sends s Poll) refl refl u.side) (λ h. refl)

pub begin-sender : (x : ActorId) → sends x Begin ≡ true → x ≡ Observer
begin-sender = only-observer (λ x. sends x Begin) (λ d. refl) (λ u. no-side (λ s. unit_sends s Begin) refl refl u.side) (λ h. refl)

pub poll-receiver : (y : ActorId) → receives y Poll ≡ true → (i : UnitId) × (y ≡ OfUnit i)
poll-receiver = only-unit (λ y. receives y Poll) refl (λ d. refl) (λ h. refl)

pub init-sender : (x : ActorId) → sends x Init ≡ true → x ≡ Control (home x)
init-sender = only-control (λ x. sends x Init) refl (λ u. no-side (λ s. unit_sends s Init) refl refl u.side) (λ h. refl)

pub done-sender : (x : ActorId) → sends x Done ≡ true → x ≡ Control (home x)
done-sender = only-control (λ x. sends x Done) refl (λ u. no-side (λ s. unit_sends s Done) refl refl u.side) (λ h. refl)

pub data-sender : (a : ActorId) (t : Sort) → (t ≡ Cable) ⊎ (t ≡ Crossbar) → sends a t ≡ true → (i : UnitId) × (a ≡ OfUnit i)
data-sender a t (inl q) h = only-unit (λ x. sends x Cable) refl (λ d. refl) (λ i. refl) a (subst (λ t. sends a t ≡ true) q h)
data-sender a t (inr q) h = only-unit (λ x. sends x Crossbar) refl (λ d. refl) (λ i. refl) a (subst (λ t. sends a t ≡ true) q h)
