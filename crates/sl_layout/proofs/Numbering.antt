-- The table of the actors' numbers against the search for a place.
use Rattle.std.proofs.Common.{◌≡◌, ◌≢◌, ℕ, suc, ◌+◌, ◌-◌, ◌<◌, ◌≤◌, List, ◌∷◌, length, get_or, set, drop, refl, sym, ap, subst, ◌∙◌, arith, true, false, inl, inr, replicate, get_or-set_other, add-zero, drop-cons}
use Rattle.std.specs.Prelude.{if◌then◌else◌, ◌==◌, ◌⊎◌}
use Rattle.std.specs.List.{All}
use Rattle.std.proofs.lemmas.Bool.Decides.{eqb_tells}
use Rattle.std.proofs.lemmas.List.{length-set, drop_all, length-replicate, get_or-replicate}
use Rattle.std.proofs.lemmas.Grind.{get_or-set_at}
use Rattle.sl_layout.specs.declared.actor.Side.{Side}
use Rattle.sl_layout.specs.declared.actor.Side.TheVariants.{Ingress, Egress}
use Rattle.sl_layout.specs.declared.actor.UnitId.{UnitId}
use Rattle.sl_layout.specs.declared.actor.ActorId.{ActorId}
use Rattle.sl_layout.specs.declared.actor.ActorId.TheVariants.{Observer, Control, Unit as OfUnit, Host as OfHost}
use Rattle.sl_layout.specs.Net.{same_side, same_actor, place_of}
use Rattle.sl_layout.specs.Roster.{IsFew, seat_of, side_number, HasNumbers}

-- two actors are one, or they differ and so do their places in the table
abbrev pub AreOneActor : ActorId → ActorId → Type 0
AreOneActor a b = (same_actor a b ≡ true) × (a ≡ b)

abbrev pub AreTwoActors : ActorId → ActorId → Type 0
AreTwoActors a b = (same_actor a b ≡ false) × (IsFew a → IsFew b → seat_of a ≢ seat_of b)

side_tells : (s t : Side) → ((same_side s t ≡ true) × (s ≡ t)) ⊎ ((same_side s t ≡ false) × (side_number s ≢ side_number t))
side_tells Ingress Ingress = inl (refl, refl)
side_tells Egress Egress = inl (refl, refl)
side_tells Ingress Egress = inr (refl, λ z. omega arith)
side_tells Egress Ingress = inr (refl, λ z. omega arith)

side_low : (s : Side) → side_number s ≤ 1
side_low Ingress = omega arith
side_low Egress = omega arith

unit_tells : (u v : UnitId) → AreOneActor (OfUnit u) (OfUnit v) ⊎ AreTwoActors (OfUnit u) (OfUnit v)
unit_tells u v = by_tests (eqb_tells u.device v.device) (eqb_tells u.port v.port) (side_tells u.side v.side)
  where
    by_tests : (((u.device == v.device) ≡ true) × (u.device ≡ v.device)) ⊎ (((u.device == v.device) ≡ false) × (u.device ≢ v.device))
        → (((u.port == v.port) ≡ true) × (u.port ≡ v.port)) ⊎ (((u.port == v.port) ≡ false) × (u.port ≢ v.port))
        → ((same_side u.side v.side ≡ true) × (u.side ≡ v.side)) ⊎ ((same_side u.side v.side ≡ false) × (side_number u.side ≢ side_number v.side))
        → AreOneActor (OfUnit u) (OfUnit v) ⊎ AreTwoActors (OfUnit u) (OfUnit v)
    by_tests (inl d) (inl p) (inl s) = inl (
      rw (d.0, p.0, s.0) refl,
      ap (λ x. OfUnit (record { device = x; port = u.port; side = u.side })) d.1 ∙ ap (λ x. OfUnit (record { device = v.device; port = x; side = u.side })) p.1
          ∙ ap (λ x. OfUnit (record { device = v.device; port = v.port; side = x })) s.1,
    )
    by_tests (inl d) (inl p) (inr s) = inr (rw (d.0, p.0, s.0) refl, λ f g z. s.1 (omega arith))
    by_tests (inl d) (inr p) s = inr (rw (d.0, p.0) refl, λ f g z. p.1 (omega (arith, side_low u.side, side_low v.side)))
    by_tests (inr d) p s = inr (rw d.0 refl, λ f g z. d.1 (omega (arith, side_low u.side, side_low v.side)))

number_tells : (f : ℕ → ActorId) (d e : ℕ) → same_actor (f d) (f e) ≡ (d == e) → (seat_of (f d) ≡ seat_of (f e) → d ≡ e) → AreOneActor (f d) (f e) ⊎ AreTwoActors (f d) (f e)
number_tells f d e q r = by_test (eqb_tells d e)
  where
    by_test : (((d == e) ≡ true) × (d ≡ e)) ⊎ (((d == e) ≡ false) × (d ≢ e)) → AreOneActor (f d) (f e) ⊎ AreTwoActors (f d) (f e)
    by_test (inl x) = inl (q ∙ x.0, ap f x.1)
    by_test (inr x) = inr (q ∙ x.0, λ k j z. x.1 (r z))

pub actor_tells : (a b : ActorId) → AreOneActor a b ⊎ AreTwoActors a b
actor_tells Observer Observer = inl (refl, refl)
actor_tells (Control d) (Control e) = number_tells Control d e refl (λ z. omega arith)
actor_tells (OfUnit u) (OfUnit v) = unit_tells u v
actor_tells (OfHost h) (OfHost i) = number_tells OfHost h i refl (λ z. omega arith)
actor_tells Observer (Control d) = inr (refl, λ k j z. omega arith)
actor_tells Observer (OfUnit u) = inr (refl, λ k j z. omega arith)
actor_tells Observer (OfHost h) = inr (refl, λ k j z. omega arith)
actor_tells (Control d) Observer = inr (refl, λ k j z. omega arith)
actor_tells (Control d) (OfUnit u) = inr (refl, λ k j z. omega arith)
actor_tells (Control d) (OfHost h) = inr (refl, λ k j z. omega arith)
actor_tells (OfUnit u) Observer = inr (refl, λ k j z. omega arith)
actor_tells (OfUnit u) (Control d) = inr (refl, λ k j z. omega arith)
actor_tells (OfUnit u) (OfHost h) = inr (refl, λ k j z. omega (arith, side_low u.side))
actor_tells (OfHost h) Observer = inr (refl, λ k j z. omega arith)
actor_tells (OfHost h) (Control d) = inr (refl, λ k j z. omega arith)
actor_tells (OfHost h) (OfUnit u) = inr (refl, λ k j z. omega (arith, side_low u.side))

seat_low : (a : ActorId) → IsFew a → seat_of a < 1217
seat_low Observer f = omega arith
seat_low (Control d) f = omega arith
seat_low (OfUnit u) f = omega (arith, side_low u.side)
seat_low (OfHost h) f = omega arith

numbered : (n : ℕ) (b : ActorId) (bs : List ActorId) (numbers : List ℕ) → HasNumbers (n + 1) bs numbers → IsFew b → HasNumbers n (b ∷ bs) (set numbers (seat_of b) n)
numbered n b bs numbers h f = record { size = length-set numbers (seat_of b) n ∙ h.size; each = λ a k. by_actors a k (actor_tells a b) }
  where
    by_actors : (a : ActorId) → IsFew a → AreOneActor a b ⊎ AreTwoActors a b → get_or (set numbers (seat_of b) n) (seat_of a) 0 ≡ n + place_of a (b ∷ bs)
    by_actors a k (inl e) = get_or-set_at numbers (seat_of b) (seat_of a) n 0 (ap seat_of e.1) (omega (arith, h.size, seat_low b f))
        ∙ sym (ap (λ x. n + (if x then 0 else suc (place_of a bs))) e.0 ∙ add-zero n)
    by_actors a k (inr e) = get_or-set_other numbers (seat_of b) (seat_of a) n 0 (e.1 k f) ∙ h.each a k
        ∙ sym (ap (λ x. n + (if x then 0 else suc (place_of a bs))) e.0 ∙ omega arith)

pub number_noted : (actors : List ActorId) (numbers : List ℕ) (i number seat : ℕ) (d : ActorId) → All IsFew actors → i < length actors → number ≡ length actors - 1 - i
    → seat ≡ seat_of (get_or actors number d) → HasNumbers (length actors - i) (drop (length actors - i) actors) numbers
    → HasNumbers (length actors - (i + 1)) (drop (length actors - (i + 1)) actors) (set numbers seat number)
number_noted actors numbers i number seat d f k q r h =
    let within : number < length actors = omega arith in
    let last : length actors - i ≡ number + 1 = omega arith in
    let this : length actors - (i + 1) ≡ number = omega arith in
    let start : number + 1 ≡ suc number = omega arith in
    let more : HasNumbers (number + 1) (drop (suc number) actors) numbers = subst (λ n. HasNumbers (number + 1) (drop n actors) numbers) start (subst (λ n. HasNumbers n (drop n actors) numbers) last h) in
    subst (λ n. HasNumbers n (drop n actors) (set numbers seat number)) (sym this)
    (subst (λ s. HasNumbers number (drop number actors) (set numbers s number)) (sym r)
    (subst (λ xs. HasNumbers number xs (set numbers (seat_of (get_or actors number d)) number)) (sym (drop-cons actors number d within))
    (numbered number (get_or actors number d) (drop (suc number) actors) numbers more (f number d within))))

pub none_numbered : (actors : List ActorId) → HasNumbers (length actors - 0) (drop (length actors - 0) actors) (replicate 1217 (length actors))
none_numbered actors = record { size = length-replicate 1217 (length actors); each = λ a k. each a k }
  where
    each : (a : ActorId) → IsFew a → get_or (replicate 1217 (length actors)) (seat_of a) 0 ≡ (length actors - 0) + place_of a (drop (length actors - 0) actors)
    each a k = get_or-replicate 1217 (seat_of a) (length actors) 0 (seat_low a k) ∙ sym (ap (λ xs. (length actors - 0) + place_of a xs) (drop_all (length actors - 0) actors (omega arith)) ∙ omega arith)
