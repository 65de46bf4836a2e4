-- The wiring of two machines in a ring is sound.
use Rattle.std.proofs.Common.{◌≡◌, ℕ, zero, suc, ◌+◌, ◌^◌, ◌<◌, refl, arith}
use Rattle.std.specs.Prelude.{slice_index}
use Rattle.sl_machine.specs.Plan.{IsSound, HasChoice, link_at, link_in, link_out}
use Rattle.world_tests.specs.Plans.{ring}

pub one : (P : ℕ → Type 0) → P 0 → (o : ℕ) → o < 1 → P o
one P a zero h = a
one P a (suc o) h = absurd (omega arith)

pub of_two : (P : ℕ → Type 0) → P 0 → P 1 → (l : ℕ) → l < 2 → P l
of_two P a b zero h = a
of_two P a b (suc l) h = one (λ k. P (suc k)) b l (omega arith)

pub ring_is_sound : IsSound ring
ring_is_sound =
    record {
      outs_each = refl;
      actions_each = refl;
      actors_fit = omega arith;
      links_fit = omega arith;
      choices_fit = of_two (λ a. slice_index ring.ins a + slice_index ring.actions a < 2 ^ 32) (omega arith) (omega arith);
      from_below = of_two (λ l. (link_at ring.links l).from < 2) (omega arith) (omega arith);
      to_below = of_two (λ l. (link_at ring.links l).to < 2) (omega arith) (omega arith);
      out_below = of_two (λ l. (link_at ring.links l).out < slice_index ring.outs (link_at ring.links l).from) (omega arith) (omega arith);
      choice_below = of_two (λ l. (link_at ring.links l).choice < slice_index ring.ins (link_at ring.links l).to) (omega arith) (omega arith);
      once_out = of_two (λ l. link_out ring.links (link_at ring.links l).from (link_at ring.links l).out ≡ l) refl refl;
      once_in = of_two (λ l. link_in ring.links (link_at ring.links l).to (link_at ring.links l).choice ≡ l) refl refl;
      each_out = λ a o low.
          of_two (λ a. o < slice_index ring.outs a → link_out ring.links a o < 2) (one (λ o. link_out ring.links 0 o < 2) (omega arith) o) (one (λ o. link_out ring.links 1 o < 2) (omega arith) o) a low;
      each_in = λ a c low.
          of_two (λ a. c < slice_index ring.ins a → link_in ring.links a c < 2) (one (λ c. link_in ring.links 0 c < 2) (omega arith) c) (one (λ c. link_in ring.links 1 c < 2) (omega arith) c) a low;
    }

-- each actor of the ring has two choices
pub ring_choice : (actor choice : ℕ) → actor < 2 → choice < 2 → HasChoice ring actor choice
ring_choice actor choice here low = record { actor_below = here; choice_below = of_two (λ a. choice < slice_index ring.ins a + slice_index ring.actions a) low low actor here }
