-- The wiring of machines in a line is sound.
use Rattle.std.proofs.Common.{◌≡◌, ℕ, zero, suc, ◌+◌, ◌^◌, ◌<◌, refl, arith}
use Rattle.std.specs.Prelude.{slice_index}
use Rattle.sl_machine.specs.Plan.{IsSound, HasChoice, link_at, link_in, link_out}
use Rattle.world_tests.proofs.PlanLemmas.{one, of_two}
use Rattle.actor_tests.specs.Lines.{in_line}

none : (P : ℕ → Type 0) → (o : ℕ) → o < 0 → P o
none P o h = absurd (omega arith)

of_three : (P : ℕ → Type 0) → P 0 → P 1 → P 2 → (l : ℕ) → l < 3 → P l
of_three P a b c zero h = a
of_three P a b c (suc l) h = of_two (λ k. P (suc k)) b c l (omega arith)

of_four : (P : ℕ → Type 0) → P 0 → P 1 → P 2 → P 3 → (l : ℕ) → l < 4 → P l
of_four P a b c d zero h = a
of_four P a b c d (suc l) h = of_three (λ k. P (suc k)) b c d l (omega arith)

pub line_is_sound : IsSound in_line
line_is_sound =
    record {
      outs_each = refl;
      actions_each = refl;
      actors_fit = omega arith;
      links_fit = omega arith;
      choices_fit = of_four (λ a. slice_index in_line.ins a + slice_index in_line.actions a < 2 ^ 32) (omega arith) (omega arith) (omega arith) (omega arith);
      from_below = of_three (λ l. (link_at in_line.links l).from < 4) (omega arith) (omega arith) (omega arith);
      to_below = of_three (λ l. (link_at in_line.links l).to < 4) (omega arith) (omega arith) (omega arith);
      out_below = of_three (λ l. (link_at in_line.links l).out < slice_index in_line.outs (link_at in_line.links l).from) (omega arith) (omega arith) (omega arith);
      choice_below = of_three (λ l. (link_at in_line.links l).choice < slice_index in_line.ins (link_at in_line.links l).to) (omega arith) (omega arith) (omega arith);
      once_out = of_three (λ l. link_out in_line.links (link_at in_line.links l).from (link_at in_line.links l).out ≡ l) refl refl refl;
      once_in = of_three (λ l. link_in in_line.links (link_at in_line.links l).to (link_at in_line.links l).choice ≡ l) refl refl refl;
      each_out = λ a o low.
          of_four (λ a. o < slice_index in_line.outs a → link_out in_line.links a o < 3) (one (λ o. link_out in_line.links 0 o < 3) (omega arith) o) (one (λ o. link_out in_line.links 1 o < 3) (omega arith) o) (one (λ o. link_out in_line.links 2 o < 3) (omega arith) o)
          (none (λ o. link_out in_line.links 3 o < 3) o) a low;
      each_in = λ a c low.
          of_four (λ a. c < slice_index in_line.ins a → link_in in_line.links a c < 3) (none (λ c. link_in in_line.links 0 c < 3) c) (one (λ c. link_in in_line.links 1 c < 3) (omega arith) c) (one (λ c. link_in in_line.links 2 c < 3) (omega arith) c)
          (one (λ c. link_in in_line.links 3 c < 3) (omega arith) c) a low;
    }

-- each actor of the line has one
pub line_choice : (actor : ℕ) → actor < 4 → HasChoice in_line actor 0
line_choice actor here = record { actor_below = here; choice_below = of_four (λ a. 0 < slice_index in_line.ins a + slice_index in_line.actions a) (omega arith) (omega arith) (omega arith) (omega arith) actor here }
