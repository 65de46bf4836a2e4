-- The place of a link, and the link there.
use Rattle.std.proofs.Common.{◌≡◌, ℕ, ◌<◌, ◌≤◌, List, [], ◌∷◌, length, subst, arith, inl, inr}
use Rattle.std.specs.Prelude.{slice_index}
use Rattle.std.proofs.lemmas.Bool.{cases_lt}
use Rattle.std.proofs.lemmas.Bool.Decides.{nat_tests}
use Rattle.std.proofs.lemmas.Grind.{common_steps}
use Rattle.sl_machine.specs.declared.wiring.Link.{Link}
use Rattle.sl_machine.specs.Plan.{Plan, IsSound, link_in, link_out, link_at}

-- the link that is found is the actor's, with this number
pub link_out_is : (w : List Link) (a o : ℕ) → link_out w a o < length w → ((link_at w (link_out w a o)).from ≡ a) × ((link_at w (link_out w a o)).out ≡ o)
link_out_is [] a o h = absurd (omega arith)
link_out_is (l ∷ ls) a o h = grind (arith, nat_tests, common_steps, link_out_is ls a o)

pub link_in_is : (w : List Link) (a c : ℕ) → link_in w a c < length w → ((link_at w (link_in w a c)).to ≡ a) × ((link_at w (link_in w a c)).choice ≡ c)
link_in_is [] a c h = absurd (omega arith)
link_in_is (l ∷ ls) a c h = grind (arith, nat_tests, common_steps, link_in_is ls a c)

-- a choice with a link is below the actor's incoming links
pub only_in : (plan : Plan) (a c : ℕ) → IsSound plan → link_in plan.links a c < length plan.links → c < slice_index plan.ins a
only_in plan a c sound low =
    let is = link_in_is plan.links a c low in
    subst (λ (n : ℕ). n < slice_index plan.ins a) is.1
    (subst (λ (n : ℕ). (link_at plan.links (link_in plan.links a c)).choice < slice_index plan.ins n) is.0 (sound.choice_below _ low))

pub no_link_in : (plan : Plan) (a c : ℕ) → IsSound plan → slice_index plan.ins a ≤ c → length plan.links ≤ link_in plan.links a c
no_link_in plan a c sound high =
    elim (cases_lt (link_in plan.links a c) (length plan.links)) [
      | inl low ↦ absurd (omega (arith, only_in plan a c sound low))
      | inr past ↦ past
    ]

-- a choice without a link is an action
pub action_in : (plan : Plan) (a c : ℕ) → IsSound plan → a < length plan.ins → length plan.links ≤ link_in plan.links a c → slice_index plan.ins a ≤ c
action_in plan a c sound actor past =
    elim (cases_lt c (slice_index plan.ins a)) [
      | inl low ↦ absurd (omega (arith, sound.each_in a c actor low))
      | inr high ↦ high
    ]
