-- What the laws of finishing use of a net's wiring, beside the net's own record.
use Rattle.std.proofs.Common.{◌<◌, inl, inr, length, sym, ℕ, ◌∙◌, ◌≡◌, ◌≤◌}
use Rattle.std.specs.Prelude.{◌⊎◌}
use Rattle.std.proofs.lemmas.Bool.{cases_lt}
use Rattle.std.proofs.lemmas.List.{get_or_past}
use Rattle.sl_layout.specs.Net.{Net, actor_of, link_of, nobody}
use Rattle.sl_net.specs.Wired.{IsNet, IsWired}
use Rattle.sl_layout.specs.declared.actor.ActorId.{ActorId}
use Rattle.sl_layout.specs.declared.actor.ActorId.TheVariants.{Observer}
use Rattle.sl_net.proofs.Wired.{net-wired}

pub record Wiring (net : Net) : Type 0 where
  pub wired : IsWired net
  pub some_actor : 0 < length net.actors
  -- a link leads to an actor of the net
  pub to_actor : (l : ℕ) → l < length net.links → (link_of net l).to < length net.actors

-- an actor that is there
pub in-net : (net : Net) (a : ℕ) (x : ActorId) → actor_of net a ≡ x → (nobody ≡ x → ⊥) → a < length net.actors
in-net net a x q ne = by_cases (cases_lt a (length net.actors))
  where
    by_cases : (a < length net.actors) ⊎ (length net.actors ≤ a) → a < length net.actors
    by_cases (inl h) = h
    by_cases (inr h) = absurd (ne (sym (get_or_past net.actors a nobody h) ∙ q))

pub wiring : (net : Net) → IsNet net → Wiring net
wiring net n = record {
  wired = net-wired net n;
  some_actor = in-net net 0 Observer (net-wired net n).observer (λ e. cc);
  to_actor = (net-wired net n).to_actor;
}
