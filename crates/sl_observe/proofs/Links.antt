-- The links of the observer: each that leads from it carries begins.
use Rattle.std.proofs.Common.{◌≡◌, ℕ, zero, suc, ◌+◌, ◌<◌, ◌∷◌, length, refl, sym, ap, ◌∙◌, arith}
use Rattle.std.proofs.lemmas.Bool.{eqb-true}
use Rattle.std.specs.Prelude.{Bool, true, false, cond, filter, ◌==◌}
use Rattle.std.specs.List.{range_with_len}
use Rattle.sl_layout.specs.declared.actor.Sort.{Sort}
use Rattle.sl_layout.specs.declared.actor.Sort.TheVariants.{Begin}
use Rattle.sl_layout.specs.declared.actor.ActorId.TheVariants.{Observer}
use Rattle.sl_layout.specs.Net.{Net, same_sort, actor_of, link_of, links_from, links_out}
use Rattle.sl_net.specs.Wired.{sends, IsWired}
use Rattle.sl_layout.proofs.Sorts.{by_sort}

observer_sends : (s : Sort) → sends Observer s ≡ true → same_sort s Begin ≡ true
observer_sends = by_sort (λ s. sends Observer s ≡ true → same_sort s Begin ≡ true) (λ e. cc) (λ e. cc) (λ e. cc) (λ e. cc) (λ e. cc) (λ e. cc) (λ e. cc) (λ e. cc) (λ e. refl) (λ e. cc)

-- a filter of what passes already
filter_again : (p q : ℕ → Bool) (s n : ℕ) → ((k : ℕ) → k < s + n → q k ≡ true → p k ≡ true) → filter p (filter q (range_with_len s n)) ≡ filter q (range_with_len s n)
filter_again p q s zero f = refl
filter_again p q s (suc n) f = by_first (q s) refl (filter_again p q (s + 1) n (λ k h e. f k (omega arith) e))
  where
    by_first : (b : Bool) → q s ≡ b → filter p (filter q (range_with_len (s + 1) n)) ≡ filter q (range_with_len (s + 1) n)
        → filter p (cond b (s ∷ filter q (range_with_len (s + 1) n)) (filter q (range_with_len (s + 1) n))) ≡ cond b (s ∷ filter q (range_with_len (s + 1) n)) (filter q (range_with_len (s + 1) n))
    by_first true e rest = ap (λ b. cond b (s ∷ filter p (filter q (range_with_len (s + 1) n))) (filter p (filter q (range_with_len (s + 1) n)))) (f s (omega arith) e) ∙ ap (λ r. s ∷ r) rest
    by_first false e rest = rest

pub begins_are_all : (net : Net) → IsWired net → links_out net 0 Begin ≡ links_from net 0
begins_are_all net wired = filter_again (λ l. same_sort (link_of net l).sort Begin) (λ l. (link_of net l).from == 0) 0 (length net.links)
    (λ l h e.
    let from : (link_of net l).from ≡ 0 = eqb-true (link_of net l).from 0 e in
    let observer : actor_of net (link_of net l).from ≡ Observer = ap (actor_of net) from ∙ wired.observer in
    observer_sends (link_of net l).sort (sym (ap (λ a. sends a (link_of net l).sort) observer) ∙ wired.sender l (omega arith)))
