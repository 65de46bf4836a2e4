-- What a control plane answers of a unit for a number is what it was told.
use Rattle.std.proofs.Common.{◌≡◌, ℕ, ◌-◌, ◌<◌, List, [], ◌∷◌, map, refl, sym, ap, subst, ◌∙◌, None, arith}
use Rattle.std.specs.Prelude.{cond, slice_get}
use Rattle.std.proofs.lemmas.Bool.{ne_eqb}
use Rattle.std.proofs.lemmas.Option.{slice_get_past}
use Rattle.std.proofs.lemmas.List.FromFn.{length-map-range_with_len}
use Rattle.std.specs.List.{range_with_len}
use Rattle.sl_parts.specs.Lists.{Each, Member}
use Rattle.sl_layout.specs.declared.actor.Sort.TheVariants.{Poll}
use Rattle.sl_layout.specs.Net.{Net, link_of, links_out, unit_place}
use Rattle.sl_layout.specs.Serving.{ServedUnit, serving, served}
use Rattle.sl_net.specs.Wired.{IsWired}
use Rattle.sl_model.specs.History.{History}
use Rattle.sl_model.specs.Knowledge.{upto_of, told_of}
use Rattle.sl_value.specs.declared.whole.Whole.{Whole}
use Rattle.sl_value.specs.Counted.{counted}
use Rattle.sl_value.specs.Valued.{UnitValues, value_of, value_in}
use Rattle.sl_value.specs.Standing.{kept_told, AreKept, IsToldOf, AnswersAsTold}
use Rattle.sl_value.proofs.Takes.{joined, each-served}
use Rattle.sl_value.proofs.Collected.{value-number, entry-of}

value-above : (f : ℕ → Whole) (m k : ℕ) → m < k → value_of (map f (range_with_len 1 m)) k ≡ None
value-above f m k h = let size = length-map-range_with_len f 1 m in
    ap (λ b. cond b None (slice_get (map f (range_with_len 1 m)) (k - 1))) (ne_eqb k 0 (λ e. omega (arith, e, h)))
    ∙ slice_get_past (map f (range_with_len 1 m)) (k - 1) (omega (arith, h, size))

no-entry : (net : Net) (us : ℕ → History) (a place k : ℕ) (vs : List ServedUnit) → Each (λ v. unit_place net v.unit ≡ place → ⊥) vs
    → value_in (map (kept_told net us a) vs) place k ≡ None
no-entry net us a place k [] h = refl
no-entry net us a place k (v ∷ vs) h =
    ap (λ b. cond b (value_of (kept_told net us a v).values k) (value_in (map (kept_told net us a) vs) place k)) (ne_eqb (unit_place net v.unit) place h.0)
    ∙ no-entry net us a place k vs h.1

module _ (net : Net) (us : ℕ → History) (a : ℕ) (kept : List UnitValues) (z : IsWired net) (is : AreKept net us a kept) where
  -- the entry of the unit to which a poll link leads
  entry : (l k : ℕ) → Member l (links_out net a Poll)
      → value_in kept (unit_place net (link_of net l).to) k ≡ value_of (kept_told net us a (serving net a l)).values k
  entry l k m =
      let j = joined net a l z m in
      ap (λ ks. value_in ks (unit_place net (link_of net l).to) k) is
      ∙ entry-of net us a (link_of net l).to k j.id z j.unit j.reports (links_out net a Poll)
      (λ x n. joined net a x z n)
      (subst (λ x. Member x (links_out net a Poll)) j.poll m)
      ∙ ap (λ x. value_of (kept_told net us a (serving net a x)).values k) (sym j.poll)

  told-of : (l : ℕ) → Member l (links_out net a Poll)
      → IsToldOf net (link_of net l).to (told_of us (serving net a l) (us a)) (λ k. value_in kept (unit_place net (link_of net l).to) k)
  told-of l m =
      let g : History = told_of us (serving net a l) (us a) in
      let most : ℕ = upto_of net (link_of net l).to g in record {
        collected = λ k one le. entry l k m ∙ value-number (λ j. counted j g) most k one le;
        zero = entry l 0 m;
        above = λ k h. entry l k m ∙ value-above (λ j. counted j g) most k h;
      }

  pub answers-as-told : AnswersAsTold net us a kept
  answers-as-told = record {
    units = each-served (λ v. IsToldOf net v.unit (told_of us v (us a)) (λ k. value_in kept (unit_place net v.unit) k)) net a told-of;
    others = λ place k none. ap (λ ks. value_in ks place k) is ∙ no-entry net us a place k (served net a) none;
  }
