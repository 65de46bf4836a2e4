-- A begin on each link: one more, how many there are, and that they fit.
use Rattle.std.proofs.Common.{◌≡◌, ℕ, zero, suc, ◌+◌, ◌<◌, ◌≤◌, [], ◌∷◌, ◌++◌, length, refl, ap, ◌∙◌, map, arith, zero-add}
use Rattle.std.specs.Prelude.{true, false, not, ◌==◌, ◌||◌, ◌&&◌, nat_lt}
use Rattle.std.proofs.lemmas.Bool.Decides.{nat_tests}
use Rattle.std.proofs.lemmas.List.FromFn.{length-map-range_with_len, map-range_with_len_more}
use Rattle.std.specs.List.{range_with_len}
use Rattle.sl_machine.specs.Machine.{puts_on, is_fitting}
use Rattle.sl_wire.specs.declared.message.Msg.{Msg}
use Rattle.sl_wire.specs.declared.message.Msg.TheVariants.{Begin}
use Rattle.sl_observe.specs.Observer.{begins_out}

abbrev begin_on : ℕ → ℕ → ℕ × Msg
begin_on k out = (out, Begin k)

pub begins_more : (n k : ℕ) → begins_out (n + 1) k ≡ begins_out n k ++ (n, Begin k) ∷ []
begins_more n k = map-range_with_len_more (begin_on k) 0 n _ (zero-add n)

pub length_begins : (n k : ℕ) → length (begins_out n k) ≡ n
length_begins n k = length-map-range_with_len (begin_on k) 0 n

none_before : (k s a n : ℕ) → a < s → puts_on a (map (begin_on k) (range_with_len s n)) ≡ false
none_before k s a zero h = refl
none_before k s a (suc n) h = let e : (s == a) ≡ false = grind (arith, nat_tests) in ap (λ b. b || puts_on a (map (begin_on k) (range_with_len (s + 1) n))) e ∙ none_before k (s + 1) a n (omega arith)

fitting_from : (outs k s n : ℕ) → s + n ≤ outs → is_fitting outs (map (begin_on k) (range_with_len s n)) ≡ true
fitting_from outs k s zero h = refl
fitting_from outs k s (suc n) h =
    let low : nat_lt s outs ≡ true = grind (arith, nat_tests) in
    let rest = map (begin_on k) (range_with_len (s + 1) n) in
    ap (λ b. b && (not (puts_on s rest) && is_fitting outs rest)) low ∙ ap (λ b. not b && is_fitting outs rest) (none_before k (s + 1) s n (omega arith)) ∙ fitting_from outs k (s + 1) n (omega arith)

pub begins_fit : (n k : ℕ) → is_fitting n (begins_out n k) ≡ true
begins_fit n k = fitting_from n k 0 n (omega arith)
