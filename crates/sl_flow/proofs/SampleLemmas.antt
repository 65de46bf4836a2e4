-- Samples: their names, that their nets have no fault, and the ranges of their numbers.
use Rattle.std.proofs.Common.{◌≡◌, ℕ, ◌+◌, ◌*◌, ◌%◌, ◌<◌, ◌≤◌, ◌⊎◌, inl, inr, ◌∷◌, length, refl, sym, ap, subst, ◌∙◌, arith, map, Bool, true, false, cond, decimal, zero-add}
use Rattle.std.specs.Prelude.{◌&&◌, ◌==◌, nat_le, Option, None, Some}
use Rattle.std.specs.Option.{is_none}
use Rattle.std.specs.Fmt.{digits}
use Rattle.std.specs.List.{list_all, All}
use Rattle.std.proofs.lemmas.Bool.{and_parts, and_from, leb-true}
use Rattle.std.proofs.lemmas.List.Sums.{AllPass-from_list_all, sum_by-le}
use Rattle.std.proofs.lemmas.List.Elements.{All-get_or, All-from_get_or}
use Rattle.std.proofs.lemmas.List.FromFn.{get_or-map-range_with_len, get_or-range_with_len, length-map-range_with_len, length-range_with_len}
use Rattle.sl_parts.specs.declared.fault.NetFault.{NetFault}
use Rattle.sl_net.specs.declared.input.Flow.{Flow}
use Rattle.sl_parts.specs.Text.{IsName, is_name_byte}
use Rattle.sl_parts.specs.declared.parts.CablePart.{CablePart}
use Rattle.sl_parts.specs.Parts.{below}
use Rattle.sl_parts.specs.Fault.{fault_of}
use Rattle.sl_parts.specs.Valid.{AreVersioned}
use Rattle.sl_flow.specs.Sample.{IsSampleFlow, IsSample, leaf_count, leaf_spine, host_count, host, cable, flow, by_parity, sample_parts}

-- a test that the numbers below some number pass
each_below : (test : ℕ → Bool) (count n : ℕ) → list_all test (below count) ≡ true → n < count → test n ≡ true
each_below test count n e h =
    let there : n < length (below count) = subst (λ (m : ℕ). n < m) (sym (length-range_with_len 0 count)) h in
    ap test (sym (get_or-range_with_len 0 count n 0 h ∙ zero-add n)) ∙ All-get_or (λ k. test k ≡ true) (below count) n 0 there (AllPass-from_list_all test (below count) e)

made_below : {A : Type 0} (P : A → Type 0) (f : ℕ → A) (count : ℕ) → ((i : ℕ) → i < count → P (f i)) → All P (map f (below count))
made_below P f count each = All-from_get_or P (map f (below count)) (f 0) (λ i h.
    let l : i < count = subst (λ (m : ℕ). i < m) (length-map-range_with_len f 0 count) h in
    subst P (sym (get_or-map-range_with_len f 0 count i _ (f 0) l (zero-add i))) (each i l))

-- what a name's number adds to its letter
is_short : ℕ → Bool
is_short i = nat_le (length (decimal i)) 15 && list_all is_name_byte (decimal i)

all_short : list_all is_short (below 16) ≡ true
unfolding is_short digits
all_short = refl

pub letter_name : (letter i : ℕ) → is_name_byte letter ≡ true → i < 16 → IsName (letter ∷ decimal i)
unfolding is_short
letter_name letter i e h =
    let short = and_parts (nat_le (length (decimal i)) 15) (list_all is_name_byte (decimal i)) (each_below is_short 16 i all_short h) in
    let few : length (decimal i) ≤ 15 = leb-true (length (decimal i)) 15 short.0 in
    record { some = omega arith; at_most = omega arith; each = and_from (is_name_byte letter) (list_all is_name_byte (decimal i)) e short.1 }

has_no_fault : ℕ → Bool
has_no_fault k = is_none (fault_of (leaf_spine (2 + k)))

none_have_faults : list_all has_no_fault (below 7) ≡ true
unfolding has_no_fault digits
none_have_faults = refl

pub versioned : (n : ℕ) → AreVersioned (leaf_spine (leaf_count n)).cables
versioned n = made_below (λ (c : CablePart). (1 ≤ c.version) × (c.version ≤ 2)) cable (2 * leaf_count n) (λ i l. (omega arith, omega arith))

pub no_fault : (n : ℕ) → fault_of (leaf_spine (leaf_count n)) ≡ None
unfolding has_no_fault
no_fault n = go (fault_of (leaf_spine (leaf_count n))) (each_below has_no_fault 7 (n % 7) none_have_faults (omega arith))
  where
    go : (o : Option NetFault) → is_none o ≡ true → o ≡ None
    go None e = refl
    go (Some f) e = absurd (cc)

by_parity_cases : (n even odd : ℕ) → (by_parity n even odd ≡ even) ⊎ (by_parity n even odd ≡ odd)
by_parity_cases n even odd = go (n % 2 == 0)
  where
    go : (b : Bool) → (cond b even odd ≡ even) ⊎ (cond b even odd ≡ odd)
    go true = inl refl
    go false = inr refl

-- the flow from a host to the next
is_flow : (n h count : ℕ) → n ≤ 64 → count ≡ host_count n → h < count → IsSampleFlow (leaf_spine (leaf_count n)) (flow n h)
is_flow n h count few e l =
    let hosts = length-map-range_with_len host 0 (2 * leaf_count n) in
    record { from = omega (arith, hosts); to = omega (arith, hosts); count = omega arith }

pub is_sample : (n : ℕ) → n ≤ 64 → IsSample (sample_parts n)
is_sample n few =
    let hosts = length-map-range_with_len host 0 (2 * leaf_count n) in
    let flows = length-map-range_with_len (flow n) 0 (host_count n) in
    let window = by_parity_cases n 1 3 in
    let sum = sum_by-le (λ (f : Flow). f.count) 320 (map (flow n) (below (host_count n))) (made_below (λ (f : Flow). f.count ≤ 320) (flow n) (host_count n) (λ i l. omega arith)) in
    record {
      net = refl;
      right = no_fault n;
      hosts = omega (arith, hosts);
      cables = made_below (λ (c : CablePart). c.version ≡ 1) cable (2 * leaf_count n) (λ i l. refl);
      bits = refl;
      some_window = elim window [ inl e ↦ omega (arith, e) | inr e ↦ omega (arith, e) ];
      few_window = elim window [ inl e ↦ omega (arith, e) | inr e ↦ omega (arith, e) ];
      ring = refl;
      count = refl;
      retries = refl;
      credits = refl;
      version = refl;
      flows = made_below (IsSampleFlow (leaf_spine (leaf_count n))) (flow n) (host_count n) (λ i l. is_flow n i (host_count n) few refl l);
      few_packets = omega (arith, sum, flows);
      raws = refl;
      script = refl;
      drops = refl;
    }
