-- A list of machines where one has changed.
use Rattle.std.proofs.Common.{◌≡◌, ℕ, ◌<◌, List, length, get_or, set, map, ap, sym, ◌∙◌, Some, slice_get}
use Rattle.std.specs.Prelude.{option_map, slice_index}
use Rattle.std.proofs.lemmas.List.{length-set, get_or-set_same, get_or-map, map-set}
use Rattle.std.proofs.lemmas.Option.{slice_get-map, slice_get-get_or}
use Rattle.std.proofs.Math.Seq.{map-set_same}
use Rattle.sl_machine.specs.Machine.{Counts}
use Rattle.sl_machine.specs.Plan.{Plan}
use Rattle.sl_machine.specs.Fit.{HasCounts, counts_at}
use Rattle.sl_world.specs.Counts.{SameCounts}

pub same_counts : {A : Type 0} (counts : A → Counts) (xs : List A) (k : ℕ) (e v : A) → counts v ≡ counts (get_or xs k e) → SameCounts counts xs (set xs k v)
same_counts counts xs k e v h =
    record {
      same_ins = map-set_same (λ a. (counts a).ins) xs k v e (ap (λ (n : Counts). n.ins) h);
      same_outs = map-set_same (λ a. (counts a).outs) xs k v e (ap (λ (n : Counts). n.outs) h);
      same_actions = map-set_same (λ a. (counts a).actions) xs k v e (ap (λ (n : Counts). n.actions) h);
    }

-- what a list of meanings has at a place is the meaning of what is there
pub meaning_at : {A S : Type 0} (f : A → S) (xs : List A) (k : ℕ) (e : A) (s : S) → k < length xs → slice_get (map f xs) k ≡ Some s → f (get_or xs k e) ≡ s
meaning_at f xs k e s low h =
    let here : slice_get (map f xs) k ≡ Some (f (get_or xs k e)) = slice_get-map f xs k ∙ ap (option_map f) (slice_get-get_or xs k e low) in
    cc

pub meaning_set : {A S : Type 0} (f : A → S) (xs : List A) (k : ℕ) (v : A) → k < length xs → slice_get (map f (set xs k v)) k ≡ Some (f v)
meaning_set f xs k v low =
    let long : k < length (set xs k v) = rw length-set low in
    slice_get-map f (set xs k v) k ∙ ap (option_map f) (slice_get-get_or (set xs k v) k v long ∙ ap Some (get_or-set_same xs k v v low))

-- the same, of an element that was read there
pub meaning_is : {A S : Type 0} (f : A → S) (xs : List A) (k : ℕ) (e : A) (s : S) → k < length xs → e ≡ get_or xs k e → slice_get (map f xs) k ≡ Some s → f e ≡ s
meaning_is f xs k e s low read here = ap f read ∙ meaning_at f xs k e s low here

-- a change of the element is one of its meaning
pub meaning_changed : {A S : Type 0} (f : A → S) (xs : List A) (k : ℕ) (e v : A) (s : S) (change : S → S) → k < length xs → e ≡ get_or xs k e → slice_get (map f xs) k ≡ Some s → f v ≡ change (f e) → map f (set xs k v) ≡ set (map f xs) k (change s)
meaning_changed f xs k e v s change low read here changed =
    map-set f xs k v ∙ ap (set (map f xs) k) (changed ∙ ap change (meaning_is f xs k e s low read here))

-- the meaning of the element that was read at a place
pub meaning_read : {A S : Type 0} (f : A → S) (xs : List A) (k : ℕ) (e : A) → k < length xs → e ≡ get_or xs k e → slice_get (map f xs) k ≡ Some (f e)
meaning_read f xs k e low read = slice_get-map f xs k ∙ ap (option_map f) (slice_get-get_or xs k e low ∙ ap Some (sym read))

-- and its number
pub count_read : {A : Type 0} (f : A → ℕ) (xs : List A) (k : ℕ) (e : A) → k < length xs → e ≡ get_or xs k e → get_or (map f xs) k 0 ≡ f e
count_read f xs k e low read = get_or-map f xs k e 0 low ∙ ap f (sym read)

-- a machine that was read has its actor's three numbers
pub counts_read : {A : Type 0} (counts : A → Counts) (plan : Plan) (xs : List A) (k : ℕ) (e : A) → HasCounts counts plan xs → k < length xs → e ≡ get_or xs k e → counts e ≡ counts_at plan k
counts_read {A} counts plan xs k e fit low read = λ i. record { ins = at (λ a. (counts a).ins) plan.ins fit.ins_are i; outs = at (λ a. (counts a).outs) plan.outs fit.outs_are i; actions = at (λ a. (counts a).actions) plan.actions fit.actions_are i }
  where
    at : (f : A → ℕ) (ns : List ℕ) → map f xs ≡ ns → f e ≡ slice_index ns k
    at f ns is = ap f read ∙ sym (get_or-map f xs k e 0 low) ∙ ap (λ ns. slice_index ns k) is
