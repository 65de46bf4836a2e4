-- What is told of a history is told of it without the steps that took frames which are no plain frames.
use Rattle.std.proofs.Common.{◌≡◌, ℕ, ◌+◌, ◌-◌, List, [], ◌∷◌, ◌++◌, refl, sym, ap, ◌∙◌, Option, Some, None, arith, inl, inr}
use Rattle.std.specs.Prelude.{true, false, Bool, ◌&&◌, ◌⊎◌, ◌==◌, if◌then◌else◌, cond, map, take, slice_index_or, nat_lt, max, unwrap_or, option_map}
use Rattle.std.proofs.lemmas.Bool.{cases_Bool}
use Rattle.sl_parts.specs.Parts.{Parts}
use Rattle.sl_layout.specs.Net.{Net, data_channels}
use Rattle.sl_route.specs.Least.{least}
use Rattle.sl_saves.specs.Calls.{Call, Adopt, Credited, greatest, totals}
use Rattle.sl_saves.specs.declared.entry.Saved.TheVariants.{Value, Miscredited}
use Rattle.sl_model.specs.declared.message.Step.{Step}
use Rattle.sl_model.specs.declared.verdict.Cause.{Cause}
use Rattle.sl_model.specs.declared.verdict.Cause.TheVariants.{Skipped as WasSkipped, Miscredited as WasMiscredited}
use Rattle.sl_model.specs.declared.verdict.Lag.TheVariants.{Id}
use Rattle.sl_model.specs.Words.{first_told}
use Rattle.sl_model.specs.History.{History, stamp_taken, id, last}
use Rattle.sl_model.specs.Counting.{counted, packets, bytes, bad, is_expired, is_noroute, expired, noroute}
use Rattle.sl_model.specs.Cut.{before, value}
use Rattle.sl_model.specs.Verdict.{is_old_data, skipped_to, adopted, miscredits, first_cause, cause, lag_at, lag}
use Rattle.sl_model.specs.Calls.{credits_in, calls}
use Rattle.sl_model.specs.Rows.{is_among, credits_at, feet_in, feet_at, told, row}
use Rattle.sl_simulation.specs.Forged.{is_forged, without_forged}
use Rattle.sl_simulation.proofs.Bad

-- what a forged step leaves, and any other step changes alike
erased : {A : Type 0} (f : History → A) → ((s : Step) (h : History) → is_forged s ≡ true → f (s ∷ h) ≡ f h)
    → ((s : Step) (h : History) → f (without_forged h) ≡ f h → f (s ∷ without_forged h) ≡ f (s ∷ h)) → (h : History) → f (without_forged h) ≡ f h
erased f gone kept [] = refl
erased f gone kept (s ∷ h) = by_bool (cases_Bool (is_forged s)) (erased f gone kept h)
  where
    by_bool : ((is_forged s ≡ true) ⊎ (is_forged s ≡ false)) → f (without_forged h) ≡ f h → f (if is_forged s then without_forged h else s ∷ without_forged h) ≡ f (s ∷ h)
    by_bool (inl q) e = ap (λ b. f (if b then without_forged h else s ∷ without_forged h)) q ∙ e ∙ sym (gone s h q)
    by_bool (inr q) e = ap (λ b. f (if b then without_forged h else s ∷ without_forged h)) q ∙ kept s h e

pub id-same : (h : History) → id (without_forged h) ≡ id h
id-same h = erased id Bad.id-gone (λ s h e. ap (λ n. max (unwrap_or (stamp_taken s) 0) n) e) h

pub last-same : (c : ℕ) (h : History) → last c (without_forged h) ≡ last c h
last-same c h = erased (last c) (Bad.last-gone c) (λ s h e. ap (λ n. if s.choice == c then unwrap_or (stamp_taken s) n else n) e) h

pub packets-same : (h : History) → packets (without_forged h) ≡ packets h
packets-same h = erased packets Bad.packets-gone (λ s h e. ap (λ n. n + unwrap_or (option_map (λ p. 1) (counted s)) 0) e) h

pub bytes-same : (h : History) → bytes (without_forged h) ≡ bytes h
bytes-same h = erased bytes Bad.bytes-gone (λ s h e. ap (λ n. n + unwrap_or (option_map (λ p. p.len) (counted s)) 0) e) h

pub expired-same : (h : History) → expired (without_forged h) ≡ expired h
expired-same h = erased expired Bad.expired-gone (λ s h e. ap (λ n. (if is_expired (counted s) then 1 else 0) + n) e) h

pub noroute-same : (parts : Parts) (d : ℕ) (h : History) → noroute parts d (without_forged h) ≡ noroute parts d h
noroute-same parts d h = erased (noroute parts d) (Bad.noroute-gone parts d) (λ s h e. ap (λ n. (if is_noroute parts d (counted s) then 1 else 0) + n) e) h

pub no-bad : (h : History) → bad (without_forged h) ≡ 0
no-bad [] = refl
no-bad (s ∷ h) = by_bool (cases_Bool (is_forged s)) (no-bad h)
  where
    by_bool : ((is_forged s ≡ true) ⊎ (is_forged s ≡ false)) → bad (without_forged h) ≡ 0 → bad (if is_forged s then without_forged h else s ∷ without_forged h) ≡ 0
    by_bool (inl q) e = ap (λ b. bad (if b then without_forged h else s ∷ without_forged h)) q ∙ e
    by_bool (inr q) e = ap (λ b. bad (if b then without_forged h else s ∷ without_forged h)) q
        ∙ (let z : bad (s ∷ without_forged h) ≡ 0 + bad (without_forged h) = ap (λ b. (if b then 1 else 0) + bad (without_forged h)) q in omega (arith, z, e))

-- What was saved. A forged step makes no call.

pub calls-same : (cs : List ℕ) → ((s : Step) (h : History) → is_forged s ≡ true → calls cs (s ∷ h) ≡ calls cs h) → (h : History) → calls cs (without_forged h) ≡ calls cs h
calls-same cs gone h = erased (calls cs) gone kept h
  where
    made : Step → ℕ → ℕ → ℕ → List Call
    made s n p b = if nat_lt n (max (unwrap_or (stamp_taken s) 0) n) then Adopt (max (unwrap_or (stamp_taken s) 0) n - n) p b ∷ [] else map Credited (credits_in cs n s.choice s.taken)

    kept : (s : Step) (h : History) → calls cs (without_forged h) ≡ calls cs h → calls cs (s ∷ without_forged h) ≡ calls cs (s ∷ h)
    kept s h e = λ i. made s (id-same h i) (packets-same h i) (bytes-same h i) ++ e i

-- Values, causes, lags and rows.

kept-id : {A : Type 0} (f : ℕ → A) (s : Step) (h : History) → f (id (s ∷ without_forged h)) ≡ f (id (s ∷ h))
kept-id f s h = ap (λ n. f (max (unwrap_or (stamp_taken s) 0) n)) (id-same h)

before-same : {A : Type 0} (f : History → A) (k : ℕ) → ((s : Step) (h : History) → f (s ∷ without_forged h) ≡ f (s ∷ h)) → (s : Step) (h : History)
    → f (before k (without_forged h)) ≡ f (before k h) → f (before k (s ∷ without_forged h)) ≡ f (before k (s ∷ h))
before-same f k kept s h e = kept-id (λ n. f (if nat_lt n k then s ∷ without_forged h else before k (without_forged h))) s h ∙ by_bool (nat_lt (id (s ∷ h)) k)
  where
    by_bool : (b : Bool) → f (if b then s ∷ without_forged h else before k (without_forged h)) ≡ f (if b then s ∷ h else before k h)
    by_bool true = kept s h
    by_bool false = e

packets-before : (k : ℕ) (h : History) → packets (before k (without_forged h)) ≡ packets (before k h)
packets-before k h = erased (λ h. packets (before k h)) (Bad.packets-before-gone k)
    (before-same packets k (λ s h. ap (λ n. n + unwrap_or (option_map (λ p. 1) (counted s)) 0) (packets-same h))) h

bytes-before : (k : ℕ) (h : History) → bytes (before k (without_forged h)) ≡ bytes (before k h)
bytes-before k h = erased (λ h. bytes (before k h)) (Bad.bytes-before-gone k)
    (before-same bytes k (λ s h. ap (λ n. n + unwrap_or (option_map (λ p. p.len) (counted s)) 0) (bytes-same h))) h

pub value-same : (k : ℕ) (h : History) → value k (without_forged h) ≡ value k h
value-same k h = λ i. record { packets = packets-before k h i; bytes = bytes-before k h i }

skipped-same : (k : ℕ) (h : History) → skipped_to k (without_forged h) ≡ skipped_to k h
skipped-same k h = erased (skipped_to k) (Bad.skipped-gone k)
    (λ s h e. λ i. if nat_lt (id-same h i) k && nat_lt k (max (unwrap_or (stamp_taken s) 0) (id-same h i)) then Some (max (unwrap_or (stamp_taken s) 0) (id-same h i)) else e i) h

adopted-same : (h : History) → adopted (without_forged h) ≡ adopted h
adopted-same h = erased adopted Bad.adopted-gone
    (λ s h e. λ i. if nat_lt (id-same h i) (max (unwrap_or (stamp_taken s) 0) (id-same h i)) then max (unwrap_or (stamp_taken s) 0) (id-same h i) ∷ e i else e i) h

adopted-kept : (s : Step) (h : History) → adopted (s ∷ without_forged h) ≡ adopted (s ∷ h)
adopted-kept s h = λ i. if nat_lt (id-same h i) (max (unwrap_or (stamp_taken s) 0) (id-same h i)) then max (unwrap_or (stamp_taken s) 0) (id-same h i) ∷ adopted-same h i else adopted-same h i

miscredits-same : (n k : ℕ) (h : History) → miscredits n k (without_forged h) ≡ miscredits n k h
miscredits-same n k h = erased (miscredits n k) (Bad.miscredits-gone n k)
    (λ s h e. λ i. cond (is_old_data k s.taken && nat_lt k (slice_index_or (adopted-kept s h i) (n - 1) 0)) (slice_index_or (adopted-kept s h i) (n - 1) 0 ∷ e i) (e i)) h

pub cause-same : (n k : ℕ) (h : History) → cause n k (without_forged h) ≡ cause n k h
cause-same n k h = λ i. first_cause (skipped-same k h i) (least (miscredits-same n k h i))

pub lag-same : (net : Net) (k u : ℕ) (h : History) → lag net k u (without_forged h) ≡ lag net k u h
lag-same net k u h = λ i. if nat_lt (id-same h i) k then Some (Id (id-same h i))
    else lag_at (first_told (λ c. if nat_lt (last-same c h i) k then Some (last-same c h i) else None) (data_channels net u))

credits-same : (n : ℕ) (cs : List ℕ) (k : ℕ) (h : History) → credits_at n cs k (without_forged h) ≡ credits_at n cs k h
credits-same n cs k h = erased (credits_at n cs k) (Bad.credits-gone n cs k)
    (λ s h e. λ i. if is_among k (take n (adopted-kept s h i)) then credits_in cs k s.choice s.taken ++ e i else e i) h

feet-same : (n k : ℕ) (h : History) → feet_at n k (without_forged h) ≡ feet_at n k h
feet-same n k h = erased (feet_at n k) (Bad.feet-gone n k) (λ s h e. λ i. feet_in (take n (adopted-kept s h i)) k s.taken ++ e i) h

told-same : (n : ℕ) (cs : List ℕ) (k : ℕ) (h : History) (o : Option Cause) → told n cs k (without_forged h) o ≡ told n cs k h o
told-same n cs k h (Some (WasSkipped j)) = refl
told-same n cs k h (Some (WasMiscredited j)) = ap (λ xs. Miscredited j (greatest xs)) (feet-same n j h)
told-same n cs k h None = λ i. Value (packets-before k h i) (bytes-before k h i) (totals (credits-same n cs k h i))

pub row-same : (n : ℕ) (cs : List ℕ) (k : ℕ) (h : History) → row n cs k (without_forged h) ≡ row n cs k h
row-same n cs k h = ap (told n cs k (without_forged h)) (cause-same n k h) ∙ told-same n cs k h (cause n k h)
