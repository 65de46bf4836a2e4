-- What is told of a history whose steps are changed in what nobody looks at.
--     Keeps g      what looks at a step, but at the numbers in dumps and Dones and at the bytes of frames, sees no difference in what g makes of it
use Rattle.std.proofs.Common.{◌≡◌, ℕ, suc, ◌-◌, ◌+◌, [], ◌∷◌, length, refl, sym, ap, ◌∙◌, Some, None, length-append}
use Rattle.std.specs.Prelude.{true, false, Bool, ◌&&◌, ◌||◌, ◌==◌, cond, if◌then◌else◌, map, min, max, nat_lt, nat_le, unwrap_or, option_map, slice_index_or}
use Rattle.std.specs.List.{fold, list_all}
use Rattle.std.proofs.lemmas.List.{length-map}
use Rattle.sl_parts.specs.Parts.{Parts}
use Rattle.sl_layout.specs.declared.actor.Sort.TheVariants.{Init}
use Rattle.sl_layout.specs.Net.{Net, choices_of, action_choice, data_channels}
use Rattle.sl_layout.specs.Serving.{ServedUnit, served}
use Rattle.sl_route.specs.Least.{least}
use Rattle.sl_model.specs.declared.message.Step.{Step}
use Rattle.sl_model.specs.declared.verdict.Lag.TheVariants.{Id}
use Rattle.sl_model.specs.Words.{first_told}
use Rattle.sl_model.specs.History.{History, stamp_taken, id, last, first, taken, put, on_link}
use Rattle.sl_model.specs.Counting.{counted, packets, bytes, is_bad, bad, is_expired, is_noroute, expired, noroute}
use Rattle.sl_model.specs.Knowledge.{upto_of, floor_of, puts_on, asks, is_outstanding, is_again, is_swept, can_issue, can_resend}
use Rattle.sl_model.specs.Setup.{Setup}
use Rattle.sl_model.specs.Cut.{before}
use Rattle.sl_model.specs.Verdict.{is_old_data, skipped_to, adopted, nth_adopted, miscredits, first_cause, cause, lag_at, lag}

pub record Keeps (g : Step → Step) : Type 0 where
  pub choice : (s : Step) → (g s).choice ≡ s.choice
  pub stamp : (s : Step) → stamp_taken (g s) ≡ stamp_taken s
  pub counted : (s : Step) → counted (g s) ≡ counted s
  pub bad : (s : Step) → is_bad (g s).taken ≡ is_bad s.taken
  pub old : (k : ℕ) (s : Step) → is_old_data k (g s).taken ≡ is_old_data k s.taken
  pub asks : (sweep : ℕ) (v : ServedUnit) (c : ℕ) (s : Step) → asks sweep v c (g s).taken ≡ asks sweep v c s.taken
  pub count : (l : ℕ) (s : Step) → length (on_link l (g s).puts) ≡ length (on_link l s.puts)
  pub puts_on : (l : ℕ) (s : Step) → puts_on l (g s).puts ≡ puts_on l s.puts

-- Stamps, choices and steps.

pub id-kept : (g : Step → Step) → Keeps g → (h : History) → id (map g h) ≡ id h
id-kept g k [] = refl
id-kept g k (s ∷ h) = λ i. max (unwrap_or (k.stamp s i) 0) (id-kept g k h i)

pub last-kept : (g : Step → Step) → Keeps g → (c : ℕ) (h : History) → last c (map g h) ≡ last c h
last-kept g k c [] = refl
last-kept g k c (s ∷ h) = λ i. if k.choice s i == c then unwrap_or (k.stamp s i) (last-kept g k c h i) else last-kept g k c h i

pub taken-kept : (g : Step → Step) → Keeps g → (c : ℕ) (h : History) → taken c (map g h) ≡ taken c h
taken-kept g k c [] = refl
taken-kept g k c (s ∷ h) = λ i. if k.choice s i == c then suc (taken-kept g k c h i) else taken-kept g k c h i

pub length-kept : (g : Step → Step) (h : History) → length (map g h) ≡ length h
length-kept g h = length-map h g

pub first-kept : (g : Step → Step) (n : ℕ) (h : History) → first n (map g h) ≡ map g (first n h)
first-kept g n [] = refl
first-kept g n (s ∷ h) = ap (λ k. if nat_lt k n then g s ∷ map g h else first n (map g h)) (length-kept g h) ∙ by_bool (nat_lt (length h) n) (first-kept g n h)
  where
    by_bool : (b : Bool) → first n (map g h) ≡ map g (first n h) → (if b then g s ∷ map g h else first n (map g h)) ≡ map g (if b then s ∷ h else first n h)
    by_bool true e = refl
    by_bool false e = e

-- Counts.

pub packets-kept : (g : Step → Step) → Keeps g → (h : History) → packets (map g h) ≡ packets h
packets-kept g k [] = refl
packets-kept g k (s ∷ h) = λ i. packets-kept g k h i + unwrap_or (option_map (λ p. 1) (k.counted s i)) 0

pub bytes-kept : (g : Step → Step) → Keeps g → (h : History) → bytes (map g h) ≡ bytes h
bytes-kept g k [] = refl
bytes-kept g k (s ∷ h) = λ i. bytes-kept g k h i + unwrap_or (option_map (λ p. p.len) (k.counted s i)) 0

pub bad-kept : (g : Step → Step) → Keeps g → (h : History) → bad (map g h) ≡ bad h
bad-kept g k [] = refl
bad-kept g k (s ∷ h) = λ i. (if k.bad s i then 1 else 0) + bad-kept g k h i

pub expired-kept : (g : Step → Step) → Keeps g → (h : History) → expired (map g h) ≡ expired h
expired-kept g k [] = refl
expired-kept g k (s ∷ h) = λ i. (if is_expired (k.counted s i) then 1 else 0) + expired-kept g k h i

pub noroute-kept : (g : Step → Step) → Keeps g → (parts : Parts) (d : ℕ) (h : History) → noroute parts d (map g h) ≡ noroute parts d h
noroute-kept g k parts d [] = refl
noroute-kept g k parts d (s ∷ h) = λ i. (if is_noroute parts d (k.counted s i) then 1 else 0) + noroute-kept g k parts d h i

-- Puts, by their number.

pub count-kept : (g : Step → Step) → Keeps g → (l : ℕ) (h : History) → length (put l (map g h)) ≡ length (put l h)
count-kept g k l [] = refl
count-kept g k l (s ∷ h) = length-append (put l (map g h)) (on_link l (g s).puts) ∙ (λ i. count-kept g k l h i + k.count l s i) ∙ sym (length-append (put l h) (on_link l s.puts))

-- Knowledge.

pub upto-kept : (g : Step → Step) → Keeps g → (net : Net) (u : ℕ) (h : History) → upto_of net u (map g h) ≡ upto_of net u h
upto-kept g k net u h = λ i. fold min (id-kept g k h i) (map (λ c. last-kept g k c h i) (data_channels net u))

pub floor-kept : (g : Step → Step) → Keeps g → (net : Net) (u : ℕ) (h : History) → floor_of net u (map g h) ≡ floor_of net u h
floor-kept g k net u h = λ i. fold min (upto-kept g k net u h i) (map (λ c. last-kept g k c h i) (choices_of net u Init))

pub outstanding-kept : (g : Step → Step) → Keeps g → (v : ServedUnit) (h : History) → is_outstanding v (map g h) ≡ is_outstanding v h
outstanding-kept g k v h = λ i. nat_lt (taken-kept g k v.dump h i) (count-kept g k v.poll h i)

pub again-kept : (g : Step → Step) → Keeps g → (sweep : ℕ) (v : ServedUnit) (h : History) → is_again sweep v (map g h) ≡ is_again sweep v h
again-kept g k sweep v [] = refl
again-kept g k sweep v (s ∷ h) = (λ i. if k.puts_on v.poll s i then false else asks sweep v (k.choice s i) (g s).taken || again-kept g k sweep v h i)
    ∙ ap (λ b. if puts_on v.poll s.puts then false else b || is_again sweep v h) (k.asks sweep v s.choice s)

pub swept-kept : (g : Step → Step) → Keeps g → (net : Net) (a : ℕ) (h : History) → is_swept net a (map g h) ≡ is_swept net a h
swept-kept g k net a h = λ i. list_all (λ v. outstanding-kept g k v h i && again-kept g k (action_choice net a) v h i) (served net a)

pub issue-kept : (g : Step → Step) → Keeps g → (s : Setup) (f : ℕ) (h : History) → can_issue s f (map g h) ≡ can_issue s f h
issue-kept g k s f h = ap (λ n. nat_lt n s.count && nat_le (suc n) (f + s.window)) (taken-kept g k (action_choice s.net 0) h)

pub resend-kept : (g : Step → Step) → Keeps g → (s : Setup) (f : ℕ) (h : History) → can_resend s f (map g h) ≡ can_resend s f h
resend-kept g k s f h = λ i. nat_lt (taken-kept g k (suc (action_choice s.net 0)) h i) s.retries && nat_lt f (taken-kept g k (action_choice s.net 0) h i)

-- Cuts, causes and lags.

pub before-kept : (g : Step → Step) → Keeps g → (n : ℕ) (h : History) → before n (map g h) ≡ map g (before n h)
before-kept g k n [] = refl
before-kept g k n (s ∷ h) = ap (λ j. if nat_lt j n then g s ∷ map g h else before n (map g h)) (id-kept g k (s ∷ h)) ∙ by_bool (nat_lt (id (s ∷ h)) n) (before-kept g k n h)
  where
    by_bool : (b : Bool) → before n (map g h) ≡ map g (before n h) → (if b then g s ∷ map g h else before n (map g h)) ≡ map g (if b then s ∷ h else before n h)
    by_bool true e = refl
    by_bool false e = e

skipped-kept : (g : Step → Step) → Keeps g → (n : ℕ) (h : History) → skipped_to n (map g h) ≡ skipped_to n h
skipped-kept g k n [] = refl
skipped-kept g k n (s ∷ h) = λ i. if nat_lt (id-kept g k h i) n && nat_lt n (id-kept g k (s ∷ h) i) then Some (id-kept g k (s ∷ h) i) else skipped-kept g k n h i

adopted-kept : (g : Step → Step) → Keeps g → (h : History) → adopted (map g h) ≡ adopted h
adopted-kept g k [] = refl
adopted-kept g k (s ∷ h) = λ i. if nat_lt (id-kept g k h i) (id-kept g k (s ∷ h) i) then id-kept g k (s ∷ h) i ∷ adopted-kept g k h i else adopted-kept g k h i

nth-kept : (g : Step → Step) → Keeps g → (n : ℕ) (h : History) → nth_adopted n (map g h) ≡ nth_adopted n h
nth-kept g k n h = ap (λ xs. slice_index_or xs (n - 1) 0) (adopted-kept g k h)

miscredits-kept : (g : Step → Step) → Keeps g → (n j : ℕ) (h : History) → miscredits n j (map g h) ≡ miscredits n j h
miscredits-kept g k n j [] = refl
miscredits-kept g k n j (s ∷ h) = λ i. cond (k.old j s i && nat_lt j (nth-kept g k n (s ∷ h) i)) (nth-kept g k n (s ∷ h) i ∷ miscredits-kept g k n j h i) (miscredits-kept g k n j h i)

pub cause-kept : (g : Step → Step) → Keeps g → (n j : ℕ) (h : History) → cause n j (map g h) ≡ cause n j h
cause-kept g k n j h = λ i. first_cause (skipped-kept g k j h i) (least (miscredits-kept g k n j h i))

pub lag-kept : (g : Step → Step) → Keeps g → (net : Net) (j u : ℕ) (h : History) → lag net j u (map g h) ≡ lag net j u h
lag-kept g k net j u h = λ i. if nat_lt (id-kept g k h i) j then Some (Id (id-kept g k h i))
    else lag_at (first_told (λ c. if nat_lt (last-kept g k c h i) j then Some (last-kept g k c h i) else None) (data_channels net u))
