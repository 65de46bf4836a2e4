-- The entries that a history's calls save are one for each number that it adopted.
use Rattle.std.proofs.Common.{◌≡◌, ℕ, zero, suc, ◌+◌, ◌-◌, ◌<◌, ◌≤◌, List, [], ◌∷◌, ◌++◌, refl, sym, ap, subst, ◌∙◌, Option, Some, None, arith, inl, inr}
use Rattle.std.specs.Prelude.{true, false, Bool, nat_lt, nat_le, ◌==◌, ◌||◌, map, take, unwrap_or, option_and_then, ◌⊎◌, if◌then◌else◌}
use Rattle.std.proofs.lemmas.Bool.{lt-ltb, le-ltb, le-leb, lt-leb, ltb-true, ltb-false, eq-eqb, ne_eqb, cases_lt, cases_Bool, or_right}
use Rattle.sl_net.specs.declared.input.Packet.{Packet}
use Rattle.sl_layout.specs.Net.{place_in}
use Rattle.sl_saves.specs.Calls.{Call, Adopt, Credited, Credit, Save, saves, number, lower, saved_credit, with_credit, IsRising}
use Rattle.sl_saves.proofs.Chains.{IsChain, chain-saves}
use Rattle.sl_model.specs.declared.message.Message.{Message}
use Rattle.sl_model.specs.declared.message.Message.TheVariants.{Data}
use Rattle.sl_model.specs.declared.message.Step.{Step}
use Rattle.sl_parts.specs.Lists.{Each}
use Rattle.sl_parts.proofs.Lists.{each-imp}
use Rattle.sl_model.specs.Words.{listed}
use Rattle.sl_model.specs.History.{History, stamp_of, id}
use Rattle.sl_model.specs.Counting.{packets, bytes}
use Rattle.sl_model.specs.Cut.{before}
use Rattle.sl_model.specs.Verdict.{is_old_data, adopted}
use Rattle.sl_model.proofs.Cuts.Prefixes.{id-le, before-same, before-all}
use Rattle.sl_model.specs.Calls.{credit, credits_in, calls}
use Rattle.sl_model.specs.Rows.{is_among, or_else, credits_at, foot, feet_in, feet_at, entry, entries}
use Rattle.sl_model.proofs.Lists.Lowest.{Falls, each-take, among-none, lowest-none, lowest-above, each-lowest}

pub map-each : {A B : Type 0} (f g : A → B) (xs : List A) → Each (λ x. f x ≡ g x) xs → map f xs ≡ map g xs
map-each f g [] h = refl
map-each f g (x ∷ xs) h = λ i. h.0 i ∷ map-each f g xs h.1 i

-- What a step takes.

-- its stamp, 0 where there is none
abbrev pub stamp_in : Option Message → ℕ
stamp_in o = unwrap_or (option_and_then stamp_of o) 0

-- what raises the id has the new id as its stamp
pub rise-stamp : (s : Step) (h : History) → id h < id (s ∷ h) → stamp_in s.taken ≡ id (s ∷ h)
rise-stamp s h p = omega arith

pub not-old : (k : ℕ) (o : Option Message) → k ≤ stamp_in o → is_old_data k o ≡ false
not-old k (Some (Data s p)) q = le-ltb s k q
not-old k _ q = refl

pub credit-clear : (cs : List ℕ) (k c : ℕ) (o : Option Message) → is_old_data k o ≡ false → credits_in cs k c o ≡ []
credit-clear cs k c (Some (Data s p)) q = ap (λ b. if b then credit cs k c s p ∷ [] else []) q
credit-clear cs k c _ q = refl

-- The calls of a step.

pub calls-rise : (cs : List ℕ) (s : Step) (h : History) → id h < id (s ∷ h) → calls cs (s ∷ h) ≡ Adopt (id (s ∷ h) - id h) (packets h) (bytes h) ∷ calls cs h
calls-rise cs s h p = ap (λ b. (if b then Adopt (id (s ∷ h) - id h) (packets h) (bytes h) ∷ [] else map Credited (credits_in cs (id h) s.choice s.taken)) ++ calls cs h) (lt-ltb (id h) (id (s ∷ h)) p)

pub calls-stay : (cs : List ℕ) (s : Step) (h : History) → id (s ∷ h) ≤ id h → calls cs (s ∷ h) ≡ map Credited (credits_in cs (id h) s.choice s.taken) ++ calls cs h
calls-stay cs s h p = ap (λ b. (if b then Adopt (id (s ∷ h) - id h) (packets h) (bytes h) ∷ [] else map Credited (credits_in cs (id h) s.choice s.taken)) ++ calls cs h) (le-ltb (id h) (id (s ∷ h)) p)

number-credits : (xs : List Credit) (cs : List Call) → number (map Credited xs ++ cs) ≡ number cs
number-credits [] cs = refl
number-credits (x ∷ xs) cs = number-credits xs cs

rising-credits : (xs : List Credit) (cs : List Call) → IsRising cs → IsRising (map Credited xs ++ cs)
rising-credits [] cs r = r
rising-credits (x ∷ xs) cs r = rising-credits xs cs r

pub number-calls : (cs : List ℕ) (h : History) → number (calls cs h) ≡ id h
number-calls cs [] = refl
number-calls cs (s ∷ h) = by_cases (cases_lt (id h) (id (s ∷ h))) (number-calls cs h)
  where
    by_cases : ((id h < id (s ∷ h)) ⊎ (id (s ∷ h) ≤ id h)) → number (calls cs h) ≡ id h → number (calls cs (s ∷ h)) ≡ id (s ∷ h)
    by_cases (inl p) ih = ap number (calls-rise cs s h p) ∙ omega (arith, ih, p)
    by_cases (inr p) ih = ap number (calls-stay cs s h p) ∙ number-credits (credits_in cs (id h) s.choice s.taken) (calls cs h) ∙ ih ∙ omega (arith, p, id-le s h)

pub rising-calls : (cs : List ℕ) (h : History) → IsRising (calls cs h)
rising-calls cs [] = tt
rising-calls cs (s ∷ h) = by_cases (cases_lt (id h) (id (s ∷ h))) (rising-calls cs h)
  where
    by_cases : ((id h < id (s ∷ h)) ⊎ (id (s ∷ h) ≤ id h)) → IsRising (calls cs h) → IsRising (calls cs (s ∷ h))
    by_cases (inl p) ih = subst IsRising (sym (calls-rise cs s h p)) (omega (arith, p), ih)
    by_cases (inr p) ih = subst IsRising (sym (calls-stay cs s h p)) (rising-credits (credits_in cs (id h) s.choice s.taken) (calls cs h) ih)

-- Adopted numbers.

pub adopted-le : (h : History) → Each (λ j. j ≤ id h) (adopted h)
adopted-le [] = tt
adopted-le (s ∷ h) = by_bool (nat_lt (id h) (id (s ∷ h))) (each-imp (λ j. j ≤ id h) (λ j. j ≤ id (s ∷ h)) (adopted h) (λ j p. omega (arith, p, id-le s h)) (adopted-le h))
  where
    by_bool : (b : Bool) → Each (λ j. j ≤ id (s ∷ h)) (adopted h) → Each (λ j. j ≤ id (s ∷ h)) (if b then id (s ∷ h) ∷ adopted h else adopted h)
    by_bool true p = (omega arith, p)
    by_bool false p = p

pub adopted-more : (s : Step) (h : History) → id h < id (s ∷ h) → adopted (s ∷ h) ≡ id (s ∷ h) ∷ adopted h
adopted-more s h p = ap (λ b. if b then id (s ∷ h) ∷ adopted h else adopted h) (lt-ltb (id h) (id (s ∷ h)) p)

pub adopted-same : (s : Step) (h : History) → id (s ∷ h) ≤ id h → adopted (s ∷ h) ≡ adopted h
adopted-same s h p = ap (λ b. if b then id (s ∷ h) ∷ adopted h else adopted h) (le-ltb (id h) (id (s ∷ h)) p)

-- the last number that was adopted is the id; none is while it is 0
pub record IsHeaded (h : History) : Type 0 where
  pub rest : List ℕ
  pub is : adopted h ≡ id h ∷ rest
  pub below : Each (λ j. j < id h) rest

pub headed : (h : History) → 1 ≤ id h → IsHeaded h
headed [] p = absurd (omega (arith, p))
headed (s ∷ h) p = by_cases (cases_lt (id h) (id (s ∷ h))) (headed h)
  where
    by_cases : ((id h < id (s ∷ h)) ⊎ (id (s ∷ h) ≤ id h)) → (1 ≤ id h → IsHeaded h) → IsHeaded (s ∷ h)
    by_cases (inl q) f = record { rest = adopted h; is = adopted-more s h q; below = each-imp (λ j. j ≤ id h) (λ j. j < id (s ∷ h)) (adopted h) (λ j r. omega (arith, r, q)) (adopted-le h) }
    by_cases (inr q) f = let e : id (s ∷ h) ≡ id h = omega (arith, q, id-le s h) in let g = f (omega (arith, p, e)) in
        record { rest = g.rest; is = adopted-same s h q ∙ g.is ∙ ap (λ n. n ∷ g.rest) (sym e); below = subst (λ n. Each (λ j. j < n) g.rest) (sym e) g.below }

pub adopted-none : (h : History) → id h < 1 → adopted h ≡ []
adopted-none [] p = refl
adopted-none (s ∷ h) p = adopted-same s h (omega (arith, p)) ∙ adopted-none h (omega (arith, p, id-le s h))

pub adopted-falls : (h : History) → Falls (adopted h)
adopted-falls [] = tt
adopted-falls (s ∷ h) = by_cases (cases_lt (id h) (id (s ∷ h))) (adopted-falls h)
  where
    by_cases : ((id h < id (s ∷ h)) ⊎ (id (s ∷ h) ≤ id h)) → Falls (adopted h) → Falls (adopted (s ∷ h))
    by_cases (inl p) ih = subst Falls (sym (adopted-more s h p)) (each-imp (λ j. j ≤ id h) (λ j. j < id (s ∷ h)) (adopted h) (λ j q. omega (arith, q, p)) (adopted-le h), ih)
    by_cases (inr p) ih = subst Falls (sym (adopted-same s h p)) ih

-- the last of them, some at most
pub latest-le : (n : ℕ) (h : History) → Each (λ j. j ≤ id h) (take n (adopted h))
latest-le n h = each-take (λ j. j ≤ id h) n (adopted h) (adopted-le h)

-- Credits. Of the last adopted numbers js each that lies above the stamp gets one.

abbrev pub given_in : List ℕ → List ℕ → ℕ → ℕ → Option Message → List Credit
given_in js cs k c o = if is_among k js then credits_in cs k c o else []

pub credits-step : (n : ℕ) (cs : List ℕ) (k : ℕ) (s : Step) (h : History) → credits_at n cs k (s ∷ h) ≡ given_in (take n (adopted (s ∷ h))) cs k s.choice s.taken ++ credits_at n cs k h
credits-step n cs k s h = by_bool (is_among k (take n (adopted (s ∷ h))))
  where
    by_bool : (b : Bool) → (if b then credits_in cs k s.choice s.taken ++ credits_at n cs k h else credits_at n cs k h) ≡ (if b then credits_in cs k s.choice s.taken else []) ++ credits_at n cs k h
    by_bool true = refl
    by_bool false = refl

given-clear : (js cs : List ℕ) (k c : ℕ) (o : Option Message) → credits_in cs k c o ≡ [] → given_in js cs k c o ≡ []
given-clear js cs k c o e = by_bool (is_among k js)
  where
    by_bool : (b : Bool) → (if b then credits_in cs k c o else []) ≡ []
    by_bool true = e
    by_bool false = refl

pub given-none : (js cs : List ℕ) (k c : ℕ) (o : Option Message) → is_among k js ≡ false → given_in js cs k c o ≡ []
given-none js cs k c o e = ap (λ b. if b then credits_in cs k c o else []) e

pub credits-same : (n : ℕ) (cs : List ℕ) (k : ℕ) (s : Step) (h : History) → credits_in cs k s.choice s.taken ≡ [] → credits_at n cs k (s ∷ h) ≡ credits_at n cs k h
credits-same n cs k s h e = credits-step n cs k s h ∙ ap (λ xs. xs ++ credits_at n cs k h) (given-clear (take n (adopted (s ∷ h))) cs k s.choice s.taken e)

pub credits-none : (n : ℕ) (cs : List ℕ) (k : ℕ) (h : History) → id h < k → credits_at n cs k h ≡ []
credits-none n cs k [] p = refl
credits-none n cs k (s ∷ h) p = credits-step n cs k s h
    ∙ ap (λ xs. xs ++ credits_at n cs k h) (given-none (take n (adopted (s ∷ h))) cs k s.choice s.taken
    (among-none k (take n (adopted (s ∷ h))) (each-imp (λ j. j ≤ id (s ∷ h)) (λ j. j < k) (take n (adopted (s ∷ h))) (λ j q. omega (arith, q, p)) (latest-le n (s ∷ h)))))
    ∙ credits-none n cs k h (omega (arith, p, id-le s h))

-- Feet.

foot-other : (k : ℕ) (o : Option ℕ) → ((f : ℕ) → o ≡ Some f → f ≡ k → ⊥) → is_among k (listed o) ≡ false
foot-other k None n = refl
foot-other k (Some f) n = ap (λ b. b || false) (ne_eqb f k (n f refl))

-- a number above all that were adopted is no foot
feet-past : (js : List ℕ) (k : ℕ) (o : Option Message) → Each (λ j. j < k) js → feet_in js k o ≡ []
feet-past js k (Some (Data s p)) b = ap (λ b. if b then (k - s) ∷ [] else []) (foot-other k (foot s js)
    (λ f e q. let l = each-lowest (λ j. j < k) (nat_lt s) js f (each-imp (λ j. j < k) (λ j. nat_lt s j ≡ true → j < k) js (λ j l t. l) b) e in omega (arith, l, q)))
feet-past js k _ b = refl

pub feet-none : (n k : ℕ) (h : History) → id h < k → feet_at n k h ≡ []
feet-none n k [] p = refl
feet-none n k (s ∷ h) p = ap (λ xs. xs ++ feet_at n k h)
    (feet-past (take n (adopted (s ∷ h))) k s.taken (each-imp (λ j. j ≤ id (s ∷ h)) (λ j. j < k) (take n (adopted (s ∷ h))) (λ j q. omega (arith, q, p)) (latest-le n (s ∷ h))))
    ∙ feet-none n k h (omega (arith, p, id-le s h))

-- what is no older than all that were adopted has no foot
feet-clear : (a : ℕ) (js : List ℕ) (k : ℕ) (o : Option Message) → is_old_data a o ≡ false → Each (λ j. j ≤ a) js → feet_in js k o ≡ []
feet-clear a js k (Some (Data s p)) q b = let l : a ≤ s = ltb-false s a q in
    ap (λ f. if is_among k (listed f) then (k - s) ∷ [] else []) (lowest-none (nat_lt s) js (each-imp (λ j. j ≤ a) (λ j. nat_lt s j ≡ false) js (λ j r. le-ltb s j (omega (arith, r, l))) b))
feet-clear a js k _ q b = refl

old-lower : (a k : ℕ) (o : Option Message) → is_old_data a o ≡ false → k ≤ a → is_old_data k o ≡ false
old-lower a k (Some (Data s p)) q r = let l : a ≤ s = ltb-false s a q in le-ltb s k (omega (arith, l, r))
old-lower a k _ q r = refl

-- What a step makes of an entry, where js are the last adopted numbers after it.

abbrev pub more : List ℕ → List ℕ → ℕ → Option Message → ℕ → Save → Save
more js cs c o k e = record e { credits = given_in js cs k c o ++ e.credits; feet = feet_in js k o ++ e.feet }

entry-more : (n : ℕ) (cs : List ℕ) (k : ℕ) (s : Step) (h : History) → k ≤ id (s ∷ h) → entry n cs (s ∷ h) k ≡ more (take n (adopted (s ∷ h))) cs s.choice s.taken k (entry n cs h k)
entry-more n cs k s h p = let b = before-same k s h p in let c = credits-step n cs k s h in
    λ i. record { number = k; by = k - id (b i); packets = packets (b i); bytes = bytes (b i); credits = c i; feet = feet_at n k (s ∷ h) }

more-clear : (a : ℕ) (js cs : List ℕ) (c k : ℕ) (o : Option Message) (e : Save) → is_old_data a o ≡ false → k ≤ a → Each (λ j. j ≤ a) js → more js cs c o k e ≡ e
more-clear a js cs c k o e q p b = let g = given-clear js cs k c o (credit-clear cs k c o (old-lower a k o q p)) in let f = feet-clear a js k o q b in
    λ i. record e { credits = g i ++ e.credits; feet = f i ++ e.feet }

entry-same : (n : ℕ) (cs : List ℕ) (k : ℕ) (s : Step) (h : History) → k ≤ id (s ∷ h) → is_old_data (id (s ∷ h)) s.taken ≡ false → entry n cs (s ∷ h) k ≡ entry n cs h k
entry-same n cs k s h p q = entry-more n cs k s h p ∙ more-clear (id (s ∷ h)) (take n (adopted (s ∷ h))) cs s.choice k s.taken (entry n cs h k) q p (latest-le n (s ∷ h))

-- all entries stay where what came is no older than the id
entries-same : (n : ℕ) (cs : List ℕ) (s : Step) (h : History) → is_old_data (id (s ∷ h)) s.taken ≡ false → map (entry n cs (s ∷ h)) (adopted h) ≡ entries n cs h
entries-same n cs s h q = map-each (entry n cs (s ∷ h)) (entry n cs h) (adopted h)
    (each-imp (λ j. j ≤ id h) (λ j. entry n cs (s ∷ h) j ≡ entry n cs h j) (adopted h) (λ j p. entry-same n cs j s h (omega (arith, p, id-le s h)) q) (adopted-le h))

-- The entries.

abbrev saved_as : ℕ → ℕ → ℕ → ℕ → Save
saved_as number by packets bytes = record { number = number; by = by; packets = packets; bytes = bytes; credits = []; feet = [] }

entries-rise : (n : ℕ) (cs : List ℕ) (s : Step) (h : History) → id h < id (s ∷ h) → saves n (calls cs h) ≡ entries n cs h → saves n (calls cs (s ∷ h)) ≡ entries n cs (s ∷ h)
entries-rise n cs s h p ih = ap (saves n) (calls-rise cs s h p) ∙ (λ i. adopting i ∷ ih i) ∙ sym (λ i. entry-same n cs (id (s ∷ h)) s h (omega arith) new i ∷ entries-same n cs s h new i)
    ∙ sym (ap (map (entry n cs (s ∷ h))) (adopted-more s h p))
  where
    new : is_old_data (id (s ∷ h)) s.taken ≡ false
    new = not-old (id (s ∷ h)) s.taken (let t = rise-stamp s h p in omega (arith, t))

    number_is : number (calls cs h) + (id (s ∷ h) - id h) ≡ id (s ∷ h)
    number_is = let i = number-calls cs h in omega (arith, i, p)

    adopting : saved_as (number (calls cs h) + (id (s ∷ h) - id h)) (id (s ∷ h) - id h) (packets h) (bytes h) ≡ entry n cs h (id (s ∷ h))
    adopting = let b = sym (before-all (id (s ∷ h)) h p) in let c = sym (credits-none n cs (id (s ∷ h)) h p) in let f = sym (feet-none n (id (s ∷ h)) h p) in
        λ i. record { number = number_is i; by = id (s ∷ h) - id (b i); packets = packets (b i); bytes = bytes (b i); credits = c i; feet = f i }

-- A credit to the last m of some entries, the first of which lies above its stamp.

-- it ends at the first, which is its foot
stops : (n : ℕ) (cs : List ℕ) (h : History) (c t : ℕ) (p : Packet) (x : ℕ) (js ys : List ℕ) → t < x → Each (λ j. j ≤ t) js → Each (λ y. (y < x) × (given_in (x ∷ js) cs y c (Some (Data t p)) ≡ [])) ys
    → saved_credit true (credit cs x c t p) (entry n cs h x) ∷ map (entry n cs h) ys ≡ map (λ j. more (x ∷ js) cs c (Some (Data t p)) j (entry n cs h j)) (x ∷ ys)
stops n cs h c t p x js ys l b e = sym (λ i. first i ∷ others i)
  where
    at : foot t (x ∷ js) ≡ Some x
    at = (λ i. or_else (lowest-none (nat_lt t) js (each-imp (λ j. j ≤ t) (λ j. nat_lt t j ≡ false) js (λ j q. le-ltb t j q) b) i) (if lt-ltb t x l i then Some x else None))

    first : more (x ∷ js) cs c (Some (Data t p)) x (entry n cs h x) ≡ saved_credit true (credit cs x c t p) (entry n cs h x)
    first = (λ i. record (entry n cs h x) {
      credits = (if eq-eqb x x refl i || is_among x js then (if lt-ltb t x l i then credit cs x c t p ∷ [] else []) else []) ++ credits_at n cs x h;
      feet = (if is_among x (listed (at i)) then (x - t) ∷ [] else []) ++ feet_at n x h;
    })
        ∙ ap (λ b. record (entry n cs h x) { credits = credit cs x c t p ∷ credits_at n cs x h; feet = (if b || false then (x - t) ∷ [] else []) ++ feet_at n x h }) (eq-eqb x x refl)

    others : map (λ j. more (x ∷ js) cs c (Some (Data t p)) j (entry n cs h j)) ys ≡ map (entry n cs h) ys
    others = map-each (λ j. more (x ∷ js) cs c (Some (Data t p)) j (entry n cs h j)) (entry n cs h) ys
        (each-imp (λ y. (y < x) × (given_in (x ∷ js) cs y c (Some (Data t p)) ≡ [])) (λ y. more (x ∷ js) cs c (Some (Data t p)) y (entry n cs h y) ≡ entry n cs h y) ys
        (λ y q. let f = ap (λ o. if is_among y (listed o) then (y - t) ∷ [] else []) at ∙ ap (λ b. if b || false then (y - t) ∷ [] else []) (ne_eqb x y (let r = q.0 in λ z. omega (arith, r, z))) in let g = q.1 in
        λ i. record (entry n cs h y) { credits = g i ++ credits_at n cs y h; feet = f i ++ feet_at n y h }) e)

-- it goes on below the first, to a foot among the others
passes : (n : ℕ) (cs : List ℕ) (h : History) (c t : ℕ) (p : Packet) (x f : ℕ) (js ys : List ℕ) → t < x → foot t js ≡ Some f → f < x → Each (λ y. y < x) ys
    → saved_credit false (credit cs x c t p) (entry n cs h x) ∷ map (λ j. more js cs c (Some (Data t p)) j (entry n cs h j)) ys ≡ map (λ j. more (x ∷ js) cs c (Some (Data t p)) j (entry n cs h j)) (x ∷ ys)
passes n cs h c t p x f js ys l q b e = sym (λ i. first i ∷ others i)
  where
    at : foot t (x ∷ js) ≡ Some f
    at = ap (λ o. or_else o (if nat_lt t x then Some x else None)) q

    first : more (x ∷ js) cs c (Some (Data t p)) x (entry n cs h x) ≡ saved_credit false (credit cs x c t p) (entry n cs h x)
    first = (λ i. record (entry n cs h x) {
      credits = (if eq-eqb x x refl i || is_among x js then (if lt-ltb t x l i then credit cs x c t p ∷ [] else []) else []) ++ credits_at n cs x h;
      feet = (if is_among x (listed (at i)) then (x - t) ∷ [] else []) ++ feet_at n x h;
    })
        ∙ ap (λ b. record (entry n cs h x) { credits = credit cs x c t p ∷ credits_at n cs x h; feet = (if b || false then (x - t) ∷ [] else []) ++ feet_at n x h }) (ne_eqb f x (λ z. omega (arith, b, z)))

    others : map (λ j. more (x ∷ js) cs c (Some (Data t p)) j (entry n cs h j)) ys ≡ map (λ j. more js cs c (Some (Data t p)) j (entry n cs h j)) ys
    others = map-each (λ j. more (x ∷ js) cs c (Some (Data t p)) j (entry n cs h j)) (λ j. more js cs c (Some (Data t p)) j (entry n cs h j)) ys
        (each-imp (λ y. y < x) (λ y. more (x ∷ js) cs c (Some (Data t p)) y (entry n cs h y) ≡ more js cs c (Some (Data t p)) y (entry n cs h y)) ys
        (λ y r. let g = ne_eqb x y (λ z. omega (arith, r, z)) in let o = at ∙ sym q in
        λ i. record (entry n cs h y) { credits = (if g i || is_among y js then credits_in cs y c (Some (Data t p)) else []) ++ credits_at n cs y h; feet = (if is_among y (listed (o i)) then (y - t) ∷ [] else []) ++ feet_at n y h }) e)

written : (n : ℕ) (cs : List ℕ) (h : History) (c t : ℕ) (p : Packet) (m x : ℕ) (ys : List ℕ) → IsChain (map (entry n cs h) (x ∷ ys)) → Falls (x ∷ ys) → t < x
    → with_credit m (credit cs x c t p) (map (entry n cs h) (x ∷ ys)) ≡ map (λ j. more (take m (x ∷ ys)) cs c (Some (Data t p)) j (entry n cs h j)) (x ∷ ys)
written n cs h c t p zero x ys ch f l = refl
written n cs h c t p (suc zero) x ys ch f l = stops n cs h c t p x [] ys l tt
    (each-imp (λ y. y < x) (λ y. (y < x) × (given_in (x ∷ []) cs y c (Some (Data t p)) ≡ [])) ys
    (λ y q. (q, given-none (x ∷ []) cs y c (Some (Data t p)) (ap (λ b. b || false) (ne_eqb x y (λ z. omega (arith, q, z)))))) f.0)
written n cs h c t p (suc (suc m)) x [] ch f l = ap (λ b. if b then saved_credit true (credit cs x c t p) (entry n cs h x) ∷ [] else saved_credit false (credit cs x c t p) (entry n cs h x) ∷ []) (or_right (suc m == 0) (nat_le (x - t) (x - id (before x h)) || true) (or_right (nat_le (x - t) (x - id (before x h))) true refl))
    ∙ stops n cs h c t p x [] [] l tt tt
written n cs h c t p (suc (suc m)) x (y ∷ ys) ch f l = by_order (cases_lt t y) (written n cs h c t p (suc m) y ys ch.2 f.1)
  where
    by : x - id (before x h) ≡ x - y
    by = let e : x ≡ y + (x - id (before x h)) = ch.1 in omega (arith, e)

    low : y < x
    low = f.0.0

    clear : (z : ℕ) → z ≤ t → given_in (x ∷ y ∷ take m ys) cs z c (Some (Data t p)) ≡ []
    clear z r = given-clear (x ∷ y ∷ take m ys) cs z c (Some (Data t p)) (credit-clear cs z c (Some (Data t p)) (le-ltb t z r))

    by_order : ((t < y) ⊎ (y ≤ t)) → (t < y → with_credit (suc m) (credit cs y c t p) (map (entry n cs h) (y ∷ ys)) ≡ map (λ j. more (y ∷ take m ys) cs c (Some (Data t p)) j (entry n cs h j)) (y ∷ ys))
        → with_credit (suc (suc m)) (credit cs x c t p) (map (entry n cs h) (x ∷ y ∷ ys)) ≡ map (λ j. more (x ∷ y ∷ take m ys) cs c (Some (Data t p)) j (entry n cs h j)) (x ∷ y ∷ ys)
    by_order (inr q) ih = ap (λ b. if b then saved_credit true (credit cs x c t p) (entry n cs h x) ∷ map (entry n cs h) (y ∷ ys)
        else saved_credit false (credit cs x c t p) (entry n cs h x) ∷ with_credit (suc m) (lower (x - id (before x h)) (credit cs x c t p)) (map (entry n cs h) (y ∷ ys)))
        (or_right (suc m == 0) (nat_le (x - t) (x - id (before x h)) || false) (ap (λ b. b || false) (le-leb (x - t) (x - id (before x h)) (omega (arith, by, q, l, low)))))
        ∙ stops n cs h c t p x (y ∷ take m ys) (y ∷ ys) l (q, each-take (λ j. j ≤ t) m ys (each-imp (λ j. j < y) (λ j. j ≤ t) ys (λ j r. omega (arith, r, q)) f.1.0))
        ((low, clear y q), each-imp (λ z. z < y) (λ z. (z < x) × (given_in (x ∷ y ∷ take m ys) cs z c (Some (Data t p)) ≡ [])) ys (λ z r. (omega (arith, r, low), clear z (omega (arith, r, q)))) f.1.0)
    by_order (inl q) ih = ap (λ b. if b then saved_credit true (credit cs x c t p) (entry n cs h x) ∷ map (entry n cs h) (y ∷ ys)
        else saved_credit false (credit cs x c t p) (entry n cs h x) ∷ with_credit (suc m) (lower (x - id (before x h)) (credit cs x c t p)) (map (entry n cs h) (y ∷ ys))) (λ i. ne_eqb (suc m) 0 (λ e. omega (arith, e)) i || (lt-leb (x - t) (x - id (before x h)) (omega (arith, by, q, l, low)) i || false))
        ∙ ap (λ a. saved_credit false (credit cs x c t p) (entry n cs h x) ∷ with_credit (suc m) (record { channel = place_in 0 c cs; age = a; bytes = p.len }) (map (entry n cs h) (y ∷ ys))) (let a : x - t - (x - id (before x h)) ≡ y - t = omega (arith, by, q, low) in a)
        ∙ ap (λ ss. saved_credit false (credit cs x c t p) (entry n cs h x) ∷ ss) (ih q)
        ∙ of_foot (lowest-above t y (take m ys) q)
      where
        of_foot : (g : ℕ) × (foot t (y ∷ take m ys) ≡ Some g)
            → saved_credit false (credit cs x c t p) (entry n cs h x) ∷ map (λ j. more (y ∷ take m ys) cs c (Some (Data t p)) j (entry n cs h j)) (y ∷ ys)
            ≡ map (λ j. more (x ∷ y ∷ take m ys) cs c (Some (Data t p)) j (entry n cs h j)) (x ∷ y ∷ ys)
        of_foot g = passes n cs h c t p x g.0 (y ∷ take m ys) (y ∷ ys) l g.1
            (each-lowest (λ j. j < x) (nat_lt t) (y ∷ take m ys) g.0 ((λ r. low), each-imp (λ j. j < x) (λ j. nat_lt t j ≡ true → j < x) (take m ys) (λ j r s. r) (each-take (λ j. j < x) m ys f.0.1)) g.1) f.0

entries-stay : (n : ℕ) (cs : List ℕ) (s : Step) (h : History) → id (s ∷ h) ≤ id h → saves n (calls cs h) ≡ entries n cs h → saves n (calls cs (s ∷ h)) ≡ entries n cs (s ∷ h)
entries-stay n cs s h p ih = ap (saves n) (calls-stay cs s h p) ∙ by_old (cases_Bool (is_old_data (id h) s.taken))
  where
    level : id (s ∷ h) ≡ id h
    level = omega (arith, p, id-le s h)

    of_data : (t : ℕ) (d : Packet) → s.taken ≡ Some (Data t d) → t < id h → IsHeaded h → saves n (map Credited (credits_in cs (id h) s.choice s.taken) ++ calls cs h) ≡ entries n cs (s ∷ h)
    of_data t d e l top = ap (λ o. saves n (map Credited (credits_in cs (id h) s.choice o) ++ calls cs h)) e
        ∙ ap (λ b. saves n (map Credited (if b then credit cs (id h) s.choice t d ∷ [] else []) ++ calls cs h)) (lt-ltb t (id h) l)
        ∙ ap (with_credit n (credit cs (id h) s.choice t d)) (ih ∙ ap (map (entry n cs h)) top.is)
        ∙ written n cs h s.choice t d n (id h) top.rest (subst (λ js. IsChain (map (entry n cs h) js)) top.is (subst IsChain ih (chain-saves n (calls cs h) (rising-calls cs h)))) (subst Falls top.is (adopted-falls h)) l
        ∙ sym (map-each (entry n cs (s ∷ h)) (λ j. more (take n (id h ∷ top.rest)) cs s.choice (Some (Data t d)) j (entry n cs h j)) (id h ∷ top.rest)
        (each-imp (λ j. j ≤ id h) (λ j. entry n cs (s ∷ h) j ≡ more (take n (id h ∷ top.rest)) cs s.choice (Some (Data t d)) j (entry n cs h j)) (id h ∷ top.rest)
        (λ j q. entry-more n cs j s h (omega (arith, q, level)) ∙ (λ i. more (take n (same i)) cs s.choice (e i) j (entry n cs h j))) (subst (Each (λ j. j ≤ id h)) top.is (adopted-le h))))
        ∙ sym (ap (map (entry n cs (s ∷ h))) same)
      where
        same : adopted (s ∷ h) ≡ id h ∷ top.rest
        same = adopted-same s h p ∙ top.is

    of_taken : (o : Option Message) → s.taken ≡ o → is_old_data (id h) o ≡ true → saves n (map Credited (credits_in cs (id h) s.choice s.taken) ++ calls cs h) ≡ entries n cs (s ∷ h)
    of_taken (Some (Data t d)) e q = let l : t < id h = ltb-true t (id h) q in of_data t d e l (headed h (omega (arith, l)))
    of_taken _ e q = absurd cc

    by_old : ((is_old_data (id h) s.taken ≡ true) ⊎ (is_old_data (id h) s.taken ≡ false)) → saves n (map Credited (credits_in cs (id h) s.choice s.taken) ++ calls cs h) ≡ entries n cs (s ∷ h)
    by_old (inl q) = of_taken s.taken refl q
    by_old (inr q) = ap (λ xs. saves n (map Credited xs ++ calls cs h)) (credit-clear cs (id h) s.choice s.taken q) ∙ ih
        ∙ sym (entries-same n cs s h (ap (λ a. is_old_data a s.taken) level ∙ q)) ∙ sym (ap (map (entry n cs (s ∷ h))) (adopted-same s h p))

pub entries-are : (n : ℕ) (cs : List ℕ) (h : History) → saves n (calls cs h) ≡ entries n cs h
entries-are n cs [] = refl
entries-are n cs (s ∷ h) = by_cases (cases_lt (id h) (id (s ∷ h))) (entries-are n cs h)
  where
    by_cases : ((id h < id (s ∷ h)) ⊎ (id (s ∷ h) ≤ id h)) → saves n (calls cs h) ≡ entries n cs h → saves n (calls cs (s ∷ h)) ≡ entries n cs (s ∷ h)
    by_cases (inl p) ih = entries-rise n cs s h p ih
    by_cases (inr p) ih = entries-stay n cs s h p ih

pub entries-chain : (n : ℕ) (cs : List ℕ) (h : History) → IsChain (entries n cs h)
entries-chain n cs h = subst IsChain (entries-are n cs h) (chain-saves n (calls cs h) (rising-calls cs h))
