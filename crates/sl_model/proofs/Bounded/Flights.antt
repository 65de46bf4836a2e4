-- A step pays for what it puts by what it takes.
use Rattle.std.proofs.Common.{◌+◌, ◌++◌, ◌==◌, List, ap, drop, eq-eqb, inl, inr, length, refl, subst, suc, sym, take, zero, ℕ, ◌∙◌, ◌∷◌, ◌≡◌, ◌≤◌, arith, []}
use Rattle.std.specs.Prelude.{◌&&◌, Bool, cond, false, nat_eq, true, ◌⊎◌, if◌then◌else◌}
use Rattle.std.proofs.lemmas.Bool.Decides.{eqb_tells}
use Rattle.sl_layout.specs.Net.{Net, choice_of, link_of}
use Rattle.sl_parts.specs.Parts.{below}
use Rattle.sl_model.specs.History.{Losses, World, history, on_link, put, taken, without_lost}
use Rattle.sl_model.specs.Window.{on_way}
use Rattle.sl_model.specs.Words.{weigh}
use Rattle.sl_model.specs.World.{Entry, carried}
use Rattle.sl_model.specs.declared.message.Message.{Message}
use Rattle.sl_model.specs.declared.message.Put.{Put}
use Rattle.sl_model.specs.declared.message.Step.{Step}
use Rattle.sl_model.specs.Flight.{Weight, flight}
use Rattle.sl_model.specs.Turns.{GrowsAt}
use Rattle.sl_model.proofs.Worlds.Turns.{taken-other}
use Rattle.sl_model.proofs.Lists.Weighed.{weigh-at-most, weigh-once, weigh-plus}

abbrev pub puts_weight : Weight → List Put → ℕ
puts_weight weight ps = weigh (λ p. weight p.link p.message) ps

weigh-lost : (f : Message → ℕ) (lost : ℕ → Bool) (n : ℕ) (xs : List Message) → weigh f (without_lost lost n xs) ≤ weigh f xs
weigh-lost f lost n [] = omega arith
weigh-lost f lost n (x ∷ xs) = by_bool (lost (suc n)) (weigh-lost f lost (suc n) xs)
  where
    by_bool : (b : Bool) → weigh f (without_lost lost (suc n) xs) ≤ weigh f xs → weigh f (if b then without_lost lost (suc n) xs else x ∷ without_lost lost (suc n) xs) ≤ f x + weigh f xs
    by_bool true h = omega (arith, h)
    by_bool false h = omega (arith, h)

-- what is left of two lists, after some
weigh-after : (f : Message → ℕ) (lost : ℕ → Bool) (n k : ℕ) (xs ys : List Message)
    → weigh f (drop k (without_lost lost n (xs ++ ys))) ≤ weigh f (drop k (without_lost lost n xs)) + weigh f ys
weigh-after f lost n k [] ys = by_place k (weigh-lost f lost n ys)
  where
    drop-le : (k : ℕ) (zs : List Message) → weigh f (drop k zs) ≤ weigh f zs
    drop-le zero zs = omega arith
    drop-le (suc k) [] = omega arith
    drop-le (suc k) (z ∷ zs) = omega (arith, drop-le k zs)

    drop-nil : (k : ℕ) → weigh f (drop k []) ≡ 0
    drop-nil zero = refl
    drop-nil (suc k) = refl

    by_place : (k : ℕ) → weigh f (without_lost lost n ys) ≤ weigh f ys → weigh f (drop k (without_lost lost n ys)) ≤ weigh f (drop k []) + weigh f ys
    by_place k h = omega (arith, h, drop-le k (without_lost lost n ys), drop-nil k)
weigh-after f lost n k (x ∷ xs) ys = by_bool (lost (suc n)) k (weigh-after f lost (suc n) k xs ys) (λ j. weigh-after f lost (suc n) j xs ys)
  where
    by_bool : (b : Bool) (k : ℕ) → weigh f (drop k (without_lost lost (suc n) (xs ++ ys))) ≤ weigh f (drop k (without_lost lost (suc n) xs)) + weigh f ys
        → ((j : ℕ) → weigh f (drop j (without_lost lost (suc n) (xs ++ ys))) ≤ weigh f (drop j (without_lost lost (suc n) xs)) + weigh f ys)
        → weigh f (drop k (if b then without_lost lost (suc n) (xs ++ ys) else x ∷ without_lost lost (suc n) (xs ++ ys))) ≤ weigh f (drop k (if b then without_lost lost (suc n) xs else x ∷ without_lost lost (suc n) xs)) + weigh f ys
    by_bool true k h ih = h
    by_bool false zero h ih = omega (arith, ih 0)
    by_bool false (suc k) h ih = ih k

-- the first message of a list, and the rest
weigh-first : (f : Message → ℕ) (k : ℕ) (xs : List Message) → weigh f (drop (suc k) xs) + weigh f (take 1 (drop k xs)) ≡ weigh f (drop k xs)
weigh-first f zero [] = refl
weigh-first f zero (x ∷ xs) = omega arith
weigh-first f (suc k) [] = refl
weigh-first f (suc k) (x ∷ xs) = weigh-first f k xs

-- what the step takes from the link
abbrev pub paid : Weight → Net → Losses → World → Entry → ℕ → ℕ
paid weight net lost w e l = cond (((link_of net l).to == e.0) && (choice_of net l == e.1)) (weigh (weight l) (take 1 (on_way net lost w l))) 0

pub flight-link : (weight : Weight) (net : Net) (lost : Losses) (w v : World) (e : Entry) (step : Step) (l : ℕ) → GrowsAt w v e.0 step → step.choice ≡ e.1
    → weigh (weight l) (on_way net lost v l) + paid weight net lost w e l ≤ weigh (weight l) (on_way net lost w l) + weigh (weight l) (on_link l step.puts)
flight-link weight net lost w v e step l g ch = by_receiver (link_of net l).to (eqb_tells (link_of net l).to e.0)
  where
    f : Message → ℕ
    f = weight l

    c : ℕ
    c = choice_of net l

    sent : World → List Message
    sent u = carried net lost u l

    by_sender : (k r : ℕ) → ((nat_eq r e.0 ≡ true) × (r ≡ e.0)) ⊎ ((nat_eq r e.0 ≡ false) × (r ≡ e.0 → ⊥)) → weigh f (drop k (without_lost (lost l) 0 (put l (history v r)))) ≤ weigh f (drop k (without_lost (lost l) 0 (put l (history w r)))) + weigh f (on_link l step.puts)
    by_sender k r (inl q) = subst (λ r. weigh f (drop k (without_lost (lost l) 0 (put l (history v r)))) ≤ weigh f (drop k (without_lost (lost l) 0 (put l (history w r)))) + weigh f (on_link l step.puts)) (sym q.1)
        (subst (λ h. weigh f (drop k (without_lost (lost l) 0 (put l h))) ≤ weigh f (drop k (without_lost (lost l) 0 (put l (history w e.0)))) + weigh f (on_link l step.puts)) (sym g.same)
        (weigh-after f (lost l) 0 k (put l (history w e.0)) (on_link l step.puts)))
    by_sender k r (inr q) = subst (λ h. weigh f (drop k (without_lost (lost l) 0 (put l h))) ≤ weigh f (drop k (without_lost (lost l) 0 (put l (history w r)))) + weigh f (on_link l step.puts)) (sym (g.other r q.1)) (omega arith)

    -- what the link carries then, from place k on
    more : (k : ℕ) → weigh f (drop k (sent v)) ≤ weigh f (drop k (sent w)) + weigh f (on_link l step.puts)
    more k = by_sender k (link_of net l).from (eqb_tells (link_of net l).from e.0)

    -- the receiver is the actor: it took one more exactly where the choice is the link's
    by_choice : ((nat_eq c e.1 ≡ true) × (c ≡ e.1)) ⊎ ((nat_eq c e.1 ≡ false) × (c ≡ e.1 → ⊥))
        → weigh f (drop (taken c (step ∷ history w e.0)) (sent v)) + cond (nat_eq c e.1) (weigh f (take 1 (drop (taken c (history w e.0)) (sent w)))) 0
        ≤ weigh f (drop (taken c (history w e.0)) (sent w)) + weigh f (on_link l step.puts)
    by_choice (inl q) = let k = taken c (history w e.0) in let t : taken c (step ∷ history w e.0) ≡ suc k = ap (λ b. if b then suc k else k) (eq-eqb step.choice c (ch ∙ sym q.1)) in
        let m : weigh f (drop (suc k) (sent v)) ≤ weigh f (drop (suc k) (sent w)) + weigh f (on_link l step.puts) = more (suc k) in
        let x : weigh f (drop (suc k) (sent w)) + weigh f (take 1 (drop k (sent w))) ≡ weigh f (drop k (sent w)) = weigh-first f k (sent w) in
        let goal : weigh f (drop (suc k) (sent v)) + weigh f (take 1 (drop k (sent w))) ≤ weigh f (drop k (sent w)) + weigh f (on_link l step.puts) = omega (arith, m, x) in
        subst (λ j. weigh f (drop j (sent v)) + cond (nat_eq c e.1) (weigh f (take 1 (drop k (sent w)))) 0 ≤ weigh f (drop k (sent w)) + weigh f (on_link l step.puts)) (sym t)
        (subst (λ b. weigh f (drop (suc k) (sent v)) + cond b (weigh f (take 1 (drop k (sent w)))) 0 ≤ weigh f (drop k (sent w)) + weigh f (on_link l step.puts)) (sym q.0) goal)
    by_choice (inr q) = let k = taken c (history w e.0) in let t : taken c (step ∷ history w e.0) ≡ k = taken-other c step (history w e.0) (λ m. q.1 (sym m ∙ ch)) in
        let m : weigh f (drop k (sent v)) ≤ weigh f (drop k (sent w)) + weigh f (on_link l step.puts) = more k in
        let goal : weigh f (drop k (sent v)) + 0 ≤ weigh f (drop k (sent w)) + weigh f (on_link l step.puts) = omega (arith, m) in
        subst (λ j. weigh f (drop j (sent v)) + cond (nat_eq c e.1) (weigh f (take 1 (drop k (sent w)))) 0 ≤ weigh f (drop k (sent w)) + weigh f (on_link l step.puts)) (sym t)
        (subst (λ b. weigh f (drop k (sent v)) + cond b (weigh f (take 1 (drop k (sent w)))) 0 ≤ weigh f (drop k (sent w)) + weigh f (on_link l step.puts)) (sym q.0) goal)

    by_receiver : (r : ℕ) → ((nat_eq r e.0 ≡ true) × (r ≡ e.0)) ⊎ ((nat_eq r e.0 ≡ false) × (r ≡ e.0 → ⊥))
        → weigh f (drop (taken c (history v r)) (sent v)) + cond ((r == e.0) && (c == e.1)) (weigh f (take 1 (drop (taken c (history w r)) (sent w)))) 0
        ≤ weigh f (drop (taken c (history w r)) (sent w)) + weigh f (on_link l step.puts)
    by_receiver r (inl q) = subst (λ b. weigh f (drop (taken c (history v r)) (sent v)) + cond (b && (c == e.1)) (weigh f (take 1 (drop (taken c (history w r)) (sent w)))) 0 ≤ weigh f (drop (taken c (history w r)) (sent w)) + weigh f (on_link l step.puts)) (sym q.0)
        (subst (λ r. weigh f (drop (taken c (history v r)) (sent v)) + cond (c == e.1) (weigh f (take 1 (drop (taken c (history w r)) (sent w)))) 0 ≤ weigh f (drop (taken c (history w r)) (sent w)) + weigh f (on_link l step.puts)) (sym q.1)
        (subst (λ h. weigh f (drop (taken c h) (sent v)) + cond (c == e.1) (weigh f (take 1 (drop (taken c (history w e.0)) (sent w)))) 0 ≤ weigh f (drop (taken c (history w e.0)) (sent w)) + weigh f (on_link l step.puts)) (sym g.same)
        (by_choice (eqb_tells c e.1))))
    by_receiver r (inr q) = let k = taken c (history w r) in let m : weigh f (drop k (sent v)) ≤ weigh f (drop k (sent w)) + weigh f (on_link l step.puts) = more k in
        let goal : weigh f (drop k (sent v)) + 0 ≤ weigh f (drop k (sent w)) + weigh f (on_link l step.puts) = omega (arith, m) in
        subst (λ b. weigh f (drop (taken c (history v r)) (sent v)) + cond (b && (c == e.1)) (weigh f (take 1 (drop k (sent w)))) 0 ≤ weigh f (drop k (sent w)) + weigh f (on_link l step.puts)) (sym q.0)
        (subst (λ h. weigh f (drop (taken c h) (sent v)) + 0 ≤ weigh f (drop k (sent w)) + weigh f (on_link l step.puts)) (sym (g.other r q.1)) goal)

-- each put counts on one link at most
pub puts-once : (weight : Weight) (n : ℕ) (ps : List Put) → weigh (λ l. weigh (weight l) (on_link l ps)) (below n) ≤ puts_weight weight ps
puts-once weight n [] = zeros (below n)
  where
    zeros : (xs : List ℕ) → weigh (λ l. 0) xs ≤ 0
    zeros [] = omega arith
    zeros (x ∷ xs) = omega (arith, zeros xs)
puts-once weight n (p ∷ ps) = let s : weigh (λ l. weigh (weight l) (on_link l (p ∷ ps))) (below n) ≤ weigh (λ l. cond (p.link == l) (weight l p.message) 0 + weigh (weight l) (on_link l ps)) (below n) = weigh-at-most _ _ (below n) split in
    let t : weigh (λ l. cond (p.link == l) (weight l p.message) 0 + weigh (weight l) (on_link l ps)) (below n) ≡ weigh (λ l. cond (p.link == l) (weight l p.message) 0) (below n) + weigh (λ l. weigh (weight l) (on_link l ps)) (below n) = weigh-plus (λ l. cond (p.link == l) (weight l p.message) 0) (λ l. weigh (weight l) (on_link l ps)) (below n) in
    omega (arith, s, t, weigh-once (λ l. weight l p.message) p.link 0 n, puts-once weight n ps)
  where
    split : (l : ℕ) → weigh (weight l) (on_link l (p ∷ ps)) ≤ cond (p.link == l) (weight l p.message) 0 + weigh (weight l) (on_link l ps)
    split l = by_bool (p.link == l)
      where
        by_bool : (b : Bool) → weigh (weight l) (cond b (p.message ∷ on_link l ps) (on_link l ps)) ≤ cond b (weight l p.message) 0 + weigh (weight l) (on_link l ps)
        by_bool true = omega arith
        by_bool false = omega arith

-- A step pays: what is on its way then, and what it took, weigh at most what was on its way and what it puts.
pub flight-step : (weight : Weight) (net : Net) (lost : Losses) (w v : World) (e : Entry) (step : Step) → GrowsAt w v e.0 step → step.choice ≡ e.1
    → flight weight net lost v + weigh (paid weight net lost w e) (below (length net.links)) ≤ flight weight net lost w + puts_weight weight step.puts
flight-step weight net lost w v e step g ch = let ls = below (length net.links) in
    let s : weigh (λ l. weigh (weight l) (on_way net lost v l) + paid weight net lost w e l) ls ≤ weigh (λ l. weigh (weight l) (on_way net lost w l) + weigh (weight l) (on_link l step.puts)) ls = weigh-at-most _ _ ls (λ l. flight-link weight net lost w v e step l g ch) in
    let a : weigh (λ l. weigh (weight l) (on_way net lost v l) + paid weight net lost w e l) ls ≡ flight weight net lost v + weigh (paid weight net lost w e) ls = weigh-plus (λ l. weigh (weight l) (on_way net lost v l)) (paid weight net lost w e) ls in
    let b : weigh (λ l. weigh (weight l) (on_way net lost w l) + weigh (weight l) (on_link l step.puts)) ls ≡ flight weight net lost w + weigh (λ l. weigh (weight l) (on_link l step.puts)) ls = weigh-plus (λ l. weigh (weight l) (on_way net lost w l)) (λ l. weigh (weight l) (on_link l step.puts)) ls in
    let c : weigh (λ l. weigh (weight l) (on_link l step.puts)) ls ≤ puts_weight weight step.puts = puts-once weight (length net.links) step.puts in
    omega (arith, s, a, b, c)
