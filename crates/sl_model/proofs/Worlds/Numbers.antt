-- Numbers that never fall, along a history and on a link.
--     Says k o                    the number, if there is one, is k
--     Grows f bound h             each step puts the bound after it, which never falls
--     Ordered f c h rest b        what h heard by the choice c never fell, and it, the numbers of rest, then b, never fall
use Rattle.std.proofs.Common.{◌≡◌, ℕ, suc, ◌≤◌, List, [], ◌∷◌, ◌++◌, length, refl, sym, ap, subst, ◌∙◌, Option, Some, None, arith, append-nil, append_assoc, inl, inr, ◌<◌, lt-ltb, le-ltb}
use Rattle.std.specs.Prelude.{◌⊎◌, cond, true, false, Bool, if◌then◌else◌, ◌==◌, unwrap_or, option_and_then, nat_lt, nat_eq}
use Rattle.std.proofs.lemmas.Bool.{cases_lt}
use Rattle.sl_model.specs.declared.message.Step.{Step}
use Rattle.sl_model.specs.declared.message.Message.{Message}
use Rattle.sl_model.specs.declared.message.Put.{Put}
use Rattle.std.proofs.lemmas.Bool.Decides.{eqb_tells}
use Rattle.sl_parts.specs.Lists.{Each}
use Rattle.sl_model.specs.Words.{Rises, listed, numbers, last_of}
use Rattle.sl_model.specs.History.{History, World, history, heard, takes, put, on_link, without_lost, first}
use Rattle.sl_model.specs.Made.{Fifo}
use Rattle.sl_model.specs.Turns.{GrowsAt}

-- a number of a history never falls as it grows
abbrev pub NeverFalls : (History → ℕ) → History → Type 0
NeverFalls g [] = Unit {0}
NeverFalls g (s ∷ h) = (g h ≤ g (s ∷ h)) × NeverFalls g h

-- the number, if there is one, is k
abbrev pub Says : ℕ → Option ℕ → Type 0
Says k o = (o ≡ None) ⊎ (o ≡ Some k)

-- each step puts the bound after it, which never falls
abbrev pub Grows : (Message → Option ℕ) → (History → ℕ) → History → Type 0
Grows f bound [] = Unit {0}
Grows f bound (s ∷ h) = (bound h ≤ bound (s ∷ h)) × Each (λ p. Says (bound (s ∷ h)) (f p.message)) s.puts × Grows f bound h

-- Numbers.

pub rises-le : (n : ℕ) (xs : List ℕ) (b : ℕ) → Rises n xs b → n ≤ b
rises-le n [] b h = h
rises-le n (x ∷ xs) b h = omega (arith, rises-le x xs b h.1)

pub rises-from : (m n : ℕ) (xs : List ℕ) (b : ℕ) → m ≤ n → Rises n xs b → Rises m xs b
rises-from m n [] b l h = omega arith
rises-from m n (x ∷ xs) b l h = (omega arith, h.1)

pub rises-append : (a : ℕ) (xs : List ℕ) (b : ℕ) (ys : List ℕ) (c : ℕ) → Rises a xs b → Rises b ys c → Rises a (xs ++ ys) c
rises-append a [] b ys c h k = rises-from a b ys c h k
rises-append a (x ∷ xs) b ys c h k = (h.0, rises-append x xs b ys c h.1 k)

last-append : (n : ℕ) (xs ys : List ℕ) → last_of n (xs ++ ys) ≡ last_of (last_of n xs) ys
last-append n [] ys = refl
last-append n (x ∷ xs) ys = last-append x xs ys

rises-back : (n : ℕ) (xs ys : List ℕ) (b : ℕ) → Rises n (xs ++ ys) b → Rises (last_of n xs) ys b
rises-back n [] ys b h = h
rises-back n (x ∷ xs) ys b h = rises-back x xs ys b h.1

rises-front : (n : ℕ) (xs ys : List ℕ) (b : ℕ) → Rises n (xs ++ ys) b → Rises n xs (last_of n xs)
rises-front n [] ys b h = omega arith
rises-front n (x ∷ xs) ys b h = (h.0, rises-front x xs ys b h.1)

rises-last : (n : ℕ) (xs : List ℕ) (b : ℕ) → Rises n xs b → n ≤ last_of n xs
rises-last n [] b h = omega arith
rises-last n (x ∷ xs) b h = omega (arith, h.0, rises-last x xs b h.1)

rises-drop : (n : ℕ) (xs ys : List ℕ) (b : ℕ) → Rises n (xs ++ ys) b → Rises n ys b
rises-drop n [] ys b h = h
rises-drop n (x ∷ xs) ys b h = rises-from n x ys b h.0 (rises-drop x xs ys b h.1)

-- Numbers of messages.

pub numbers-append : (f : Message → Option ℕ) (xs ys : List Message) → numbers f (xs ++ ys) ≡ numbers f xs ++ numbers f ys
numbers-append f [] ys = refl
numbers-append f (x ∷ xs) ys = ap (λ r. listed (f x) ++ r) (numbers-append f xs ys) ∙ sym (append_assoc (listed (f x)) (numbers f xs) (numbers f ys))

-- what is lost keeps the order
pub rises-lost : (f : Message → Option ℕ) (lost : ℕ → Bool) (k n : ℕ) (ms : List Message) (b : ℕ) → Rises n (numbers f ms) b → Rises n (numbers f (without_lost lost k ms)) b
rises-lost f lost k n [] b h = h
rises-lost f lost k n (m ∷ ms) b h = by_bool (λ j. rises-lost f lost (suc k) j ms b) (lost (suc k))
  where
    kept : ((j : ℕ) → Rises j (numbers f ms) b → Rises j (numbers f (without_lost lost (suc k) ms)) b)
        → (o : Option ℕ) → Rises n (listed o ++ numbers f ms) b → Rises n (listed o ++ numbers f (without_lost lost (suc k) ms)) b
    kept ih None h = ih n h
    kept ih (Some x) h = (h.0, ih x h.1)

    by_bool : ((j : ℕ) → Rises j (numbers f ms) b → Rises j (numbers f (without_lost lost (suc k) ms)) b)
        → (c : Bool) → Rises n (numbers f (if c then without_lost lost (suc k) ms else m ∷ without_lost lost (suc k) ms)) b
    by_bool ih true = ih n (rises-drop n (listed (f m)) (numbers f ms) b h)
    by_bool ih false = kept ih (f m) h

-- What is heard.

pub heard-takes : (f : Message → Option ℕ) (c : ℕ) (h : History) → heard f c h ≡ last_of 0 (numbers f (takes c h))
heard-takes f c [] = refl
heard-takes f c (s ∷ h) = by_bool (s.choice == c) (heard-takes f c h)
  where
    xs : List Message
    xs = takes c h

    of_number : (o : Option ℕ) → unwrap_or o (last_of 0 (numbers f (takes c h))) ≡ last_of 0 (numbers f (takes c h) ++ (listed o ++ []))
    of_number None = ap (last_of 0) (sym (append-nil (numbers f (takes c h))))
    of_number (Some x) = sym (last-append 0 (numbers f (takes c h)) (x ∷ []))

    of_message : (o : Option Message) → unwrap_or (option_and_then f o) (last_of 0 (numbers f (takes c h))) ≡ last_of 0 (numbers f (takes c h) ++ numbers f (listed o))
    of_message None = ap (last_of 0) (sym (append-nil (numbers f (takes c h))))
    of_message (Some m) = of_number (f m)

    by_bool : (b : Bool) → heard f c h ≡ last_of 0 (numbers f (takes c h))
        → (if b then unwrap_or (option_and_then f s.taken) (heard f c h) else heard f c h) ≡ last_of 0 (numbers f (takes c h ++ (if b then listed s.taken else [])))
    by_bool true e = ap (unwrap_or (option_and_then f s.taken)) e ∙ of_message s.taken ∙ ap (last_of 0) (sym (numbers-append f (takes c h) (listed s.taken)))
    by_bool false e = e ∙ ap (λ ms. last_of 0 (numbers f ms)) (sym (append-nil (takes c h)))

pub climbs-of : (f : Message → Option ℕ) (c : ℕ) (h : History) (b : ℕ) → Rises 0 (numbers f (takes c h)) b → NeverFalls (heard f c) h
climbs-of f c [] b r = tt
climbs-of f c (s ∷ h) b r = of_new (λ x. climbs-of f c h x) (if s.choice == c then listed s.taken else []) r (heard-takes f c (s ∷ h))
  where
    of_new : ((x : ℕ) → Rises 0 (numbers f (takes c h)) x → NeverFalls (heard f c) h) → (new : List Message) → Rises 0 (numbers f (takes c h ++ new)) b → heard f c (s ∷ h) ≡ last_of 0 (numbers f (takes c h ++ new)) → (heard f c h ≤ heard f c (s ∷ h)) × NeverFalls (heard f c) h
    of_new ih new r e = let q : Rises 0 (numbers f (takes c h) ++ numbers f new) b = subst (λ xs. Rises 0 xs b) (numbers-append f (takes c h) new) r in
        let x : last_of 0 (numbers f (takes c h)) ≤ last_of (last_of 0 (numbers f (takes c h))) (numbers f new) = rises-last (last_of 0 (numbers f (takes c h))) (numbers f new) b (rises-back 0 (numbers f (takes c h)) (numbers f new) b q) in
        let y : heard f c (s ∷ h) ≡ last_of (last_of 0 (numbers f (takes c h))) (numbers f new) = e ∙ ap (last_of 0) (numbers-append f (takes c h) new) ∙ last-append 0 (numbers f (takes c h)) (numbers f new) in
        (omega (arith, x, y, heard-takes f c h), ih (last_of 0 (numbers f (takes c h))) (rises-front 0 (numbers f (takes c h)) (numbers f new) b q))

-- On a link whose puts never fall: what is heard, then what is not yet taken.
pub record Ordered (f : Message → Option ℕ) (c : ℕ) (h : History) (rest : List Message) (b : ℕ) : Type 0 where
  pub climbs : NeverFalls (heard f c) h
  pub rises : Rises (heard f c h) (numbers f rest) b

pub ordered : (f : Message → Option ℕ) (lost : ℕ → Bool) (c : ℕ) (h : History) (ms : List Message) (b : ℕ) → Rises 0 (numbers f ms) b
    → (t : Fifo c h (without_lost lost 0 ms)) → Ordered f c h t.rest b
ordered f lost c h ms b r t = let q : Rises 0 (numbers f (takes c h) ++ numbers f t.rest) b =
    subst (λ xs. Rises 0 xs b) (ap (numbers f) t.split ∙ numbers-append f (takes c h) t.rest) (rises-lost f lost 0 0 ms b r) in
    record {
      climbs = climbs-of f c h (last_of 0 (numbers f (takes c h))) (rises-front 0 (numbers f (takes c h)) (numbers f t.rest) b q);
      rises = subst (λ n. Rises n (numbers f t.rest) b) (sym (heard-takes f c h)) (rises-back 0 (numbers f (takes c h)) (numbers f t.rest) b q);
    }

-- What is put.

says-rise : (f : Message → Option ℕ) (j k l : ℕ) (ps : List Put) → j ≤ k → Each (λ p. Says k (f p.message)) ps → Rises j (numbers f (on_link l ps)) k
says-rise f j k l [] i h = i
says-rise f j k l (p ∷ ps) i h = by_bool (says-rise f j k l ps i h.1) (says-rise f k k l ps (omega arith) h.1) (p.link == l)
  where
    by_says : Rises j (numbers f (on_link l ps)) k → Rises k (numbers f (on_link l ps)) k → Says k (f p.message) → Rises j (listed (f p.message) ++ numbers f (on_link l ps)) k
    by_says x y (inl q) = subst (λ o. Rises j (listed o ++ numbers f (on_link l ps)) k) (sym q) x
    by_says x y (inr q) = subst (λ o. Rises j (listed o ++ numbers f (on_link l ps)) k) (sym q) (i, y)

    by_bool : Rises j (numbers f (on_link l ps)) k → Rises k (numbers f (on_link l ps)) k → (b : Bool) → Rises j (numbers f (cond b (p.message ∷ on_link l ps) (on_link l ps))) k
    by_bool x y true = by_says x y h.0
    by_bool x y false = x

-- where each step puts the bound after it, the puts on a link never fall
pub put-rises : (f : Message → Option ℕ) (bound : History → ℕ) (l : ℕ) (h : History) → Grows f bound h → Rises 0 (numbers f (put l h)) (bound h)
put-rises f bound l [] g = omega arith
put-rises f bound l (s ∷ h) g = subst (λ xs. Rises 0 xs (bound (s ∷ h))) (sym (numbers-append f (put l h) (on_link l s.puts)))
    (rises-append 0 (numbers f (put l h)) (bound h) (numbers f (on_link l s.puts)) (bound (s ∷ h)) (put-rises f bound l h g.2) (says-rise f (bound h) (bound (s ∷ h)) l s.puts g.0 g.1))

-- As histories grow.

pub falls-first : (g : History → ℕ) (n : ℕ) (h : History) → NeverFalls g h → g (first n h) ≤ g h
falls-first g n [] r = omega arith
falls-first g n (s ∷ h) r = by_bool (falls-first g n h r.1) (nat_lt (length h) n)
  where
    by_bool : g (first n h) ≤ g h → (b : Bool) → g (if b then s ∷ h else first n h) ≤ g (s ∷ h)
    by_bool ih true = omega arith
    by_bool ih false = omega (arith, ih, r.0)

-- after more steps it is no less
pub never-falls : (g : History → ℕ) (n m : ℕ) (h : History) → NeverFalls g h → n ≤ m → g (first n h) ≤ g (first m h)
never-falls g n m [] r i = omega arith
never-falls g n m (s ∷ h) r i = by_cases (never-falls g n m h r.1 i) (cases_lt (length h) m) (cases_lt (length h) n)
  where
    all : (k : ℕ) → length h < k → first k (s ∷ h) ≡ s ∷ h
    all k q = ap (λ b. if b then s ∷ h else first k h) (lt-ltb (length h) k q)

    past : (k : ℕ) → k ≤ length h → first k (s ∷ h) ≡ first k h
    past k q = ap (λ b. if b then s ∷ h else first k h) (le-ltb (length h) k q)

    by_cases : g (first n h) ≤ g (first m h) → ((length h < m) ⊎ (m ≤ length h)) → ((length h < n) ⊎ (n ≤ length h)) → g (first n (s ∷ h)) ≤ g (first m (s ∷ h))
    by_cases ih (inl p) o = subst (λ x. g (first n (s ∷ h)) ≤ g x) (sym (all m p)) (falls-first g n (s ∷ h) r)
    by_cases ih (inr p) o = let q : n ≤ length h = omega arith in
        subst (λ x. g (first n (s ∷ h)) ≤ g x) (sym (past m p)) (subst (λ x. g x ≤ g (first m h)) (sym (past n q)) ih)

-- the first steps of a history that grew are those that it had
pub first-grown : (n : ℕ) (s : Step) (h : History) → n ≤ length h → first n (s ∷ h) ≡ first n h
first-grown n s h p = ap (λ b. if b then s ∷ h else first n h) (le-ltb (length h) n p)

-- a number that never falls is no less after a step of any actor
pub grown-le : (g : History → ℕ) (w v : World) (a : ℕ) (step : Step) (b : ℕ) → GrowsAt w v a step → NeverFalls g (history v b) → g (history w b) ≤ g (history v b)
grown-le g w v a step b x n = by_actor (eqb_tells b a)
  where
    of_step : NeverFalls g (step ∷ history w a) → g (history w a) ≤ g (step ∷ history w a)
    of_step n = n.0

    by_actor : ((nat_eq b a ≡ true) × (b ≡ a)) ⊎ ((nat_eq b a ≡ false) × (b ≡ a → ⊥)) → g (history w b) ≤ g (history v b)
    by_actor (inl q) = subst (λ b. g (history w b) ≤ g (history v b)) (sym q.1) (subst (λ h. g (history w a) ≤ g h) (sym x.same)
        (of_step (subst (NeverFalls g) (ap (history v) q.1 ∙ x.same) n)))
    by_actor (inr q) = subst (λ h. g (history w b) ≤ g h) (sym (x.other b q.1)) (omega arith)
