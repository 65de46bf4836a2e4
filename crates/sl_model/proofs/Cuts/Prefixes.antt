-- The first cut(k) steps of a history: what they take and put has a stamp below k, and what the others put has one of at least k.
use Rattle.std.proofs.Common.{◌≡◌, ℕ, suc, ◌<◌, ◌≤◌, List, [], ◌∷◌, ◌++◌, length, refl, sym, ap, subst, ◌∙◌, Option, Some, None, arith, length-append, append-nil, append_assoc, inl, inr, take, drop}
use Rattle.std.specs.Prelude.{◌⊎◌, true, false, Bool, if◌then◌else◌, ◌==◌, nat_lt, max, unwrap_or, option_and_then, IsTrue, cond, filter}
use Rattle.std.proofs.lemmas.Bool.{lt-ltb, le-ltb, cases_lt}
use Rattle.sl_model.specs.declared.message.Step.{Step}
use Rattle.sl_model.specs.declared.message.Message.{Message}
use Rattle.sl_layout.specs.declared.actor.ActorId.TheVariants.{Unit as OfUnit}
use Rattle.sl_layout.specs.declared.actor.UnitId.{UnitId}
use Rattle.sl_layout.specs.Net.{link_of, actor_of, choice_of}
use Rattle.sl_parts.specs.Lists.{Each}
use Rattle.sl_parts.proofs.Lists.{each-append, each-imp, each-front}
use Rattle.sl_model.specs.Words.{listed, weigh}
use Rattle.sl_model.specs.History.{History, stamp_of, id, first, taken, takes, put, on_link, without_lost, World, Losses, history, carried_by}
use Rattle.sl_model.specs.Setup.{Setup}
use Rattle.sl_model.specs.Made.{IsMade, IsFifoRun, Fifo}
use Rattle.sl_model.specs.Cut.{cut, before, outside, cuts, crossing, data_count, data_bytes}
use Rattle.sl_model.specs.Fit.{is_stamped, stamp}
use Rattle.sl_model.proofs.Worlds.Numbers.{Says, first-grown}
use Rattle.sl_model.proofs.Worlds.Stamps.{PutBy, unit-step, each-on-link, each-lost, is-stamped}
use Rattle.sl_layout.specs.declared.actor.Sort.{Sort}
use Rattle.sl_layout.specs.declared.actor.Sort.TheVariants.{Cable, Crossbar}
use Rattle.sl_net.specs.Wired.{IsWired}
use Rattle.sl_model.specs.World.{Entry, carried, world, sender, receiver, taken_by}
use Rattle.sl_model.specs.Matching.{is_data, IsDataChannel, IsConsistentCut}
use Rattle.sl_model.specs.Late.{is_old, IsLateData}
use Rattle.sl_model.proofs.Worlds.FifoRuns.{fifo_run}

abbrev pub AllOld : ℕ → List Message → Type 0
AllOld k ms = Each (λ m. stamp m < k) ms

abbrev pub AllNew : ℕ → List Message → Type 0
AllNew k ms = Each (λ m. k ≤ stamp m) ms

pub record SplitsAt (k : ℕ) (early all : List Message) : Type 0 where
  pub late : List Message
  pub whole : all ≡ early ++ late
  pub old : AllOld k early
  pub new : AllNew k late

-- Prefixes.

pub id-le : (s : Step) (h : History) → id h ≤ id (s ∷ h)
id-le s h = omega arith

pub before-same : (k : ℕ) (s : Step) (h : History) → k ≤ id (s ∷ h) → before k (s ∷ h) ≡ before k h
before-same k s h p = ap (λ b. if b then s ∷ h else before k h) (le-ltb (id (s ∷ h)) k p)

pub before-all : (k : ℕ) (h : History) → id h < k → before k h ≡ h
before-all k [] p = refl
before-all k (s ∷ h) p = ap (λ b. if b then s ∷ h else before k h) (lt-ltb (id (s ∷ h)) k p)

pub outside-none : (k : ℕ) (h : History) → id h < k → outside k h ≡ []
outside-none k [] p = refl
outside-none k (s ∷ h) p = ap (λ b. if b then [] else s ∷ outside k h) (lt-ltb (id (s ∷ h)) k p)

pub outside-more : (k : ℕ) (s : Step) (h : History) → k ≤ id (s ∷ h) → outside k (s ∷ h) ≡ s ∷ outside k h
outside-more k s h p = ap (λ b. if b then [] else s ∷ outside k h) (le-ltb (id (s ∷ h)) k p)

pub cut-le : (k : ℕ) (h : History) → cut k h ≤ length h
cut-le k [] = omega arith
cut-le k (s ∷ h) = by_bool (nat_lt (id (s ∷ h)) k) (cut-le k h)
  where
    by_bool : (b : Bool) → length (before k h) ≤ length h → length (if b then s ∷ h else before k h) ≤ suc (length h)
    by_bool true p = omega arith
    by_bool false p = omega arith

pub first-all : (n : ℕ) (h : History) → length h ≤ n → first n h ≡ h
first-all n [] p = refl
first-all n (s ∷ h) p = ap (λ b. if b then s ∷ h else first n h) (lt-ltb (length h) n (omega arith))

-- the steps before the id reaches k are the first cut(k) steps
pub before-first : (k : ℕ) (h : History) → first (cut k h) h ≡ before k h
before-first k [] = refl
before-first k (s ∷ h) = by_place (cases_lt (id (s ∷ h)) k) (before-first k h)
  where
    by_place : ((id (s ∷ h) < k) ⊎ (k ≤ id (s ∷ h))) → first (cut k h) h ≡ before k h → first (cut k (s ∷ h)) (s ∷ h) ≡ before k (s ∷ h)
    by_place (inl p) ih = first-all (cut k (s ∷ h)) (s ∷ h) (let e : length (before k (s ∷ h)) ≡ suc (length h) = ap length (before-all k (s ∷ h) p) in omega arith) ∙ sym (before-all k (s ∷ h) p)
    by_place (inr p) ih = ap (λ n. first n (s ∷ h)) (ap length (before-same k s h p)) ∙ first-grown (cut k h) s h (cut-le k h) ∙ ih ∙ sym (before-same k s h p)

-- Takes.

-- while the id is below k, each stamp taken is below k
pub takes-old : (c k : ℕ) (h : History) → id h < k → AllOld k (takes c h)
takes-old c k [] p = tt
takes-old c k (s ∷ h) p = each-append (λ m. stamp m < k) (takes c h) (if s.choice == c then listed s.taken else []) (takes-old c k h (omega (arith, p, id-le s h))) (by_bool (s.choice == c))
  where
    of_taken : (o : Option Message) → max (unwrap_or (option_and_then stamp_of o) 0) (id h) < k → AllOld k (listed o)
    of_taken None q = tt
    of_taken (Some m) q = (omega (arith, q), tt)

    by_bool : (b : Bool) → AllOld k (if b then listed s.taken else [])
    by_bool true = of_taken s.taken p
    by_bool false = tt

pub takes-before : (c k : ℕ) (h : History) → AllOld k (takes c (before k h))
takes-before c k [] = tt
takes-before c k (s ∷ h) = by_place (cases_lt (id (s ∷ h)) k) (takes-before c k h)
  where
    by_place : ((id (s ∷ h) < k) ⊎ (k ≤ id (s ∷ h))) → AllOld k (takes c (before k h)) → AllOld k (takes c (before k (s ∷ h)))
    by_place (inl p) ih = subst (λ g. AllOld k (takes c g)) (sym (before-all k (s ∷ h) p)) (takes-old c k (s ∷ h) p)
    by_place (inr p) ih = subst (λ g. AllOld k (takes c g)) (sym (before-same k s h p)) ih

-- the takes are those of the first cut(k) steps, then those of the others
pub takes-split : (c k : ℕ) (h : History) → takes c h ≡ takes c (before k h) ++ takes c (outside k h)
takes-split c k [] = refl
takes-split c k (s ∷ h) = by_place (cases_lt (id (s ∷ h)) k) (takes-split c k h)
  where
    by_place : ((id (s ∷ h) < k) ⊎ (k ≤ id (s ∷ h))) → takes c h ≡ takes c (before k h) ++ takes c (outside k h)
        → takes c (s ∷ h) ≡ takes c (before k (s ∷ h)) ++ takes c (outside k (s ∷ h))
    by_place (inl p) ih = sym (append-nil (takes c (s ∷ h))) ∙ ap (λ g. takes c g ++ []) (sym (before-all k (s ∷ h) p)) ∙ ap (λ g. takes c (before k (s ∷ h)) ++ takes c g) (sym (outside-none k (s ∷ h) p))
    by_place (inr p) ih = ap (λ ms. ms ++ (if s.choice == c then listed s.taken else [])) ih ∙ append_assoc (takes c (before k h)) (takes c (outside k h)) (if s.choice == c then listed s.taken else [])
        ∙ ap (λ g. takes c g ++ (takes c (outside k h) ++ (if s.choice == c then listed s.taken else []))) (sym (before-same k s h p))
        ∙ ap (λ g. takes c (before k (s ∷ h)) ++ takes c g) (sym (outside-more k s h p))

-- How many: where each step by the choice took a message, so did each in a prefix.
takes-le : (c : ℕ) (h : History) → length (takes c h) ≤ taken c h
takes-le c [] = omega arith
takes-le c (s ∷ h) = by_bool (s.choice == c) (takes-le c h)
  where
    of_taken : (o : Option Message) → length (takes c h) ≤ taken c h → length (takes c h ++ listed o) ≤ suc (taken c h)
    of_taken None p = omega (arith, length-append (takes c h) [], p)
    of_taken (Some m) p = omega (arith, length-append (takes c h) (m ∷ []), p)

    by_bool : (b : Bool) → length (takes c h) ≤ taken c h → length (takes c h ++ (if b then listed s.taken else [])) ≤ (if b then suc (taken c h) else taken c h)
    by_bool true p = of_taken s.taken p
    by_bool false p = omega (arith, length-append (takes c h) [], p)

count-less : (c : ℕ) (s : Step) (h : History) → length (takes c (s ∷ h)) ≡ taken c (s ∷ h) → length (takes c h) ≡ taken c h
count-less c s h q = by_bool (s.choice == c) q
  where
    of_taken : (o : Option Message) → length (takes c h ++ listed o) ≡ suc (taken c h) → length (takes c h) ≡ taken c h
    of_taken None p = omega (arith, length-append (takes c h) [], p, takes-le c h)
    of_taken (Some m) p = omega (arith, length-append (takes c h) (m ∷ []), p)

    by_bool : (b : Bool) → length (takes c h ++ (if b then listed s.taken else [])) ≡ (if b then suc (taken c h) else taken c h) → length (takes c h) ≡ taken c h
    by_bool true p = of_taken s.taken p
    by_bool false p = omega (arith, length-append (takes c h) [], p)

pub count-first : (c n : ℕ) (h : History) → length (takes c h) ≡ taken c h → length (takes c (first n h)) ≡ taken c (first n h)
count-first c n [] q = refl
count-first c n (s ∷ h) q = by_bool (nat_lt (length h) n) (count-first c n h (count-less c s h q))
  where
    by_bool : (b : Bool) → length (takes c (first n h)) ≡ taken c (first n h) → length (takes c (if b then s ∷ h else first n h)) ≡ taken c (if b then s ∷ h else first n h)
    by_bool true ih = q
    by_bool false ih = ih

-- Puts.

abbrev StampedBy : Setup → ℕ → ℕ → Message → Type 0
StampedBy s k l m = IsTrue (is_stamped (link_of s.net l).sort) → stamp m ≡ k

-- each message that a unit's step puts on a stamped link has the id after the step as stamp
pub step-stamps : (s : Setup) (a l : ℕ) (i : UnitId) (step : Step) (h : History) → actor_of s.net a ≡ OfUnit i → IsTrue (is_stamped (link_of s.net l).sort) → IsMade s a (step ∷ h)
    → Each (λ m. stamp m ≡ id (step ∷ h)) (on_link l step.puts)
step-stamps s a l i step h q t m = each-imp (StampedBy s (id (step ∷ h)) l) (λ m. stamp m ≡ id (step ∷ h)) (on_link l step.puts) (λ m f. f t)
    (each-on-link (StampedBy s (id (step ∷ h))) l step.puts (each-imp (PutBy s.net (id (step ∷ h)) (suc (length h))) (λ p. StampedBy s (id (step ∷ h)) p.link p.message) step.puts (λ p b t. of_says p.message (is-stamped (link_of s.net p.link).sort p.message t b.fits) b.said.stamp) (unit-step s a i h step q m.0)))
  where
    of_says : (m : Message) → ((k : ℕ) × (stamp_of m ≡ Some k)) → Says (id (step ∷ h)) (stamp_of m) → stamp m ≡ id (step ∷ h)
    of_says m g (inl e) = absurd (let x : Some g.0 ≡ None = sym g.1 ∙ e in cc)
    of_says m g (inr e) = ap (λ o. unwrap_or o 0) e

puts-old : (s : Setup) (a l k : ℕ) (i : UnitId) (h : History) → actor_of s.net a ≡ OfUnit i → IsTrue (is_stamped (link_of s.net l).sort) → IsMade s a h → id h < k → AllOld k (put l h)
puts-old s a l k i [] q t m p = tt
puts-old s a l k i (step ∷ h) q t m p = each-append (λ m. stamp m < k) (put l h) (on_link l step.puts) (puts-old s a l k i h q t m.1 (omega (arith, p, id-le step h)))
    (each-imp (λ m. stamp m ≡ id (step ∷ h)) (λ m. stamp m < k) (on_link l step.puts) (λ m e. omega (arith, e, p)) (step-stamps s a l i step h q t m))

-- A put lies in the first cut(k) steps of a unit exactly where its stamp is below k.
pub puts-split : (s : Setup) (a l k : ℕ) (i : UnitId) (h : History) → actor_of s.net a ≡ OfUnit i → IsTrue (is_stamped (link_of s.net l).sort) → IsMade s a h → SplitsAt k (put l (before k h)) (put l h)
puts-split s a l k i [] q t m = record { late = []; whole = refl; old = tt; new = tt }
puts-split s a l k i (step ∷ h) q t m = by_place (cases_lt (id (step ∷ h)) k) (puts-split s a l k i h q t m.1)
  where
    by_place : ((id (step ∷ h) < k) ⊎ (k ≤ id (step ∷ h))) → SplitsAt k (put l (before k h)) (put l h) → SplitsAt k (put l (before k (step ∷ h))) (put l (step ∷ h))
    by_place (inl p) ih = subst (λ g. SplitsAt k (put l g) (put l (step ∷ h))) (sym (before-all k (step ∷ h) p))
        (record { late = []; whole = sym (append-nil (put l (step ∷ h))); old = puts-old s a l k i (step ∷ h) q t m p; new = tt })
    by_place (inr p) ih = subst (λ g. SplitsAt k (put l g) (put l (step ∷ h))) (sym (before-same k step h p))
        (record {
          late = ih.late ++ on_link l step.puts;
          whole = ap (λ ms. ms ++ on_link l step.puts) ih.whole ∙ append_assoc (put l (before k h)) ih.late (on_link l step.puts);
          old = ih.old;
          new = each-append (λ m. k ≤ stamp m) ih.late (on_link l step.puts) ih.new (each-imp (λ m. stamp m ≡ id (step ∷ h)) (λ m. k ≤ stamp m) (on_link l step.puts) (λ m e. omega (arith, e, p)) (step-stamps s a l i step h q t m));
        })

-- What is carried is split as what is put.

lost-late : (k : ℕ) (lost : ℕ → Bool) (n : ℕ) (xs ys : List Message) → AllNew k ys → (more : List Message) × (without_lost lost n (xs ++ ys) ≡ without_lost lost n xs ++ more) × AllNew k more
lost-late k lost n [] ys e = (without_lost lost n ys, refl, each-lost (λ m. k ≤ stamp m) lost n ys e)
lost-late k lost n (x ∷ xs) ys e = by_bool (lost (suc n)) (lost-late k lost (suc n) xs ys e)
  where
    by_bool : (b : Bool) → ((more : List Message) × (without_lost lost (suc n) (xs ++ ys) ≡ without_lost lost (suc n) xs ++ more) × AllNew k more)
        → (more : List Message) × ((if b then without_lost lost (suc n) (xs ++ ys) else x ∷ without_lost lost (suc n) (xs ++ ys)) ≡ (if b then without_lost lost (suc n) xs else x ∷ without_lost lost (suc n) xs) ++ more) × AllNew k more
    by_bool true h = h
    by_bool false h = (h.0, ap (λ r. x ∷ r) h.1, h.2)

pub lost-split : (k : ℕ) (lost : ℕ → Bool) (early all : List Message) → SplitsAt k early all → SplitsAt k (without_lost lost 0 early) (without_lost lost 0 all)
lost-split k lost early all x = let d = lost-late k lost 0 early x.late x.new in
    record { late = d.0; whole = ap (without_lost lost 0) x.whole ∙ d.1; old = each-lost (λ m. stamp m < k) lost 0 early x.old; new = d.2 }

-- Cuts are always consistent, and a channel's value is the old data that its receiver took outside its cut.

-- Fronts.

-- a front with old stamps ends before the new stamps begin
front-le : (k : ℕ) (xs ys es bs : List Message) → xs ++ ys ≡ es ++ bs → AllOld k xs → AllNew k bs → length xs ≤ length es
front-le k [] ys es bs q o n = omega arith
front-le k (x ∷ xs) ys [] bs q o n = let e : AllNew k (x ∷ (xs ++ ys)) = subst (AllNew k) (sym q) n in absurd (omega (arith, e.0, o.0))
front-le k (x ∷ xs) ys (a ∷ es) bs q o n = omega (arith, front-le k xs ys es bs (let z : xs ++ ys ≡ es ++ bs = cc in z) o.1 n)

pub none-old : (k : ℕ) (ms : List Message) → AllNew k ms → filter (is_old k) ms ≡ []
none-old k [] n = refl
none-old k (m ∷ ms) n = ap (λ b. cond b (m ∷ filter (is_old k) ms) (filter (is_old k) ms)) (le-ltb (stamp m) k n.0) ∙ none-old k ms n.1

-- where old stamps come before new ones, the old ones of a front are the front of the old ones
front-old : (k : ℕ) (xs ys es bs : List Message) → xs ++ ys ≡ es ++ bs → AllOld k es → AllNew k bs → take (length xs) es ≡ filter (is_old k) xs
front-old k [] ys [] bs q o n = refl
front-old k [] ys (a ∷ es) bs q o n = refl
front-old k (x ∷ xs) ys [] bs q o n = sym (none-old k (x ∷ xs) (each-front (λ m. k ≤ stamp m) (x ∷ xs) ys (subst (AllNew k) (sym q) n)))
front-old k (x ∷ xs) ys (a ∷ es) bs q o n = let e : x ≡ a = cc in let r : xs ++ ys ≡ es ++ bs = cc in
    ap (λ ms. a ∷ ms) (front-old k xs ys es bs r o.1 n) ∙ ap (λ y. y ∷ filter (is_old k) xs) (sym e)
    ∙ ap (λ b. cond b (x ∷ filter (is_old k) xs) (filter (is_old k) xs)) (sym (lt-ltb (stamp x) k (subst (λ y. stamp y < k) (sym e) o.0)))

past-old : (k : ℕ) (xs ys : List Message) → AllOld k xs → drop (length xs) (filter (is_old k) (xs ++ ys)) ≡ filter (is_old k) ys
past-old k [] ys o = refl
past-old k (x ∷ xs) ys o = ap (λ b. drop (suc (length xs)) (cond b (x ∷ filter (is_old k) (xs ++ ys)) (filter (is_old k) (xs ++ ys)))) (lt-ltb (stamp x) k o.0) ∙ past-old k xs ys o.1

-- The laws.

pub data-sort : (t : Sort) → IsTrue (is_data t) → (t ≡ Cable) ⊎ (t ≡ Crossbar)
data-sort Cable d = inl refl
data-sort Crossbar d = inr refl
data-sort _ d = absurd cc

pub data-stamped : (t : Sort) → IsTrue (is_data t) → IsTrue (is_stamped t)
data-stamped Cable d = refl
data-stamped Crossbar d = refl
data-stamped _ d = absurd cc

-- on a data channel what the sender's first cut(k) steps sent has stamps below k, and the rest has none
pub sent-split : (s : Setup) (lost : Losses) (w : World) (k l : ℕ) → IsWired s.net → IsFifoRun s lost w → IsDataChannel s.net l
    → SplitsAt k (carried_by lost l (before k (sender s.net w l))) (carried s.net lost w l)
sent-split s lost w k l n r d = let f = n.data_from l d.link (data-sort (link_of s.net l).sort d.data_sort) in
    lost-split k (lost l) (put l (before k (sender s.net w l))) (put l (sender s.net w l))
    (puts-split s (link_of s.net l).from l k f.0 (sender s.net w l) f.1 (data-stamped (link_of s.net l).sort d.data_sort) (r.made (link_of s.net l).from))

-- the first cut(k) steps took as many messages by a choice as they made steps by it
pub count-before : (c k : ℕ) (h : History) → length (takes c h) ≡ taken c h → length (takes c (before k h)) ≡ taken c (before k h)
count-before c k h q = subst (λ g. length (takes c g) ≡ taken c g) (before-first k h) (count-first c (cut k h) h q)

-- Of each link the receiver's first cut(k) steps took at most what the sender's first cut(k) steps sent.
pub cut-link : (s : Setup) (lost : Losses) (w : World) (k l : ℕ) → IsWired s.net → IsFifoRun s lost w → IsDataChannel s.net l
    → taken_by s.net l (before k (receiver s.net w l)) ≤ length (carried_by lost l (before k (sender s.net w l)))
cut-link s lost w k l n r d = of_parts (r.fifo (link_of s.net l).to (choice_of s.net l) l (n.ways.taken l d.link)) (sent-split s lost w k l n r d)
  where
    of_parts : Fifo (choice_of s.net l) (receiver s.net w l) (carried s.net lost w l) → SplitsAt k (carried_by lost l (before k (sender s.net w l))) (carried s.net lost w l)
        → taken_by s.net l (before k (receiver s.net w l)) ≤ length (carried_by lost l (before k (sender s.net w l)))
    of_parts f x = let h = receiver s.net w l in let c = choice_of s.net l in
        let e : takes c (before k h) ++ (takes c (outside k h) ++ f.rest) ≡ carried_by lost l (before k (sender s.net w l)) ++ x.late =
        sym (append_assoc (takes c (before k h)) (takes c (outside k h)) f.rest) ∙ ap (λ ms. ms ++ f.rest) (sym (takes-split c k h)) ∙ sym f.split ∙ x.whole in
        let b : length (takes c (before k h)) ≤ length (carried_by lost l (before k (sender s.net w l))) =
        front-le k (takes c (before k h)) (takes c (outside k h) ++ f.rest) (carried_by lost l (before k (sender s.net w l))) x.late e (takes-before c k h) x.new in
        let z : length (takes c (before k h)) ≡ taken c (before k h) = count-before c k h f.count in omega (arith, b, z)

-- The prefixes before the id reaches k are a consistent cut, in each world that is a run.
pub cut-consistent : (s : Setup) (lost : Losses) (w : World) (k : ℕ) → IsWired s.net → IsFifoRun s lost w → IsConsistentCut s.net lost w (cuts w k)
cut-consistent s lost w k n r l i d t = let x = link_of s.net l in
    let e : first (cut k (history w x.to)) (history w x.to) ≡ before k (history w x.to) = before-first k (history w x.to) in
    let p : i < taken_by s.net l (before k (history w x.to)) = subst (λ h. i < taken_by s.net l h) e t in
    let q : taken_by s.net l (before k (history w x.to)) ≤ length (carried_by lost l (before k (history w x.from))) = cut-link s lost w k l n r d in
    subst (λ h. i < length (carried_by lost l h)) (sym (before-first k (history w x.from))) (omega (arith, p, q))

pub always-consistent : (s : Setup) (lost : Losses) (es : List Entry) (k : ℕ) → IsWired s.net → IsConsistentCut s.net lost (world s lost es) (cuts (world s lost es) k)
always-consistent s lost es k n = cut-consistent s lost (world s lost es) k n (fifo_run s lost es)

-- The messages that cross the cut are the old ones that the receiver took outside its cut.
pub crossing-is : (s : Setup) (lost : Losses) (w : World) (k l : ℕ) → IsWired s.net → IsFifoRun s lost w → IsDataChannel s.net l
    → crossing s.net lost w k l ≡ filter (is_old k) (takes (choice_of s.net l) (outside k (receiver s.net w l)))
crossing-is s lost w k l n r d = of_parts (r.fifo (link_of s.net l).to (choice_of s.net l) l (n.ways.taken l d.link)) (sent-split s lost w k l n r d)
  where
    of_parts : Fifo (choice_of s.net l) (receiver s.net w l) (carried s.net lost w l) → SplitsAt k (carried_by lost l (before k (sender s.net w l))) (carried s.net lost w l)
        → crossing s.net lost w k l ≡ filter (is_old k) (takes (choice_of s.net l) (outside k (receiver s.net w l)))
    of_parts f x = let h = receiver s.net w l in let c = choice_of s.net l in
        let e : takes c h ++ f.rest ≡ carried_by lost l (before k (sender s.net w l)) ++ x.late = sym f.split ∙ x.whole in
        ap (λ i. drop (taken c (before k h)) (take i (carried_by lost l (before k (sender s.net w l))))) (sym f.count)
        ∙ ap (λ ms. drop (taken c (before k h)) ms) (front-old k (takes c h) f.rest (carried_by lost l (before k (sender s.net w l))) x.late e x.old x.new)
        ∙ ap (λ i. drop i (filter (is_old k) (takes c h))) (sym (count-before c k h f.count))
        ∙ ap (λ ms. drop (length (takes c (before k h))) (filter (is_old k) ms)) (takes-split c k h)
        ∙ past-old k (takes c (before k h)) (takes c (outside k h)) (takes-before c k h)

pub value-is-late : (s : Setup) (lost : Losses) (w : World) (k l : ℕ) → IsWired s.net → IsFifoRun s lost w → IsDataChannel s.net l → IsLateData s.net lost w k l
value-is-late s lost w k l n r d = let e = crossing-is s lost w k l n r d in record { packets = ap (weigh data_count) e; bytes = ap (weigh data_bytes) e }
