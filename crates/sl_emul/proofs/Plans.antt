-- What the plans of a net's actors hold.
use Rattle.std.proofs.Common.{◌≡◌, ℕ, suc, ◌+◌, ◌<◌, ◌≤◌, List, Vec, Global, [], ◌∷◌, ◌++◌, length, map, get_or, refl, sym, ap, ◌∙◌, subst, arith, inl, inr, zero-add}
use Rattle.std.specs.Prelude.{Bool, true, false, ◌&&◌, ◌==◌, ◌⊎◌, if◌then◌else◌}
use Rattle.std.specs.List.{All, Contains}
use Rattle.std.proofs.lemmas.Bool.{cases_lt, ne_eqb}
use Rattle.std.proofs.lemmas.List.{length-map, map-append, get_or-map, get_or_past}
use Rattle.std.proofs.lemmas.List.Elements.{All-nil, All-cons, All-append, All-weaker, All-contains, All-map}
use Rattle.std.proofs.lemmas.List.FromFn.{get_or-range_with_len, length-range_with_len, get_or-map-range_with_len, length-map-range_with_len, map-range_with_len_more}
use Rattle.sl_machine.specs.declared.wiring.Entry.{Entry as BookEntry}
use Rattle.sl_machine.specs.Machine.{Counts, IsChoice}
use Rattle.sl_machine.specs.Fit.{HasCounts}
use Rattle.sl_parts.specs.Parts.{below}
use Rattle.sl_layout.specs.declared.actor.ActorId.{ActorId}
use Rattle.sl_layout.specs.declared.actor.ActorId.TheVariants.{Observer, Control, Unit as OfUnit, Host as OfHost}
use Rattle.sl_layout.specs.Net.{Net, actor_of, links_into, action_choice, nobody}
use Rattle.sl_layout.specs.Wiring.{plan_of, actions_of}
use Rattle.sl_model.specs.Words.{tally}
use Rattle.sl_model.specs.Bound.{is_control}
use Rattle.sl_model.specs.Sweeps.{sweeps_at, sweeps_in}
use Rattle.sl_model.specs.Schedule.{resend_entry}
use Rattle.sl_model.specs.World.{Entry}
use Rattle.sl_model.specs.Books.{schedule_of}
use Rattle.sl_threads.specs.Threads.{ArePlans, ArePlanned}
use Rattle.sl_emul.specs.Threaded.{tried_actions, tried_by, plans_of}

-- a choice that the actor a tries: one of its choices, no sweep, and none past its first action
pub record IsTried (net : Net) (a c : ℕ) : Type 0 where
  pub low : c ≤ length (links_into net a)
  pub has : c < length (links_into net a) + actions_of (actor_of net a)
  pub no_sweep : sweeps_at net (a, c) ≡ false

and-no : (b t : Bool) → t ≡ false → (b && t) ≡ false
and-no true t e = e
and-no false t e = refl

by-link : (net : Net) (a c : ℕ) → c < length (links_into net a) → IsTried net a c
by-link net a c h = record {
  low = omega (arith, h);
  has = omega (arith, h);
  no_sweep = and-no (is_control (actor_of net a)) (c == action_choice net a) (ne_eqb c (action_choice net a) (λ e. omega (arith, e, h)));
}

own : (net : Net) (a : ℕ) (x : ActorId) → actor_of net a ≡ x → 0 < actions_of x → is_control x ≡ false → IsTried net a (action_choice net a)
own net a x is some other = let n : actions_of (actor_of net a) ≡ actions_of x = ap actions_of is in record {
  low = omega arith;
  has = omega (arith, n, some);
  no_sweep = ap (λ y. is_control y && (action_choice net a == action_choice net a)) is ∙ ap (λ b. b && (action_choice net a == action_choice net a)) other;
}

by-links : (net : Net) (a : ℕ) → All (IsTried net a) (below (length (links_into net a)))
by-links net a k d h = let n = length-range_with_len 0 (length (links_into net a)) in let low : k < length (links_into net a) = omega (arith, n, h) in
    subst (IsTried net a) (sym (get_or-range_with_len 0 (length (links_into net a)) k d low ∙ zero-add k)) (by-link net a k low)

by-action : (net : Net) (a : ℕ) (x : ActorId) → actor_of net a ≡ x → All (IsTried net a) (tried_actions net a x)
by-action net a Observer is = All-cons (IsTried net a) (action_choice net a) [] (own net a Observer is (omega arith) refl) (All-nil (IsTried net a))
by-action net a (Control d) is = All-nil (IsTried net a)
by-action net a (OfUnit u) is = All-nil (IsTried net a)
by-action net a (OfHost h) is = All-cons (IsTried net a) (action_choice net a) [] (own net a (OfHost h) is (omega arith) refl) (All-nil (IsTried net a))

tried : (net : Net) (a : ℕ) → All (IsTried net a) (tried_by net a)
tried net a = All-append (IsTried net a) (below (length (links_into net a))) (tried_actions net a (actor_of net a)) (by-links net a) (by-action net a (actor_of net a) refl)

pub plan-tried : (net : Net) (a : ℕ) → All (IsTried net a) (get_or (plans_of net) a [])
plan-tried net a = by_cases (cases_lt a (length net.actors))
  where
    by_cases : (a < length net.actors) ⊎ (length net.actors ≤ a) → All (IsTried net a) (get_or (plans_of net) a [])
    by_cases (inl low) = subst (All (IsTried net a)) (sym (get_or-map-range_with_len (tried_by net) 0 (length net.actors) a _ [] low (zero-add a))) (tried net a)
    by_cases (inr high) = let n : length (plans_of net) ≡ length net.actors = length-map-range_with_len (tried_by net) 0 (length net.actors) in
        subst (All (IsTried net a)) (sym (get_or_past (plans_of net) a [] (omega (arith, n, high)))) (All-nil (IsTried net a))

-- The plans fit machines that fit the net.
pub plans-fit : {A : Type 0} (counts : A → Counts) (net : Net) (machines : List A) → HasCounts counts (plan_of net) machines → ArePlans (map counts machines) (plans_of net)
plans-fit {A} counts net machines h = record { each = length-map-range_with_len (tried_by net) 0 (length net.actors) ∙ sym many ∙ sym (length-map machines counts); choices = choices }
  where
    many : length machines ≡ length net.actors
    many = sym (length-map machines (λ a. (counts a).ins)) ∙ ap length h.ins_are ∙ length-map-range_with_len (λ a. length (links_into net a)) 0 (length net.actors)

    one-of : (xs : List A) (i : ℕ) → i < length xs → A
    one-of [] i low = absurd (omega (arith, low))
    one-of (x ∷ xs) i low = x

    choices : (i : ℕ) (n : Counts) → i < length (map counts machines) → All (IsChoice (get_or (map counts machines) i n)) (get_or (plans_of net) i [])
    choices i n low =
        let here : i < length machines = subst (λ (k : ℕ). i < k) (length-map machines counts) low in
        let there : i < length net.actors = subst (λ (k : ℕ). i < k) many here in
        let d = one-of machines i here in
        let c : get_or (map counts machines) i n ≡ counts (get_or machines i d) = get_or-map counts machines i d n here in
        let ins : (get_or (map counts machines) i n).ins ≡ length (links_into net i) = ap (λ (k : Counts). k.ins) c ∙ sym (get_or-map (λ a. (counts a).ins) machines i d 0 here) ∙ ap (λ (l : List ℕ). get_or l i 0) h.ins_are ∙ get_or-map-range_with_len (λ a. length (links_into net a)) 0 (length net.actors) i _ 0 there (zero-add i) in
        let actions : (get_or (map counts machines) i n).actions ≡ actions_of (actor_of net i) = ap (λ (k : Counts). k.actions) c ∙ sym (get_or-map (λ a. (counts a).actions) machines i d 0 here) ∙ ap (λ (l : List ℕ). get_or l i 0) h.actions_are ∙ get_or-map actions_of net.actors i nobody 0 there in
        All-weaker (IsTried net i) (IsChoice (get_or (map counts machines) i n)) (λ k t. let has = t.has in omega (arith, has, ins, actions)) (get_or (plans_of net) i []) (plan-tried net i)

-- Books of turns by the plans.

entries-tried : (net : Net) (book : List BookEntry) → ArePlanned (plans_of net) book → All (λ (e : BookEntry). IsTried net e.actor e.choice) book
entries-tried net book planned = All-weaker (λ (e : BookEntry). Contains (get_or (plans_of net) e.actor []) e.choice) (λ (e : BookEntry). IsTried net e.actor e.choice) (λ e contained. All-contains (IsTried net e.actor) (get_or (plans_of net) e.actor []) e.choice (plan-tried net e.actor) contained) book planned

abbrev one-if : Bool → ℕ
one-if b = if b then 1 else 0

none-tallied : {A : Type 0} (t : A → Bool) (xs : List A) → All (λ x. t x ≡ false) xs → tally t xs ≡ 0
none-tallied t [] none = refl
none-tallied t (x ∷ xs) none = let first = none 0 x (omega arith) in let rest = none-tallied t xs (λ k d h. none (suc k) d (omega (arith, h))) in λ i. one-if (first i) + rest i

pub no-sweeps : (net : Net) (book : List BookEntry) → ArePlanned (plans_of net) book → sweeps_in net (schedule_of book) ≡ 0
no-sweeps net book planned = none-tallied (sweeps_at net) (schedule_of book)
    (All-map (λ (e : Entry). sweeps_at net e ≡ false) (λ (e : BookEntry). (e.actor, e.choice)) book
    (All-weaker (λ (e : BookEntry). IsTried net e.actor e.choice) (λ (e : BookEntry). sweeps_at net (e.actor, e.choice) ≡ false) (λ e t. t.no_sweep) book (entries-tried net book planned)))

not-resent : (net : Net) (a c : ℕ) → IsTried net a c → (a, c) ≡ resend_entry net → ⊥
not-resent net a c t same =
    let actor : a ≡ 0 = ap (λ (e : Entry). e.0) same in
    let choice : c ≡ suc (action_choice net 0) = ap (λ (e : Entry). e.1) same in
    let few = t.low in
    let links : length (links_into net a) ≡ length (links_into net 0) = ap (λ (b : ℕ). length (links_into net b)) actor in
    absurd (omega (arith, few, choice, links))

pub no-resends : (net : Net) (book : List BookEntry) → ArePlanned (plans_of net) book → All (λ e. e ≡ resend_entry net → ⊥) (schedule_of book)
no-resends net book planned = All-map (λ (e : Entry). e ≡ resend_entry net → ⊥) (λ (e : BookEntry). (e.actor, e.choice)) book
    (All-weaker (λ (e : BookEntry). IsTried net e.actor e.choice) (λ (e : BookEntry). (e.actor, e.choice) ≡ resend_entry net → ⊥) (λ e t. not-resent net e.actor e.choice t) book (entries-tried net book planned))

-- The list of plans grows by a plan.
pub plan-added : (net : Net) (a : ℕ) (xs ys : List (Vec ℕ Global)) (p : Vec ℕ Global) → ys ≡ xs ++ p ∷ [] → map (λ (q : Vec ℕ Global). q.items) xs ≡ map (tried_by net) (below a) → p.items ≡ tried_by net a
    → map (λ (q : Vec ℕ Global). q.items) ys ≡ map (tried_by net) (below (a + 1))
plan-added net a xs ys p more h is =
    ap (λ (l : List (Vec ℕ Global)). map (λ (q : Vec ℕ Global). q.items) l) more ∙ map-append (λ (q : Vec ℕ Global). q.items) xs (p ∷ [])
    ∙ (λ i. h i ++ is i ∷ []) ∙ sym (map-range_with_len_more (tried_by net) 0 a _ (zero-add a))
