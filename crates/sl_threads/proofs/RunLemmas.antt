-- What the actors come to that ran by their plans.
use Rattle.std.proofs.Common.{◌≡◌, ℕ, zero, suc, ◌+◌, ◌*◌, ◌^◌, ◌<◌, ◌≤◌, List, [], ◌++◌, length, map, get_or, Option, refl, ap, sym, ◌∙◌, subst, arith, inl, inr}
use Rattle.std.specs.Prelude.{Result, Ok, Err, IsOk, OnOk, IfOk, slice_index}
use Rattle.std.specs.List.{All, Contains}
use Rattle.std.proofs.lemmas.Bool.{cases_eq}
use Rattle.std.proofs.lemmas.List.{length-map, length-append, get_or-map, same_lists}
use Rattle.std.proofs.lemmas.List.Elements.{All-append, All-map, All-nil}
use Rattle.std.proofs.lemmas.List.Sorted.{All-permutation, length_permutation}
use Rattle.sl_machine.specs.declared.machine.Memory.{Memory}
use Rattle.sl_machine.specs.declared.machine.Machine.{Ghosts}
use Rattle.sl_machine.specs.declared.wiring.Entry.{Entry}
use Rattle.sl_machine.specs.Machine.{Rules, Counts}
use Rattle.sl_machine.specs.Plan.{Plan}
use Rattle.sl_machine.specs.Fit.{HasCounts}
use Rattle.sl_loss.specs.Loss.{Loss}
use Rattle.sl_actor.specs.declared.actor.Actor.{Actor}
use Rattle.sl_actor.specs.Held.{held}
use Rattle.sl_actor.specs.Follows.{ActorView}
use Rattle.sl_actor.specs.Runs.{Settled}
use Rattle.sl_actor.specs.Made.{EachFollows, ArePlaced}
use Rattle.sl_actor.specs.declared.run.Rest.{Rest}
use Rattle.sl_actor.specs.declared.run.Rest.TheVariants.{Rested, Spent}
use Rattle.sl_world.specs.Scene.{Scene}
use Rattle.sl_world.proofs.TurnLemmas.{some_at}
use Rattle.sl_merge.specs.Lamport.{IsNumbered}
use Rattle.sl_merge.specs.Merging.{IsMerge, entries_by, joined}
use Rattle.sl_merge.specs.RunOfActors.{StandsAsRun, log_entries}
use Rattle.sl_merge.specs.Merged.{AreKept, AreWired}
use Rattle.sl_threads.specs.declared.jobs.Job.{Job}
use Rattle.sl_threads.specs.Threads.{HasRun, ArePlanned, AreAtRest}

module _ {S M : Type 0} (rules : Rules S M) (steps : ℕ) where
  -- the run of the i-th actor
  pub record RanAt (plans : List (List ℕ)) (olds news : List (ActorView S M)) (i : ℕ) (a b : ActorView S M) : Type 0 where
    pub answer : Result Rest Memory
    pub ok : IsOk answer
    pub run : HasRun rules (get_or plans i []) steps (get_or olds i a) (get_or news i b) answer

  pub record HaveRun (plans : List (List ℕ)) (olds news : List (ActorView S M)) : Type 0 where
    pub each : length news ≡ length olds
    pub runs : (i : ℕ) (a b : ActorView S M) → i < length olds → RanAt plans olds news i a b

  have_run : {J R : Type 0} (plan : J → List ℕ) (old : J → ActorView S M) (new : R → ActorView S M) (answer : R → Result Rest Memory) (jobs : List J) (ran : List R) (plans : List (List ℕ)) (olds news : List (ActorView S M))
      → map plan jobs ≡ plans → map old jobs ≡ olds → news ≡ map new ran → length ran ≡ length jobs → All (λ r. IsOk (answer r)) ran
      → ((i : ℕ) (d : J) (e : R) → i < length jobs → HasRun rules (plan (get_or jobs i d)) steps (old (get_or jobs i d)) (new (get_or ran i e)) (answer (get_or ran i e))) → HaveRun plans olds news
  have_run plan old new answer jobs ran plans olds news plans_are olds_are news_are each ok runs =
      let many : length olds ≡ length jobs = sym (ap length olds_are) ∙ length-map jobs old in
      record {
        each = ap length news_are ∙ length-map ran new ∙ each ∙ sym many;
        runs = λ i a b low.
            let here : i < length jobs = subst (λ (n : ℕ). i < n) many low in
            let there : i < length ran = subst (λ (n : ℕ). i < n) (sym each) here in
            let d = (some_at jobs i here).0 in
            let e = (some_at ran i there).0 in
            let p : get_or plans i [] ≡ plan (get_or jobs i d) = ap (λ l. get_or l i []) (sym plans_are) ∙ get_or-map plan jobs i d [] here in
            let o : get_or olds i a ≡ old (get_or jobs i d) = ap (λ l. get_or l i a) (sym olds_are) ∙ get_or-map old jobs i d a here in
            let n : get_or news i b ≡ new (get_or ran i e) = ap (λ l. get_or l i b) news_are ∙ get_or-map new ran i e b there in
            record {
              answer = answer (get_or ran i e);
              ok = ok i e there;
              run = subst (λ (v : ActorView S M). HasRun rules (get_or plans i []) steps (get_or olds i a) v (answer (get_or ran i e))) (sym n)
                  (subst (λ (v : ActorView S M). HasRun rules (get_or plans i []) steps v (new (get_or ran i e)) (answer (get_or ran i e))) (sym o)
                  (subst (λ (q : List ℕ). HasRun rules q steps (old (get_or jobs i d)) (new (get_or ran i e)) (answer (get_or ran i e))) (sym p) (runs i d e here)));
            };
      }

  module _ (plans : List (List ℕ)) (olds news : List (ActorView S M)) (h : HaveRun plans olds news) where
    below : {i : ℕ} → i < length news → i < length olds
    below {i} low = subst (λ (n : ℕ). i < n) h.each low

    pub kept : AreKept olds news
    kept = record {
      each = h.each;
      counts = same_lists (map (λ a. a.counts) news) (map (λ a. a.counts) olds) (length-map news (λ a. a.counts) ∙ h.each ∙ sym (length-map olds (λ a. a.counts))) (λ i d low.
          let here : i < length news = subst (λ (n : ℕ). i < n) (length-map news (λ a. a.counts)) low in
          let v = (some_at news i here).0 in
          get_or-map (λ a. a.counts) news i v d here ∙ (h.runs i v v (below here)).run.counts ∙ sym (get_or-map (λ a. a.counts) olds i v d (below here)));
      ends = λ i a b low. (h.runs i a b low).run.ends;
    }

    pub all_follow : (firsts : List S) → length firsts ≡ length olds → EachFollows rules firsts olds → EachFollows rules firsts news
    all_follow firsts each all i s a low = (h.runs i a a (subst (λ (n : ℕ). i < n) each low)).run.follows (get_or firsts i s) (all i s a low)

    at_most : (answer : Result Rest Memory) (P : Type 0) → IsOk answer → OnOk answer P → P
    at_most (Ok x) P ok p = p
    at_most (Err e) P ok p = absurd (cc)

    pub logs_are_short : All (λ (a : ActorView S M). a.log ≡ []) olds → All (λ (a : ActorView S M). length a.log ≤ steps) news
    logs_are_short new i d low =
        let r = h.runs i d d (below low) in
        let most : length (get_or news i d).log ≤ length (get_or olds i d).log + steps = at_most r.answer (length (get_or news i d).log ≤ length (get_or olds i d).log + steps) r.ok r.run.most in
        let none : length (get_or olds i d).log ≡ 0 = ap length (new i d (below low)) in
        omega arith

    -- each entry of a log has a choice of the plan
    pub log_is_chosen : All (λ (a : ActorView S M). a.log ≡ []) olds → (i : ℕ) → i < length news → All (λ (p : ℕ × ℕ). Contains (get_or plans i []) p.1) (get_or (map (λ (a : ActorView S M). a.log) news) i [])
    log_is_chosen new i low =
        let v = (some_at news i low).0 in
        let r = h.runs i v v (below low) in
        let all : get_or (map (λ (a : ActorView S M). a.log) news) i [] ≡ r.run.log.added = get_or-map (λ (a : ActorView S M). a.log) news i v [] low ∙ r.run.log.is ∙ ap (λ l. l ++ r.run.log.added) (new i v (below low)) in
        subst (λ (l : List (ℕ × ℕ)). All (λ (p : ℕ × ℕ). Contains (get_or plans i []) p.1) l) (sym all) r.run.log.chosen

    -- a run that did not make all steps rested
    rests : (answer : Result Rest Memory) (P Q : Type 0) → IsOk answer → (answer ≡ Ok Spent → P) → (answer ≡ Ok Rested → Q) → (P → ⊥) → Q
    rests (Ok Rested) P Q ok spent rested short = rested refl
    rests (Ok Spent) P Q ok spent rested short = absurd (short (spent refl))
    rests (Err e) P Q ok spent rested short = absurd (cc)

    pub settled : All (λ (a : ActorView S M). a.log ≡ []) olds → (i : ℕ) (d : ActorView S M) → i < length news → length (get_or news i d).log < steps → All (λ choice. Settled rules choice (get_or news i d)) (get_or plans i [])
    settled new i d low short =
        let r = h.runs i d d (below low) in
        let none : length (get_or olds i d).log ≡ 0 = ap length (new i d (below low)) in
        rests r.answer (length (get_or news i d).log ≡ length (get_or olds i d).log + steps) (All (λ choice. Settled rules choice (get_or news i d)) (get_or plans i [])) r.ok r.run.spent r.run.rested (λ all. omega arith)

-- where no log is so long, each actor whose place is its number has passed the gate before each of its first rounds
all_passed : {S M J R : Type 0} (rules : Rules S M) (steps quiet : ℕ) (passes : ℕ → ℕ → Type 0) (plan : J → List ℕ) (old : J → ActorView S M) (new : R → ActorView S M) (answer : R → Result Rest Memory) (jobs : List J) (ran : List R) (olds news : List (ActorView S M))
    → map old jobs ≡ olds → news ≡ map new ran → length ran ≡ length jobs → All (λ r. IsOk (answer r)) ran
    → ((i : ℕ) (d : J) (e : R) → i < length jobs → HasRun rules (plan (get_or jobs i d)) steps (old (get_or jobs i d)) (new (get_or ran i e)) (answer (get_or ran i e)))
    → ((i : ℕ) (d : J) (e : R) → i < length jobs → answer (get_or ran i e) ≡ Ok Rested → (k : ℕ) → k < quiet → passes (old (get_or jobs i d)).place k)
    → ArePlaced olds → ((i : ℕ) (a : ActorView S M) → i < length news → length (get_or news i a).log < steps)
    → (i : ℕ) → i < length olds → (k : ℕ) → k < quiet → passes i k
all_passed {S} {M} rules steps quiet passes plan old new answer jobs ran olds news olds_are news_are each ok runs passed placed short i low k below =
    let here : i < length jobs = omega (arith, low, ap length olds_are, length-map jobs old) in
    let there : i < length ran = omega (arith, here, each) in
    let d = (some_at jobs i here).0 in
    let e = (some_at ran i there).0 in
    let is_old : get_or olds i (old d) ≡ old (get_or jobs i d) = ap (λ l. get_or l i (old d)) (sym olds_are) ∙ get_or-map old jobs i d (old d) here in
    let is_new : get_or news i (new e) ≡ new (get_or ran i e) = ap (λ l. get_or l i (new e)) news_are ∙ get_or-map new ran i e (new e) there in
    let many : i < length news = omega (arith, there, ap length news_are, length-map ran new) in
    let brief : length (new (get_or ran i e)).log < steps = subst (λ (v : ActorView S M). length v.log < steps) is_new (short i (new e) many) in
    let place : (old (get_or jobs i d)).place ≡ i = ap (λ (v : ActorView S M). v.place) (sym is_old) ∙ placed i (old d) low in
    let run = runs i d e here in
    let rested : answer (get_or ran i e) ≡ Ok Rested = only_rest (answer (get_or ran i e)) (length (new (get_or ran i e)).log ≡ length (old (get_or jobs i d)).log + steps) (ok i e there) run.spent (λ is. omega (arith, is, brief)) in
    subst (λ (n : ℕ). passes n k) place (passed i d e here rested k below)
  where
    only_rest : (a : Result Rest Memory) (P : Type 0) → IsOk a → (a ≡ Ok Spent → P) → (P → ⊥) → a ≡ Ok Rested
    only_rest (Ok Rested) P ok spent short = refl
    only_rest (Ok Spent) P ok spent short = absurd (short (spent refl))
    only_rest (Err e) P ok spent short = absurd (cc)

-- the same of actors that ran as jobs
module _ {A M : Type 0} (m : Ghosts A M) (steps : ℕ) (jobs : List (Job A M m)) (ran : List (Actor A M m × Result Rest Memory)) (olds news : List (ActorView m.State M))
    (olds_are : map (λ (j : Job A M m). held j.actor) jobs ≡ olds) (news_are : news ≡ map (λ (r : Actor A M m × Result Rest Memory). held r.0) ran) (each : length ran ≡ length jobs) (ok : All (λ (r : Actor A M m × Result Rest Memory). IsOk r.1) ran)
    (runs : (i : ℕ) (d : Job A M m) (e : Actor A M m × Result Rest Memory) → i < length jobs → HasRun m.rules (get_or jobs i d).plan.items steps (held (get_or jobs i d).actor) (held (get_or ran i e).0) (get_or ran i e).1) where
  pub jobs_have_run : (plans : List (List ℕ)) → map (λ (j : Job A M m). j.plan.items) jobs ≡ plans → HaveRun m.rules steps plans olds news
  jobs_have_run plans plans_are = have_run m.rules steps (λ (j : Job A M m). j.plan.items) (λ (j : Job A M m). held j.actor) (λ (r : Actor A M m × Result Rest Memory). held r.0) (λ (r : Actor A M m × Result Rest Memory). r.1) jobs ran plans olds news plans_are olds_are news_are each ok runs

  pub jobs_have_passed : (quiet : ℕ) (passes : ℕ → ℕ → Type 0) → ((i : ℕ) (d : Job A M m) (e : Actor A M m × Result Rest Memory) → i < length jobs → (get_or ran i e).1 ≡ Ok Rested → (k : ℕ) → k < quiet → passes (held (get_or jobs i d).actor).place k)
      → ArePlaced olds → ((i : ℕ) (a : ActorView m.State M) → i < length news → length (get_or news i a).log < steps) → (i : ℕ) → i < length olds → (k : ℕ) → k < quiet → passes i k
  jobs_have_passed quiet passes = all_passed m.rules steps quiet passes (λ (j : Job A M m). j.plan.items) (λ (j : Job A M m). held j.actor) (λ (r : Actor A M m × Result Rest Memory). held r.0) (λ (r : Actor A M m × Result Rest Memory). r.1) jobs ran olds news olds_are news_are each ok runs

-- what holds of each log holds of the entries of all
pub joined_all : (P : Entry → Type 0) (n : ℕ) (logs : ℕ → List (ℕ × ℕ)) → ((a : ℕ) → a < n → All (λ (p : ℕ × ℕ). P (record { number = p.0; actor = a; choice = p.1 })) (logs a)) → All P (joined n logs)
joined_all P zero logs h = All-nil P
joined_all P (suc n) logs h = All-append P (joined n logs) (entries_by n (logs n)) (joined_all P n logs (λ a low. h a (omega arith))) (All-map P (λ (p : ℕ × ℕ). record { number = p.0; actor = n; choice = p.1 }) (logs n) (h n (omega arith)))

-- no log is longer than all together
pub within_joined : (n : ℕ) (logs : ℕ → List (ℕ × ℕ)) (a : ℕ) → a < n → length (logs a) ≤ length (joined n logs)
within_joined zero logs a low = absurd (omega arith)
within_joined (suc n) logs a low =
    elim (cases_eq a n) [
      | inl same ↦ omega (arith, ap (λ k. length (logs k)) same, whole)
      | inr other ↦ omega (arith, within_joined n logs a (omega arith), whole)
    ]
  where
    whole : length (joined n logs ++ entries_by n (logs n)) ≡ length (joined n logs) + length (logs n)
    whole = length-append (joined n logs) (entries_by n (logs n)) ∙ ap (λ k. length (joined n logs) + k) (length-map (logs n) (λ (p : ℕ × ℕ). record { number = p.0; actor = n; choice = p.1 }))

-- what is known of a list, where both are known of it
pub if_both : {X E : Type 0} (r : Result X E) (P Q : X → Type 0) → IfOk r P → IfOk r Q → IfOk r (λ x. P x × Q x)
if_both (Ok x) P Q p q = (p, q)
if_both (Err e) P Q p q = tt

pub as_many : {A S : Type 0} (state : A → S) (counts : A → Counts) (xs ys : List A) (plan : Plan) → map state xs ≡ map state ys → HasCounts counts plan ys → length xs ≡ length plan.ins
as_many state counts xs ys plan same h = sym (length-map xs state) ∙ ap length same ∙ length-map ys state ∙ sym (length-map ys (λ y. (counts y).ins)) ∙ ap length h.ins_are

pub few_all : (n k : ℕ) → k ≤ n * 2 ^ 27 → n ≤ 2 ^ 11 → k < 2 ^ 39
few_all n k most few = omega arith

module _ {S M : Type 0} (rules : Rules S M) (plan : Plan) where
  pub stands_by : (fs fs' : List S) (ls ls' : List (Option Loss)) (w : Scene S M) → fs ≡ fs' → ls ≡ ls' → StandsAsRun rules plan fs ls w → StandsAsRun rules plan fs' ls' w
  stands_by fs fs' ls ls' w e f h = subst (λ (r : List S × List (Option Loss)). StandsAsRun rules plan r.0 r.1 w) (λ i. (e i, f i)) h

  pub numbers_by : (fs fs' : List S) (ls ls' : List (Option Loss)) (book : List Entry) → fs ≡ fs' → ls ≡ ls' → IsNumbered rules plan fs ls book → IsNumbered rules plan fs' ls' book
  numbers_by fs fs' ls ls' book e f h = subst (λ (r : List S × List (Option Loss)). IsNumbered rules plan r.0 r.1 book) (λ i. (e i, f i)) h

  module _ (steps : ℕ) (plans : List (List ℕ)) (olds news : List (ActorView S M)) (h : HaveRun rules steps plans olds news) (new : All (λ (a : ActorView S M). a.log ≡ []) olds) (book : List Entry) (m : IsMerge (log_entries news) book) where
    pub all_chosen : ArePlanned plans book
    all_chosen =
        All-permutation (λ (e : Entry). Contains (get_or plans e.actor []) e.choice) (log_entries news) book m.same_entries
        (joined_all (λ (e : Entry). Contains (get_or plans e.actor []) e.choice) (length news) (λ a. get_or (map (λ (x : ActorView S M). x.log) news) a []) (λ a low. log_is_chosen rules steps plans olds news h new a low))

    -- no log is as long as the book is
    pub logs_within : length book < steps → (i : ℕ) (v : ActorView S M) → i < length news → length (get_or news i v).log < steps
    logs_within short i v here =
        let log : get_or (map (λ (x : ActorView S M). x.log) news) i [] ≡ (get_or news i v).log = get_or-map (λ (x : ActorView S M). x.log) news i v [] here in
        let all : length (get_or (map (λ (x : ActorView S M). x.log) news) i []) ≤ length (log_entries news) = within_joined (length news) (λ a. get_or (map (λ (x : ActorView S M). x.log) news) a []) i here in
        let long : length book ≡ length (log_entries news) = length_permutation (log_entries news) book m.same_entries in
        omega (arith, ap length log, all, long, short)

    pub at_rest : (states : List S) → AreWired plan news → states ≡ map (λ a. a.state) news → length book < steps → AreAtRest rules plan.ins plans states
    at_rest states wired same short i s low k d within high =
        let here : i < length news = omega (arith, ap length same, length-map news (λ a. a.state)) in
        let v = (some_at news i here).0 in
        let brief = logs_within short i v here in
        let ins : length (get_or news i v).takes ≡ slice_index plan.ins i = (wired.ends i v here).takes ∙ sym (get_or-map (λ a. a.counts.ins) news i v 0 here) ∙ ap (λ l. get_or l i 0) wired.counts.ins_are in
        let state : get_or states i s ≡ (get_or news i v).state = ap (λ l. get_or l i s) same ∙ get_or-map (λ a. a.state) news i v s here in
        ap (λ (t : S). rules.act t (get_or (get_or plans i []) k d)) state
        ∙ (settled rules steps plans olds news h new i v here brief k d within).guard (subst (λ (n : ℕ). n ≤ get_or (get_or plans i []) k d) (sym ins) high)
