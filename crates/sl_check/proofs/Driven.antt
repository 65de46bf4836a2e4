-- What turns of a world of nodes lead to.
use Rattle.std.proofs.Common.{◌≡◌, ℕ, ◌+◌, ◌<◌, List, [], ◌∷◌, ◌++◌, length, get_or, take, true, false, Option, Some, None, refl, sym, ap, subst, ◌∙◌, arith, inl, inr, length-append, append-nil}
use Rattle.std.specs.Prelude.{cond, is_some, not, nat_eq, ◌⊎◌, ◌≢◌}
use Rattle.std.proofs.lemmas.List.{length-map, take_more}
use Rattle.std.proofs.lemmas.Option.{get_or_from_slice_get}
use Rattle.std.proofs.lemmas.Bool.Decides.{eqb_tells}
use Rattle.sl_machine.specs.declared.wiring.Entry.{Entry as BookEntry}
use Rattle.sl_layout.specs.Net.{Net}
use Rattle.sl_net.specs.Wired.{IsNet}
use Rattle.sl_wire.specs.declared.message.Msg.{Msg}
use Rattle.sl_model.specs.declared.message.Step.{Step}
use Rattle.sl_model.specs.History.{World, Losses}
use Rattle.sl_model.specs.Setup.{Setup}
use Rattle.sl_model.specs.World.{Entry, next_step, world, kept_from, IsLegal}
use Rattle.sl_model.specs.Books.{schedule_of}
use Rattle.sl_model.specs.Schedule.{settling_pass}
use Rattle.sl_model.specs.End.{Settled}
use Rattle.sl_world.specs.Scene.{Scene}
use Rattle.sl_proto.specs.Nodes.{NodeState}
use Rattle.sl_proto.specs.Runs.{grown, Follows}
use Rattle.sl_proto.specs.Standing.{Case, world_of, run_at, StandsFor}
use Rattle.sl_model.specs.Ending.{IsFirstIdle}
use Rattle.sl_model.proofs.Finishing.Endings.{first_idle}
use Rattle.sl_check.specs.Driven.{Turned, Rested}

-- the law that a schedule grows with its book
abbrev pub SchedulesGrow : Type 0
SchedulesGrow = (book : List BookEntry) (es : List Entry) → schedule_of (grown book es) ≡ schedule_of book ++ es

none-of : (es : List Entry) (n k : ℕ) → n ≡ k + length es → n ≡ k → es ≡ []
none-of [] n k h e = refl
none-of (x ∷ es) n k h e = absurd (omega (arith, h, e))

module _ (grows : SchedulesGrow) (x : Case) (v u : Scene NodeState Msg) (es : List Entry) (follows : Follows x.setup x.lost (run_at x v) es (run_at x u)) where
  abbrev done : List Entry
  done = kept_from x.setup x.lost (world_of x v) es

  turns : schedule_of u.book ≡ schedule_of v.book ++ done
  turns = ap schedule_of follows.book ∙ grows v.book done

  more : length u.book ≡ length v.book + length done
  more = let a : length (schedule_of u.book) ≡ length u.book = length-map u.book _ in
      let b : length (schedule_of v.book) ≡ length v.book = length-map v.book _ in
      sym a ∙ ap length turns ∙ length-append (schedule_of v.book) done ∙ ap (λ n. n + length done) b

  nothing : length u.book ≡ length v.book → done ≡ []
  nothing e = none-of done (length u.book) (length v.book) more e

-- One turn.

kept-one : (s : Setup) (lost : Losses) (w : World) (e : Entry) (o : Option Step) → next_step s lost w e ≡ o → kept_from s lost w (e ∷ []) ≡ cond (is_some o) (e ∷ []) []
kept-one s lost w e o h = ap (λ (p : Option Step). cond (is_some p) (e ∷ []) []) h

turn-idle : SchedulesGrow → (x : Case) (v u : Scene NodeState Msg) (e : Entry) → Follows x.setup x.lost (run_at x v) (e ∷ []) (run_at x u) → length u.book ≡ length v.book
    → (o : Option Step) → next_step x.setup x.lost (world_of x v) e ≡ o → next_step x.setup x.lost (world_of x v) e ≡ None
turn-idle grows x v u e f same None h = h
turn-idle grows x v u e f same (Some step) h = absurd (some-not-none (sym (kept-one x.setup x.lost (world_of x v) e (Some step) h) ∙ nothing grows x v u (e ∷ []) f same))
  where
    some-not-none : e ∷ [] ≡ [] → ⊥
    some-not-none q = cc

turn-did : SchedulesGrow → (x : Case) (v u : Scene NodeState Msg) (e : Entry) → Follows x.setup x.lost (run_at x v) (e ∷ []) (run_at x u) → (length u.book ≡ length v.book → ⊥)
    → (o : Option Step) → next_step x.setup x.lost (world_of x v) e ≡ o → schedule_of u.book ≡ schedule_of v.book ++ (e ∷ [])
turn-did grows x v u e f other None h = absurd
    (other (more grows x v u (e ∷ []) f ∙ ap (λ (r : List Entry). length v.book + length r) (kept-one x.setup x.lost (world_of x v) e None h) ∙ (let z : length v.book + 0 ≡ length v.book = omega arith in z)))
turn-did grows x v u e f other (Some step) h = turns grows x v u (e ∷ []) f ∙ ap (λ (r : List Entry). schedule_of v.book ++ r) (kept-one x.setup x.lost (world_of x v) e (Some step) h)

-- by the lengths of both books
pub turn-tells : SchedulesGrow → (net : Net) (v u : Scene NodeState Msg) (e : Entry) (n m : ℕ) → ((x : Case) → StandsFor net x v → Follows x.setup x.lost (run_at x v) (e ∷ []) (run_at x u))
    → n ≡ length u.book → m ≡ length v.book → (x : Case) → StandsFor net x v → Turned x v e (not (nat_eq n m)) u
turn-tells grows net v u e n m f a b x h = go (eqb_tells n m)
  where
    go : ((nat_eq n m ≡ true) × (n ≡ m)) ⊎ ((nat_eq n m ≡ false) × (n ≢ m)) → Turned x v e (not (nat_eq n m)) u
    go (inl p) = subst (λ t. Turned x v e (not t) u) (sym p.0) (turn-idle grows x v u e (f x h) (sym a ∙ p.1 ∙ b) (next_step x.setup x.lost (world_of x v) e) refl)
    go (inr p) = subst (λ t. Turned x v e (not t) u) (sym p.0) (turn-did grows x v u e (f x h) (λ q. p.1 (a ∙ q ∙ sym b)) (next_step x.setup x.lost (world_of x v) e) refl)

-- Turns up to the first idle one.

pub idle-there : (x : Case) (net : Net) (now : Scene NodeState Msg) (es : List Entry) (i : ℕ) (d : Entry) → i < length es → StandsFor net x now
    → schedule_of now.book ≡ take i es → next_step x.setup x.lost (world_of x now) (get_or es i d) ≡ None → IsFirstIdle x.setup x.lost es (i + 1)
idle-there x net now es i d h stands taken idle = first_idle x.setup x.lost es i (world_of x now) h
    (subst (IsLegal x.setup x.lost) taken stands.legal) (ap (world x.setup x.lost) taken)
    (λ e there. subst (λ (y : Entry). next_step x.setup x.lost (world_of x now) y ≡ None) (get_or_from_slice_get es i e d there) idle)

pub taken-more : (v u : Scene NodeState Msg) (es : List Entry) (i : ℕ) (d : Entry) → i < length es
    → schedule_of v.book ≡ take i es → schedule_of u.book ≡ schedule_of v.book ++ (get_or es i d ∷ []) → schedule_of u.book ≡ take (i + 1) es
taken-more v u es i d h taken more = more ∙ ap (λ (r : List Entry). r ++ (get_or es i d ∷ [])) taken ∙ sym (take_more es i d h)

-- A settling pass.

abbrev pub IdlePassesSettle : Type 0
IdlePassesSettle = (s : Setup) (lost : Losses) (es : List Entry) → IsNet s.net → kept_from s lost (world s lost es) (settling_pass s.net) ≡ [] → Settled s lost (world s lost es)

abbrev pub SettledAreIdle : Type 0
SettledAreIdle = (s : Setup) (lost : Losses) (es : List Entry) → IsNet s.net → Settled s lost (world s lost es) → kept_from s lost (world s lost es) (settling_pass s.net) ≡ []

pub pass-tells : SchedulesGrow → IdlePassesSettle → SettledAreIdle → (net : Net) (v u : Scene NodeState Msg) (pass : List Entry) (n m : ℕ) → pass ≡ settling_pass net
    → ((x : Case) → StandsFor net x v → Follows x.setup x.lost (run_at x v) pass (run_at x u))
    → n ≡ length u.book → m ≡ length v.book → (x : Case) → StandsFor net x v → Rested x v (nat_eq n m) u
pass-tells grows settles idles net v u pass n m p f a b x h = go (eqb_tells n m)
  where
    follows : Follows x.setup x.lost (run_at x v) (settling_pass x.setup.net) (run_at x u)
    follows = subst (λ (es : List Entry). Follows x.setup x.lost (run_at x v) es (run_at x u)) (p ∙ ap settling_pass (sym h.net_is)) (f x h)

    rested : n ≡ m → Rested x v true u
    rested q = let none = nothing grows x v u (settling_pass x.setup.net) follows (sym a ∙ q ∙ b) in (
      settles x.setup x.lost (schedule_of v.book) h.runnable.net none,
      turns grows x v u (settling_pass x.setup.net) follows ∙ ap (λ (r : List Entry). schedule_of v.book ++ r) none ∙ append-nil (schedule_of v.book),
    )

    restless : n ≢ m → Rested x v false u
    restless q settled = q (a ∙ more grows x v u (settling_pass x.setup.net) follows
        ∙ ap (λ (r : List Entry). length v.book + length r) (idles x.setup x.lost (schedule_of v.book) h.runnable.net settled)
        ∙ (let z : length v.book + 0 ≡ length v.book = omega arith in z) ∙ sym b)

    go : ((nat_eq n m ≡ true) × (n ≡ m)) ⊎ ((nat_eq n m ≡ false) × (n ≢ m)) → Rested x v (nat_eq n m) u
    go (inl q) = subst (λ t. Rested x v t u) (sym q.0) (rested q.1)
    go (inr q) = subst (λ t. Rested x v t u) (sym q.0) (restless q.1)
