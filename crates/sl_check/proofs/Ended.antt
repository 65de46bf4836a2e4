-- How the world of a schedule ends, as its last turns and the observer tell it.
use Rattle.std.proofs.Common.{◌≡◌, ℕ, ◌+◌, ◌<◌, List, [], ◌∷◌, length, map, get_or, drop, replicate, true, false, Bool, Option, Some, None, refl, sym, ap, subst, ◌∙◌, inl, inr}
use Rattle.std.proofs.lemmas.Bool.Decides.{eqb_tells}
use Rattle.std.specs.Prelude.{◌⊎◌, ◌≢◌, nat_eq, ◌==◌, ◌&&◌, ◌||◌, if◌then◌else◌, IsSome, slice_set, slice_index_or}
use Rattle.std.specs.List.{list_all}
use Rattle.std.proofs.lemmas.List.{map-set, drop_more, length-set, length-replicate}
use Rattle.std.proofs.Math.ListN.{get_or-map}
use Rattle.sl_layout.specs.Net.{Net, units}
use Rattle.sl_net.specs.Input.{Input}
use Rattle.sl_net.specs.Wired.{IsNet}
use Rattle.sl_wire.specs.declared.message.Msg.{Msg}
use Rattle.sl_observe.specs.Observer.{ObserverState, register_floor}
use Rattle.sl_model.specs.declared.message.Step.{Step}
use Rattle.sl_model.specs.History.{World, Losses, history}
use Rattle.sl_model.specs.Losses.{losses}
use Rattle.sl_model.specs.Setup.{Setup, setup_of}
use Rattle.sl_model.specs.Knowledge.{observer, floor, resent}
use Rattle.sl_model.specs.World.{Entry, IsLossTable, start, next_step, turn, after, run, world, IsLegal, IsLegalFrom}
use Rattle.sl_model.specs.Turns.{TakesTurns}
use Rattle.sl_model.specs.Books.{schedule_of}
use Rattle.sl_model.specs.End.{is_collected, Settled, IsFinished}
use Rattle.sl_world.specs.Scene.{Scene}
use Rattle.sl_proto.specs.Nodes.{NodeState}
use Rattle.sl_proto.specs.Standing.{Case, case_of, world_of, StandsFor}
use Rattle.sl_proto.specs.Calls.{KeepsStanding}
use Rattle.sl_model.specs.Ending.{HasEnding}
use Rattle.sl_model.specs.declared.ending.Ending.{Ending}
use Rattle.sl_model.specs.declared.ending.Ending.TheVariants.{Idle, Unfinished, Finished}
use Rattle.sl_check.specs.Polled.{newest, is_polled, all_polled, ends_well, choose_all, last_choices}
use Rattle.sl_check.specs.Driven.{FirstIdle, TakesAll, IsIdle, StandsIn, Tells}

-- The last choices of actors.

none-each : {A : Type 0} (xs : List A) → map newest (map (λ a. []) xs) ≡ replicate (length xs) None
none-each [] = refl
none-each (x ∷ xs) = ap (λ (r : List (Option ℕ)). None ∷ r) (none-each xs)

chosen : TakesTurns → (s : Setup) (lost : Losses) (w : World) (es : List Entry) → IsLegalFrom s lost w es → map newest (run s lost w es) ≡ choose_all (map newest w) es
chosen law s lost w [] h = refl
chosen law s lost w (e ∷ es) h = go (next_step s lost w e) refl h.0 (chosen law s lost (turn s lost w e) es h.1)
  where
    go : (o : Option Step) → next_step s lost w e ≡ o → IsSome o → map newest (run s lost (turn s lost w e) es) ≡ choose_all (map newest (turn s lost w e)) es
        → map newest (run s lost (turn s lost w e) es) ≡ choose_all (slice_set (map newest w) e.0 (Some e.1)) es
    go None q k on = absurd cc
    go (Some step) q k on = on ∙ ap (λ (cs : List (Option ℕ)). choose_all cs es)
        (ap (λ (o : Option Step). map newest (after w e.0 o)) q ∙ map-set newest w e.0 (step ∷ history w e.0)
        ∙ ap (λ (c : ℕ). slice_set (map newest w) e.0 (Some c)) (law.choice s lost w e step q))

last-chosen : TakesTurns → (s : Setup) (lost : Losses) (es : List Entry) → IsLegal s lost es → map newest (world s lost es) ≡ last_choices (length s.net.actors) es
last-chosen law s lost es h = chosen law s lost (start s.net) es h ∙ ap (λ (cs : List (Option ℕ)). choose_all cs es) (none-each s.net.actors)

all-same : (f g : ℕ → Bool) (xs : List ℕ) → ((x : ℕ) → f x ≡ g x) → list_all f xs ≡ list_all g xs
all-same f g [] h = refl
all-same f g (x ∷ xs) h = ap (λ b. b && list_all f xs) (h x) ∙ ap (λ b. g x && b) (all-same f g xs h)

polled-by-last : TakesTurns → (s : Setup) (lost : Losses) (es : List Entry) → IsLegal s lost es
    → list_all (λ u. is_polled s.net u (slice_index_or (last_choices (length s.net.actors) es) u None)) (units s.net) ≡ all_polled s.net (world s lost es)
polled-by-last law s lost es h = all-same _ _ (units s.net) (λ u.
    ap (λ (cs : List (Option ℕ)). is_polled s.net u (slice_index_or cs u None)) (sym (last-chosen law s lost es h))
    ∙ ap (is_polled s.net u) (get_or-map newest (world s lost es) u []))

-- the same, where the table is that of so many actors and of these turns
pub polled-is : TakesTurns → (s : Setup) (lost : Losses) (es fs : List Entry) (net : Net) (n : ℕ) (last : List (Option ℕ)) (p : Bool) → IsLegal s lost es → es ≡ fs → net ≡ s.net
    → n ≡ length s.net.actors → last ≡ last_choices n fs → p ≡ list_all (λ u. is_polled net u (slice_index_or last u None)) (units net) → all_polled s.net (world s lost es) ≡ p
polled-is law s lost es fs net n last p h same is each table tested = sym (tested
    ∙ ap (λ (m : Net). list_all (λ u. is_polled m u (slice_index_or last u None)) (units m)) is
    ∙ ap (λ (cs : List (Option ℕ)). list_all (λ u. is_polled s.net u (slice_index_or cs u None)) (units s.net))
    (table ∙ ap (λ m. last_choices m fs) each ∙ ap (last_choices (length s.net.actors)) (sym same))
    ∙ polled-by-last law s lost es h)

-- The loops over schedules and units.

choose-length : (last : List (Option ℕ)) (es : List Entry) → length (choose_all last es) ≡ length last
choose-length last [] = refl
choose-length last (e ∷ es) = choose-length (slice_set last e.0 (Some e.1)) es ∙ length-set last e.0 (Some e.1)

pub last-length : (n : ℕ) (es : List Entry) → length (last_choices n es) ≡ n
last-length n es = choose-length (replicate n None) es ∙ length-replicate n None

pub all-more : (f : ℕ → Bool) (us : List ℕ) (k d : ℕ) (b : Bool) → k < length us → f (get_or us k d) ≡ b → list_all f us ≡ list_all f (drop k us)
    → list_all f us ≡ (b && list_all f (drop (k + 1) us))
all-more f us k d b h e i = i ∙ ap (list_all f) (drop_more us k d h) ∙ ap (λ t. t && list_all f (drop (k + 1) us)) e

pub differs : (n m : ℕ) → (n ≡ m → ⊥) → (n == m) ≡ false
differs n m d = go (eqb_tells n m)
  where
    go : ((nat_eq n m ≡ true) × (n ≡ m)) ⊎ ((nat_eq n m ≡ false) × (n ≢ m)) → (n == m) ≡ false
    go (inl p) = absurd (d p.1)
    go (inr p) = p.0

-- What the observer tells.

collected-told : (s : Setup) (w : World) (o : ObserverState) → Tells s w o → ((register_floor o == o.issued) && (o.issued == s.count)) ≡ is_collected s w
collected-told s w o t = ap (λ n. (n == o.issued) && (o.issued == s.count)) t.floor ∙ ap (λ n. (floor s.net w == n) && (n == s.count)) t.issued

ends-as : (s : Setup) (w : World) (o : ObserverState) (b r p : Bool) → Tells s w o → ((register_floor o == o.issued) && (o.issued == s.count)) ≡ b
    → (o.resent == s.retries) ≡ r → all_polled s.net w ≡ p → (b || (r && p)) ≡ ends_well s w
ends-as s w o b r p t c k q = ap (λ e. e || (r && p)) (sym c ∙ collected-told s w o t) ∙ ap (λ e. is_collected s w || (e && p)) (sym k ∙ ap (λ n. n == s.retries) t.resent)
    ∙ ap (λ e. is_collected s w || ((resent s.net (observer w) == s.retries) && e)) (sym q)

-- the same of a world of nodes of an input, by the state of its observer
pub ends-in : (i : Input) (v : Scene NodeState Msg) (o : ObserverState) (b r p : Bool) → Tells (setup_of i) (world_of (case_of i (losses i)) v) o
    → ((register_floor o == o.issued) && (o.issued == i.snapshot.count)) ≡ b → (o.resent == i.snapshot.retries) ≡ r → all_polled i.net (world_of (case_of i (losses i)) v) ≡ p
    → (b || (r && p)) ≡ ends_well (setup_of i) (world_of (case_of i (losses i)) v)
ends-in i v = ends-as (setup_of i) (world_of (case_of i (losses i)) v)

-- How the schedule es ends, whose turns lead to the scene u.

abbrev pub FinishesWell : Type 0
FinishesWell = (s : Setup) (lost : Losses) (es : List Entry) → IsNet s.net → IsLossTable s.net lost → Settled s lost (world s lost es)
    → ends_well s (world s lost es) ≡ true → IsFinished s lost (world s lost es)

abbrev pub OnlyWell : Type 0
OnlyWell = (s : Setup) (lost : Losses) (es : List Entry) → IsNet s.net → IsLossTable s.net lost → IsFinished s lost (world s lost es)
    → ends_well s (world s lost es) ≡ true

module _ (net : Net) (x : Case) (es : List Entry) (u : Scene NodeState Msg) (stands : StandsFor net x u) (took : schedule_of u.book ≡ es) where
  there : world_of x u ≡ world x.setup x.lost es
  there = ap (world x.setup x.lost) took

  legal : IsLegal x.setup x.lost es
  legal = subst (IsLegal x.setup x.lost) took stands.legal

  pub ends-unsettled : (Settled x.setup x.lost (world_of x u) → ⊥) → HasEnding x.setup x.lost es Unfinished
  ends-unsettled unsettled = (legal, λ f. unsettled (subst (Settled x.setup x.lost) (sym there) f.settled))

  pub ends-finished : FinishesWell → Settled x.setup x.lost (world_of x u) → ends_well x.setup (world_of x u) ≡ true → HasEnding x.setup x.lost es Finished
  ends-finished law settled e = (legal, subst (IsFinished x.setup x.lost) there (law x.setup x.lost (schedule_of u.book) stands.runnable.net stands.runnable.losses settled e))

  pub ends-unfinished : OnlyWell → ends_well x.setup (world_of x u) ≡ false → HasEnding x.setup x.lost es Unfinished
  ends-unfinished law e = (
    legal,
    λ f.
        let well : ends_well x.setup (world_of x u) ≡ true = law x.setup x.lost (schedule_of u.book) stands.runnable.net stands.runnable.losses (subst (IsFinished x.setup x.lost) (sym there) f) in
        let z : true ≡ false = sym well ∙ e in cc,
  )

-- Runs of an input, whose net goes by the name net.

pub stands-with : (i : Input) (net : Net) (v : Scene NodeState Msg) → net ≡ i.net → StandsIn i v → StandsFor net (case_of i (losses i)) v
stands-with i net v q h = subst (λ (n : Net). StandsFor n (case_of i (losses i)) v) (sym q) h

pub keeps-in : (i : Input) (net : Net) (v u : Scene NodeState Msg) → net ≡ i.net → KeepsStanding net v u → StandsIn i v → StandsIn i u
keeps-in i net v u q keeps h = subst (λ (n : Net). StandsFor n (case_of i (losses i)) u) q (keeps (case_of i (losses i)) (stands-with i net v q h))

module _ (i : Input) (net : Net) (v u w : Scene NodeState Msg) (es : List Entry) (q : net ≡ i.net) (stands : StandsIn i v) (keeps : KeepsStanding net v u) where
  pub idle-in : (n : ℕ) → FirstIdle net v es n → HasEnding (setup_of i) (losses i) es (Idle n)
  idle-in n idle = idle (case_of i (losses i)) (stands-with i net v q stands)

  module _ (all : TakesAll net v es u) where
    took : schedule_of u.book ≡ es
    took = all (case_of i (losses i)) (stands-with i net v q stands)

    pub unsettled-in : IsIdle net u false w → HasEnding (setup_of i) (losses i) es Unfinished
    unsettled-in pass = ends-unsettled i.net (case_of i (losses i)) es u (keeps-in i net v u q keeps stands) took
        (pass (case_of i (losses i)) (stands-with i net u q (keeps-in i net v u q keeps stands)))

    module _ (pass : IsIdle net u true w) (keeps_on : KeepsStanding net u w) where
      stands_on : StandsIn i w
      stands_on = keeps-in i net u w q keeps_on (keeps-in i net v u q keeps stands)

      rested : Settled (setup_of i) (losses i) (world_of (case_of i (losses i)) u) × (schedule_of w.book ≡ schedule_of u.book)
      rested = pass (case_of i (losses i)) (stands-with i net u q (keeps-in i net v u q keeps stands))

      pub took-on : schedule_of w.book ≡ es
      took-on = rested.1 ∙ took

      finished-in : FinishesWell → ends_well (setup_of i) (world_of (case_of i (losses i)) w) ≡ true → HasEnding (setup_of i) (losses i) es Finished
      finished-in law e = ends-finished i.net (case_of i (losses i)) es w stands_on took-on law
          (subst (λ (fs : List Entry). Settled (setup_of i) (losses i) (world (setup_of i) (losses i) fs)) (sym rested.1) rested.0) e

      unfinished-in : OnlyWell → ends_well (setup_of i) (world_of (case_of i (losses i)) w) ≡ false → HasEnding (setup_of i) (losses i) es Unfinished
      unfinished-in law e = ends-unfinished i.net (case_of i (losses i)) es w stands_on took-on law e

      pub ended-in : FinishesWell → OnlyWell → (b : Bool) (e : Ending) → ends_well (setup_of i) (world_of (case_of i (losses i)) w) ≡ b → e ≡ (if b then Finished else Unfinished)
          → HasEnding (setup_of i) (losses i) es e
      ended-in law only true e well is = subst (HasEnding (setup_of i) (losses i) es) (sym is) (finished-in law well)
      ended-in law only false e well is = subst (HasEnding (setup_of i) (losses i) es) (sym is) (unfinished-in only well)
