-- Laws of turns and schedules, for any machines: what a turn that did something is, and what every schedule keeps.
use Rattle.std.specs.Prelude.{◌≡◌, ◌<◌, ◌≤◌, ℕ, List, [], ◌∷◌, length, ◌⊎◌, Option, Some, None, Bool, true, false, if◌then◌else◌, slice_get, slice_set, option_map, unwrap_or, nat_lt, refl}
use Rattle.std.proofs.Common.{inl, inr, sym, subst, ltb-true, ltb-false}
use Rattle.sl_machine.specs.Machine.{After, Rules}
use Rattle.sl_machine.specs.Plan.{link_in}
use Rattle.sl_world.specs.Scene.{Scene, Line, done, without_first, take_first, take_turn, act_turn, turn_of, after_turn, after_all}

-- this choice of the actor is a link, and these are the actor's state, the link and the first message on it
pub record Takes {S M : Type 0} (w : Scene S M) (actor choice : ℕ) : Type 0 where
  pub state : S
  pub line : Line M
  pub message : M
  pub rest : List M
  pub linked : link_in w.plan.links actor choice < length w.plan.links
  pub state_is : slice_get w.states actor ≡ Some state
  pub line_is : slice_get w.lines (link_in w.plan.links actor choice) ≡ Some line
  pub queue_is : line.queue ≡ message ∷ rest

-- this choice of the actor is an action whose guard is true, and this is what it leaves
pub record Acts {S M : Type 0} (rules : Rules S M) (w : Scene S M) (actor choice : ℕ) : Type 0 where
  pub state : S
  pub after : After S M
  pub unlinked : length w.plan.links ≤ link_in w.plan.links actor choice
  pub state_is : slice_get w.states actor ≡ Some state
  pub act_is : rules.act state choice ≡ Some after

abbrev pub after_take : {S M : Type 0} (rules : Rules S M) (w : Scene S M) (actor choice : ℕ) → Takes w actor choice → Scene S M
after_take rules w actor choice t =
    done w actor choice (slice_set w.lines (link_in w.plan.links actor choice) (without_first t.line t.rest)) (rules.take t.state choice t.message)

abbrev pub after_act : {S M : Type 0} (rules : Rules S M) (w : Scene S M) (actor choice : ℕ) → Acts rules w actor choice → Scene S M
after_act rules w actor choice t = done w actor choice w.lines t.after

-- a turn that did something took a message or acted
abbrev pub IsTurn : {S M : Type 0} (rules : Rules S M) (w : Scene S M) (actor choice : ℕ) → Scene S M → Type 0
IsTurn rules w actor choice v =
    ((t : Takes w actor choice) × (v ≡ after_take rules w actor choice t)) ⊎ ((t : Acts rules w actor choice) × (v ≡ after_act rules w actor choice t))

-- P holds after each turn that takes a message, and after each that acts
pub record KeptByTurns {S M : Type 0} (rules : Rules S M) (P : Scene S M → Type 0) : Type 0 where
  pub by_take : (w : Scene S M) (actor choice : ℕ) (t : Takes w actor choice) → P w → P (after_take rules w actor choice t)
  pub by_act : (w : Scene S M) (actor choice : ℕ) (t : Acts rules w actor choice) → P w → P (after_act rules w actor choice t)

none_is_some : {X Y : Type 0} (x : X) → None ≡ Some x → Y
none_is_some x e = absurd (cc)

some_inner : {X : Type 0} (x y : X) → Some x ≡ Some y → y ≡ x
some_inner x y e = cc

module _ {S M : Type 0} (rules : Rules S M) (w : Scene S M) (actor choice : ℕ) (v : Scene S M) where
  took_first : (s : S) (line : Line M) (queue : List M) → link_in w.plan.links actor choice < length w.plan.links → slice_get w.states actor ≡ Some s → slice_get w.lines (link_in w.plan.links actor choice) ≡ Some line → line.queue ≡ queue → take_first rules w actor choice (link_in w.plan.links actor choice) s line queue ≡ Some v → IsTurn rules w actor choice v
  took_first s line [] linked state here queue did = none_is_some v did
  took_first s line (m ∷ rest) linked state here queue did =
      inl (record { state = s; line = line; message = m; rest = rest; linked = linked; state_is = state; line_is = here; queue_is = queue }, some_inner _ v did)

  took : (s : Option S) (line : Option (Line M)) → link_in w.plan.links actor choice < length w.plan.links → slice_get w.states actor ≡ s → slice_get w.lines (link_in w.plan.links actor choice) ≡ line → take_turn rules w actor choice (link_in w.plan.links actor choice) s line ≡ Some v → IsTurn rules w actor choice v
  took (Some s) (Some line) linked state here did = took_first s line line.queue linked state here refl did
  took (Some s) None linked state here did = none_is_some v did
  took None line linked state here did = none_is_some v did

  acted_by : (s : S) (a : Option (After S M)) → length w.plan.links ≤ link_in w.plan.links actor choice → slice_get w.states actor ≡ Some s → rules.act s choice ≡ a → option_map (done w actor choice w.lines) a ≡ Some v → IsTurn rules w actor choice v
  acted_by s (Some a) unlinked state act did = inr (record { state = s; after = a; unlinked = unlinked; state_is = state; act_is = act }, some_inner _ v did)
  acted_by s None unlinked state act did = none_is_some v did

  acted : (s : Option S) → length w.plan.links ≤ link_in w.plan.links actor choice → slice_get w.states actor ≡ s → act_turn rules w actor choice s ≡ Some v → IsTurn rules w actor choice v
  acted (Some s) unlinked state did = acted_by s (rules.act s choice) unlinked state refl did
  acted None unlinked state did = none_is_some v did

  either : (b : Bool) → nat_lt (link_in w.plan.links actor choice) (length w.plan.links) ≡ b → (if b then take_turn rules w actor choice (link_in w.plan.links actor choice) (slice_get w.states actor) (slice_get w.lines (link_in w.plan.links actor choice)) else act_turn rules w actor choice (slice_get w.states actor)) ≡ Some v → IsTurn rules w actor choice v
  either true test did = took (slice_get w.states actor) (slice_get w.lines (link_in w.plan.links actor choice)) (ltb-true _ _ test) refl refl did
  either false test did = acted (slice_get w.states actor) (ltb-false _ _ test) refl did

  -- what a turn that did something is
  pub turn_is : turn_of rules w actor choice ≡ Some v → IsTurn rules w actor choice v
  turn_is did = either (nat_lt (link_in w.plan.links actor choice) (length w.plan.links)) refl did

module _ {S M : Type 0} (rules : Rules S M) (P : Scene S M → Type 0) (kept : KeptByTurns rules P) where
  pub did_kept : (w : Scene S M) (actor choice : ℕ) (v : Scene S M) → turn_of rules w actor choice ≡ Some v → P w → P v
  did_kept w actor choice v did p =
      elim (turn_is rules w actor choice v did) [
        | inl t ↦ subst P (sym t.1) (kept.by_take w actor choice t.0 p)
        | inr t ↦ subst P (sym t.1) (kept.by_act w actor choice t.0 p)
      ]

  kept_after : (w : Scene S M) (e : ℕ × ℕ) (t : Option (Scene S M)) → turn_of rules w e.0 e.1 ≡ t → P w → P (unwrap_or t w)
  kept_after w e None did p = p
  kept_after w e (Some v) did p = did_kept w e.0 e.1 v did p

  pub turn_kept : (w : Scene S M) (e : ℕ × ℕ) → P w → P (after_turn rules w e)
  turn_kept w e p = kept_after w e (turn_of rules w e.0 e.1) refl p

  -- so it holds after every schedule
  pub all_kept : (w : Scene S M) (es : List (ℕ × ℕ)) → P w → P (after_all rules w es)
  all_kept w [] p = p
  all_kept w (e ∷ es) p = all_kept (after_turn rules w e) es (turn_kept w e p)
