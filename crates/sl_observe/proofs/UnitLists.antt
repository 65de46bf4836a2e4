-- The list of the units, with one of them changed.
use Rattle.std.proofs.Common.{◌≡◌, ℕ, ◌+◌, ◌<◌, ◌≤◌, List, [], ◌∷◌, ◌++◌, length, take, refl, sym, ap, ◌∙◌, map, set, get_or, replicate, arith, subst, get_or-set_same, inl, inr, zero, suc}
use Rattle.std.proofs.lemmas.Bool.{cases_eq}
use Rattle.std.specs.Prelude.{filter, cond, Bool, true, false, Option, Some, None}
use Rattle.std.proofs.lemmas.List.{map-set, set-get_or, get_or-set_other, length-replicate, get_or-map, length-map, map_push, map_more}
use Rattle.std.proofs.lemmas.List.FromFn.{length-range_with_len}
use Rattle.sl_parts.specs.Parts.{below}
use Rattle.sl_layout.specs.declared.actor.ActorId.TheVariants.{Unit as OfUnit}
use Rattle.sl_layout.specs.declared.actor.UnitId.{UnitId}
use Rattle.sl_layout.specs.Net.{Net, units, net_of, actors_of, is_unit, actor_of, nobody, data_channels}
use Rattle.sl_layout.specs.Units.{AreUnits}
use Rattle.sl_layout.specs.Wiring.{upstream_of, sender_by}
use Rattle.sl_layout.specs.Devices.{device_of}
use Rattle.sl_observe.specs.Observer.{UnitState, unit_at, floors_of, new_unit, first_unit}
use Rattle.sl_observe.specs.Kept.{Collected, states, collected_at, HasSpan, HaveSpans, HasRoom, HaveRoomBut, IsKept}
use Rattle.sl_observe.specs.declared.spans.Span.{Span}

abbrev state_in : Collected → UnitState
state_in u = u.state

pub state_at : (us : List Collected) (k : ℕ) → k < length us → unit_at (states us) k ≡ (collected_at us k).state
state_at us k h = get_or-map state_in us k (record { state = new_unit 0 0; room = 0 }) (new_unit 0 0) h

pub states_set : (us : List Collected) (k : ℕ) (u : Collected) → states (set us k u) ≡ set (states us) k u.state
states_set us k u = map-set state_in us k u

pub states_set_same : (us : List Collected) (k : ℕ) (u : Collected) → k < length us → u.state ≡ (collected_at us k).state → states (set us k u) ≡ states us
states_set_same us k u h e = map-set state_in us k u ∙ ap (set (states us) k) (e ∙ sym (state_at us k h)) ∙ set-get_or (states us) k (new_unit 0 0)

pub floors_set : (us : List UnitState) (k : ℕ) (u : UnitState) → floors_of (set us k u) ≡ set (floors_of us) k u.floor
floors_set us k u = map-set (λ (v : UnitState). v.floor) us k u

pub length_states : (us : List Collected) → length (states us) ≡ length us
length_states us = length-map us state_in

pub filter_few : {A : Type 0} (p : A → Bool) (xs : List A) → length (filter p xs) ≤ length xs
filter_few p [] = omega arith
filter_few p (x ∷ xs) = let h = filter_few p xs in elim (p x) as (λ b. length (cond b (x ∷ filter p xs) (filter p xs)) ≤ length (x ∷ xs)) [ true ↦ omega (arith, h) | false ↦ omega (arith, h) ]

pub units_few : (net : Net) → length (units net) ≤ length net.actors
units_few net = let h = filter_few (λ a. is_unit (actor_of net a)) (below (length net.actors)) in let e : length (below (length net.actors)) ≡ length net.actors = length-range_with_len 0 (length net.actors) in omega (arith, h, e)

-- the floors follow where a unit is changed and its floor is written
pub floors_kept : (us vs : List UnitState) (floors : List ℕ) (k x : ℕ) (u : UnitState) → k < length us → floors ≡ floors_of us → vs ≡ set us k u → x ≡ (unit_at vs k).floor
    → set floors k x ≡ floors_of vs
floors_kept us vs floors k x u h e f g =
    ap (λ fs. set fs k x) e ∙ ap (set (floors_of us) k) (g ∙ ap (λ ws. (unit_at ws k).floor) f ∙ ap (λ (v : UnitState). v.floor) (get_or-set_same us k u (new_unit 0 0) h)) ∙ sym (floors_set us k u)
    ∙ sym (ap floors_of f)

-- a unit is listed by what the net says of it
pub first_unit_is : (net : Net) (ids : List UnitId) (k : ℕ) (none : UnitId) (channels : ℕ) → AreUnits net (units net) ids → k < length ids → k < length (units net)
    → channels ≡ length (upstream_of net (get_or (units net) k 0)) → new_unit (get_or ids k none).device channels ≡ first_unit net (get_or (units net) k 0)
first_unit_is net ids k none channels same h m e =
    let u = get_or (units net) k 0 in
    let actor : OfUnit (get_or ids k none) ≡ actor_of net u =
    sym (get_or-map OfUnit ids k none nobody h) ∙ ap (λ actors. get_or actors k nobody) same ∙ get_or-map (actor_of net) (units net) k 0 nobody m
    in
    ap (λ d. new_unit d channels) (ap device_of actor) ∙ ap (new_unit (device_of (actor_of net u))) (e ∙ length-map (data_channels net u) (sender_by net u))

pub listed_more : (net : Net) (ids : List UnitId) (k : ℕ) (none : UnitId) (channels : ℕ) (us : List Collected) (u : Collected) → AreUnits net (units net) ids → k < length ids → k < length (units net)
    → channels ≡ length (upstream_of net (get_or (units net) k 0)) → u.state ≡ new_unit (get_or ids k none).device channels → states us ≡ map (first_unit net) (take k (units net))
    → states (us ++ u ∷ []) ≡ map (first_unit net) (take (k + 1) (units net))
listed_more net ids k none channels us u same h m e made so_far =
    map_push state_in us u ∙ ap (λ ws. ws ++ u.state ∷ []) so_far ∙ ap (λ w. map (first_unit net) (take k (units net)) ++ w ∷ []) (made ∙ first_unit_is net ids k none channels same h m e)
    ∙ sym (map_more (first_unit net) (units net) k 0 m)

-- Room.

-- a unit of the one list is one of the other, and has the same state there
pub same_state : (us vs : List Collected) (k : ℕ) → states vs ≡ states us → k < length vs
    → (k < length us) × ((collected_at us k).state ≡ (collected_at vs k).state)
same_state us vs k same h =
    let size : length us ≡ length vs = sym (length_states us) ∙ sym (ap length same) ∙ length_states vs in
    let within : k < length us = omega arith in
    (within, sym (state_at us k within) ∙ sym (ap (λ ws. unit_at ws k) same) ∙ state_at vs k h)

pub room_in_span : (ring device : ℕ) (us vs : List Collected) (s : Span) → HasSpan (states us) device s → states vs ≡ states us → ((k : ℕ) → s.first ≤ k → k < s.end → ring ≤ (collected_at vs k).room)
    → HasRoom ring device vs
room_in_span ring device us vs s span same room k h belongs =
    let size : length (states us) ≡ length vs = sym (ap length same) ∙ length_states vs in
    let here = span.covers k (omega arith) (ap (λ ws. (unit_at ws k).device) (sym same) ∙ ap (λ (u : UnitState). u.device) (state_at vs k h) ∙ belongs) in
    room k here.0 here.1

-- room isn't lost where there is more of it
pub more_room : (ring : ℕ) (shorts : List (Option ℕ)) (us vs : List Collected) → HaveRoomBut ring shorts us → states vs ≡ states us
    → ((k : ℕ) → (collected_at us k).room ≤ (collected_at vs k).room) → HaveRoomBut ring shorts vs
more_room ring shorts us vs but same more device place named k h off belongs =
    let at = same_state us vs k same h in
    let room = but device place named k at.0 off (ap (λ (u : UnitState). u.device) at.1 ∙ belongs) in
    omega (arith, room, more k)

-- where all units of a device have room, any one of them may be named
pub room_but_any : (ring device place : ℕ) (shorts : List (Option ℕ)) (us : List Collected) → HasRoom ring device us
    → HaveRoomBut ring shorts us → HaveRoomBut ring (set shorts device (Some place)) us
room_but_any ring device place shorts us full but d p named k h off belongs =
    elim (cases_eq d device) [
      | inl e ↦ full k h (belongs ∙ e)
      | inr other ↦ but d p (sym (get_or-set_other shorts device d (Some place) None other) ∙ named) k h off belongs
    ]

pub kept_ready : (ins ring choice : ℕ) (us vs : List Collected) (floors : List ℕ) (spans : List Span) (old new : List (Option ℕ)) (p : Option ℕ)
    → IsKept ins ring us floors spans old p → states vs ≡ states us → length new ≡ ins → HaveRoomBut ring new vs
    → (choice < ins → HasRoom ring choice vs) → IsKept ins ring vs floors spans new (Some choice)
kept_ready ins ring choice us vs floors spans old new p kept same size but room = record {
  floors_are = kept.floors_are ∙ sym (ap floors_of same);
  spans_are = subst (λ ws. HaveSpans ws ins spans) (sym same) kept.spans_are;
  shorts_size = size;
  shorts_are = but;
  room = λ c e h. let chosen : choice ≡ c = cc in subst (λ d. HasRoom ring d vs) chosen (room (omega (arith, chosen)));
}

pub kept_spent : (ins ring : ℕ) (us vs : List Collected) (floors : List ℕ) (spans : List Span) (old new : List (Option ℕ)) (p : Option ℕ)
    → IsKept ins ring us floors spans old p → states vs ≡ states us → length new ≡ ins → HaveRoomBut ring new vs → IsKept ins ring vs floors spans new None
kept_spent ins ring us vs floors spans old new p kept same size but = record {
  floors_are = kept.floors_are ∙ sym (ap floors_of same);
  spans_are = subst (λ ws. HaveSpans ws ins spans) (sym same) kept.spans_are;
  shorts_size = size;
  shorts_are = but;
  room = λ c e h. cc;
}

-- The start.

pub has_actors : (net : Net) → net ≡ net_of net.parts → 0 < length net.actors
has_actors net made = let e : length net.actors ≡ length (actors_of net.parts) = ap (λ n. length n.actors) made in omega (arith, e)

first_floors : (net : Net) (xs : List ℕ) → replicate (length xs) 0 ≡ floors_of (map (first_unit net) xs)
first_floors net [] = refl
first_floors net (x ∷ xs) = ap (λ ns. 0 ∷ ns) (first_floors net xs)

-- none is named
pub none_short : (ring n : ℕ) (us : List Collected) → HaveRoomBut ring (replicate n None) us
none_short ring n us device place named = absurd (none_named n device place named)
  where
    none_named : (n d p : ℕ) → get_or (replicate n None) d None ≡ Some p → ⊥
    none_named zero d p e = cc
    none_named (suc n) zero p e = cc
    none_named (suc n) (suc d) p e = none_named n d p e

pub first_kept : (net : Net) (ins ring n : ℕ) (us : List Collected) (floors : List ℕ) (spans : List Span) (shorts : List (Option ℕ))
    → states us ≡ map (first_unit net) (units net) → n ≡ length us → floors ≡ replicate n 0 → HaveSpans (states us) ins spans
    → shorts ≡ replicate ins None → IsKept ins ring us floors spans shorts None
first_kept net ins ring n us floors spans shorts made size zeros spanned nothing =
    let e : n ≡ length (units net) = size ∙ sym (length_states us) ∙ ap length made ∙ length-map (units net) (first_unit net) in
    record {
      floors_are = zeros ∙ ap (λ k. replicate k 0) e ∙ first_floors net (units net) ∙ sym (ap floors_of made);
      spans_are = spanned;
      shorts_size = ap length nothing ∙ length-replicate ins None;
      shorts_are = subst (λ ns. HaveRoomBut ring ns us) (sym nothing) (none_short ring ins us);
      room = λ c f h. cc;
    }
