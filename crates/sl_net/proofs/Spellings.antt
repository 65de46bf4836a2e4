-- Two choices of a net without namesakes have two spellings.
use Rattle.std.proofs.Common.{◌≡◌, ℕ, ◌+◌, ◌<◌, List, [], ◌∷◌, ◌++◌, length, get_or, map, true, Option, Some, None, refl, sym, ap, subst, ◌∙◌, arith, append_assoc, zero, suc, ◌-◌, ◌≤◌, inl, inr}
use Rattle.std.specs.Prelude.{codes, decimal, ◌==◌, if◌then◌else◌, slice_get, ◌⊎◌}
use Rattle.std.proofs.lemmas.Fmt.{decimal_digit}
use Rattle.sl_layout.specs.declared.actor.ActorId.{ActorId}
use Rattle.sl_layout.specs.declared.actor.ActorId.TheVariants.{Observer, Control, Unit as OfUnit, Host as OfHost}
use Rattle.sl_layout.specs.declared.actor.Side.{Side}
use Rattle.sl_layout.specs.declared.actor.Side.TheVariants.{Ingress, Egress}
use Rattle.sl_layout.specs.declared.actor.UnitId.{UnitId}
use Rattle.sl_layout.specs.declared.actor.Sort.{Sort}
use Rattle.sl_layout.specs.declared.actor.Sort.TheVariants.{FromHost, ToHost, Cable, Crossbar, Init, Poll, Notice, Dump, Begin, Done}
use Rattle.sl_net.specs.Wired.{home, receives}
use Rattle.sl_parts.specs.declared.parts.PortRef.{PortRef}
use Rattle.sl_parts.specs.Parts.{Parts, below, host_at, other_end, used_ports, ports_of, is_used}
use Rattle.sl_layout.specs.Net.{nobody, ingress, egress, units_of, Incoming, incoming, unit_incoming, from_outside, from_host_or_cable, to_host, Net, net_of, actor_of, actors_of, place_of, links_to, link_of, link_at, links_into, action_choice, no_link}
use Rattle.sl_parts.specs.Valid.{IsValid}
use Rattle.sl_layout.specs.Roster.{IsActor}
use Rattle.sl_net.specs.Spelling.{device_name, host_name, side_text, actor_text, sender_text, link_word, link_rest, link_text, action_text, choice_word, choice_text, choice_count, HasChoice}
use Rattle.sl_parts.specs.Lists.{Each}
use Rattle.sl_parts.proofs.Lists.{each-append, each-map, each-flat, each-imp, each-below, each-index, one-place}
use Rattle.sl_layout.proofs.Actors.{each-used, actor-at, place-at, each-actor, IsSender, each-sender}
use Rattle.sl_net.proofs.Texts.{lacks_name, part_at, same_front, differ}
use Rattle.sl_net.proofs.Namesakes.{HasNames, has_names, named_each}
use Rattle.std.proofs.lemmas.List.{length-map, get_or-map}
use Rattle.std.proofs.lemmas.Bool.{cases_lt, lt-ltb, le-ltb}
use Rattle.std.specs.List.{All}
use Rattle.sl_parts.specs.declared.parts.DevicePart.{DevicePart}
use Rattle.sl_parts.specs.declared.parts.HostPart.{HostPart}
use Rattle.sl_parts.specs.Text.{IsName}
use Rattle.sl_parts.specs.Fault.{fault_of}
use Rattle.sl_layout.specs.Wiring.{actions_of}
use Rattle.sl_net.proofs.NetWired.{Joined, each-joined, link_from, incoming-distinct, into-links}
use Rattle.sl_net.specs.Spelled.{HasOneSpelling}
use Rattle.sl_layout.proofs.Sorts.{by_sort}

-- Numbers of ports are single digits.

digit : (p : ℕ) → p < 8 → decimal p ≡ (48 + p) ∷ []
digit p h = decimal_digit p (omega arith)

same_digit : (p q : ℕ) (r s : List ℕ) → p < 8 → q < 8 → decimal p ++ r ≡ decimal q ++ s → (p ≡ q) × (r ≡ s)
same_digit p q r s h k e =
    let t : ((48 + p) ∷ []) ++ r ≡ ((48 + q) ∷ []) ++ s = ap (λ l. l ++ r) (sym (digit p h)) ∙ e ∙ ap (λ l. l ++ s) (digit q k) in
    let n : 48 + p ≡ 48 + q = cc in
    (omega arith, cc)

-- Sides.

same_side_text : (s t : Side) (p q : List ℕ) → side_text s ++ p ≡ side_text t ++ q → (s ≡ t) × (p ≡ q)
same_side_text Ingress Ingress p q e = (refl, cc)
same_side_text Egress Egress p q e = (refl, cc)
same_side_text Ingress Egress p q e = absurd (differ 105 111 (ap (λ t. get_or t 0 0) e) refl)
same_side_text Egress Ingress p q e = absurd (differ 111 105 (ap (λ t. get_or t 0 0) e) refl)

same_unit : (u v : UnitId) → u.device ≡ v.device → u.port ≡ v.port → u.side ≡ v.side → OfUnit u ≡ OfUnit v
same_unit u v d p s =
    ap (λ n. OfUnit (record { device = n; port = u.port; side = u.side })) d
    ∙ ap (λ n. OfUnit (record { device = v.device; port = n; side = u.side })) p
    ∙ ap (λ n. OfUnit (record { device = v.device; port = v.port; side = n })) s

-- Actors.

abbrev kind : ActorId → ℕ
kind Observer = 0
kind (Control d) = 1
kind (OfUnit u) = 2
kind (OfHost h) = 3

-- the kind of an actor, from its text
abbrev kind_in : List ℕ → ℕ
kind_in text = if get_or text 0 0 == 99 then 1 else if get_or text 0 0 == 104 then 3 else if get_or text 1 0 == 98 then 0 else 2

kind_read : (parts : Parts) (a : ActorId) (w : List ℕ) → kind_in (actor_text parts a ++ w) ≡ kind a
kind_read parts Observer w = refl
kind_read parts (Control d) w = refl
kind_read parts (OfHost h) w = refl
kind_read parts (OfUnit u) w = of_side u.side (codes " " ++ (device_name parts u.device ++ (codes "." ++ decimal u.port)))
  where
    of_side : (s : Side) (r : List ℕ) → kind_in ((side_text s ++ r) ++ w) ≡ 2
    of_side Ingress r = refl
    of_side Egress r = refl

module _ (parts : Parts) (valid : IsValid parts) (names : HasNames parts) where
  low_port : (d p : ℕ) → p < ports_of parts d → p < 8
  low_port d p h = omega (arith, valid.ports d)

  same_kind : (a b : ActorId) (v w : List ℕ) → actor_text parts a ++ v ≡ actor_text parts b ++ w → kind a ≡ kind b
  same_kind a b v w e = sym (kind_read parts a v) ∙ ap kind_in e ∙ kind_read parts b w

  same_units : (u v : UnitId) (r s : List ℕ) → IsActor parts (OfUnit u) → IsActor parts (OfUnit v) → actor_text parts (OfUnit u) ++ 32 ∷ r ≡ actor_text parts (OfUnit v) ++ 32 ∷ s → (OfUnit u ≡ OfUnit v) × (r ≡ s)
  same_units u v r s h k e =
      let rest = λ (x : UnitId). codes " " ++ (device_name parts x.device ++ (codes "." ++ decimal x.port)) in
      let after = λ (x : UnitId) (t : List ℕ). append_assoc (device_name parts x.device) (codes "." ++ decimal x.port) (32 ∷ t) in
      let one = same_side_text u.side v.side (rest u ++ 32 ∷ r) (rest v ++ 32 ∷ s) (sym (append_assoc (side_text u.side) (rest u) (32 ∷ r)) ∙ e ∙ append_assoc (side_text v.side) (rest v) (32 ∷ s)) in
      let two : (device_name parts u.device ++ (codes "." ++ decimal u.port)) ++ 32 ∷ r ≡ (device_name parts v.device ++ (codes "." ++ decimal v.port)) ++ 32 ∷ s = same_front (codes " ") _ _ one.1 in
      let three = part_at 46 (device_name parts u.device) (device_name parts v.device) (decimal u.port ++ 32 ∷ r) (decimal v.port ++ 32 ∷ s)
      (lacks_name 46 (device_name parts u.device) refl (names.devices u.device h.0)) (lacks_name 46 (device_name parts v.device) refl (names.devices v.device k.0))
      (sym (after u r) ∙ two ∙ after v s) in
      let four = same_digit u.port v.port (32 ∷ r) (32 ∷ s) (low_port u.device u.port h.1) (low_port v.device v.port k.1) three.1 in
      (same_unit u v (names.one_device u.device v.device h.0 k.0 three.0) four.0 one.0, same_front (32 ∷ []) r s four.1)

  -- the actor that a text begins with, and what follows it
  pub same_actor_text : (a b : ActorId) (r s : List ℕ) → IsActor parts a → IsActor parts b → actor_text parts a ++ 32 ∷ r ≡ actor_text parts b ++ 32 ∷ s → (a ≡ b) × (r ≡ s)
  same_actor_text Observer Observer r s h k e = (refl, same_front (codes "observer ") r s e)
  same_actor_text (Control d) (Control f) r s h k e =
      let t = part_at 32 (device_name parts d) (device_name parts f) r s (lacks_name 32 (device_name parts d) refl (names.devices d h)) (lacks_name 32 (device_name parts f) refl (names.devices f k))
      (same_front (codes "control ") (device_name parts d ++ 32 ∷ r) (device_name parts f ++ 32 ∷ s) e) in
      (ap Control (names.one_device d f h k t.0), t.1)
  same_actor_text (OfUnit u) (OfUnit v) r s h k e = same_units u v r s h k e
  same_actor_text (OfHost i) (OfHost j) r s h k e =
      let t = part_at 32 (host_name parts i) (host_name parts j) r s (lacks_name 32 (host_name parts i) refl (names.hosts i h)) (lacks_name 32 (host_name parts j) refl (names.hosts j k))
      (same_front (codes "host ") (host_name parts i ++ 32 ∷ r) (host_name parts j ++ 32 ∷ s) e) in
      (ap OfHost (names.one_host i j h k t.0), t.1)
  same_actor_text Observer (Control f) r s h k e = absurd (differ 0 1 (same_kind Observer (Control f) (32 ∷ r) (32 ∷ s) e) refl)
  same_actor_text Observer (OfUnit v) r s h k e = absurd (differ 0 2 (same_kind Observer (OfUnit v) (32 ∷ r) (32 ∷ s) e) refl)
  same_actor_text Observer (OfHost j) r s h k e = absurd (differ 0 3 (same_kind Observer (OfHost j) (32 ∷ r) (32 ∷ s) e) refl)
  same_actor_text (Control d) Observer r s h k e = absurd (differ 1 0 (same_kind (Control d) Observer (32 ∷ r) (32 ∷ s) e) refl)
  same_actor_text (Control d) (OfUnit v) r s h k e = absurd (differ 1 2 (same_kind (Control d) (OfUnit v) (32 ∷ r) (32 ∷ s) e) refl)
  same_actor_text (Control d) (OfHost j) r s h k e = absurd (differ 1 3 (same_kind (Control d) (OfHost j) (32 ∷ r) (32 ∷ s) e) refl)
  same_actor_text (OfUnit u) Observer r s h k e = absurd (differ 2 0 (same_kind (OfUnit u) Observer (32 ∷ r) (32 ∷ s) e) refl)
  same_actor_text (OfUnit u) (Control f) r s h k e = absurd (differ 2 1 (same_kind (OfUnit u) (Control f) (32 ∷ r) (32 ∷ s) e) refl)
  same_actor_text (OfUnit u) (OfHost j) r s h k e = absurd (differ 2 3 (same_kind (OfUnit u) (OfHost j) (32 ∷ r) (32 ∷ s) e) refl)
  same_actor_text (OfHost i) Observer r s h k e = absurd (differ 3 0 (same_kind (OfHost i) Observer (32 ∷ r) (32 ∷ s) e) refl)
  same_actor_text (OfHost i) (Control f) r s h k e = absurd (differ 3 1 (same_kind (OfHost i) (Control f) (32 ∷ r) (32 ∷ s) e) refl)
  same_actor_text (OfHost i) (OfUnit v) r s h k e = absurd (differ 3 2 (same_kind (OfHost i) (OfUnit v) (32 ∷ r) (32 ∷ s) e) refl)

-- Links.

-- the sort of a link, from its word
abbrev sort_in : List ℕ → Sort
sort_in text = let first = get_or text 0 0 in let second = get_or text 1 0 in
    if first == 104 then FromHost else if first == 99 then Cable else if first == 120 then Crossbar else if first == 105 then Init else if first == 112 then Poll else if first == 98 then Begin
    else if first == 110 then (if second == 101 then ToHost else Notice) else if second == 117 then Dump else Done

sort_read : (s : Sort) (r : List ℕ) → sort_in (link_word s ++ r) ≡ s
sort_read s r = by_sort (λ t. sort_in (link_word t ++ r) ≡ t) refl refl refl refl refl refl refl refl refl refl s

-- the first sender of a list
abbrev pub front : List Incoming → ActorId
front [] = nobody
front (i ∷ is) = i.0

-- the one actor that sends on a link of a sort to an actor, where there is one
abbrev pub sole : Parts → ActorId → Sort → ActorId
sole parts x Init = Control (home x)
sole parts x Poll = Control (home x)
sole parts (OfUnit u) FromHost = front (from_outside parts (record { device = u.device; port = u.port }))
sole parts (OfUnit u) Cable = front (from_outside parts (record { device = u.device; port = u.port }))
sole parts (OfHost h) ToHost = front (incoming parts (OfHost h))
sole parts x s = Observer

-- a unit with one of the first eight ports of the device of an actor
pub record IsOwn (x a : ActorId) : Type 0 where
  unit : UnitId
  device : unit.device ≡ home x
  port : unit.port < 8
  is : a ≡ OfUnit unit

pub record IsPeer (x a : ActorId) : Type 0 where
  port : ℕ
  few : port < 8
  is : a ≡ ingress (home x) port

pub record IsControl (parts : Parts) (a : ActorId) : Type 0 where
  device : ℕ
  within : device < length parts.devices
  is : a ≡ Control device

-- who sends on a link of a sort to an actor
abbrev pub Sends : Parts → ActorId → ActorId → Sort → Type 0
Sends parts x a Done = IsControl parts a
Sends parts x a Notice = IsOwn x a
Sends parts x a Dump = IsOwn x a
Sends parts x a Crossbar = IsPeer x a
Sends parts x a s = a ≡ sole parts x s

abbrev pub Known : Parts → ActorId → Incoming → Type 0
Known parts x i = Sends parts x i.0 i.1

module _ (parts : Parts) (valid : IsValid parts) where
  used_low : (d : ℕ) → Each (λ p. p < 8) (used_ports parts d)
  used_low d = each-imp (λ p. (p < ports_of parts d) × (is_used parts (record { device = d; port = p }) ≡ true)) (λ p. p < 8) (used_ports parts d) (λ p h. omega (arith, valid.ports d, h.0)) (each-used parts d)

  own : (d p : ℕ) (s : Side) → p < 8 → IsOwn (Control d) (OfUnit (record { device = d; port = p; side = s }))
  own d p s h = record { unit = record { device = d; port = p; side = s }; device = refl; port = h; is = refl }

  reports : (d p : ℕ) (s : Side) → p < 8 → Each (Known parts (Control d)) ((OfUnit (record { device = d; port = p; side = s }), Notice) ∷ (OfUnit (record { device = d; port = p; side = s }), Dump) ∷ [])
  reports d p s h = (own d p s h, (own d p s h, tt))

  outside_known : (d p : ℕ) → Each (Known parts (ingress d p)) (from_outside parts (record { device = d; port = p }))
  outside_known d p = by_ends (host_at parts (record { device = d; port = p })) (other_end parts.cables (record { device = d; port = p })) refl
    where
      by_ends : (x : Option ℕ) (y : Option PortRef) → from_host_or_cable x y ≡ from_outside parts (record { device = d; port = p }) → Each (Known parts (ingress d p)) (from_host_or_cable x y)
      by_ends (Some h) y q = (ap front q, tt)
      by_ends None (Some e) q = (ap front q, tt)
      by_ends None None q = tt

  unit_known : (d p : ℕ) (s : Side) → Each (Known parts (OfUnit (record { device = d; port = p; side = s }))) (unit_incoming parts d p s)
  unit_known d p Ingress = each-append (Known parts (ingress d p)) (from_outside parts (record { device = d; port = p })) ((Control d, Init) ∷ (Control d, Poll) ∷ []) (outside_known d p) (refl, (refl, tt))
  unit_known d p Egress = each-append (Known parts (egress d p)) (map (λ q. (ingress d q, Crossbar)) (used_ports parts d)) ((Control d, Poll) ∷ [])
      (each-map (Known parts (egress d p)) (λ q. (ingress d q, Crossbar)) (used_ports parts d) (each-imp (λ q. q < 8) (λ q. IsPeer (egress d p) (ingress d q)) (used_ports parts d) (λ q h. record { port = q; few = h; is = refl }) (used_low d)))
      (refl, tt)

  pub each_known : (x : ActorId) → Each (Known parts x) (incoming parts x)
  each_known Observer = each-map (Known parts Observer) (λ d. (Control d, Done)) (below (length parts.devices))
      (each-below (λ d. IsControl parts (Control d)) (length parts.devices) (λ d h. record { device = d; within = h; is = refl }))
  each_known (Control d) = (
    refl,
    each-flat (Known parts (Control d)) (λ u. (u, Notice) ∷ (u, Dump) ∷ []) (units_of parts d)
        (each-flat (λ u. Each (Known parts (Control d)) ((u, Notice) ∷ (u, Dump) ∷ [])) (λ p. ingress d p ∷ egress d p ∷ []) (used_ports parts d)
        (each-imp (λ p. p < 8) (λ p. Each (λ u. Each (Known parts (Control d)) ((u, Notice) ∷ (u, Dump) ∷ [])) (ingress d p ∷ egress d p ∷ [])) (used_ports parts d)
        (λ p h. (reports d p Ingress h, (reports d p Egress h, tt))) (used_low d))),
  )
  each_known (OfUnit u) = unit_known u.device u.port u.side
  each_known (OfHost h) = by_port (slice_get (map (λ part. part.at) parts.hosts) h) refl
    where
      by_port : (o : Option PortRef) → to_host o ≡ incoming parts (OfHost h) → Each (Known parts (OfHost h)) (to_host o)
      by_port None q = tt
      by_port (Some p) q = (ap front q, tt)

  module _ (names : HasNames parts) where
    -- one sender stands behind one text
    one_own : (x a b : ActorId) → IsOwn x a → IsOwn x b → sender_text parts a ≡ sender_text parts b → a ≡ b
    one_own x a b h k e =
        let u = h.unit in
        let v = k.unit in
        let t : side_text u.side ++ (codes "." ++ decimal u.port) ≡ side_text v.side ++ (codes "." ++ decimal v.port) = sym (ap (sender_text parts) h.is) ∙ e ∙ ap (sender_text parts) k.is in
        let s = same_side_text u.side v.side (codes "." ++ decimal u.port) (codes "." ++ decimal v.port) t in
        let p : decimal u.port ≡ decimal v.port = same_front (codes ".") (decimal u.port) (decimal v.port) s.1 in
        let d = same_digit u.port v.port [] [] h.port k.port (ap (λ l. l ++ []) p) in
        h.is ∙ same_unit u v (h.device ∙ sym k.device) d.0 s.0 ∙ sym k.is

    one_peer : (x a b : ActorId) → IsPeer x a → IsPeer x b → link_rest parts a Crossbar ≡ link_rest parts b Crossbar → a ≡ b
    one_peer x a b h k e =
        let p : decimal h.port ≡ decimal k.port = sym (ap (λ a. link_rest parts a Crossbar) h.is) ∙ e ∙ ap (λ a. link_rest parts a Crossbar) k.is in
        let d = same_digit h.port k.port [] [] h.few k.few (ap (λ l. l ++ []) p) in
        h.is ∙ ap (ingress (home x)) d.0 ∙ sym k.is

    one_control : (a b : ActorId) → IsControl parts a → IsControl parts b → link_rest parts a Done ≡ link_rest parts b Done → a ≡ b
    one_control a b h k e =
        let n : device_name parts h.device ≡ device_name parts k.device = sym (ap (λ a. link_rest parts a Done) h.is) ∙ e ∙ ap (λ a. link_rest parts a Done) k.is in
        h.is ∙ ap Control (names.one_device h.device k.device h.within k.within n) ∙ sym k.is

    one_sender : (x a b : ActorId) (s : Sort) → Sends parts x a s → Sends parts x b s → link_rest parts a s ≡ link_rest parts b s → a ≡ b
    one_sender x a b Done h k e = one_control a b h k e
    one_sender x a b Notice h k e = one_own x a b h k e
    one_sender x a b Dump h k e = one_own x a b h k e
    one_sender x a b Crossbar h k e = one_peer x a b h k e
    one_sender x a b FromHost h k e = h ∙ sym k
    one_sender x a b ToHost h k e = h ∙ sym k
    one_sender x a b Cable h k e = h ∙ sym k
    one_sender x a b Init h k e = h ∙ sym k
    one_sender x a b Poll h k e = h ∙ sym k
    one_sender x a b Begin h k e = h ∙ sym k

    -- one incoming link of an actor stands behind one text
    pub one_incoming : (x : ActorId) (i j : Incoming) → Known parts x i → Known parts x j → link_text parts i.0 i.1 ≡ link_text parts j.0 j.1 → i ≡ j
    one_incoming x i j h k e =
        let s : i.1 ≡ j.1 = sym (sort_read i.1 (link_rest parts i.0 i.1)) ∙ ap sort_in e ∙ sort_read j.1 (link_rest parts j.0 j.1) in
        let r : link_rest parts i.0 i.1 ≡ link_rest parts j.0 i.1 = same_front (link_word i.1) (link_rest parts i.0 i.1) (link_rest parts j.0 i.1) (e ∙ ap (link_text parts j.0) (sym s)) in
        let a : i.0 ≡ j.0 = one_sender x i.0 j.0 i.1 h (subst (Sends parts x j.0) (sym s) k) r in
        ap (λ a. (a, i.1)) a ∙ ap (λ s. (j.0, s)) s

-- Two choices of a net without namesakes have two spellings.

-- The word of an action is that of no link of its actor.

abbrev head : List ℕ → ℕ
head text = get_or text 0 0

observer_word : (s : Sort) (r : List ℕ) → receives Observer s ≡ true → head (link_word s ++ r) ≡ 100
observer_word s r = by_sort (λ t. receives Observer t ≡ true → head (link_word t ++ r) ≡ 100) (λ h. absurd (cc)) (λ h. absurd (cc)) (λ h. absurd (cc)) (λ h. absurd (cc)) (λ h. absurd (cc)) (λ h. absurd (cc)) (λ h. absurd (cc)) (λ h. absurd (cc)) (λ h. absurd (cc)) (λ h. refl) s

host_word : (h : ℕ) (s : Sort) (r : List ℕ) → receives (OfHost h) s ≡ true → head (link_word s ++ r) ≡ 110
host_word i s r = by_sort (λ t. receives (OfHost i) t ≡ true → head (link_word t ++ r) ≡ 110) (λ h. absurd (cc)) (λ h. refl) (λ h. absurd (cc)) (λ h. absurd (cc)) (λ h. absurd (cc)) (λ h. absurd (cc)) (λ h. absurd (cc)) (λ h. absurd (cc)) (λ h. absurd (cc)) (λ h. absurd (cc)) s

-- no link's word begins as the word sweep does
link_word_low : (s : Sort) (r : List ℕ) → head (link_word s ++ r) ≡ 115 → ⊥
link_word_low s r = by_sort (λ t. head (link_word t ++ r) ≡ 115 → ⊥)
    (λ e. differ 104 115 e refl) (λ e. differ 110 115 e refl) (λ e. differ 99 115 e refl) (λ e. differ 120 115 e refl) (λ e. differ 105 115 e refl) (λ e. differ 112 115 e refl) (λ e. differ 110 115 e refl) (λ e. differ 100 115 e refl) (λ e. differ 98 115 e refl) (λ e. differ 100 115 e refl) s

no_action : (x : ActorId) (s : Sort) (r : List ℕ) (m : ℕ) → receives x s ≡ true → m < actions_of x → link_word s ++ r ≡ action_text x m → ⊥
no_action Observer s r zero h p e = differ 100 105 (sym (observer_word s r h) ∙ ap head e) refl
no_action Observer s r (suc zero) h p e = differ 100 114 (sym (observer_word s r h) ∙ ap head e) refl
no_action Observer s r (suc (suc m)) h p e = omega arith
no_action (Control d) s r m h p e = link_word_low s r (ap head e)
no_action (OfUnit u) s r m h p e = omega arith
no_action (OfHost i) s r m h p e = differ 110 105 (sym (host_word i s r h) ∙ ap head e) refl

one_action : (x : ActorId) (m n : ℕ) → m < actions_of x → n < actions_of x → action_text x m ≡ action_text x n → m ≡ n
one_action Observer zero zero p q e = refl
one_action Observer zero (suc zero) p q e = absurd (differ 105 114 (ap head e) refl)
one_action Observer zero (suc (suc n)) p q e = absurd (omega arith)
one_action Observer (suc zero) zero p q e = absurd (differ 114 105 (ap head e) refl)
one_action Observer (suc zero) (suc zero) p q e = refl
one_action Observer (suc zero) (suc (suc n)) p q e = absurd (omega arith)
one_action Observer (suc (suc m)) n p q e = absurd (omega arith)
one_action (Control d) m n p q e = omega arith
one_action (OfUnit u) m n p q e = absurd (omega arith)
one_action (OfHost i) m n p q e = omega arith

module _ (parts : Parts) (valid : IsValid parts) where
  is_actor : (a : ℕ) → a < length (actors_of parts) → IsActor parts (actor_of (net_of parts) a)
  is_actor a h = each-index (IsActor parts) (actors_of parts) a nobody (each-actor parts) h

  into : (a : ℕ) → a < length (actors_of parts) → map (link_of (net_of parts)) (links_into (net_of parts) a) ≡ links_to parts (actors_of parts) (actor_of (net_of parts) a)
  into a h = subst (λ n. map (link_of (net_of parts)) (links_into (net_of parts) n) ≡ links_to parts (actors_of parts) (actor_of (net_of parts) a)) (place-at parts a h)
      (into-links parts (actor_of (net_of parts) a) (is_actor a h))

  link_count : (a : ℕ) → a < length (actors_of parts) → action_choice (net_of parts) a ≡ length (incoming parts (actor_of (net_of parts) a))
  link_count a h = let x = actor_of (net_of parts) a in
      sym (length-map (links_into (net_of parts) a) (link_of (net_of parts))) ∙ ap length (into a h) ∙ length-map (incoming parts x) (link_from parts x)

  abbrev incoming_at : ℕ → ℕ → Incoming
  incoming_at a c = get_or (incoming parts (actor_of (net_of parts) a)) c (nobody, Poll)

  link_is : (a c : ℕ) → a < length (actors_of parts) → c < action_choice (net_of parts) a → link_of (net_of parts) (link_at (net_of parts) a c) ≡ link_from parts (actor_of (net_of parts) a) (incoming_at a c)
  link_is a c h p = let x = actor_of (net_of parts) a in
      let few : c < length (incoming parts x) = subst (λ n. c < n) (link_count a h) p in
      sym (get_or-map (link_of (net_of parts)) (links_into (net_of parts) a) c 0 no_link p) ∙ ap (λ l. get_or l c no_link) (into a h) ∙ get_or-map (link_from parts x) (incoming parts x) c (nobody, Poll) no_link few

  -- the word of a choice that takes from a link
  link_said : (a c : ℕ) → a < length (actors_of parts) → c < action_choice (net_of parts) a → choice_word (net_of parts) a c ≡ link_text parts (incoming_at a c).0 (incoming_at a c).1
  link_said a c h p = let x = actor_of (net_of parts) a in
      let net = net_of parts in
      let few : c < length (incoming parts x) = subst (λ n. c < n) (link_count a h) p in
      let s = each-index (IsSender parts) (incoming parts x) c (nobody, Poll) (each-sender parts x valid (is_actor a h)) few in
      ap (λ b. if b then link_text parts (actor_of net (link_of net (link_at net a c)).from) (link_of net (link_at net a c)).sort else action_text x (c - action_choice net a)) (lt-ltb c (action_choice net a) p)
      ∙ ap (λ l. link_text parts (actor_of net l.from) l.sort) (link_is a c h p) ∙ ap (λ y. link_text parts y (incoming_at a c).1) (actor-at parts (incoming_at a c).0 s.0)

  -- the word of an action
  action_said : (a c : ℕ) → action_choice (net_of parts) a ≤ c → choice_word (net_of parts) a c ≡ action_text (actor_of (net_of parts) a) (c - action_choice (net_of parts) a)
  action_said a c p = let net = net_of parts in
      ap (λ b. if b then link_text parts (actor_of net (link_of net (link_at net a c)).from) (link_of net (link_at net a c)).sort else action_text (actor_of net a) (c - action_choice net a)) (le-ltb c (action_choice net a) p)

  link_no_action : (a c d : ℕ) → a < length (actors_of parts) → c < action_choice (net_of parts) a → action_choice (net_of parts) a ≤ d → d < choice_count (net_of parts) a → choice_word (net_of parts) a c ≡ choice_word (net_of parts) a d → ⊥
  link_no_action a c d h p q r e = let x = actor_of (net_of parts) a in
      let few : c < length (incoming parts x) = subst (λ n. c < n) (link_count a h) p in
      let j = each-index (Joined x) (incoming parts x) c (nobody, Poll) (each-joined parts x) few in
      no_action x (incoming_at a c).1 (link_rest parts (incoming_at a c).0 (incoming_at a c).1) (d - action_choice (net_of parts) a) j.received (omega arith) (sym (link_said a c h p) ∙ e ∙ action_said a d q)

  -- one choice of an actor has one word
  same_word : HasNames parts → (a c d : ℕ) → a < length (actors_of parts) → c < choice_count (net_of parts) a → d < choice_count (net_of parts) a → choice_word (net_of parts) a c ≡ choice_word (net_of parts) a d → c ≡ d
  same_word names a c d h p q e = by_order (cases_lt c (action_choice (net_of parts) a)) (cases_lt d (action_choice (net_of parts) a))
    where
      by_order : (c < action_choice (net_of parts) a) ⊎ (action_choice (net_of parts) a ≤ c) → (d < action_choice (net_of parts) a) ⊎ (action_choice (net_of parts) a ≤ d) → c ≡ d
      by_order (inl k) (inl l) =
          let few : c < length (incoming parts (actor_of (net_of parts) a)) = subst (λ n. c < n) (link_count a h) k in
          let low : d < length (incoming parts (actor_of (net_of parts) a)) = subst (λ n. d < n) (link_count a h) l in
          one-place (incoming parts (actor_of (net_of parts) a)) c d (nobody, Poll) (incoming-distinct parts (actor_of (net_of parts) a)) few low
          (one_incoming parts valid names (actor_of (net_of parts) a) (incoming_at a c) (incoming_at a d) (each-index (Known parts (actor_of (net_of parts) a)) (incoming parts (actor_of (net_of parts) a)) c (nobody, Poll) (each_known parts valid (actor_of (net_of parts) a)) few)
          (each-index (Known parts (actor_of (net_of parts) a)) (incoming parts (actor_of (net_of parts) a)) d (nobody, Poll) (each_known parts valid (actor_of (net_of parts) a)) low) (sym (link_said a c h k) ∙ e ∙ link_said a d h l))
      by_order (inl k) (inr l) = absurd (link_no_action a c d h k l q e)
      by_order (inr k) (inl l) = absurd (link_no_action a d c h l k p (sym e))
      by_order (inr k) (inr l) =
          let m : c - action_choice (net_of parts) a ≡ d - action_choice (net_of parts) a = one_action (actor_of (net_of parts) a) (c - action_choice (net_of parts) a) (d - action_choice (net_of parts) a) (omega arith) (omega arith) (sym (action_said a c k) ∙ e ∙ action_said a d l) in
          omega arith

  -- one choice has one spelling
  pub same_choice : HasNames parts → (a c b d : ℕ) → HasChoice (net_of parts) a c → HasChoice (net_of parts) b d → choice_text (net_of parts) a c ≡ choice_text (net_of parts) b d → (a ≡ b) × (c ≡ d)
  same_choice names a c b d h k e =
      let net = net_of parts in
      let t = same_actor_text parts valid names (actor_of net a) (actor_of net b) (choice_word net a c) (choice_word net b d) (is_actor a h.actor) (is_actor b k.actor) e in
      let z : a ≡ b = sym (place-at parts a h.actor) ∙ ap (λ x. place_of x (actors_of parts)) t.0 ∙ place-at parts b k.actor in
      let w : choice_word net a c ≡ choice_word net a d = t.1 ∙ ap (λ n. choice_word net n d) (sym z) in
      (z, same_word names a c d h.actor h.choice (subst (λ n. d < choice_count net n) (sym z) k.choice) w)

pub one_spelled : (net : Net) → net ≡ net_of net.parts → fault_of net.parts ≡ None → IsValid net.parts → All (λ (d : DevicePart). IsName d.name) net.parts.devices → All (λ (h : HostPart). IsName h.name) net.parts.hosts → HasOneSpelling net
one_spelled net made right valid devices hosts =
    let names = has_names net.parts right (named_each (λ (d : DevicePart). d.name) net.parts.devices devices) (named_each (λ (h : HostPart). h.name) net.parts.hosts hosts) in
    subst HasOneSpelling (sym made) (record { one = same_choice net.parts valid names })
