-- A frame is read as the version, header and packet that it was made of.
use Rattle.std.proofs.Common.{◌≡◌, ℕ, Result, Err, zero, suc, Some, None, subst, ◌<◌, length, get_or, drop, ◌+◌, ◌-◌, ◌*◌, ◌/◌, ◌%◌, ◌==◌, ◌||◌, Bool, true, false, List, [], ◌∷◌, Ok, refl, arith, sym, ◌∙◌, ap, inl, inr}
use Rattle.std.proofs.lemmas.Bool.{and_parts, or_cases, or_left, eqb-true, eq-eqb}
use Rattle.std.specs.Prelude.{slice_range, slice_index, IfOk}
use Rattle.sl_wire.specs.declared.frame.Kind.{Kind}
use Rattle.sl_wire.specs.declared.frame.Kind.TheVariants.{Plain, Carried, Probe, Init}
use Rattle.sl_wire.specs.declared.frame.Header.{Header}
use Rattle.sl_net.specs.declared.input.Packet.{Packet}
use Rattle.sl_wire.specs.declared.frame.WireFault.{WireFault}
use Rattle.sl_wire.specs.declared.frame.WireFault.TheVariants.{E2}
use Rattle.sl_wire.specs.Frames.{frame, decoded, columns_decoded, check_of, check_in, id_in, kind_decoded, kind_byte, kind_of, header_of, number, packet_fits, all_zero, packet_of, reserved_in, version_fits, id_fits, channel_fits, PacketFits, IsZeroPacket, IsBytes, IsFrame}

pub split : (n : ℕ) → n / 256 * 256 + n % 256 ≡ n
split n = omega arith

split_wide : (n : ℕ) → n / 65536 * 65536 + n % 65536 ≡ n
split_wide n = omega arith

one_or_two : (v : ℕ) (P : ℕ → Type 0) → ((v == 1) || (v == 2)) ≡ true → P 1 → P 2 → P v
one_or_two v P e one two = elim (or_cases (v == 1) (v == 2) e) [
  | inl t ↦ subst P (sym (eqb-true v 1 t)) one
  | inr t ↦ subst P (sym (eqb-true v 2 t)) two
]

-- the frame of a header and packet in a version is read as these
abbrev Again : ℕ → Kind → ℕ → ℕ → Packet → ℕ → Type 0
Again bits kind id channel p v = id_fits bits v kind id ≡ true
    → decoded bits (frame v (record { kind = kind; id = record { raw = id }; channel = channel }) p) ≡ Ok (v, record { kind = kind; id = record { raw = id }; channel = channel }, p)

again : (bits v : ℕ) (kind : Kind) (id channel : ℕ) (p : Packet) → version_fits kind v ≡ true → channel_fits kind channel ≡ true → PacketFits kind p → Again bits kind id channel p v
unfolding decoded frame packet_of
again m v Plain id channel p w b c = subst (Again m Plain id channel p) (sym (eqb-true v 1 w)) (λ a. simp (split, split_wide) (rw (a, b) refl))
again m v Carried id channel p w b c = one_or_two v (Again m Carried id channel p) w
    (λ a. simp (split, split_wide) (rw (a, b) refl))
    (λ a. simp (split, split_wide) (rw (a, b, eq-eqb (65535 - id) (65535 - id) refl) refl))
again m v Probe id channel p w b c = one_or_two v (Again m Probe id channel p) w
    (λ a. rw (c.0, c.1, c.2, c.3, c.4) (simp split (rw (a, b) refl)))
    (λ a. rw (c.0, c.1, c.2, c.3, c.4) (simp split (rw (a, b, eq-eqb (65535 - id) (65535 - id) refl) refl)))
again m v Init id channel p w b c = one_or_two v (Again m Init id channel p) w
    (λ a. rw (c.0, c.1, c.2, c.3, c.4) (simp split (rw (a, b) refl)))
    (λ a. rw (c.0, c.1, c.2, c.3, c.4) (simp split (rw (a, b, eq-eqb (65535 - id) (65535 - id) refl) refl)))

pub frame-read : (bits : ℕ) (bytes : List ℕ) (v : ℕ) (h : Header) (p : Packet) → IsFrame bits bytes v h p → decoded bits bytes ≡ Ok (v, h, p)
frame-read bits bytes v h p f = let c = f.canonical in ap (decoded bits) f.spelled ∙ again bits v h.kind h.id.raw h.channel p c.version c.channel c.packet c.id

-- ---- what is decoded is a frame
pub high : (a c : ℕ) → c < 256 → (a * 256 + c) / 256 ≡ a
high a c h = omega arith

pub low : (a c : ℕ) → c < 256 → (a * 256 + c) % 256 ≡ c
low a c h = omega arith

wide_high : (a c : ℕ) → c < 65536 → (a * 65536 + c) / 65536 ≡ a
wide_high a c h = omega arith

wide_low : (a c : ℕ) → c < 65536 → (a * 65536 + c) % 65536 ≡ c
wide_low a c h = omega arith

below : (a c : ℕ) → a < 256 → c < 256 → a * 256 + c < 65536
below a c g h = omega arith

either : (kind : Kind) (v : ℕ) → version_fits kind v ≡ true → ((v == 1) || (v == 2)) ≡ true
either Plain v e = or_left (v == 1) (v == 2) e
either Carried v e = e
either Probe v e = e
either Init v e = e

abbrev read : ℕ × Header × Packet → Result (ℕ × Header × Packet) WireFault
read x = Ok x

abbrev read_or : ℕ × Header × Packet → Result (ℕ × Header × Packet) WireFault → ℕ × Header × Packet
read_or d (Ok x) = x
read_or d (Err e) = d

-- zeros are zero at each place
zero_at : (xs : List ℕ) → all_zero xs ≡ true → (i : ℕ) → get_or xs i 0 ≡ 0
zero_at [] e i = refl
zero_at (x ∷ xs) e zero = eqb-true x 0 (and_parts (x == 0) (all_zero xs) e).0
zero_at (x ∷ xs) e (suc i) = zero_at xs (and_parts (x == 0) (all_zero xs) e).1 i

abbrev pub cells_by : (ℕ → ℕ) → List ℕ
cells_by b = b 0 ∷ b 1 ∷ b 2 ∷ b 3 ∷ b 4 ∷ b 5 ∷ b 6 ∷ b 7 ∷ b 8 ∷ b 9 ∷ b 10 ∷ b 11 ∷ b 12 ∷ b 13 ∷ b 14 ∷ b 15
    ∷ b 16 ∷ b 17 ∷ b 18 ∷ b 19 ∷ b 20 ∷ b 21 ∷ b 22 ∷ b 23 ∷ []

module _ (m : ℕ) (b : ℕ → ℕ) (fits : (i : ℕ) → b i < 256) where
  abbrev cells : List ℕ
  cells = cells_by b

  -- the bytes from 16 on, in a version
  abbrev Ends : ℕ → Type 0
  Ends v = (b 16 ≡ check_of v (number (b 2) (b 3)) / 256) × (b 17 ≡ check_of v (number (b 2) (b 3)) % 256)
      × (b 18 ≡ 0) × (b 19 ≡ 0) × (b 20 ≡ 0) × (b 21 ≡ 0) × (b 22 ≡ 0) × (b 23 ≡ 0)

  ends_one : all_zero (reserved_in 1 cells) ≡ true → Ends 1
  ends_one e = let z = zero_at (reserved_in 1 cells) e in (z 0, z 1, z 2, z 3, z 4, z 5, z 6, z 7)

  ends_two : all_zero (reserved_in 2 cells) ≡ true → check_in cells ≡ 65535 - id_in cells → Ends 2
  ends_two e check = let z = zero_at (reserved_in 2 cells) e in
      (sym (high (b 16) (b 17) (fits 17)) ∙ ap (λ n. n / 256) check, sym (low (b 16) (b 17) (fits 17)) ∙ ap (λ n. n % 256) check, z 0, z 1, z 2, z 3, z 4, z 5)

  -- the bytes of a version, header and packet that were read off the cells
  same_cells : (kind : Kind) → b 0 ≡ kind_byte kind → Ends (b 15) → cells ≡ frame (b 15) (header_of kind cells) (packet_of cells)
  unfolding frame packet_of
  same_cells kind first ends =
      rw (
        high (b 2) (b 3) (fits 3),
        low (b 2) (b 3) (fits 3),
        high (b 4) (b 5) (fits 5),
        low (b 4) (b 5) (fits 5),
        high (b 6) (b 7) (fits 7),
        low (b 6) (b 7) (fits 7),
        wide_high (b 8 * 256 + b 9) (b 10 * 256 + b 11) (below (b 10) (b 11) (fits 10) (fits 11)),
        wide_low (b 8 * 256 + b 9) (b 10 * 256 + b 11) (below (b 10) (b 11) (fits 10) (fits 11)),
        high (b 8) (b 9) (fits 9),
        low (b 8) (b 9) (fits 9),
        high (b 10) (b 11) (fits 11),
        low (b 10) (b 11) (fits 11),
        high (b 12) (b 13) (fits 13),
        low (b 12) (b 13) (fits 13),
        first,
        ends.0,
        ends.1,
        ends.2,
        ends.3,
        ends.4,
        ends.5,
        ends.6,
        ends.7,
      ) refl

  zero_packet : all_zero (slice_range cells 4 15) ≡ true → IsZeroPacket (packet_of cells)
  unfolding packet_of
  zero_packet e = let z = zero_at (slice_range cells 4 15) e in
      let eq : (b 4 ≡ 0) × (b 5 ≡ 0) × (b 6 ≡ 0) × (b 7 ≡ 0) × (b 8 ≡ 0) × (b 9 ≡ 0) × (b 10 ≡ 0) × (b 11 ≡ 0) × (b 12 ≡ 0) × (b 13 ≡ 0) × (b 14 ≡ 0)
      = (z 0, z 1, z 2, z 3, z 4, z 5, z 6, z 7, z 8, z 9, z 10) in
      rw (eq.0, eq.1, eq.2, eq.3, eq.4, eq.5, eq.6, eq.7, eq.8, eq.9, eq.10) (refl, refl, refl, refl, refl)

  packet_zero : (kind : Kind) → packet_fits kind cells ≡ true → PacketFits kind (packet_of cells)
  unfolding packet_of
  packet_zero Plain e = tt
  packet_zero Carried e = tt
  packet_zero Probe e = zero_packet e
  packet_zero Init e = zero_packet e

  abbrev Found : ℕ × Header × Packet → Type 0
  Found x = IsFrame m cells x.0 x.1 x.2

  -- where the columns of a version are passed, the bytes are the frame of what is read off them
  found_at : (kind : Kind) (v : ℕ) (x : ℕ × Header × Packet) → b 15 ≡ v → b 0 ≡ kind_byte kind → version_fits kind v ≡ true → id_fits m v kind (id_in cells) ≡ true → channel_fits kind (b 1) ≡ true
      → packet_fits kind cells ≡ true → Ends v → read (v, header_of kind cells, packet_of cells) ≡ read x → Found x
  found_at kind v x is first w t c k ends e =
      let here : IsFrame m cells (b 15) (header_of kind cells) (packet_of cells) = record {
        canonical = record {
          version = subst (λ (n : ℕ). version_fits kind n ≡ true) (sym is) w;
          id = subst (λ (n : ℕ). id_fits m n kind (id_in cells) ≡ true) (sym is) t;
          channel = c;
          packet = packet_zero kind k;
        };
        spelled = same_cells kind first (subst Ends (sym is) ends);
      } in
      subst Found (ap (read_or x) e) (subst (λ (n : ℕ). IsFrame m cells n (header_of kind cells) (packet_of cells)) is here)

  found_one : (kind : Kind) (x : ℕ × Header × Packet) → b 0 ≡ kind_byte kind → b 15 ≡ 1 → version_fits kind 1 ≡ true → columns_decoded m cells 1 kind ≡ Ok x → Found x
  found_one kind x first is w e =
      go (id_fits m 1 kind (id_in cells)) refl (channel_fits kind (b 1)) refl (packet_fits kind cells) refl (all_zero (reserved_in 1 cells)) refl
    where
      go : (t : Bool) → id_fits m 1 kind (id_in cells) ≡ t → (u : Bool) → channel_fits kind (b 1) ≡ u → (v : Bool) → packet_fits kind cells ≡ v → (r : Bool) → all_zero (reserved_in 1 cells) ≡ r → Found x
      go false t u c v k r z = let bad = rw t at e in absurd (cc)
      go true t false c v k r z = let bad = rw (t, c) at e in absurd (cc)
      go true t true c false k r z = let bad = rw (t, c, k) at e in absurd (cc)
      go true t true c true k false z = let bad = rw (t, c, k, z) at e in absurd (cc)
      go true t true c true k true z = found_at kind 1 x is first w t c k (ends_one z) (rw (t, c, k, z) at e)

  found_two : (kind : Kind) (x : ℕ × Header × Packet) → b 0 ≡ kind_byte kind → b 15 ≡ 2 → version_fits kind 2 ≡ true → columns_decoded m cells 2 kind ≡ Ok x → Found x
  found_two kind x first is w e =
      go (id_fits m 2 kind (id_in cells)) refl (channel_fits kind (b 1)) refl (packet_fits kind cells) refl (all_zero (reserved_in 2 cells)) refl (check_in cells == 65535 - id_in cells) refl
    where
      go : (t : Bool) → id_fits m 2 kind (id_in cells) ≡ t → (u : Bool) → channel_fits kind (b 1) ≡ u → (v : Bool) → packet_fits kind cells ≡ v → (r : Bool) → all_zero (reserved_in 2 cells) ≡ r
          → (s : Bool) → (check_in cells == 65535 - id_in cells) ≡ s → Found x
      go false t u c v k r z s y = let bad = rw t at e in absurd (cc)
      go true t false c v k r z s y = let bad = rw (t, c) at e in absurd (cc)
      go true t true c false k r z s y = let bad = rw (t, c, k) at e in absurd (cc)
      go true t true c true k false z s y = let bad = rw (t, c, k, z) at e in absurd (cc)
      go true t true c true k true z false y = let bad = rw (t, c, k, z, y) at e in absurd (cc)
      go true t true c true k true z true y = found_at kind 2 x is first w t c k (ends_two z (eqb-true _ _ y)) (rw (t, c, k, z, y) at e)

  found_version : (kind : Kind) (x : ℕ × Header × Packet) → b 0 ≡ kind_byte kind → kind_decoded m cells (Some kind) ≡ Ok x → Found x
  found_version kind x first e = go (version_fits kind (b 15)) refl
    where
      By : ℕ → Type 0
      By v = b 15 ≡ v → version_fits kind v ≡ true → columns_decoded m cells v kind ≡ Ok x → Found x

      go : (t : Bool) → version_fits kind (b 15) ≡ t → Found x
      go true t = one_or_two (b 15) By (either kind (b 15) t) (found_one kind x first) (found_two kind x first) refl t (rw t at e)
      go false t = let bad = rw t at e in absurd (cc)

  found_cells : (x : ℕ × Header × Packet) → decoded m cells ≡ Ok x → Found x
  unfolding decoded
  found_cells x e = go (b 0 == 0) refl (b 0 == 1) refl (b 0 == 2) refl (b 0 == 3) refl
    where
      go : (s : Bool) → (b 0 == 0) ≡ s → (t : Bool) → (b 0 == 1) ≡ t → (u : Bool) → (b 0 == 2) ≡ u → (v : Bool) → (b 0 == 3) ≡ v → Found x
      go true i t j u k v l = found_version Plain x (eqb-true _ _ i) (rw i at e)
      go false i true j u k v l = found_version Carried x (eqb-true _ _ j) (rw (i, j) at e)
      go false i false j true k v l = found_version Probe x (eqb-true _ _ k) (rw (i, j, k) at e)
      go false i false j false k true l = found_version Init x (eqb-true _ _ l) (rw (i, j, k, l) at e)
      go false i false j false k false l = let bad = rw (i, j, k, l) at e in absurd (cc)

-- ---- a list of 24 bytes is its cells

tail_at : ℕ → List ℕ → List ℕ
tail_at zero bs = bs
tail_at (suc i) bs = drop 1 (tail_at i bs)

abbrev cells_of : ℕ → List ℕ → List ℕ
cells_of zero bs = []
cells_of (suc n) bs = get_or bs 0 0 ∷ cells_of n (drop 1 bs)

cells_all : (n : ℕ) (bs : List ℕ) → length bs ≡ n → bs ≡ cells_of n bs
cells_all zero [] e = refl
cells_all zero (x ∷ xs) e = absurd (omega arith)
cells_all (suc n) [] e = absurd (omega arith)
cells_all (suc n) (x ∷ xs) e = let less : length xs ≡ n = omega arith in ap (λ ys. x ∷ ys) (cells_all n xs less)

bytes_drop : (bs : List ℕ) → IsBytes bs → IsBytes (drop 1 bs)
bytes_drop [] h i = omega arith
bytes_drop (x ∷ xs) h i = h (suc i)

bytes_tail : (bs : List ℕ) → IsBytes bs → (i : ℕ) → IsBytes (tail_at i bs)
unfolding tail_at
bytes_tail bs h zero = h
bytes_tail bs h (suc i) = bytes_drop (tail_at i bs) (bytes_tail bs h i)

-- what holds of any 24 cells holds of 24 bytes
pub by_cells : (P : List ℕ → Type 0) → ((b : ℕ → ℕ) → ((i : ℕ) → b i < 256) → P (cells_by b)) → (bs : List ℕ) → length bs ≡ 24 → IsBytes bs → P bs
unfolding tail_at
by_cells P all bs l bytes = subst P (sym (cells_all 24 bs l)) (all (λ i. get_or (tail_at i bs) 0 0) (λ i. bytes_tail bs bytes i 0))

-- what is decoded is the frame of it
pub frame-spelled : (bits : ℕ) (bytes : List ℕ) (v : ℕ) (h : Header) (p : Packet) → IsBytes bytes → decoded bits bytes ≡ Ok (v, h, p) → IsFrame bits bytes v h p
unfolding decoded
frame-spelled m bs v h p bytes e = go (length bs == 24) refl
  where
    go : (t : Bool) → (length bs == 24) ≡ t → IsFrame m bs v h p
    go false t = let bad = rw t at e in absurd (cc)
    go true t = by_cells (λ (xs : List ℕ). decoded m xs ≡ Ok (v, h, p) → IsFrame m xs v h p) (λ b fits. found_cells m b fits (v, h, p))
        bs (eqb-true (length bs) 24 t) bytes e

pub frame-found : (bits : ℕ) (bytes : List ℕ) (r : Result (ℕ × Header × Packet) WireFault) → IsBytes bytes → r ≡ decoded bits bytes
    → IfOk r (λ read. IsFrame bits bytes read.0 read.1 read.2)
frame-found bits bytes (Ok x) fits e = frame-spelled bits bytes x.0 x.1 x.2 fits (sym e)
frame-found bits bytes (Err fault) fits e = tt

-- what 24 bytes say, by their kind
pub decoded_by : (bits : ℕ) (bytes : List ℕ) (kind : Kind) → length bytes ≡ 24 → kind_of (slice_index bytes 0) ≡ Some kind
    → decoded bits bytes ≡ kind_decoded bits bytes (Some kind)
unfolding decoded
decoded_by bits bytes kind l e = rw (l, e) refl

pub decoded_none : (bits : ℕ) (bytes : List ℕ) → length bytes ≡ 24 → kind_of (slice_index bytes 0) ≡ None → decoded bits bytes ≡ Err E2
unfolding decoded
decoded_none bits bytes l e = rw (l, e) refl

-- what one frame is of is one
pub frame-unique : (bits : ℕ) (bytes : List ℕ) (v w : ℕ) (h g : Header) (p q : Packet) → IsFrame bits bytes v h p → IsFrame bits bytes w g q → (v ≡ w) × (h ≡ g) × (p ≡ q)
frame-unique bits bytes v w h g p q f o = let same : read (v, h, p) ≡ read (w, g, q) = sym (frame-read bits bytes v h p f) ∙ frame-read bits bytes w g q o in
    let one = read_or (v, h, p) in (ap (λ r. (one r).0) same, ap (λ r. (one r).1) same, ap (λ r. (one r).2) same)
