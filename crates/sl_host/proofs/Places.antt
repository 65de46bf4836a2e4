-- The place of a host's next message: among its packets, or among its raw frames.
use Rattle.std.proofs.Common.{◌≡◌, ℕ, zero, suc, ◌-◌, ◌<◌, ◌≤◌, List, [], ◌∷◌, ◌++◌, length, refl, ap, ◌∙◌, map, arith}
use Rattle.std.specs.Prelude.{Some, None, option_map, slice_get, min}
use Rattle.std.proofs.lemmas.List.{length-map}
use Rattle.std.proofs.lemmas.Option.{slice_get-map, slice_get_within}
use Rattle.sl_net.specs.declared.input.Packet.{Packet}
use Rattle.sl_wire.specs.Frames.{plain_frame}
use Rattle.sl_host.specs.Host.{messages}

in_front : {A : Type 0} (xs ys : List A) (i : ℕ) → i < length xs → slice_get (xs ++ ys) i ≡ slice_get xs i
in_front [] ys i h = absurd (omega arith)
in_front (x ∷ xs) ys zero h = refl
in_front (x ∷ xs) ys (suc i) h = in_front xs ys i (omega arith)

behind : {A : Type 0} (xs ys : List A) (i : ℕ) → length xs ≤ i → slice_get (xs ++ ys) i ≡ slice_get ys (i - length xs)
behind [] ys i h = let same : i ≡ i - 0 = omega arith in ap (slice_get ys) same
behind (x ∷ xs) ys zero h = absurd (omega arith)
behind (x ∷ xs) ys (suc i) h = let same : i - length xs ≡ suc i - length (x ∷ xs) = omega arith in behind xs ys i (omega arith) ∙ ap (slice_get ys) same

past : {A : Type 0} (xs : List A) (i : ℕ) → slice_get xs i ≡ None → length xs ≤ i
past [] i e = omega arith
past (x ∷ xs) zero e = cc
past (x ∷ xs) (suc i) e = omega (arith, past xs i e)

pub packet_is_next : (packets : List Packet) (raws : List (List ℕ)) (place sent : ℕ) (packet : Packet) → sent ≡ min place (length packets)
    → slice_get packets sent ≡ Some packet → slice_get (messages packets raws) place ≡ Some (plain_frame packet)
packet_is_next packets raws place sent packet e is =
    let within : sent < length packets = slice_get_within packets sent packet is in
    let same : place ≡ sent = omega (arith, e, within) in
    let listed : place < length (map plain_frame packets) = omega (arith, same, within, length-map packets plain_frame) in
    in_front (map plain_frame packets) raws place listed ∙ slice_get-map plain_frame packets place
    ∙ ap (λ i. option_map plain_frame (slice_get packets i)) same ∙ ap (option_map plain_frame) is

pub past_packets : (packets : List Packet) (place sent : ℕ) → sent ≡ min place (length packets) → slice_get packets sent ≡ None
    → length packets ≤ place
past_packets packets place sent e none = omega (arith, e, past packets sent none)

pub raw_is_next : (packets : List Packet) (raws : List (List ℕ)) (place : ℕ) → length packets ≤ place
    → slice_get (messages packets raws) place ≡ slice_get raws (place - length packets)
raw_is_next packets raws place h =
    behind (map plain_frame packets) raws place (omega (arith, length-map packets plain_frame))
    ∙ ap (λ n. slice_get raws (place - n)) (length-map packets plain_frame)
