-- The packets of the frames that a host sends.
use Rattle.std.proofs.Common.{◌≡◌, ℕ, ◌+◌, ◌*◌, ◌/◌, ◌%◌, ◌<◌, List, [], ◌∷◌, ◌++◌, length, refl, ap, ◌∙◌, take, get_or, map, Some, arith}
use Rattle.std.specs.Prelude.{filter, ◌==◌, true, false, cond}
use Rattle.std.proofs.lemmas.List.{map-append, take_more}
use Rattle.std.proofs.lemmas.List.Elements.{filter-append}
use Rattle.sl_net.specs.declared.input.Packet.{Packet}
use Rattle.sl_net.specs.declared.input.RawPart.{RawPart}
use Rattle.sl_flow.specs.Flow.{packets_of}
use Rattle.sl_model.specs.Frame.{plain_frame, packet_of}
use Rattle.sl_model.specs.Setup.{Setup, frames_of}
use Rattle.sl_poll.specs.Ways.{packets_in, raws_in}

pub raws_more : (rs : List RawPart) (h i : ℕ) (none : RawPart) → i < length rs
    → raws_in (take (i + 1) rs) h ≡ raws_in (take i rs) h ++ cond ((get_or rs i none).from == h) (packet_of (get_or rs i none).bytes ∷ []) []
raws_more rs h i none l = let r = get_or rs i none in
    ap (λ gs. raws_in gs h) (take_more rs i none l) ∙ ap (map (λ (r : RawPart). packet_of r.bytes)) (filter-append (λ (g : RawPart). g.from == h) (take i rs) (r ∷ []))
    ∙ map-append (λ (r : RawPart). packet_of r.bytes) (filter (λ g. g.from == h) (take i rs)) (cond (r.from == h) (r ∷ []) [])
    ∙ ap (λ t. raws_in (take i rs) h ++ t) (elim (r.from == h) as (λ b. map (λ (r : RawPart). packet_of r.bytes) (cond b (r ∷ []) []) ≡ cond b (packet_of r.bytes ∷ []) []) [ true ↦ refl | false ↦ refl ])

-- a packet's plain frame is that of the packet
pub plain-packet : (p : Packet) → packet_of (plain_frame p) ≡ Some p
unfolding plain_frame packet_of
plain-packet p =
    let src : 256 * (p.src / 256) + p.src % 256 ≡ p.src = omega arith in
    let dst : 256 * (p.dst / 256) + p.dst % 256 ≡ p.dst = omega arith in
    let high : 256 * (p.seq / 65536 / 256) + p.seq / 65536 % 256 ≡ p.seq / 65536 = omega arith in
    let low : 256 * (p.seq % 65536 / 256) + p.seq % 65536 % 256 ≡ p.seq % 65536 = omega arith in
    let seq : 65536 * (256 * (p.seq / 65536 / 256) + p.seq / 65536 % 256) + (256 * (p.seq % 65536 / 256) + p.seq % 65536 % 256) ≡ p.seq = omega (arith, high, low) in
    let len : 256 * (p.len / 256) + p.len % 256 ≡ p.len = omega arith in
    λ i. Some (record { src = src i; dst = dst i; seq = seq i; len = len i; hops = p.hops })

plain-all : (ps : List Packet) → map packet_of (map plain_frame ps) ≡ packets_in ps
plain-all [] = refl
plain-all (p ∷ ps) = ap (λ q. q ∷ map packet_of (map plain_frame ps)) (plain-packet p) ∙ ap (λ r. Some p ∷ r) (plain-all ps)

raws-all : (rs : List RawPart) → map packet_of (map (λ r. r.bytes) rs) ≡ map (λ r. packet_of r.bytes) rs
raws-all [] = refl
raws-all (r ∷ rs) = ap (λ t. packet_of r.bytes ∷ t) (raws-all rs)

pub frames_are : (s : Setup) (h : ℕ) → map packet_of (frames_of s h) ≡ packets_in (packets_of s.flows h) ++ raws_in s.raws h
frames_are s h = let mine = filter (λ (r : RawPart). r.from == h) s.raws in
    map-append packet_of (map plain_frame (packets_of s.flows h)) (map (λ (r : RawPart). r.bytes) mine)
    ∙ ap (λ t. t ++ map packet_of (map (λ (r : RawPart). r.bytes) mine)) (plain-all (packets_of s.flows h)) ∙ ap (λ t. packets_in (packets_of s.flows h) ++ t) (raws-all mine)
