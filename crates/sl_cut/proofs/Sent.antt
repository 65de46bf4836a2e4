-- What the parts of an end are: each of some places, and how many frames a host sends.
use Rattle.std.proofs.Common.{◌≡◌, ℕ, suc, ◌+◌, ◌<◌, List, [], ◌∷◌, length, get_or, map, filter, length-append, sym, ap, ◌∙◌, arith}
use Rattle.std.specs.Prelude.{count_by, ◌==◌}
use Rattle.std.proofs.lemmas.List.{length-map}
use Rattle.std.proofs.lemmas.List.Sums.{length-filter}
use Rattle.sl_net.specs.declared.input.Packet.{Packet}
use Rattle.sl_net.specs.declared.input.RawPart.{RawPart}
use Rattle.sl_flow.specs.Flow.{packets_of}
use Rattle.sl_model.specs.Frame.{plain_frame}
use Rattle.sl_parts.specs.Lists.{Each}
use Rattle.sl_model.specs.Setup.{Setup, frames_of}

pub each_of_places : (P : ℕ → Type 0) (xs : List ℕ) → ((k : ℕ) → k < length xs → P (get_or xs k 0)) → Each P xs
each_of_places P [] h = tt
each_of_places P (x ∷ xs) h = (h 0 (omega arith), each_of_places P xs (λ k p. h (suc k) (omega (arith, p))))

pub frames_counted : (s : Setup) (host : ℕ) (xs : List Packet) (rs : List RawPart) (n k : ℕ) → xs ≡ packets_of s.flows host → n ≡ length xs → rs ≡ s.raws
    → k ≡ count_by (λ r. r.from == host) rs → n + k ≡ length (frames_of s host)
frames_counted s host xs rs n k a b c d =
    let e : length (map plain_frame (packets_of s.flows host)) ≡ n = length-map (packets_of s.flows host) plain_frame ∙ sym (ap length a) ∙ sym b in
    let f : length (map (λ r. r.bytes) (filter (λ r. r.from == host) s.raws)) ≡ k =
    length-map (filter (λ r. r.from == host) s.raws) (λ r. r.bytes) ∙ length-filter (λ r. r.from == host) s.raws ∙ sym (ap (λ (l : List RawPart). count_by (λ r. r.from == host) l) c) ∙ sym d in
    sym (length-append (map plain_frame (packets_of s.flows host)) (map (λ r. r.bytes) (filter (λ r. r.from == host) s.raws)) ∙ ap (λ m. m + length (map (λ r. r.bytes) (filter (λ r. r.from == host) s.raws))) e ∙ ap (λ m. n + m) f)
