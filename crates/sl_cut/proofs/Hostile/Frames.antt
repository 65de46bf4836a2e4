-- Messages with their bad frames blanked.
use Rattle.std.proofs.Common.{◌≡◌, ℕ, suc, ◌+◌, List, [], ◌∷◌, ◌++◌, refl, sym, ap, ◌∙◌, Option, Some, None}
use Rattle.std.specs.Prelude.{true, false, Bool, ◌||◌, ◌==◌, cond, if◌then◌else◌, map, filter, is_none, option_map, option_and_then}
use Rattle.std.proofs.lemmas.List.{map-append}
use Rattle.sl_net.specs.declared.input.Packet.{Packet}
use Rattle.sl_net.specs.declared.input.RawPart.{RawPart}
use Rattle.sl_flow.specs.Flow.{packets_of}
use Rattle.sl_model.specs.declared.message.Message.{Message}
use Rattle.sl_model.specs.declared.message.Message.TheVariants.{Host as HostMsg}
use Rattle.sl_model.specs.declared.message.Put.{Put}
use Rattle.sl_model.specs.Frame.{plain_frame, packet_of}
use Rattle.sl_model.specs.Words.{weigh}
use Rattle.sl_model.specs.History.{stamp_of, done_of, on_link, without_lost}
use Rattle.sl_model.specs.Counting.{counted_in, is_bad}
use Rattle.sl_model.specs.Knowledge.{puts_on, asks}
use Rattle.sl_model.specs.Setup.{Setup, frames_of}
use Rattle.sl_model.specs.Verdict.{is_old_data}
use Rattle.sl_model.specs.Cut.{data_count, data_bytes}
use Rattle.sl_layout.specs.Serving.{ServedUnit}
use Rattle.sl_cut.specs.Hostile.{blank, blank_message, blank_put}

abbrev pub blank_raw : RawPart → RawPart
blank_raw r = record { from = r.from; bytes = blank r.bytes }

abbrev pub blank_setup : Setup → Setup
blank_setup s = record s { raws = map blank_raw s.raws }

-- Frames.

no-bytes : packet_of [] ≡ None
unfolding packet_of
no-bytes = refl

pub packet-blank : (bytes : List ℕ) → packet_of (blank bytes) ≡ packet_of bytes
packet-blank bytes = by_packet (packet_of bytes) refl
  where
    by_packet : (o : Option Packet) → packet_of bytes ≡ o → packet_of (blank bytes) ≡ packet_of bytes
    by_packet None e = ap (λ o. packet_of (if is_none o then [] else bytes)) e ∙ no-bytes ∙ sym e
    by_packet (Some p) e = ap (λ o. packet_of (if is_none o then [] else bytes)) e

pub plain-packet : (p : Packet) → is_none (packet_of (plain_frame p)) ≡ false
unfolding packet_of plain_frame
plain-packet p = refl

pub plain-blank : (p : Packet) → blank (plain_frame p) ≡ plain_frame p
plain-blank p = ap (λ b. if b then [] else plain_frame p) (plain-packet p)

-- Messages.

pub stamp-blank : (m : Message) → stamp_of (blank_message m) ≡ stamp_of m
stamp-blank (HostMsg b) = refl
stamp-blank _ = refl

pub done-blank : (place : ℕ) (m : Message) → done_of place (blank_message m) ≡ done_of place m
done-blank place (HostMsg b) = refl
done-blank place _ = refl

pub counted-blank : (m : Message) → counted_in (blank_message m) ≡ counted_in m
counted-blank (HostMsg b) = packet-blank b
counted-blank _ = refl

pub count-blank : (m : Message) → data_count (blank_message m) ≡ data_count m
count-blank (HostMsg b) = refl
count-blank _ = refl

pub bytes-blank : (m : Message) → data_bytes (blank_message m) ≡ data_bytes m
bytes-blank (HostMsg b) = refl
bytes-blank _ = refl

-- a number that a message has, which may be there
pub through : {A : Type 0} (f : Message → Option A) → ((m : Message) → f (blank_message m) ≡ f m) → (o : Option Message)
    → option_and_then f (option_map blank_message o) ≡ option_and_then f o
through f e None = refl
through f e (Some m) = e m

pub bad-blank : (o : Option Message) → is_bad (option_map blank_message o) ≡ is_bad o
bad-blank None = refl
bad-blank (Some (HostMsg b)) = ap is_none (packet-blank b)
bad-blank (Some _) = refl

pub old-blank : (k : ℕ) (o : Option Message) → is_old_data k (option_map blank_message o) ≡ is_old_data k o
old-blank k None = refl
old-blank k (Some (HostMsg b)) = refl
old-blank k (Some _) = refl

pub asks-blank : (sweep : ℕ) (v : ServedUnit) (c : ℕ) (o : Option Message) → asks sweep v c (option_map blank_message o) ≡ asks sweep v c o
asks-blank sweep v c None = refl
asks-blank sweep v c (Some (HostMsg b)) = refl
asks-blank sweep v c (Some _) = refl

-- Lists of messages and puts.

pub weigh-blank : (f : Message → ℕ) → ((m : Message) → f (blank_message m) ≡ f m) → (ms : List Message) → weigh f (map blank_message ms) ≡ weigh f ms
weigh-blank f e [] = refl
weigh-blank f e (m ∷ ms) = λ i. e m i + weigh-blank f e ms i

pub lost-blank : (lost : ℕ → Bool) (n : ℕ) (ms : List Message) → without_lost lost n (map blank_message ms) ≡ map blank_message (without_lost lost n ms)
lost-blank lost n [] = refl
lost-blank lost n (m ∷ ms) = by_bool (lost (suc n)) (lost-blank lost (suc n) ms)
  where
    by_bool : (b : Bool) → without_lost lost (suc n) (map blank_message ms) ≡ map blank_message (without_lost lost (suc n) ms)
        → (if b then without_lost lost (suc n) (map blank_message ms) else blank_message m ∷ without_lost lost (suc n) (map blank_message ms))
        ≡ map blank_message (if b then without_lost lost (suc n) ms else m ∷ without_lost lost (suc n) ms)
    by_bool true e = e
    by_bool false e = ap (λ r. blank_message m ∷ r) e

pub on_link-blank : (l : ℕ) (ps : List Put) → on_link l (map blank_put ps) ≡ map blank_message (on_link l ps)
on_link-blank l [] = refl
on_link-blank l (p ∷ ps) = by_bool (p.link == l) (on_link-blank l ps)
  where
    by_bool : (b : Bool) → on_link l (map blank_put ps) ≡ map blank_message (on_link l ps)
        → cond b (blank_message p.message ∷ on_link l (map blank_put ps)) (on_link l (map blank_put ps)) ≡ map blank_message (cond b (p.message ∷ on_link l ps) (on_link l ps))
    by_bool true e = ap (λ r. blank_message p.message ∷ r) e
    by_bool false e = e

pub puts_on-blank : (l : ℕ) (ps : List Put) → puts_on l (map blank_put ps) ≡ puts_on l ps
puts_on-blank l [] = refl
puts_on-blank l (p ∷ ps) = ap (λ b. (p.link == l) || b) (puts_on-blank l ps)

-- What hosts send.

plain-frames : (ps : List Packet) → map blank (map plain_frame ps) ≡ map plain_frame ps
plain-frames [] = refl
plain-frames (p ∷ ps) = λ i. plain-blank p i ∷ plain-frames ps i

raw-frames : (h : ℕ) (rs : List RawPart) → map (λ r. r.bytes) (filter (λ r. r.from == h) (map blank_raw rs)) ≡ map blank (map (λ r. r.bytes) (filter (λ r. r.from == h) rs))
raw-frames h [] = refl
raw-frames h (r ∷ rs) = by_bool (r.from == h) (raw-frames h rs)
  where
    rest : List RawPart
    rest = filter (λ r. r.from == h) rs

    blanked : List RawPart
    blanked = filter (λ r. r.from == h) (map blank_raw rs)

    by_bool : (b : Bool) → map (λ r. r.bytes) blanked ≡ map blank (map (λ r. r.bytes) rest)
        → map (λ r. r.bytes) (cond b (blank_raw r ∷ blanked) blanked) ≡ map blank (map (λ r. r.bytes) (cond b (r ∷ rest) rest))
    by_bool true e = ap (λ x. blank r.bytes ∷ x) e
    by_bool false e = e

pub frames-blank : (s : Setup) (h : ℕ) → frames_of (blank_setup s) h ≡ map blank (frames_of s h)
frames-blank s h = (λ i. sym (plain-frames (packets_of s.flows h)) i ++ raw-frames h s.raws i)
    ∙ sym (map-append blank (map plain_frame (packets_of s.flows h)) (map (λ r. r.bytes) (filter (λ r. r.from == h) s.raws)))
