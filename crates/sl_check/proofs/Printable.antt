-- Spellings have no newline.
use Rattle.std.proofs.Common.{◌≡◌, ℕ, zero, suc, ◌+◌, ◌-◌, ◌<◌, ◌/◌, ◌%◌, List, [], ◌∷◌, ◌++◌, map, true, false, Bool, not, refl, sym, ap, ◌∙◌, arith}
use Rattle.std.specs.Prelude.{codes, decimal, ◌==◌, nat_lt, if◌then◌else◌, slice_index_or}
use Rattle.std.specs.List.{All, list_all}
use Rattle.std.specs.Fmt.{digits, digits_onto, digit_glyph}
use Rattle.std.proofs.lemmas.Bool.{and_parts, lt-ltb}
use Rattle.std.proofs.lemmas.List.Elements.{All-head, All-tail}
use Rattle.sl_layout.specs.declared.actor.Side.{Side}
use Rattle.sl_layout.specs.declared.actor.Side.TheVariants.{Ingress, Egress}
use Rattle.sl_layout.specs.declared.actor.ActorId.{ActorId}
use Rattle.sl_layout.specs.declared.actor.ActorId.TheVariants.{Observer, Control, Unit as OfUnit, Host as OfHost}
use Rattle.sl_layout.specs.declared.actor.Sort.{Sort}
use Rattle.sl_layout.specs.declared.actor.Sort.TheVariants.{FromHost, ToHost, Cable, Crossbar, Init, Poll, Notice, Dump, Begin, Done}
use Rattle.sl_parts.specs.Parts.{Parts}
use Rattle.sl_parts.specs.Text.{IsName, is_name_byte}
use Rattle.sl_layout.specs.Net.{Net, actor_of, link_of, link_at, action_choice}
use Rattle.sl_net.specs.Spelling.{device_name, host_name, side_text, actor_text, sender_text, port_of, link_word, link_rest, link_text, action_text, choice_word, choice_text}
use Rattle.sl_net.specs.Names.{HasNames}
use Rattle.sl_check.specs.Lines.{IsLine}
use Rattle.sl_layout.proofs.Sorts.{by_sort}

pub line-append : (xs ys : List ℕ) → IsLine xs → IsLine ys → IsLine (xs ++ ys)
line-append [] ys h k = k
line-append (x ∷ xs) ys h k = (h.0, line-append xs ys h.1 k)

-- a name has no newline
all_name : (text : List ℕ) → list_all is_name_byte text ≡ true → IsLine text
all_name [] k = tt
all_name (x ∷ xs) k = let p = and_parts (is_name_byte x) (list_all is_name_byte xs) k in
    ((λ e. let z : true ≡ is_name_byte 10 = sym p.0 ∙ ap is_name_byte e in cc), all_name xs p.1)

pub name-line : (text : List ℕ) → IsName text → IsLine text
name-line text n = all_name text n.each

named_at : {A : Type 0} (name : A → List ℕ) (xs : List A) (i : ℕ) → All (λ x. IsName (name x)) xs → IsLine (slice_index_or (map name xs) i [])
named_at name [] i all = tt
named_at name (x ∷ xs) zero all = all_name (name x) (All-head (λ x. IsName (name x)) x xs all).each
named_at name (x ∷ xs) (suc i) all = named_at name xs i (All-tail (λ x. IsName (name x)) x xs all)

-- digits are no newline
glyph : (d : ℕ) → d < 10 → digit_glyph false d ≡ 10 → ⊥
glyph d h e = let g : digit_glyph false d ≡ 48 + d = ap (λ b. if b then 48 + d else (if false then 55 + d else 87 + d)) (lt-ltb d 10 h) in omega (arith, g, e)

onto : (k n : ℕ) (acc : List ℕ) → IsLine acc → IsLine (digits_onto k 10 false n acc)
onto zero n acc h = h
onto (suc k) n acc h = go (n / 10 == 0) (glyph (n % 10) (omega arith), h) (λ more. onto k (n / 10) (digit_glyph false (n % 10) ∷ acc) more)
  where
    go : (b : Bool) → IsLine (digit_glyph false (n % 10) ∷ acc) → (IsLine (digit_glyph false (n % 10) ∷ acc) → IsLine (digits_onto k 10 false (n / 10) (digit_glyph false (n % 10) ∷ acc)))
        → IsLine (if b then digit_glyph false (n % 10) ∷ acc else digits_onto k 10 false (n / 10) (digit_glyph false (n % 10) ∷ acc))
    go true more on = more
    go false more on = on more

pub decimal-line : (n : ℕ) → IsLine (decimal n)
unfolding digits
decimal-line n = onto 64 n [] tt

-- a text of codes whose bytes are told apart from a newline
abbrev pub has_no_newline : List ℕ → Bool
has_no_newline text = list_all (λ b. not (b == 10)) text

pub line_of_test : (text : List ℕ) → has_no_newline text ≡ true → IsLine text
line_of_test [] k = tt
line_of_test (x ∷ xs) k = let p = and_parts (not (x == 10)) (has_no_newline xs) k in
    ((λ e. let z : true ≡ not (10 == 10) = sym p.0 ∙ ap (λ (m : ℕ). not (m == 10)) e in cc), line_of_test xs p.1)

side-line : (s : Side) → IsLine (side_text s)
side-line Ingress = line_of_test (codes "in") refl
side-line Egress = line_of_test (codes "out") refl

device-line : (parts : Parts) (d : ℕ) → HasNames parts → IsLine (device_name parts d)
device-line parts d names = named_at (λ part. part.name) parts.devices d names.devices

host-line : (parts : Parts) (h : ℕ) → HasNames parts → IsLine (host_name parts h)
host-line parts h names = named_at (λ part. part.name) parts.hosts h names.hosts

pub actor-line : (parts : Parts) (a : ActorId) → HasNames parts → IsLine (actor_text parts a)
actor-line parts Observer names = line_of_test (codes "observer") refl
actor-line parts (Control d) names = line-append (codes "control ") (device_name parts d) (line_of_test (codes "control ") refl) (device-line parts d names)
actor-line parts (OfUnit u) names = line-append (side_text u.side) (codes " " ++ (device_name parts u.device ++ (codes "." ++ decimal u.port))) (side-line u.side)
    (line-append (codes " ") (device_name parts u.device ++ (codes "." ++ decimal u.port)) (line_of_test (codes " ") refl)
    (line-append (device_name parts u.device) (codes "." ++ decimal u.port) (device-line parts u.device names)
    (line-append (codes ".") (decimal u.port) (line_of_test (codes ".") refl) (decimal-line u.port))))
actor-line parts (OfHost h) names = line-append (codes "host ") (host_name parts h) (line_of_test (codes "host ") refl) (host-line parts h names)

sender-line : (parts : Parts) (a : ActorId) → HasNames parts → IsLine (sender_text parts a)
sender-line parts Observer names = tt
sender-line parts (Control d) names = device-line parts d names
sender-line parts (OfUnit u) names = line-append (side_text u.side) (codes "." ++ decimal u.port) (side-line u.side) (line-append (codes ".") (decimal u.port) (line_of_test (codes ".") refl) (decimal-line u.port))
sender-line parts (OfHost h) names = tt

word-line : (s : Sort) → has_no_newline (link_word s) ≡ true
word-line = by_sort (λ s. has_no_newline (link_word s) ≡ true) refl refl refl refl refl refl refl refl refl refl

rest-line : (parts : Parts) (a : ActorId) (s : Sort) → HasNames parts → IsLine (link_rest parts a s)
rest-line parts a Crossbar names = decimal-line (port_of a)
rest-line parts a Notice names = sender-line parts a names
rest-line parts a Dump names = sender-line parts a names
rest-line parts a Done names = sender-line parts a names
rest-line parts a FromHost names = tt
rest-line parts a ToHost names = tt
rest-line parts a Cable names = tt
rest-line parts a Init names = tt
rest-line parts a Poll names = tt
rest-line parts a Begin names = tt

action-line : (a : ActorId) (n : ℕ) → IsLine (action_text a n)
action-line Observer n = go (n == 0)
  where
    go : (b : Bool) → IsLine (if b then codes "issue" else codes "resend")
    go true = line_of_test (codes "issue") refl
    go false = line_of_test (codes "resend") refl
action-line (Control d) n = line_of_test (codes "sweep") refl
action-line (OfUnit u) n = tt
action-line (OfHost h) n = line_of_test (codes "inject") refl

pub spelled-line : (net : Net) → HasNames net.parts → (a c : ℕ) → IsLine (choice_text net a c)
spelled-line net names a c = line-append (actor_text net.parts (actor_of net a)) (codes " " ++ choice_word net a c) (actor-line net.parts (actor_of net a) names)
    (line-append (codes " ") (choice_word net a c) (line_of_test (codes " ") refl) (go (nat_lt c (action_choice net a))))
  where
    go : (b : Bool) → IsLine (if b then link_text net.parts (actor_of net (link_of net (link_at net a c)).from) (link_of net (link_at net a c)).sort
        else action_text (actor_of net a) (c - action_choice net a))
    go true = let s = (link_of net (link_at net a c)).sort in line-append (link_word s) (link_rest net.parts (actor_of net (link_of net (link_at net a c)).from) s)
        (line_of_test (link_word s) (word-line s)) (rest-line net.parts (actor_of net (link_of net (link_at net a c)).from) s names)
    go false = action-line (actor_of net a) (c - action_choice net a)
