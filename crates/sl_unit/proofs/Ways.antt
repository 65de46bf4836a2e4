-- How many links the ways of a turn have: no more than the unit has.
use Rattle.std.proofs.Common.{◌≡◌, ℕ, suc, ◌+◌, ◌-◌, ◌≤◌, List, [], ◌∷◌, length, refl, sym, subst, ◌∙◌, Option, Some, None, arith, length-append, get_or, inl, inr}
use Rattle.std.specs.Prelude.{cond, true, false, Bool, filter, ◌⊎◌, ◌==◌, ◌&&◌, if◌then◌else◌}
use Rattle.std.proofs.lemmas.Bool.Decides.{eqb_tells}
use Rattle.std.proofs.lemmas.List.FromFn.{length-range_with_len}
use Rattle.sl_parts.specs.Parts.{below}
use Rattle.sl_layout.specs.declared.actor.Sort.{Sort}
use Rattle.sl_layout.specs.declared.actor.Sort.TheVariants as sort
use Rattle.sl_net.specs.declared.input.Packet.{Packet}
use Rattle.sl_layout.specs.Net.{same_sort, sort_number, same_actor, egress}
use Rattle.sl_parts.proofs.Lists.{length_filter_le}
use Rattle.sl_unit.specs.declared.wires.Exit.{Exit}
use Rattle.sl_unit.specs.declared.wires.Way.{Way}
use Rattle.sl_unit.specs.declared.wires.Way.TheVariants.{All, Toward}
use Rattle.sl_wire.specs.Carried.{framed}
use Rattle.sl_unit.specs.Wires.{Wires, leads, is_out, outs, no_exit, port_to}
use Rattle.sl_unit.specs.Registers.{Registers, more}
use Rattle.sl_wire.specs.Frames.{plain_header}
use Rattle.sl_machine.specs.Machine.{send_all}
use Rattle.sl_unit.specs.Step.{data_frame, probe_frame, onward, routed, passed, probed, initiated}
use Rattle.sl_unit.proofs.Outs.{length_sent}

pub outs_few : (way : Way) (exits : List Exit) → length (outs way exits) ≤ length exits
outs_few way exits = omega (arith, length_filter_le (is_out way exits) (below (length exits)), length-range_with_len 0 (length exits))

-- three tests of which nothing passes two
abbrev Apart : {A : Type 0} → (A → Bool) → (A → Bool) → Type 0
Apart {A} p q = (x : A) → p x ≡ true → q x ≡ false

pub three : {A : Type 0} (p q r : A → Bool) (xs : List A) → Apart p q → Apart p r → Apart q r → length (filter p xs) + (length (filter q xs) + length (filter r xs)) ≤ length xs
three p q r [] a b c = omega arith
three p q r (x ∷ xs) a b c = by_bools (p x) (q x) (r x) (a x) (b x) (c x) (three p q r xs a b c)
  where
    by_bools : (i j k : Bool) → (i ≡ true → j ≡ false) → (i ≡ true → k ≡ false) → (j ≡ true → k ≡ false)
        → length (filter p xs) + (length (filter q xs) + length (filter r xs)) ≤ length xs
        → length (cond i (x ∷ filter p xs) (filter p xs)) + (length (cond j (x ∷ filter q xs) (filter q xs)) + length (cond k (x ∷ filter r xs) (filter r xs))) ≤ suc (length xs)
    by_bools true true k a b c h = absurd (let z : true ≡ false = a refl in cc)
    by_bools true false true a b c h = absurd (let z : true ≡ false = b refl in cc)
    by_bools true false false a b c h = omega arith
    by_bools false true true a b c h = absurd (let z : true ≡ false = c refl in cc)
    by_bools false true false a b c h = omega arith
    by_bools false false true a b c h = omega arith
    by_bools false false false a b c h = omega arith

-- a number has one equal
pub one_number : (n a b : ℕ) → (n == a) ≡ true → (a == b) ≡ false → (n == b) ≡ false
one_number n a b h k = by_tells (eqb_tells n a)
  where
    by_tells : (((n == a) ≡ true) × (n ≡ a)) ⊎ (((n == a) ≡ false) × (n ≡ a → ⊥)) → (n == b) ≡ false
    by_tells (inl q) = subst (λ m. (m == b) ≡ false) (sym q.1) k
    by_tells (inr q) = absurd (let z : true ≡ false = sym h ∙ q.0 in cc)

abbrev pub sort_of : Way → Sort
sort_of (All s) = s
sort_of (Toward device port) = sort.Crossbar

first_true : (a b : Bool) → (a && b) ≡ true → a ≡ true
first_true true b h = refl
first_true false b h = h

first_false : (a b : Bool) → a ≡ false → (a && b) ≡ false
first_false true b h = absurd cc
first_false false b h = refl

has_sort : (way : Way) (e : Exit) → leads way e ≡ true → same_sort e.sort (sort_of way) ≡ true
has_sort (All s) e h = h
has_sort (Toward device port) e h = first_true (same_sort e.sort sort.Crossbar) (same_actor e.to (egress device port)) h

no_other : (way : Way) (e : Exit) → same_sort e.sort (sort_of way) ≡ false → leads way e ≡ false
no_other (All s) e h = h
no_other (Toward device port) e h = first_false (same_sort e.sort sort.Crossbar) (same_actor e.to (egress device port)) h

-- a link goes one of two ways of different sorts
pub ways_apart : (a b : Way) → same_sort (sort_of a) (sort_of b) ≡ false → (e : Exit) → leads a e ≡ true → leads b e ≡ false
ways_apart a b q e h = no_other b e (one_number (sort_number e.sort) (sort_number (sort_of a)) (sort_number (sort_of b)) (has_sort a e h) q)

pub three_ways : (a b c : Way) (exits : List Exit) → same_sort (sort_of a) (sort_of b) ≡ false → same_sort (sort_of a) (sort_of c) ≡ false → same_sort (sort_of b) (sort_of c) ≡ false
    → length (outs a exits) + (length (outs b exits) + length (outs c exits)) ≤ length exits
three_ways a b c exits x y z = omega (
  arith,
  three (is_out a exits) (is_out b exits) (is_out c exits) (below (length exits)) (λ n. ways_apart a b x (get_or exits n no_exit)) (λ n. ways_apart a c y (get_or exits n no_exit)) (λ n. ways_apart b c z (get_or exits n no_exit)),
  length-range_with_len 0 (length exits),
)

pub two_ways : (a b : Way) (exits : List Exit) → same_sort (sort_of a) (sort_of b) ≡ false → length (outs a exits) + length (outs b exits) ≤ length exits
two_ways a b exits x = omega (
  arith,
  three (is_out a exits) (is_out b exits) (λ n. false) (below (length exits)) (λ n. ways_apart a b x (get_or exits n no_exit)) (λ n t. refl) (λ n t. refl),
  length-range_with_len 0 (length exits),
)

-- With a notice.

pub routed_few : (w : Wires) (p : Packet) (r : Registers) → length (routed w p r).puts + length (outs (All sort.Notice) w.exits) ≤ length w.exits
routed_few w p r = by_hops (p.hops == 0) (by_port (port_to w p.dst))
  where
    by_port : (o : Option ℕ) → length (onward w p r o).puts + length (outs (All sort.Notice) w.exits) ≤ length w.exits
    by_port None = omega (arith, outs_few (All sort.Notice) w.exits)
    by_port (Some port) = omega (arith, two_ways (Toward w.device port) (All sort.Notice) w.exits refl, length_sent (data_frame w r (record p { hops = p.hops - 1 })) (outs (Toward w.device port) w.exits))

    by_hops : (b : Bool) → length (onward w p r (port_to w p.dst)).puts + length (outs (All sort.Notice) w.exits) ≤ length w.exits
        → length (if b then record { state = record r { expired = more r.expired 1 }; puts = [] } else onward w p r (port_to w p.dst)).puts + length (outs (All sort.Notice) w.exits) ≤ length w.exits
    by_hops true h = omega (arith, outs_few (All sort.Notice) w.exits)
    by_hops false h = h

pub passed_few : (w : Wires) (p : Packet) (r : Registers) → length (passed w p r).puts + length (outs (All sort.Notice) w.exits) ≤ length w.exits
passed_few w p r = let packets = outs (All sort.Cable) w.exits in let frames = outs (All sort.ToHost) w.exits in omega (
  arith,
  length-append (send_all (data_frame w r p) packets) (send_all (framed 1 plain_header p) frames),
  length_sent (data_frame w r p) packets,
  length_sent (framed 1 plain_header p) frames,
  three_ways (All sort.Cable) (All sort.ToHost) (All sort.Notice) w.exits refl refl refl,
)

pub probed_few : (w : Wires) (own : Bool) (r : Registers) → length (probed w own r).puts + length (outs (All sort.Notice) w.exits) ≤ length w.exits
probed_few w true r = omega (arith, two_ways (All sort.Cable) (All sort.Notice) w.exits refl, length_sent (probe_frame w r) (outs (All sort.Cable) w.exits))
probed_few w false r = omega (arith, outs_few (All sort.Notice) w.exits)

pub initiated_few : (w : Wires) (r : Registers) → length (initiated w r).puts + length (outs (All sort.Notice) w.exits) ≤ length w.exits
initiated_few w r = omega (arith, two_ways (All sort.Crossbar) (All sort.Notice) w.exits refl, length_sent (probe_frame w r) (outs (All sort.Crossbar) w.exits))
