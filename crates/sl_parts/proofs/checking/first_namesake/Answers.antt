use Rattle.std.proofs.Common.{◌≡◌, ℕ, List, Bool, get_or, take, sym, ap, ◌∙◌}
use Rattle.std.specs.List.{list_any}
use Rattle.std.specs.Prelude.{bytes_eq}
use Rattle.sl_parts.proofs.Clash.{clash_here, clash_later}
use Rattle.sl_parts.proofs.checking.first_namesake.Goals as goal

abbrev is_named : {A : Type 0} → (A → List ℕ) → List A → A → Bool
is_named name earlier part = list_any (λ e. bytes_eq (name e) (name part)) earlier

-- whether the part at a place has the name of an earlier one
named : {A : Type 0} (name : A → List ℕ) (parts : List A) (i : ℕ) (part : A) (told answer : Bool) → part ≡ get_or parts i part → told ≡ is_named name (take i parts) part → told ≡ answer
    → is_named name (take i parts) (get_or parts i part) ≡ answer
named name parts i part told answer at is tested = ap (is_named name (take i parts)) (sym at) ∙ sym is ∙ tested

pub returns-then-is_named : goal.returns-then-is_named
returns-then-is_named g c =
    let here = named g.P.Named.name_of c.args.parts.now c.loop-i.i c.index-parts-i.result _ _ c.index-parts-i.is c.is_named.ensures c.if-is_named.true in
    sym (clash_here (is_named g.P.Named.name_of) c.args.parts.now c.loop-i.i c.index-parts-i.result c.loop-i-test.true here) ∙ c.loop-i.invariant

pub loop-i-preserved : goal.loop-i-preserved
loop-i-preserved g c =
    let later = named g.P.Named.name_of c.args.parts.now c.loop-i.i c.index-parts-i.result _ _ c.index-parts-i.is c.is_named.ensures c.if-is_named.false in
    clash_later (is_named g.P.Named.name_of) c.args.parts.now c.loop-i.i c.index-parts-i.result c.loop-i-test.true later ∙ c.loop-i.invariant
