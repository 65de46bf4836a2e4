-- The puts of a turn go to places that are apart, and a turn keeps how the units are joined.
use Rattle.std.proofs.Common.{◌≡◌, ℕ, ◌<◌, ◌≤◌, List, [], ◌∷◌, ◌++◌, length, map, refl, sym, ap, subst, ◌∙◌, ◌⊎◌, inl, inr, arith, append-nil}
use Rattle.std.specs.Prelude.{Bool, true, false, not, ◌&&◌, ◌||◌, ◌==◌, nat_eq, cond, flat_map, Option}
use Rattle.std.specs.List.{AllByRecursion}
use Rattle.std.proofs.lemmas.Bool.{lt-ltb}
use Rattle.std.proofs.lemmas.Bool.Decides.{eqb_tells}
use Rattle.sl_machine.specs.Machine.{puts_on, is_fitting, send_all}
use Rattle.sl_wire.specs.declared.message.Msg.{Msg}
use Rattle.sl_wire.specs.declared.message.Msg.TheVariants.{Done as DoneMsg}
use Rattle.sl_wire.specs.Carried.{poll}
use Rattle.sl_saves.specs.declared.entry.View.{View}
use Rattle.sl_wire.specs.declared.message.Dump.{Dump}
use Rattle.sl_wire.specs.Sizes.{Lengths}
use Rattle.sl_control.specs.declared.known.Numbers.{Numbers}
use Rattle.sl_control.specs.declared.known.Known.{Known}
use Rattle.sl_control.specs.Control.{asked, is_asked, ask_by, ask_puts, numbers_told, answered, done_of, answer_by, is_taken, takes_dump, dump_by, dump_puts}
use Rattle.sl_control.specs.Joined.{AreApart, AreOuts, IsJoined, polls_of, choices_of}
use Rattle.sl_control.specs.declared.units.Sent.TheVariants.{Dump as DumpSent}
use Rattle.sl_control.proofs.EachUnit.{not-equal, dump-turn, no-turn}

-- How the units are joined.

keys-kept : (key : Known → ℕ) (f : Known → Known) → ((r : Known) → key (f r) ≡ key r) → (rs : List Known) → map key rs ≡ map key (map f rs)
keys-kept key f k [] = refl
keys-kept key f k (r ∷ rs) = ap (λ n. n ∷ map key rs) (sym (k r)) ∙ ap (λ ns. key (f r) ∷ ns) (keys-kept key f k rs)

each-kept : (P : ℕ → Type 0) (key : Known → ℕ) (f : Known → Known) → ((r : Known) → key (f r) ≡ key r) → (rs : List Known) → AllByRecursion (λ r. P (key r)) rs → AllByRecursion (λ r. P (key r)) (map f rs)
each-kept P key f k [] h = tt
each-kept P key f k (r ∷ rs) h = (subst P (sym (k r)) h.0, each-kept P key f k rs h.1)

kept : (outs : ℕ) (inits : List ℕ) (done : ℕ) (f : Known → Known) → ((r : Known) → (f r).wires ≡ r.wires) → (rs : List Known) → IsJoined outs inits done rs → IsJoined outs inits done (map f rs)
kept outs inits done f k rs h = record {
  inits_apart = h.inits_apart;
  polls_apart = subst (AreOuts outs) (keys-kept (λ r. r.wires.poll) f (λ r. ap (λ w. w.poll) (k r)) rs) h.polls_apart;
  dones_apart = each-kept (λ p. AreOuts outs (done ∷ p ∷ [])) (λ r. r.wires.poll) f (λ r. ap (λ w. w.poll) (k r)) rs h.dones_apart;
  notices_apart = subst AreApart (keys-kept (λ r. r.wires.notice) f (λ r. ap (λ w. w.notice) (k r)) rs) h.notices_apart;
  dumps_apart = subst AreApart (keys-kept (λ r. r.wires.dump) f (λ r. ap (λ w. w.dump) (k r)) rs) h.dumps_apart;
}

pub asked-joined : (outs : ℕ) (inits : List ℕ) (done : ℕ) (o : Option ℕ) (rs : List Known) → IsJoined outs inits done rs → IsJoined outs inits done (map (ask_by o) rs)
asked-joined outs inits done o rs h = kept outs inits done (ask_by o) (λ r. elim (is_asked o r) as (λ b. (cond b (asked r) r).wires ≡ r.wires) [ true ↦ refl | false ↦ refl ]) rs h

pub answered-joined : (outs : ℕ) (inits : List ℕ) (done : ℕ) (sizes : Lengths) (c : ℕ) (d : Dump) (rs : List Known) → IsJoined outs inits done rs → IsJoined outs inits done (map (dump_by sizes c d) rs)
answered-joined outs inits done sizes c d rs h = kept outs inits done (dump_by sizes c d) (λ r. elim (takes_dump sizes c d r) as (λ b. (cond b (answered (numbers_told sizes.bits d r) r) r).wires ≡ r.wires) [ true ↦ refl | false ↦ refl ]) rs h

-- Puts.

off : (x : ℕ) (ps : List (ℕ × Msg)) → AllByRecursion (λ y. y ≡ x → ⊥) (map (λ p. p.0) ps) → puts_on x ps ≡ false
off x [] h = refl
off x (p ∷ ps) h = ap (λ b. b || puts_on x ps) (not-equal p.0 x (λ e. h.0 (sym e))) ∙ off x ps h.1

pub fitting : (outs : ℕ) (ps : List (ℕ × Msg)) → AllByRecursion (λ x. x < outs) (map (λ p. p.0) ps) → AreApart (map (λ p. p.0) ps) → is_fitting outs ps ≡ true
fitting outs [] b a = refl
fitting outs (p ∷ ps) b a =
    ap (λ t. t && (not (puts_on p.0 ps) && is_fitting outs ps)) (lt-ltb p.0 outs b.0) ∙ ap (λ t. not t && is_fitting outs ps) (off p.0 ps a.0) ∙ fitting outs ps b.1 a.1

outs-sent : (m : Msg) (os : List ℕ) → os ≡ map (λ p. p.0) (send_all m os)
outs-sent m [] = refl
outs-sent m (o ∷ os) = ap (λ xs. o ∷ xs) (outs-sent m os)

pub inits-fit : (outs : ℕ) (m : Msg) (os : List ℕ) (b : Bool) → AreOuts outs os → is_fitting outs (cond b (send_all m os) []) ≡ true
inits-fit outs m os false h = refl
inits-fit outs m os true h = fitting outs (send_all m os) (subst (AllByRecursion (λ x. x < outs)) (outs-sent m os) h.below) (subst AreApart (outs-sent m os) h.apart)

-- Polls.

polls-hold : (P : ℕ → Type 0) (o : Option ℕ) (rs : List Known) → AllByRecursion P (polls_of rs) → AllByRecursion P (map (λ p. p.0) (flat_map (ask_puts o) rs))
polls-hold P o [] h = tt
polls-hold P o (r ∷ rs) h = by_bools (is_asked o r) r.waits (polls-hold P o rs h.1)
  where
    by_bools : (a w : Bool) → AllByRecursion P (map (λ p. p.0) (flat_map (ask_puts o) rs)) → AllByRecursion P (map (λ p. p.0) (cond a (cond w [] ((r.wires.poll, poll) ∷ [])) [] ++ flat_map (ask_puts o) rs))
    by_bools true true ih = ih
    by_bools true false ih = (h.0, ih)
    by_bools false w ih = ih

polls-apart : (o : Option ℕ) (rs : List Known) → AreApart (polls_of rs) → AreApart (map (λ p. p.0) (flat_map (ask_puts o) rs))
polls-apart o [] h = tt
polls-apart o (r ∷ rs) h = by_bools (is_asked o r) r.waits (polls-apart o rs h.1)
  where
    by_bools : (a w : Bool) → AreApart (map (λ p. p.0) (flat_map (ask_puts o) rs)) → AreApart (map (λ p. p.0) (cond a (cond w [] ((r.wires.poll, poll) ∷ [])) [] ++ flat_map (ask_puts o) rs))
    by_bools true true ih = ih
    by_bools true false ih = (polls-hold (λ y. y ≡ r.wires.poll → ⊥) o rs h.0, ih)
    by_bools false w ih = ih

pub asks-fit : (outs : ℕ) (o : Option ℕ) (rs : List Known) → AreOuts outs (polls_of rs) → is_fitting outs (flat_map (ask_puts o) rs) ≡ true
asks-fit outs o rs h = fitting outs (flat_map (ask_puts o) rs) (polls-hold (λ x. x < outs) o rs h.below) (polls-apart o rs h.apart)

-- Answers.

answer-fits : (outs done : ℕ) (n : Numbers) (view : View) (r : Known) (b : Bool) → r.again ≡ b → AreOuts outs (done ∷ r.wires.poll ∷ []) → is_fitting outs (answer_by done n view r) ≡ true
answer-fits outs done n view r true q h = subst (λ b. is_fitting outs ((done, DoneMsg (done_of n view r)) ∷ cond b ((r.wires.poll, poll) ∷ []) []) ≡ true) (sym q)
    (fitting outs ((done, DoneMsg (done_of n view r)) ∷ (r.wires.poll, poll) ∷ []) h.below h.apart)
answer-fits outs done n view r false q h = subst (λ b. is_fitting outs ((done, DoneMsg (done_of n view r)) ∷ cond b ((r.wires.poll, poll) ∷ []) []) ≡ true) (sym q)
    (fitting outs ((done, DoneMsg (done_of n view r)) ∷ []) (h.below.0, tt) (tt, tt))

pub answers-fit : (outs : ℕ) (sizes : Lengths) (done c : ℕ) (d : Dump) (rs : List Known) → AllByRecursion (λ r. AreOuts outs (done ∷ r.wires.poll ∷ [])) rs → AreApart (choices_of DumpSent rs) → is_fitting outs (flat_map (dump_puts sizes done c d) rs) ≡ true
answers-fit outs sizes done c d [] h a = refl
answers-fit outs sizes done c d (r ∷ rs) h a = by_tells (answers-fit outs sizes done c d rs h.1 a.1) (eqb_tells c r.wires.dump) (is_taken sizes d r)
  where
    put : Known → List (ℕ × Msg)
    put r = answer_by done (numbers_told sizes.bits d r) d.view r

    by_tells : is_fitting outs (flat_map (dump_puts sizes done c d) rs) ≡ true → ((nat_eq c r.wires.dump ≡ true) × (c ≡ r.wires.dump)) ⊎ ((nat_eq c r.wires.dump ≡ false) × (c ≡ r.wires.dump → ⊥)) → (b : Bool)
        → is_fitting outs (cond ((c == r.wires.dump) && b) (put r) [] ++ flat_map (dump_puts sizes done c d) rs) ≡ true
    by_tells ih (inr n) b = ap (λ t. is_fitting outs (cond (t && b) (put r) [] ++ flat_map (dump_puts sizes done c d) rs)) n.0 ∙ ih
    by_tells ih (inl e) false = ap (λ t. is_fitting outs (cond (t && false) (put r) [] ++ flat_map (dump_puts sizes done c d) rs)) e.0 ∙ ih
    by_tells ih (inl e) true = ap (λ t. is_fitting outs (cond (t && true) (put r) [] ++ flat_map (dump_puts sizes done c d) rs)) e.0
        ∙ ap (λ ps. is_fitting outs (put r ++ ps)) (no-turn DumpSent c (dump-turn sizes.bits sizes.ring done d) rs (subst (λ n. AllByRecursion (λ y. y ≡ n → ⊥) (choices_of DumpSent rs)) (sym e.1) a.0)).1
        ∙ ap (is_fitting outs) (append-nil (put r)) ∙ answer-fits outs done (numbers_told sizes.bits d r) d.view r r.again refl h.0

pub room-for-two : (outs done : ℕ) (rs : List Known) → AllByRecursion (λ r. AreOuts outs (done ∷ r.wires.poll ∷ [])) rs → 0 < length rs → 2 ≤ outs
room-for-two outs done [] h p = absurd (omega arith)
room-for-two outs done (r ∷ rs) h p = h.0.few

-- puts that are added to none
pub added-to-none : (n outs : ℕ) (old ps qs : List (ℕ × Msg)) → outs ≡ n → old ≡ [] → ps ≡ old ++ qs → is_fitting outs qs ≡ true → is_fitting n ps ≡ true
added-to-none n outs old ps qs o e p h = ap (λ m. is_fitting m ps) (sym o) ∙ ap (is_fitting outs) (p ∙ ap (λ xs. xs ++ qs) e) ∙ h
