-- The book of a run is the only one.
use Rattle.std.proofs.Common.{◌≡◌, ℕ, List, [], ◌∷◌, ◌++◌, length, take, drop, refl, sym, subst, ap, ◌∙◌}
use Rattle.std.proofs.lemmas.List.{length-map, take-append-drop}
use Rattle.std.specs.List.{range_with_len}
use Rattle.sl_machine.specs.declared.wiring.Entry.{Entry as BookEntry}
use Rattle.sl_net.specs.Input.{Input}
use Rattle.sl_model.specs.History.{Losses}
use Rattle.sl_model.specs.Setup.{setup_of}
use Rattle.sl_model.specs.World.{Entry, world}
use Rattle.sl_model.specs.Books.{schedule_of, numbers_of}
use Rattle.sl_model.specs.End.{IsFin}
use Rattle.sl_model.specs.Finished.{IsBookOfRun}
use Rattle.sl_model.proofs.Finishing.Fuel.{one-finishing}

-- a book is told by its turns and their numbers
same-entry : (x y : BookEntry) → x.number ≡ y.number → x.actor ≡ y.actor → x.choice ≡ y.choice → x ≡ y
same-entry x y n a c = λ i. record { number = n i; actor = a i; choice = c i }

same-book : (a b : List BookEntry) → schedule_of a ≡ schedule_of b → numbers_of a ≡ numbers_of b → a ≡ b
same-book [] [] s n = refl
same-book [] (y ∷ b) s n = absurd cc
same-book (x ∷ a) [] s n = absurd cc
same-book (x ∷ a) (y ∷ b) s n =
    let turn : ◌≡◌ {A = Entry} (x.actor, x.choice) (y.actor, y.choice) = cc in
    let number : x.number ≡ y.number = cc in
    let turns : schedule_of a ≡ schedule_of b = cc in
    let numbers : numbers_of a ≡ numbers_of b = cc in
    let head = same-entry x y number (ap (λ (e : Entry). e.0) turn) (ap (λ (e : Entry). e.1) turn) in
    let rest = same-book a b turns numbers in
    λ i. head i ∷ rest i

pub one-book : (i : Input) (lost : Losses) (a b : List BookEntry) (m n : ℕ) → IsBookOfRun i lost a m → IsBookOfRun i lost b n → (a ≡ b) × (m ≡ n)
one-book i lost a b m n p q = (same-book a b turns numbers, counts)
  where
    counts : m ≡ n
    counts = p.count ∙ sym q.count

    fronts : take m (schedule_of a) ≡ take n (schedule_of b)
    fronts = p.script ∙ sym q.script

    rests : drop m (schedule_of a) ≡ drop n (schedule_of b)
    rests = one-finishing (setup_of i) lost (world (setup_of i) lost (take m (schedule_of a))) _ _ p.finishing
        (subst (λ (es : List Entry). IsFin (setup_of i) lost (world (setup_of i) lost es) (drop n (schedule_of b))) (sym fronts) q.finishing)

    turns : schedule_of a ≡ schedule_of b
    turns = sym (take-append-drop m (schedule_of a)) ∙ ap (λ es. es ++ drop m (schedule_of a)) fronts ∙ ap (λ es. take n (schedule_of b) ++ es) rests ∙ take-append-drop n (schedule_of b)

    lengths : length a ≡ length b
    lengths = sym (length-map a (λ (e : BookEntry). (e.actor, e.choice))) ∙ ap length turns ∙ length-map b (λ (e : BookEntry). (e.actor, e.choice))

    numbers : numbers_of a ≡ numbers_of b
    numbers = p.numbers ∙ ap (range_with_len 1) lengths ∙ sym q.numbers
