-- Laws of legal schedules and of books: a schedule without its idle entries is legal and leads to the same world, and a
-- book grows by the entries that did something, numbered one after another.
use Rattle.std.specs.Prelude.{◌≡◌, ◌+◌, ◌-◌, ℕ, List, [], ◌∷◌, ◌++◌, length, Option, Some, None, if◌then◌else◌, unwrap_or, is_some, refl}
use Rattle.std.specs.Option.{option_and_then}
use Rattle.std.specs.List.{All}
use Rattle.std.proofs.Common.{◌≤◌, ◌<◌, get_or, subst, inl, inr, ap, sym, ◌∙◌, arith, append_assoc, append-nil}
use Rattle.std.proofs.lemmas.List.{length_push, get_or_push, get_or_append_left}
use Rattle.std.proofs.lemmas.Bool.{cases_eq}
use Rattle.std.proofs.Math.Seq.{get_or-append_seam}
use Rattle.sl_machine.specs.Machine.{Rules}
use Rattle.sl_machine.specs.declared.wiring.Entry.{Entry}
use Rattle.sl_world.specs.Scene.{Scene, last_number, entry_after, schedule_of, turn_of, after_all, run_of, kept}
use Rattle.sl_world.specs.Legal.{numbered_from}
use Rattle.sl_world.proofs.TurnLaws.{turn_is}

pub schedule_of-numbered_from : (n : ℕ) (es : List (ℕ × ℕ)) → schedule_of (numbered_from n es) ≡ es
schedule_of-numbered_from n [] = refl
schedule_of-numbered_from n (e ∷ es) = ap (λ (rest : List (ℕ × ℕ)). e ∷ rest) (schedule_of-numbered_from (n + 1) es)

-- one more entry has the next number
pub last_number-push : (book : List Entry) (actor choice : ℕ) → last_number (book ++ entry_after book actor choice ∷ []) ≡ last_number book + 1
last_number-push book actor choice =
    let none : Entry = record { number = 0; actor = 0; choice = 0 } in
    let new : List Entry = book ++ entry_after book actor choice ∷ [] in
    let long : length new ≡ length book + 1 = length_push book (entry_after book actor choice) in
    let last : length book ≡ length new - 1 = omega arith in
    ap (λ (e : Entry). e.number) (get_or_push book (entry_after book actor choice) none (length new - 1) last)

-- where no number is above n, the last one isn't
pub last_low : (book : List Entry) (n : ℕ) → All (λ (e : Entry). e.number ≤ n) book → last_number book ≤ n
last_low [] n all = omega arith
last_low (e ∷ book) n all = all (length (e ∷ book) - 1) (record { number = 0; actor = 0; choice = 0 }) (omega arith)

-- a book whose numbers are at most that of its entries, and one entry more
pub low_after : (book after : List Entry) (actor choice : ℕ) → after ≡ book ++ entry_after book actor choice ∷ [] → All (λ (e : Entry). e.number ≤ length book) book → All (λ (e : Entry). e.number ≤ length after) after
low_after book after actor choice is low = subst (λ (es : List Entry). All (λ (e : Entry). e.number ≤ length es) es) (sym is) whole
  where
    new : Entry
    new = entry_after book actor choice

    whole : All (λ (e : Entry). e.number ≤ length (book ++ new ∷ [])) (book ++ new ∷ [])
    whole k d h =
        let long : length (book ++ new ∷ []) ≡ length book + 1 = length_push book new in
        elim (cases_eq k (length book)) [
          | inl end ↦ omega (arith, long, ap (λ (i : ℕ). (get_or (book ++ new ∷ []) i d).number) end, ap (λ (e : Entry). e.number) (get_or-append_seam book new [] d), last_low book (length book) low)
          | inr other ↦
              let within : k < length book = omega (arith, h, long, other) in
              omega (arith, long, ap (λ (e : Entry). e.number) (get_or_append_left book (new ∷ []) d k within), low k d within)
        ]

-- the same, where room was made for the entry first
pub low_noted : (book roomy after : List Entry) (actor choice : ℕ) → roomy ≡ book → after ≡ roomy ++ entry_after roomy actor choice ∷ [] → All (λ (e : Entry). e.number ≤ length book) book → All (λ (e : Entry). e.number ≤ length after) after
low_noted book roomy after actor choice same is = low_after book after actor choice (is ∙ ap (λ es. es ++ entry_after es actor choice ∷ []) same)

module _ {S M : Type 0} (rules : Rules S M) where
  -- two legal schedules, one after the other
  pub run_of-append : (w : Scene S M) (es fs : List (ℕ × ℕ)) → run_of rules w (es ++ fs) ≡ option_and_then (λ v. run_of rules v fs) (run_of rules w es)
  run_of-append w [] fs = refl
  run_of-append w (e ∷ es) fs = at_turn (λ v. run_of-append v es fs) (turn_of rules w e.0 e.1)
    where
      at_turn : ((v : Scene S M) → run_of rules v (es ++ fs) ≡ option_and_then (λ u. run_of rules u fs) (run_of rules v es)) → (t : Option (Scene S M)) → option_and_then (λ v. run_of rules v (es ++ fs)) t ≡ option_and_then (λ v. run_of rules v fs) (option_and_then (λ v. run_of rules v es) t)
      at_turn rest None = refl
      at_turn rest (Some v) = rest v

  -- a legal schedule leads where the same entries lead
  pub after_all-run_of : (w v : Scene S M) (es : List (ℕ × ℕ)) → run_of rules w es ≡ Some v → after_all rules w es ≡ v
  after_all-run_of w v [] run = cc
  after_all-run_of w v (e ∷ es) run = at_turn (λ u. after_all-run_of u v es) (turn_of rules w e.0 e.1) run
    where
      at_turn : ((u : Scene S M) → run_of rules u es ≡ Some v → after_all rules u es ≡ v) → (t : Option (Scene S M)) → option_and_then (λ u. run_of rules u es) t ≡ Some v → after_all rules (unwrap_or t w) es ≡ v
      at_turn rest None run = absurd (cc)
      at_turn rest (Some u) run = rest u run

  -- without its idle entries a schedule is legal, and leads to the same world
  pub run_of-kept : (w : Scene S M) (es : List (ℕ × ℕ)) → run_of rules w (kept rules w es) ≡ Some (after_all rules w es)
  run_of-kept w [] = refl
  run_of-kept w (e ∷ es) = at_turn (λ v. run_of-kept v es) (turn_of rules w e.0 e.1) refl
    where
      at_turn : ((v : Scene S M) → run_of rules v (kept rules v es) ≡ Some (after_all rules v es)) → (t : Option (Scene S M)) → turn_of rules w e.0 e.1 ≡ t → run_of rules w (if is_some t then e ∷ kept rules (unwrap_or t w) es else kept rules (unwrap_or t w) es) ≡ Some (after_all rules (unwrap_or t w) es)
      at_turn rest None did = rest w
      at_turn rest (Some v) did = ap (option_and_then (λ u. run_of rules u (kept rules v es))) did ∙ rest v

  -- a turn that did something adds its entry
  pub book_after : (w v : Scene S M) (actor choice : ℕ) → turn_of rules w actor choice ≡ Some v → v.book ≡ w.book ++ entry_after w.book actor choice ∷ []
  book_after w v actor choice did =
      elim (turn_is rules w actor choice v did) [
        | inl t ↦ ap (λ (u : Scene S M). u.book) t.1
        | inr t ↦ ap (λ (u : Scene S M). u.book) t.1
      ]

  -- the book grows by the entries that did something, with the next numbers
  pub book-after_all : (w : Scene S M) (es : List (ℕ × ℕ)) → (after_all rules w es).book ≡ w.book ++ numbered_from (last_number w.book) (kept rules w es)
  book-after_all w [] = sym (append-nil w.book)
  book-after_all w (e ∷ es) = at_turn (λ v. book-after_all v es) (turn_of rules w e.0 e.1) refl
    where
      at_turn : ((v : Scene S M) → (after_all rules v es).book ≡ v.book ++ numbered_from (last_number v.book) (kept rules v es)) → (t : Option (Scene S M)) → turn_of rules w e.0 e.1 ≡ t → (after_all rules (unwrap_or t w) es).book ≡ w.book ++ numbered_from (last_number w.book) (if is_some t then e ∷ kept rules (unwrap_or t w) es else kept rules (unwrap_or t w) es)
      at_turn rest None did = rest w
      at_turn rest (Some v) did =
          let grown : v.book ≡ w.book ++ entry_after w.book e.0 e.1 ∷ [] = book_after w v e.0 e.1 did in
          let last : last_number v.book ≡ last_number w.book + 1 = ap last_number grown ∙ last_number-push w.book e.0 e.1 in
          rest v
          ∙ (ap (λ (n : ℕ). v.book ++ numbered_from n (kept rules v es)) last
          ∙ (ap (λ (b : List Entry). b ++ numbered_from (last_number w.book + 1) (kept rules v es)) grown
          ∙ append_assoc w.book (entry_after w.book e.0 e.1 ∷ []) (numbered_from (last_number w.book + 1) (kept rules v es))))
