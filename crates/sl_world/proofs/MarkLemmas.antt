-- Marks of the links that have a message.
use Rattle.std.proofs.Common.{◌≡◌, ◌≢◌, ◌*◌, ℕ, ◌+◌, ◌<◌, ◌↔◌, List, [], ◌∷◌, ◌++◌, length, get_or, set, refl, sym, ap, ◌∙◌, arith, Bool, true, false, inl, inr}
use Rattle.std.specs.Prelude.{IsTrue, not, if◌then◌else◌}
use Rattle.std.proofs.lemmas.Bool.{cases_eq}
use Rattle.std.proofs.lemmas.List.{map-set, length-set, get_or-set_same, get_or-set_other}
use Rattle.sl_world.specs.Scene.{line_at, line_put, empty_line}
use Rattle.sl_world.specs.LineView.{LineView}
use Rattle.sl_world.specs.Mesh.{lines_of}
use Rattle.sl_world.specs.Marks.{IsMarked, mark_at}
use Rattle.sl_world.proofs.RoomLemmas.{line_is, length_same}

-- a mark that tells of a list whether it has elements
mark : {M : Type 0} (empty : Bool) (n : ℕ) (queue : List M) → n ≡ (if not empty then 1 else 0) → (IsTrue empty ↔ (queue ≡ [])) → (n ≡ 0) ↔ (queue ≡ [])
mark true n queue is holds = (λ e. holds.0 refl, λ e. is)
mark false n queue is holds = (λ e. absurd (omega (arith, is, e)), λ e. absurd (false-is-true (holds.1 e)))
  where
    false-is-true : false ≡ true → ⊥
    false-is-true e = cc

-- the mark of one number is written
pub record IsWritten (old new : List ℕ) (k : ℕ) (on : Bool) : Type 0 where
  pub same : mark_at new k ≡ (if on then 1 else 0)
  pub others : (j : ℕ) → j ≢ k → mark_at new j ≡ mark_at old j
  pub room : length new ≡ length old

-- one link is written, and its mark
pub marked-set : {M : Type 0} (views : List (LineView M)) (old words : List ℕ) (k : ℕ) (new : LineView M) (empty : Bool) → IsMarked views old → IsWritten old words k (not empty) → k < length views → (IsTrue empty ↔ (new.line.queue ≡ [])) → IsMarked (set views k new) words
marked-set views old words k new empty marked written low holds =
    let long : length (set views k new) ≡ length views = length-set views k new in
    record {
      room = omega (arith, marked.room, written.room, long);
      is = λ j h.
          elim (cases_eq j k) [
            | inl same ↦
                let here : line_at (lines_of (set views k new)) k ≡ new.line = line_is (set views k new) k new (omega (arith, low, long)) (sym (get_or-set_same views k new new low)) in
                rw (same, here) (mark empty (mark_at words k) new.line.queue written.same holds)
            | inr other ↦
                let here : line_at (lines_of (set views k new)) j ≡ line_at (lines_of views) j = ap (λ ls. line_at ls j) (map-set (λ v. v.line) views k new) ∙ get_or-set_other (lines_of views) k j new.line empty_line other in
                rw (here, written.others j other) (marked.is j (omega (arith, h, long)))
          ];
      end = ap (mark_at words) long ∙ (written.others (length views) (λ e. absurd (omega (arith, e, low))) ∙ marked.end);
    }

-- a place in a list that was read
pub below_too : {X : Type 0} (xs ys : List X) (k : ℕ) → xs ≡ ys → k < length ys → k < length xs
below_too xs ys k is low = omega (arith, ap length is, low)

-- a link of a list that was read is written, and its mark
pub marked-written : {M : Type 0} (views now : List (LineView M)) (old words : List ℕ) (k : ℕ) (new : LineView M) (empty : Bool) → views ≡ now → k < length now → IsMarked views old → IsWritten old words k (not empty) → (IsTrue empty ↔ (new.line.queue ≡ [])) → IsMarked (set views k new) words
marked-written views now old words k new empty is low marked written holds = marked-set views old words k new empty marked written (below_too views now k is low) holds

-- one link is written, and has a message only if it had one
pub marked-kept : {M : Type 0} (views now : List (LineView M)) (words : List ℕ) (k : ℕ) (e new : LineView M) → views ≡ now → k < length now → IsMarked views words → e ≡ get_or views k e → ((e.line.queue ≡ []) ↔ (new.line.queue ≡ [])) → IsMarked (set views k new) words
marked-kept views now words k e new is-now low-now marked read both =
    let low : k < length views = below_too views now k is-now low-now in
    let long : length (set views k new) ≡ length views = length-set views k new in
    let was : line_at (lines_of views) k ≡ e.line = line_is views k e low read in
    record {
      room = omega (arith, marked.room, long);
      is = λ j h.
          elim (cases_eq j k) [
            | inl same ↦
                let here : line_at (lines_of (set views k new)) k ≡ new.line = line_is (set views k new) k new (omega (arith, low, long)) (sym (get_or-set_same views k new new low)) in
                rw (same, here) (λ n. both.0 (ap (λ l. l.queue) (sym was) ∙ (marked.is k low).0 n), λ q. (marked.is k low).1 (ap (λ l. l.queue) was ∙ both.1 q))
            | inr other ↦
                let there : line_at (lines_of (set views k new)) j ≡ line_at (lines_of views) j = ap (λ ls. line_at ls j) (map-set (λ v. v.line) views k new) ∙ get_or-set_other (lines_of views) k j new.line empty_line other in
                rw there (marked.is j (omega (arith, h, long)))
          ];
      end = ap (mark_at words) long ∙ marked.end;
    }

-- a message was put, and none is there: none was there before
was-empty : {M : Type 0} (loses : Bool) (queue : List M) (m : M) → (if loses then queue else queue ++ m ∷ []) ≡ [] → queue ≡ []
was-empty true queue m e = e
was-empty false [] m e = refl
was-empty false (x ∷ xs) m e = cc

-- a message was put on one link, and nothing is there
pub marked-lost : {M : Type 0} (views now : List (LineView M)) (words : List ℕ) (k : ℕ) (e new : LineView M) (m : M) (empty : Bool) → views ≡ now → k < length now → IsMarked views words → e ≡ get_or views k e → new.line ≡ line_put e.line m → empty ≡ true → (IsTrue empty ↔ (new.line.queue ≡ [])) → IsMarked (set views k new) words
marked-lost views now words k e new m empty is low marked read put none holds =
    let gone : new.line.queue ≡ [] = holds.0 none in
    marked-kept views now words k e new is low marked read (λ _. gone, λ _. was-empty _ e.line.queue m (ap (λ l. l.queue) (sym put) ∙ gone))

-- a message was taken from one link, and another is there
pub marked-left : {M : Type 0} (views now : List (LineView M)) (words : List ℕ) (k : ℕ) (e new : LineView M) (m : M) (empty : Bool) → views ≡ now → k < length now → IsMarked views words → e ≡ get_or views k e → e.line.queue ≡ m ∷ new.line.queue → empty ≡ false → (IsTrue empty ↔ (new.line.queue ≡ [])) → IsMarked (set views k new) words
marked-left views now words k e new m empty is low marked read queue some holds =
    marked-kept views now words k e new is low marked read (λ q. absurd (some-is-none (sym queue ∙ q)), λ q. absurd (false-is-true (sym some ∙ holds.1 q)))
  where
    some-is-none : (m ∷ new.line.queue) ≡ [] → ⊥
    some-is-none h = cc

    false-is-true : false ≡ true → ⊥
    false-is-true h = cc

-- a change that leaves what is on the links
pub marked-same : {M : Type 0} (old new : List (LineView M)) (words : List ℕ) → lines_of new ≡ lines_of old → IsMarked old words → IsMarked new words
marked-same old new words same marked =
    let long : length new ≡ length old = length_same old new same in
    record { room = omega (arith, marked.room, long); is = λ j h. rw same (marked.is j (omega (arith, h, long))); end = ap (mark_at words) long ∙ marked.end }

-- the first links of a list are marked
pub record MarksFirst {M : Type 0} (views : List (LineView M)) (n : ℕ) (words : List ℕ) : Type 0 where
  pub room : length views < 64 * length words
  pub is : (k : ℕ) → k < n → (mark_at words k ≡ 0) ↔ ((line_at (lines_of views) k).queue ≡ [])

-- the next link is marked
pub marked-next : {M : Type 0} (views : List (LineView M)) (n : ℕ) (old words : List ℕ) (e : LineView M) (empty : Bool) → MarksFirst views n old → IsWritten old words n (not empty) → n < length views → e ≡ get_or views n e → (IsTrue empty ↔ (e.line.queue ≡ [])) → MarksFirst views (n + 1) words
marked-next views n old words e empty first written low read holds =
    record {
      room = omega (arith, first.room, written.room);
      is = λ j h.
          elim (cases_eq j n) [
            | inl same ↦ rw (same, line_is views n e low read) (mark empty (mark_at words n) e.line.queue written.same holds)
            | inr other ↦ rw (written.others j other) (first.is j (omega (arith, h, other)))
          ];
    }

-- all links and the end are marked
pub marked-end : {M : Type 0} (views : List (LineView M)) (old words : List ℕ) → MarksFirst views (length views) old → IsWritten old words (length views) true → IsMarked views words
marked-end views old words first written =
    record {
      room = omega (arith, first.room, written.room);
      is = λ j h. rw (written.others j (λ e. absurd (omega (arith, e, h)))) (first.is j h);
      end = written.same;
    }

-- what a mark tells of a link
pub unmarked : {M : Type 0} (views : List (LineView M)) (words : List ℕ) (k : ℕ) → IsMarked views words → k < length views + 1 → mark_at words k ≡ 0 → (k < length views) × ((line_at (lines_of views) k).queue ≡ [])
unmarked views words k marked within none =
    elim (cases_eq k (length views)) [
      | inl end ↦ absurd (omega (arith, none, ap (mark_at words) end, marked.end))
      | inr other ↦ let low : k < length views = omega (arith, within, other) in (low, (marked.is k low).0 none)
    ]

pub is_marked : {M : Type 0} (views : List (LineView M)) (words : List ℕ) (k : ℕ) → IsMarked views words → mark_at words k ≡ 1 → k < length views → (line_at (lines_of views) k).queue ≢ []
is_marked views words k marked one low empty = absurd (omega (arith, one, (marked.is k low).1 empty))
