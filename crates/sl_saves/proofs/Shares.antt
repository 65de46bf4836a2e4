-- Slots that a ring shares, and where they were written since.
use Rattle.std.proofs.Common.{◌≡◌, ℕ, ◌<◌, ◌≤◌, List, [], ◌∷◌, length, sym, ap, ◌∙◌, inl, inr, arith}
use Rattle.std.specs.Prelude.{slice_set, slice_index_or}
use Rattle.std.proofs.lemmas.List.{get_or-set_same, get_or-set_other, get_or_past, ext_get_or}
use Rattle.std.proofs.lemmas.Bool.{cases_eq}
use Rattle.sl_saves.specs.declared.entry.Slot.{Slot}
use Rattle.sl_saves.specs.Views.{no_slot}
use Rattle.sl_saves.specs.Shares.{AgreesBut}

-- lists that agree at all places are one
pub agrees-all : (a b : List Slot) → length a ≡ length b → AgreesBut [] a b → a ≡ b
agrees-all a b long h = ext_get_or no_slot a b long (λ p lt. h p tt)

-- the slot at a place is copied
pub agrees-copied : (place : ℕ) (places : List ℕ) (a b : List Slot) → length a ≡ length b → place < length b → AgreesBut (place ∷ places) a b
    → AgreesBut places (slice_set a place (slice_index_or b place no_slot)) b
agrees-copied place places a b long lt h p others = elim (cases_eq place p) [
  | inl e ↦ ap (λ q. slice_index_or (slice_set a place (slice_index_or b place no_slot)) q no_slot) (sym e)
      ∙ get_or-set_same a place (slice_index_or b place no_slot) no_slot (omega (arith, long, lt)) ∙ ap (λ q. slice_index_or b q no_slot) e
  | inr n ↦ get_or-set_other a place p (slice_index_or b place no_slot) no_slot (λ e. n (sym e)) ∙ h p (n, others)
]

-- no list has a slot at a place past its end
pub agrees-past : (place : ℕ) (places : List ℕ) (a b : List Slot) → length a ≡ length b → length b ≤ place → AgreesBut (place ∷ places) a b → AgreesBut places a b
agrees-past place places a b long past h p others = elim (cases_eq place p) [
  | inl e ↦ get_or_past a p no_slot (omega (arith, long, past, e)) ∙ sym (get_or_past b p no_slot (omega (arith, past, e)))
  | inr n ↦ h p (n, others)
]
