-- Laws of runs for the loops that follow schedules.
use Rattle.std.proofs.Common.{◌≡◌, ℕ, zero, suc, ◌+◌, List, [], ◌∷◌, ◌++◌, length, refl, sym, ap, subst, ◌∙◌, arith, append-nil, length-append}
use Rattle.std.specs.Prelude.{◌≢◌}
use Rattle.sl_model.specs.History.{Losses}
use Rattle.sl_model.specs.Setup.{Setup}
use Rattle.sl_model.specs.World.{Entry, run, kept_from}
use Rattle.sl_model.specs.Schedule.{passes_of}
use Rattle.sl_model.proofs.Worlds.Turns.{run-append}
use Rattle.sl_model.proofs.Worlds.Trails.{run-kept, kept-append}
use Rattle.sl_world.specs.Scene.{last_number}
use Rattle.sl_world.specs.Legal.{numbered_from}
use Rattle.sl_proto.specs.Runs.{Run, grown, Follows, Goes}
use Rattle.sl_proto.specs.Fronts.{FollowsFront}
use Rattle.sl_proto.proofs.Choices.{passes-next}
use Rattle.sl_proto.proofs.Schedules.{grown-append, none-numbered}

-- What follows goes by the entries that it keeps.

pub follows-append : (s : Setup) (lost : Losses) (old mid new : Run) (es fs : List Entry) → Follows s lost old es mid → Follows s lost mid fs new → Follows s lost old (es ++ fs) new
follows-append s lost old mid new es fs f g = record {
  reached = g.reached ∙ ap (λ w. run s lost w fs) f.reached ∙ sym (run-append s lost old.world es fs);
  book = g.book ∙ ap (λ b. grown b (kept_from s lost mid.world fs)) f.book
      ∙ grown-append old.book (kept_from s lost old.world es) (kept_from s lost mid.world fs)
      ∙ ap (λ w. grown old.book (kept_from s lost old.world es ++ kept_from s lost w fs)) f.reached
      ∙ ap (grown old.book) (sym (kept-append s lost old.world es fs));
}

-- what is kept of a schedule of which a front was taken
pub kept-whole : (s : Setup) (lost : Losses) (old new : Run) (es : List Entry) (f : FollowsFront s lost old es new)
    → kept_from s lost old.world es ≡ kept_from s lost old.world f.first ++ kept_from s lost (run s lost old.world f.first) f.rest
kept-whole s lost old new es f = ap (kept_from s lost old.world) f.whole ∙ kept-append s lost old.world f.first f.rest

pub follows-passes : (s : Setup) (lost : Losses) (old mid new : Run) (es : List Entry) (n : ℕ) → Follows s lost old (passes_of es n) mid → Follows s lost mid es new
    → Follows s lost old (passes_of es (n + 1)) new
follows-passes s lost old mid new es n f g = subst (λ xs. Follows s lost old xs new) (sym (passes-next es n)) (follows-append s lost old mid new (passes_of es n) es f g)

pub follows-goes : (s : Setup) (lost : Losses) (old new : Run) (es : List Entry) → Follows s lost old es new → Goes s lost old (kept_from s lost old.world es) new
follows-goes s lost old new es f = record { reached = f.reached ∙ sym (run-kept s lost old.world es); book = f.book }

pub goes-append : (s : Setup) (lost : Losses) (old mid new : Run) (es fs : List Entry) → Goes s lost old es mid → Goes s lost mid fs new → Goes s lost old (es ++ fs) new
goes-append s lost old mid new es fs g h = record {
  reached = h.reached ∙ ap (λ w. run s lost w fs) g.reached ∙ sym (run-append s lost old.world es fs);
  book = h.book ∙ ap (λ b. grown b fs) g.book ∙ grown-append old.book es fs;
}

nil-by-length : {A : Type 0} (xs ys : List A) → length (xs ++ ys) ≡ length xs → ys ≡ []
nil-by-length xs [] h = refl
nil-by-length xs (y ∷ ys) h = absurd (let k = length-append xs (y ∷ ys) in omega (arith, h, k))

pub goes-nothing : (s : Setup) (lost : Losses) (old new : Run) (es : List Entry) → Goes s lost old es new → length new.book ≡ length old.book → es ≡ []
goes-nothing s lost old new es g h = let n = last_number old.book in
    none-numbered n es (nil-by-length old.book (numbered_from n es) (ap length (sym g.book) ∙ h))

-- a schedule of which each entry was idle would be so again
pub idle-again : (s : Setup) (lost : Losses) (old new : Run) (es : List Entry) → Follows s lost old es new → length new.book ≡ length old.book → Follows s lost new es new
idle-again s lost old new es f h =
    let none : kept_from s lost old.world es ≡ [] = goes-nothing s lost old new _ (follows-goes s lost old new es f) h in
    let same : new.world ≡ old.world = f.reached ∙ sym (run-kept s lost old.world es) ∙ ap (run s lost old.world) none in
    record {
      reached = f.reached ∙ ap (λ w. run s lost w es) (sym same);
      book = sym (ap (λ w. grown new.book (kept_from s lost w es)) same ∙ ap (grown new.book) none ∙ append-nil new.book);
    }

pub idle-passes : (s : Setup) (lost : Losses) (old new : Run) (es : List Entry) (n more : ℕ) → Follows s lost old (passes_of es n) new → Follows s lost new es new → Follows s lost old (passes_of es (n + more)) new
idle-passes s lost old new es n zero f again = let same : n ≡ n + 0 = omega arith in subst (λ k. Follows s lost old (passes_of es k) new) same f
idle-passes s lost old new es n (suc more) f again =
    let same : n + more + 1 ≡ n + suc more = omega arith in
    subst (λ k. Follows s lost old (passes_of es k) new) same (follows-passes s lost old new new es (n + more) (idle-passes s lost old new es n more f again) again)

pub goes-something : (s : Setup) (lost : Losses) (old new : Run) (es : List Entry) → Goes s lost old es new → length new.book ≢ length old.book → es ≢ []
goes-something s lost old new es g h n = h (ap length g.book ∙ ap (λ fs. length (grown old.book fs)) n ∙ ap length (append-nil old.book))
