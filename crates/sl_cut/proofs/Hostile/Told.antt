-- What a history tells is told of it with its bad frames blanked.
use Rattle.std.proofs.Common.{◌≡◌, ℕ, [], ◌∷◌, ◌++◌, length, refl, sym, ap, ◌∙◌}
use Rattle.std.specs.Prelude.{map, unwrap_or}
use Rattle.std.proofs.lemmas.List.{length-map, map-append}
use Rattle.sl_model.specs.History.{History, Losses, stamp_of, done_of, put, on_link, carried_by, without_lost}
use Rattle.sl_model.specs.Counting.{counted_in}
use Rattle.sl_model.specs.Knowledge.{known}
use Rattle.sl_cut.specs.Hostile.{blank_message, blank_step, blank_history}
use Rattle.sl_cut.proofs.Hostile.Frames.{stamp-blank, done-blank, counted-blank, through, bad-blank, old-blank, asks-blank, lost-blank, on_link-blank, puts_on-blank}
use Rattle.sl_cut.proofs.Hostile.Kept.{Keeps}

pub blank-keeps : Keeps blank_step
blank-keeps = record {
  choice = λ s. refl;
  stamp = λ s. through stamp_of stamp-blank s.taken;
  counted = λ s. through counted_in counted-blank s.taken;
  bad = λ s. bad-blank s.taken;
  old = λ k s. old-blank k s.taken;
  asks = λ sweep v c s. asks-blank sweep v c s.taken;
  count = λ l s. ap length (on_link-blank l s.puts) ∙ length-map (on_link l s.puts) blank_message;
  puts_on = λ l s. puts_on-blank l s.puts;
}

pub put-blank : (l : ℕ) (h : History) → put l (blank_history h) ≡ map blank_message (put l h)
put-blank l [] = refl
put-blank l (s ∷ h) = (λ i. put-blank l h i ++ on_link-blank l s.puts i) ∙ sym (map-append blank_message (put l h) (on_link l s.puts))

pub carried-blank : (lost : Losses) (l : ℕ) (h : History) → carried_by lost l (blank_history h) ≡ map blank_message (carried_by lost l h)
carried-blank lost l h = ap (λ ms. without_lost (lost l) 0 ms) (put-blank l h) ∙ lost-blank (lost l) 0 (put l h)

pub known-blank : (place : ℕ) (h : History) → known place (blank_history h) ≡ known place h
known-blank place [] = refl
known-blank place (s ∷ h) = λ i. unwrap_or (through (done_of place) (done-blank place) s.taken i) (known-blank place h i)
