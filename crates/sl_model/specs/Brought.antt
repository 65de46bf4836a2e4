-- What news of a unit brings, where its first m steps are known and the news tells its first n steps.
use Rattle.std.specs.Prelude.{◌≡◌, ℕ, ◌+◌, ◌<◌, ◌≤◌, List, length}
use Rattle.sl_layout.specs.declared.actor.Sort.TheVariants.{Init}
use Rattle.sl_layout.specs.Net.{Net, choices_of, data_channels}
use Rattle.sl_parts.specs.Lists.{Each}
use Rattle.sl_model.specs.History.{History, id, last, first}
use Rattle.sl_model.specs.Knowledge.{upto_of}
use Rattle.sl_model.specs.Rows.{row}

-- from a number to the window above it
abbrev pub IsRaised : ℕ → ℕ → ℕ → Type 0
IsRaised window a b = (a ≤ b) × (b ≤ a + window)

-- u is the unit, h its history
pub record IsBrought (net : Net) (window u : ℕ) (h : History) (m n : ℕ) : Type 0 where
  pub order : m ≤ n
  pub there : n ≤ length h
  -- what is collected never falls, and rises by at most the window
  pub rises : upto_of net u (first m h) ≤ upto_of net u (first n h)
  pub within : upto_of net u (first n h) ≤ upto_of net u (first m h) + window
  -- the id lies less than the window above each number that was not collected
  pub near : (k : ℕ) → upto_of net u (first m h) < k → id (first n h) < k + window
  -- and the rows that were collected stay
  pub stays : (credits : ℕ) (cs : List ℕ) (k : ℕ) → k ≤ upto_of net u (first m h) → row credits cs k (first n h) ≡ row credits cs k (first m h)
  -- the id and each last-seen number, of a data channel and of initiations, lie from what was known to the window above it
  pub id_raised : IsRaised window (id (first m h)) (id (first n h))
  pub lasts_raised : Each (λ c. IsRaised window (last c (first m h)) (last c (first n h))) (data_channels net u)
  pub inits_raised : Each (λ c. IsRaised window (last c (first m h)) (last c (first n h))) (choices_of net u Init)
