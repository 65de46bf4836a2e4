-- Trusted text for nodes, but for or_else, last_seen, IsClean.
-- What the last-seen numbers of a unit tell (Yaseen, Sonchack and Liu 2018).
--     lasts, cpu_last       those of its data channels, and that of its initiations
--     last_seen net u h     those that tell whether the unit lags
--     IsClean n net u k h   none of these lags behind k, and the unit neither skipped nor miscredited k
use Rattle.std.specs.Prelude.{◌≡◌, ℕ, ◌≤◌, List, [], ◌∷◌, map, slice_get, option_map, unwrap_or, None}
use Rattle.sl_layout.specs.declared.actor.Sort.TheVariants.{Init}
use Rattle.sl_layout.specs.Net.{Net, data_channels, choices_of}
use Rattle.sl_parts.specs.Lists.{Each}
use Rattle.sl_model.specs.History.{History, last}
use Rattle.sl_model.specs.Verdict.{skipped_to, miscredits}

-- the last-seen numbers of the data channels in order
abbrev pub lasts : Net → ℕ → History → List ℕ
lasts net u h = map (λ c. last c h) (data_channels net u)

-- that of initiations, 0 of an egress unit
abbrev pub cpu_last : Net → ℕ → History → ℕ
cpu_last net u h = unwrap_or (option_map (λ c. last c h) (slice_get (choices_of net u Init) 0)) 0

-- some numbers, or this one where there is none
abbrev pub or_else : List ℕ → ℕ → List ℕ
or_else [] n = n ∷ []
or_else (m ∷ ms) n = m ∷ ms

-- those of its data channels, or that of its initiations where it has no data channel
abbrev pub last_seen : Net → ℕ → History → List ℕ
last_seen net u h = or_else (lasts net u h) (cpu_last net u h)

-- none of them is below k, no step went past k, and no data packet was credited past k
pub record IsClean (n : ℕ) (net : Net) (u k : ℕ) (h : History) : Type 0 where
  pub seen : Each (λ m. k ≤ m) (last_seen net u h)
  pub not_skipped : skipped_to k h ≡ None
  pub not_miscredited : miscredits n k h ≡ []
