use Rattle.std.proofs.Common.{◌≡◌, ◌-◌, arith}
use Rattle.std.proofs.lemmas.Bool.Decides.{Decides-ltb}
use Rattle.sl_ids.proofs.wid.newer.Goals as goal

pub returns-clause-value : goal.returns-clause-value
returns-clause-value c = rw (c.distance.ensures.value, c.distance-2.ensures.value) (Decides-ltb _ _)

pub returns-clause-numbers : goal.returns-clause-numbers
returns-clause-numbers c n m k at_n at_m at_k low high least most =
    let first : c.distance.result ≡ m - n = c.distance.ensures.numbers n m at_n at_m low high in
    let second : c.distance-2.result ≡ k - n = c.distance-2.ensures.numbers n k at_n at_k least most in
    let decides = Decides-ltb (k - n) (m - n) in
    rw (first, second) (λ t. omega (arith, decides.0 t), λ l. decides.1 (omega (arith, l)))
