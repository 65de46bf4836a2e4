-- Trusted text, but for Fails, Answers, Shows.
-- How a definition refuses, and how the answer of a function meets it.
use Rattle.std.specs.Prelude.{◌≡◌, Result, Ok, Err}
use Rattle.sl_form.specs.declared.refusal.Refusal.{Refusal}
use Rattle.sl_form.specs.declared.refusal.ReadError.{ReadError}
use Rattle.sl_form.specs.declared.refusal.ReadError.TheVariants as errors

-- one after the other, up to the first refusal
infixl 10 ◌>>=◌
abbrev pub ◌>>=◌ : {A B : Type 0} → Result A Refusal → (A → Result B Refusal) → Result B Refusal
(Ok x) >>= f = f x
(Err e) >>= f = Err e

abbrev pub Fails : {Y : Type 0} → ReadError → Result Y Refusal → Type 0
Fails errors.Memory read = Unit {0}
Fails (errors.Refused e) read = read ≡ Err e

-- what a function returned is what the definition gives, unless memory ran out
abbrev pub Answers : {X : Type 0} → Result X ReadError → Result X Refusal → Type 0
Answers (Ok x) read = read ≡ Ok x
Answers (Err e) read = Fails e read

-- what a function that takes no memory returned, seen by view, is what the definition gives
abbrev pub Shows : {X Y : Type 0} → (X → Y) → Result X Refusal → Result Y Refusal → Type 0
Shows view (Ok x) read = read ≡ Ok (view x)
Shows view (Err e) read = read ≡ Err e
