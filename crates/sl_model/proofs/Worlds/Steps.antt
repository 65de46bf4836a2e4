-- How many steps a history has.
use Rattle.std.proofs.Common.{◌≡◌, ℕ, zero, suc, ◌≤◌, List, [], ◌∷◌, length, sym, ap, ◌∙◌, arith}
use Rattle.std.specs.Prelude.{reverse}
use Rattle.std.proofs.lemmas.List.{length-reverse}
use Rattle.sl_model.specs.declared.message.Step.{Step}
use Rattle.sl_model.specs.History.{History, World, history, steps_in}

pub history_size : (w : World) (a : ℕ) → length (history w a) ≤ steps_in w
history_size [] a = omega arith
history_size (h ∷ w) zero = omega arith
history_size (h ∷ w) (suc a) = let k = history_size w a in omega (arith, k)

pub length_steps : (xs : List Step) (h : History) → reverse xs ≡ h → length xs ≡ length h
length_steps xs h e = sym (length-reverse xs) ∙ ap length e
