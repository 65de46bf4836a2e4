-- A name is text.
use Rattle.std.proofs.Common.{◌≡◌, ℕ, zero, suc, ◌<◌, true, List, [], ◌∷◌, arith}
use Rattle.std.proofs.lemmas.Bool.{and_parts}
use Rattle.std.proofs.lemmas.Bool.Decides.{nat_tests}
use Rattle.std.proofs.lemmas.Str.{IsUtf8-from_ascii}
use Rattle.std.specs.List.{list_all}
use Rattle.std.specs.Str.{IsUtf8, IsAscii}
use Rattle.sl_parts.specs.Text.{IsName, is_name_byte}

low_byte : (b : ℕ) → is_name_byte b ≡ true → b < 128
low_byte b h = grind (arith, nat_tests)

ascii : (bs : List ℕ) → list_all is_name_byte bs ≡ true → IsAscii bs
ascii [] h i = omega arith
ascii (b ∷ bs) h zero = low_byte b (and_parts (is_name_byte b) (list_all is_name_byte bs) h).0
ascii (b ∷ bs) h (suc i) = ascii bs (and_parts (is_name_byte b) (list_all is_name_byte bs) h).1 i

pub name_is_text : (bs : List ℕ) → IsName bs → IsUtf8 bs
name_is_text bs h = IsUtf8-from_ascii bs (ascii bs h.each)
