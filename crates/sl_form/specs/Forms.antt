-- Trusted text.
-- Forms of texts.
use Rattle.std.specs.Prelude.{ℕ, ◌+◌, ◌-◌, ◌*◌, Bool, ◌&&◌, ◌==◌, nat_le, nat_lt, if◌then◌else◌, List, [], ◌∷◌, length, Option, Some, None, option_map, option_and_then, codes}
use Rattle.std.specs.List.{list_all, before_first, after_first}
use Rattle.std.specs.Str.{bytes_eq}
use Rattle.sl_parts.specs.Text.{is_name_byte}
use Rattle.sl_parts.specs.Number.{plain_number}
use Rattle.sl_form.specs.declared.forms.PortText.{PortText}

-- 1 to 16 bytes of a to z, 0 to 9 and the underscore
abbrev pub is_name : List ℕ → Bool
is_name text = nat_le 1 (length text) && (nat_le (length text) 16 && list_all is_name_byte text)

abbrev pub name_of : List ℕ → Option (List ℕ)
name_of text = if is_name text then Some text else None

-- a name, a point, and a plain number
abbrev pub port_of : List ℕ → Option PortText
port_of text =
    option_and_then (λ device. option_map (λ port. record { device = device; port = port })
    (plain_number 65535 (after_first (λ c. c == 46) text)))
    (name_of (before_first (λ c. c == 46) text))

-- 0 to 9 and a to f
abbrev pub digit_of : ℕ → Option ℕ
digit_of c = if nat_le 48 c && nat_le c 57 then Some (c - 48) else if nat_le 97 c && nat_le c 102 then Some (c - 97 + 10) else None

abbrev pub byte_of : ℕ → ℕ → Option ℕ
byte_of high low = option_and_then (λ h. option_map (λ l. h * 16 + l) (digit_of low)) (digit_of high)

-- two digits for each byte
abbrev pub pairs_of : List ℕ → Option (List ℕ)
pairs_of [] = Some []
pairs_of (high ∷ []) = None
pairs_of (high ∷ low ∷ rest) = option_and_then (λ byte. option_map (λ bytes. byte ∷ bytes) (pairs_of rest)) (byte_of high low)

-- at most 64 bytes in hexadecimal
abbrev pub hex_of : List ℕ → Option (List ℕ)
hex_of text = if nat_lt 128 (length text) then None else pairs_of text

-- a number from 1 on
abbrev pub positive : ℕ → Option ℕ
positive n = if nat_lt 0 n then Some n else None

-- the word pass, a space, and a plain number from 1 to 10000
abbrev pub pass_of : List ℕ → Option ℕ
pass_of text = if bytes_eq (before_first (λ c. c == 32) text) (codes "pass") then option_and_then positive (plain_number 10000 (after_first (λ c. c == 32) text)) else None
