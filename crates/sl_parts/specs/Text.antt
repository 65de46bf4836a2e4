-- Trusted text, but for IsName.
-- Names.
use Rattle.std.specs.Prelude.{ℕ, ◌≤◌, Bool, ◌&&◌, ◌||◌, nat_le, ◌==◌, List, length, IsTrue}
use Rattle.std.specs.List.{list_all}

-- a to z, 0 to 9, and the underscore
abbrev pub is_name_byte : ℕ → Bool
is_name_byte b = ((nat_le 97 b && nat_le b 122) || (nat_le 48 b && nat_le b 57)) || (b == 95)

pub record IsName (bytes : List ℕ) : Type 0 where
  pub some : 1 ≤ length bytes
  pub at_most : length bytes ≤ 16
  pub each : IsTrue (list_all is_name_byte bytes)
