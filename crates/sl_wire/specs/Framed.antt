-- A frame as three numbers of 64 bits, each of eight of its bytes, the first byte the highest.
--     first, second, third, fourth     the four parts of 16 bits of a number, the highest first
--     bytes_in w                       its bytes
--     frame_in front middle back       the frame of three numbers
use Rattle.std.specs.Prelude.{ℕ, ◌/◌, ◌%◌, List, [], ◌∷◌, ◌++◌}
use Rattle.sl_wire.specs.declared.frame.Frame.{Frame}

abbrev pub first : ℕ → ℕ
first w = w / 281474976710656

abbrev pub second : ℕ → ℕ
second w = w / 4294967296 % 65536

abbrev pub third : ℕ → ℕ
third w = w / 65536 % 65536

abbrev pub fourth : ℕ → ℕ
fourth w = w % 65536

abbrev pub bytes_in : ℕ → List ℕ
bytes_in w = first w / 256 ∷ first w % 256 ∷ second w / 256 ∷ second w % 256 ∷ third w / 256 ∷ third w % 256 ∷ fourth w / 256 ∷ fourth w % 256 ∷ []

abbrev pub frame_in : ℕ → ℕ → ℕ → Frame
frame_in front middle back = record { bytes = bytes_in front ++ (bytes_in middle ++ bytes_in back) }
