-- What the turns of a host send and take.
use Rattle.std.specs.Prelude.{ℕ, suc, if◌then◌else◌, List, [], ◌∷◌, map, is_some}
use Rattle.sl_machine.specs.Turns.{Turn, Took, Acted}
use Rattle.sl_wire.specs.declared.message.Msg.{Msg}
use Rattle.sl_wire.specs.Carried.{bytes_on, carrying}

-- frames on the link to the ingress unit
abbrev pub sendings : List (List ℕ) → List (ℕ × Msg)
sendings frames = map (λ bytes. (0, carrying bytes)) frames

-- how many of the turns took bytes
abbrev pub frames_taken : List (Turn Msg) → ℕ
frames_taken [] = 0
frames_taken (Took link m ∷ ts) = if is_some (bytes_on m) then suc (frames_taken ts) else frames_taken ts
frames_taken (Acted action ∷ ts) = frames_taken ts
