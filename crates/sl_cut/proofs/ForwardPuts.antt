-- Loops that put messages.
use Rattle.std.proofs.Common.{◌≡◌, ℕ, ◌+◌, ◌<◌, List, [], ◌∷◌, ◌++◌, length, ap, ◌∙◌, take, get_or}
use Rattle.std.proofs.lemmas.List.{take_more, map-append}
use Rattle.sl_model.specs.declared.message.Message.{Message}
use Rattle.sl_model.specs.Puts.{send, send_all}

pub send_all_more : (m : Message) (ls : List ℕ) (i : ℕ) → i < length ls → send_all m (take (i + 1) ls) ≡ send_all m (take i ls) ++ send m (get_or ls i 0) ∷ []
send_all_more m ls i h = ap (send_all m) (take_more ls i 0 h) ∙ map-append (send m) (take i ls) (get_or ls i 0 ∷ [])
