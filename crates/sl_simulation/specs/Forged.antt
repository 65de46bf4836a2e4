-- Frames of hosts that are no plain frames: forged headers, unknown kinds, wrong lengths, any bytes.
--     is_forged s          the step took such a frame
--     without_forged h     the history without these steps
use Rattle.std.specs.Prelude.{Bool, [], ◌∷◌, if◌then◌else◌}
use Rattle.sl_model.specs.declared.message.Step.{Step}
use Rattle.sl_model.specs.Counting.{is_bad}
use Rattle.sl_model.specs.History.{History}

abbrev pub is_forged : Step → Bool
is_forged s = is_bad s.taken

abbrev pub without_forged : History → History
without_forged [] = []
without_forged (s ∷ h) = if is_forged s then without_forged h else s ∷ without_forged h
