use Rattle.std.proofs.Common.{sym, ap, ◌∙◌, Some}
use Rattle.sl_wire.proofs.FrameLemmas.{decoded_by, decoded_none}
use Rattle.sl_wire.proofs.framed.Framed.decode.Goals as goal

pub returns-in-None : goal.returns-in-None
returns-in-None c = sym (decoded_none _ _ c.kind.ensures.length (sym c.kind.ensures.kind ∙ c.in-None.is))

pub returns-in-Some-Plain : goal.returns-in-Some-Plain
returns-in-Some-Plain c = c.decode_plain.ensures c.args.width.bits
    ∙ sym (decoded_by _ _ _ c.kind.ensures.length (sym c.kind.ensures.kind ∙ c.in-Some-Plain.is ∙ ap Some c.in-Some-Plain.field-0-is))

pub returns-in-Some : goal.returns-in-Some
returns-in-Some c = c.decode_stamped.ensures ∙ sym (decoded_by _ _ _ c.kind.ensures.length (sym c.kind.ensures.kind ∙ c.in-Some.is))
