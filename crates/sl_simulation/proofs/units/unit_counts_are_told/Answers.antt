use Rattle.sl_simulation.proofs.units.unit_counts_are_told.Goals as goal

pub returns : goal.returns
returns c net table u i h state x = let r = x.registers in let p = r.packets in let b = r.bytes in let d = r.bad in let e = r.expired in let n = r.noroute in
    λ j. record { packets = p j; bytes = b j; bad = d j; expired = e j; noroute = n j }
