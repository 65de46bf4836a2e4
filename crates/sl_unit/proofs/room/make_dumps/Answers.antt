use Rattle.std.proofs.Common.{◌≡◌, ◌+◌, ◌∙◌, refl, ap, arith, length-append}
use Rattle.std.proofs.lemmas.List.Elements.{All-push}
use Rattle.sl_unit.specs.Registers.{dump_of}
use Rattle.sl_unit.specs.Room.{registers_of}
use Rattle.sl_unit.proofs.room.make_dumps.Goals as goal

pub loop-i-init : goal.loop-i-init
loop-i-init c = rw c.clear.ensures.items (record { many = refl; same = λ k d h. absurd (omega arith); kept = refl })

pub loop-i-preserved : goal.loop-i-preserved
loop-i-preserved c = let l = c.loop-i in
    rw c.in_ok-push.ensures.items (record {
      many = length-append l.dumps.items _ ∙ ap (λ n. n + 1) l.invariant.many;
      same = All-push (λ dump. dump ≡ dump_of (registers_of c.args.registers.now)) l.dumps.items c.in_ok-dump.dump l.invariant.same
          (c.in_ok-dump.ensures.dump ∙ ap (λ r. dump_of (registers_of r)) l.invariant.kept);
      kept = c.make_dump.ensures.same ∙ l.invariant.kept;
    })
