use Rattle.std.proofs.Common.{◌≡◌, ◌<◌, ◌≤◌, length}
use Rattle.sl_saves.specs.Keeping.{slots_credited}
use Rattle.sl_saves.proofs.ring_slots.RingSlots.credit_from.Given as goal

abbrev pub invariant-loop-left : goal.invariant-loop-left
invariant-loop-left l = record {
  long : length l.self ≡ l.size;
  same : length l.fn.self ≡ l.size;
  inside : l.place < l.size;
  near : l.age ≤ l.size;
  rest : slots_credited l.left (record { channel = l.channel; age = l.age; bytes = l.bytes }) l.place l.self
      ≡ slots_credited l.credits (record { channel = l.channel; age = l.age-2; bytes = l.bytes }) l.place-2 l.fn.self;
}

abbrev pub decreases-loop-left : goal.decreases-loop-left
decreases-loop-left l = l.left
