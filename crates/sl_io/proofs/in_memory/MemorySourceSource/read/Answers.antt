use Rattle.std.proofs.Common.{arith, ◌≡◌, ◌+◌, ◌-◌, ◌++◌, ℕ, List, length, take, drop, length-append, length-drop, length-take, take-append-drop, sym, ap, ◌∙◌}
use Rattle.std.proofs.lemmas.List.{take_at, drop-drop, drop_all}
use Rattle.sl_io.proofs.in_memory.MemorySourceSource.read.Goals as goal

-- the bytes from `at` on are those that were copied and then those past them
copied_and_left : (at n : ℕ) (bytes copied rest : List ℕ) → length copied ≡ n → copied ≡ take n (drop at bytes)
    → drop at bytes ≡ take n (copied ++ rest) ++ drop (at + n) bytes
copied_and_left at n bytes copied rest size same =
    sym (take-append-drop n (drop at bytes))
    ∙ ap (λ front. front ++ drop n (drop at bytes)) (sym same ∙ sym (take_at copied rest n size))
    ∙ ap (λ back. take n (copied ++ rest) ++ back) (drop-drop n at bytes)

pub returns-clause-next : goal.returns-clause-next
returns-clause-next c =
    let at = c.self.inside.at in
    let n = c.min-n.result in
    let width : at + n - at ≡ n = omega arith in
    let size : length c.copy_from_slice.new.self ≡ n = omega (arith, length-take n c.args.buf.now, c.copy_from_slice.ensures.len, c.min-n.ensures) in
    let same = rw (width, c.deref.ensures.value) at c.copy_from_slice.ensures.after in
    let parts = copied_and_left at n c.self.inside.bytes.items c.copy_from_slice.new.self (drop n c.args.buf.now) size same in (
      sym (ap (λ s. s.left) c.self.view_is) ∙ parts,
      λ none some. drop_all (at + n) c.self.inside.bytes.items (omega (arith, length-append c.copy_from_slice.new.self (drop n c.args.buf.now), length-drop n c.args.buf.now, c.self.inside.bytes.ok.0, c.len.ensures)),
    )
