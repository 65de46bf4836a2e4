use Rattle.std.proofs.Common.{List, ℕ, sym, subst}
use Rattle.sl_io.specs.Pieces.{IsReadUpTo}
use Rattle.sl_app.specs.Ends.{source_change, texts_of}
use Rattle.sl_app.proofs.EndLemmas.{stream_refused}
use Rattle.sl_app.proofs.top.check.Goals as goal

pub returns-in-Err : goal.returns-in-Err
returns-in-Err g c =
    let r = source_change g.I.Source (texts_of c.args.words.now) c.args.input.now c.read_all.new.source in
    stream_refused r c.as_slice.result.now c.in-Err.fault c.refused_stream.result c.requires
    (subst (λ (b : List ℕ). IsReadUpTo 4194305 r.before r.after b) (sym c.as_slice.ensures.value) c.in-Ok.ensures.read) c.in-Err.ensures c.refused_stream.ensures
