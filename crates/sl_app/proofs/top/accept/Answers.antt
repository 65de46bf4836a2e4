use Rattle.std.proofs.Common.{◌≢◌, sym, ap, ◌∙◌, rules}
use borrow.Author.Tests.{tests}
use Rattle.sl_read.specs.declared.fault.InputFault.TheVariants.{Memory as OutOfMemory}
use Rattle.sl_read.specs.Inputs.{input_of}
use Rattle.sl_app.specs.Ends.{source_change, texts_of}
use Rattle.sl_app.proofs.EndLemmas.{input_refused}
use Rattle.sl_app.proofs.RunLemmas.{small, small_threads}
use Rattle.sl_app.proofs.top.accept.Goals as goal

pub returns-in-Ok-read_input-clause-accepts : goal.returns-in-Ok-read_input-clause-accepts
returns-in-Ok-read_input-clause-accepts g c =
    let e = c.in-Ok-read_input.ensures in
    (record { bytes = c.in-Ok.bytes.items; read = c.in-Ok.ensures.read; input = ap input_of (sym c.as_slice.ensures.value) ∙ e.input }, e.accepted)

pub returns-in-Ok-read_input-clause-can : goal.returns-in-Ok-read_input-clause-can
returns-in-Ok-read_input-clause-can g c = c.accepted_inputs_can_run.ensures c.in-Ok-read_input.input c.in-Ok-read_input.ensures.accepted

pub returns-in-Ok-read_input-clause-small : goal.returns-in-Ok-read_input-clause-small
returns-in-Ok-read_input-clause-small g c =
    small c.input_bounds_are_small.ensures c.in-Ok-read_input.input (returns-in-Ok-read_input-clause-can g c) c.in-Ok-read_input.ensures.accepted

pub returns-in-Ok-read_input-clause-threads : goal.returns-in-Ok-read_input-clause-threads
returns-in-Ok-read_input-clause-threads g c =
    small_threads c.input_bounds_are_small.ensures c.in-Ok-read_input.input (returns-in-Ok-read_input-clause-can g c) c.in-Ok-read_input.ensures.accepted

pub returns : goal.returns
returns g c =
    let r = source_change g.I.Source (texts_of c.args.words.now) c.args.input.now c.read_all.new.source in
    let other : c.in-Err.fault ≢ OutOfMemory = search (tests, rules) in
    record {
      accepts = input_refused r c.in-Ok.bytes.items c.in-Err.fault c.refused.result c.requires.input c.requires.source c.in-Ok.ensures.read (ap input_of (sym c.as_slice.ensures.value) ∙ c.in-Err.ensures.fault other) c.refused.ensures;
      can = tt;
      small = tt;
      threads = tt;
    }

pub returns-in-Err-Failed-clause-accepts : goal.returns-in-Err-Failed-clause-accepts
returns-in-Err-Failed-clause-accepts g c = (c.requires.source, search rules)
