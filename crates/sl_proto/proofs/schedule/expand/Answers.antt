use Rattle.std.proofs.Common.{◌++◌, ap, sym, ◌∙◌, take, take_all, get_or, [], arith}
use Rattle.std.proofs.lemmas.List.{take_more, flat_map_more}
use Rattle.sl_net.specs.declared.input.Script1.TheVariants.{Pass}
use Rattle.sl_model.specs.Schedule.{expand_one, expand}
use Rattle.sl_proto.proofs.schedule.expand.Goals as goal

pub loop-line-preserved : goal.loop-line-preserved
loop-line-preserved c =
    let net = c.args.net.now in
    let script = c.args.script.now in
    let i = c.loop-line.line-index in
    let line = get_or script i (Pass 0) in
    c.in_ok-add_script.ensures ∙ ap (λ xs. xs ++ expand_one net line) c.loop-line.invariant ∙ flat_map_more (expand_one net) [] (take i script) line
    ∙ ap (expand net) (sym (take_more script i (Pass 0) c.loop-line-test.true))

pub returns : goal.returns
returns c = c.loop-line.invariant ∙ ap (expand c.args.net.now) (take_all c.loop-line.line-index c.args.script.now (omega arith))
