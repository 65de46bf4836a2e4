use Rattle.std.proofs.Common.{◌≡◌, ◌<◌, [], length, map, refl, ap, sym, subst, ◌∙◌}
use Rattle.std.specs.Prelude.{find, IfSome}
use Rattle.sl_parts.specs.Parts.{below}
use Rattle.sl_layout.specs.Net.{Net, units}
use Rattle.sl_net.specs.Input.{Input}
use Rattle.sl_model.specs.Losses.{losses}
use Rattle.sl_model.specs.Setup.{setup_of}
use Rattle.sl_model.specs.World.{IsLegal}
use Rattle.sl_poll.specs.declared.sums.Pace.{Pace}
use Rattle.sl_poll.specs.HasRead.{HasRead}
use Rattle.sl_poll.specs.Reading.{read_after, breaks}
use Rattle.sl_poll.specs.Sums.{read_by}
use Rattle.sl_poll.specs.Trail.{pairs, all_counted}
use Rattle.sl_poll.proofs.Fronts.{legal_front, reads_front, broken_front}
use Rattle.sl_poll.proofs.Told.{reads-from, broken-from}
use Rattle.sl_poll.proofs.run.poll_of.Goals as goal

pub walk-requires : goal.walk-requires
walk-requires c =
    let i = c.args.input.now in let s = setup_of i in let lost = losses i in let first = c.in_ok-polling.polling in record {
      addresses = c.requires.addresses;
      legal = subst (IsLegal s lost) (sym c.first_entries-read.ensures) (legal_front s lost c.last_read-last.result c.args.schedule.now c.requires.legal);
      first = subst (λ (n : Net). HasRead n first first [] []) (ap (λ (j : Input). j.net) c.input.view_is) c.in_ok-polling.ensures.first;
    }

pub returns : goal.returns
returns c =
    let i = c.args.input.now in let s = setup_of i in let lost = losses i in let es = c.args.schedule.now in let fs = c.first_entries-read.result.now in
    let net = c.input.inside.net in let first = c.in_ok-polling.polling in
    let same : i.net ≡ net = sym (ap (λ (j : Input). j.net) c.input.view_is) in
    let ps = pairs s lost fs in let cs = all_counted s lost fs in
    let last : c.last_read-last.result ≡ read_after (length es) c.args.start c.args.gap (length (units i.net)) =
    c.last_read-last.ensures.last ∙ ap (λ (n : Net). read_after (length es) c.args.start c.args.gap (length (units n))) (sym same) in
    let all = subst (λ (n : Net). HasRead n first c.walk.new.listener ps cs) same c.in_ok-walk.ensures in record {
      reads = reads-from s lost es fs c.args.start c.args.gap (length es) net cs _ c.worlds_take_turns.ensures (c.nets_have_ways.ensures net) same refl refl
          (reads_front (length es) c.args.start c.args.gap c.last_read-last.result (length (units i.net)) es fs c.first_entries-read.ensures last)
          (c.in_ok-polled.ensures.reads first ps cs all ∙ ap (λ (k : Pace). map (read_by (read_after k.count k.start k.gap) cs) (below (length (units net)))) c.in_ok-polling.ensures.pace);
      broken = broken-from s lost es fs c.args.start c.args.gap (length es) net ps _ same refl refl
          (broken_front s lost es fs c.args.start c.args.gap c.last_read-last.result c.first_entries-read.ensures last)
          (c.in_ok-polled.ensures.broken ∙ all.broken ∙ ap (λ (k : Pace). find (breaks net k.count k.start k.gap) ps) c.in_ok-polling.ensures.pace);
      link = subst (λ o. IfSome o (λ q. q.link < length i.net.links)) (sym c.in_ok-polled.ensures.broken)
          (subst (λ (n : Net). IfSome c.walk.new.listener.broken (λ q. q.link < length n.links)) (sym same) all.link);
    }
