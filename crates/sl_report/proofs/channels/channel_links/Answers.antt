use Rattle.sl_report.proofs.TextLemmas.{channels_added}
use Rattle.sl_report.proofs.channels.channel_links.Goals as goal

pub returns : goal.returns
returns c = channels_added c.args.net.now c.args.unit c.links_into-from.result.now c.new-links.result.items c.add_of_sort.new.links.items _ c.links_into-from.ensures.links c.new-links.ensures.items c.in_ok-add_of_sort.ensures c.in_ok-add_of_sort-2.ensures
