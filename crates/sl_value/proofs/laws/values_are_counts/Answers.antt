use Rattle.sl_value.proofs.Counting.{shown-counted}
use Rattle.sl_value.proofs.laws.values_are_counts.Goals as goal

pub returns : goal.returns
returns c n cs h view k shown = shown-counted n cs h view k shown (c.entries_are_values.ensures n cs h) (c.calls_lead_to_id.ensures.number cs h)
