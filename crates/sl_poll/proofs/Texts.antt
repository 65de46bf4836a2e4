-- The texts of lists, from a place on; and that each link is spelled.
use Rattle.std.proofs.Common.{◌≡◌, ℕ, ◌+◌, ◌<◌, List, ◌++◌, length, get_or, drop, refl, sym, subst, arith}
use Rattle.std.proofs.lemmas.List.{drop_more}
use Rattle.std.proofs.lemmas.Option.{slice_get_within}
use Rattle.std.specs.List.{flat_map}
use Rattle.sl_machine.specs.declared.wiring.Link.{Link}
use Rattle.sl_layout.specs.declared.actor.LinkPart.{LinkPart}
use Rattle.sl_layout.specs.Net.{Net, link_of, links_into, choice_of}
use Rattle.sl_layout.specs.Wires.{HasEnds}
use Rattle.sl_layout.specs.Wiring.{wired_link}
use Rattle.sl_net.specs.Ways.{HasWays}
use Rattle.sl_net.specs.Spelling.{HasChoice}
use Rattle.sl_poll.specs.declared.reading.Read1.{Read1}
use Rattle.sl_poll.specs.PollText.{read_line}

pub reads_more : (net : Net) (rs : List Read1) (i : ℕ) (d : Read1) → i < length rs
    → flat_map (read_line net) (drop i rs) ≡ read_line net (get_or rs i d) ++ flat_map (read_line net) (drop (i + 1) rs)
reads_more net rs i d h = rw (drop_more rs i d h) refl

pub has-choice : (net : Net) (l : ℕ) (part : LinkPart) (wire : Link) → HasWays net → l < length net.links → part ≡ link_of net l → HasEnds net part → wire ≡ wired_link net l
    → HasChoice net wire.to wire.choice
has-choice net l part wire ways link is ends wired = subst (λ (k : Link). HasChoice net k.to k.choice) (sym wired) (record {
  actor = subst (λ (k : LinkPart). k.to < length net.actors) is ends.to;
  choice = let within = slice_get_within (links_into net (link_of net l).to) (choice_of net l) l (ways.taken l link) in omega (arith, within);
})
