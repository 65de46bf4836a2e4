-- What the links carry.
--     fits sort m     whether a message belongs on a link of the sort
--     is_stamped      the sorts of links whose messages have stamps
use Rattle.std.specs.Prelude.{ℕ, Bool, true, false, unwrap_or}
use Rattle.sl_layout.specs.declared.actor.Sort.{Sort}
use Rattle.sl_layout.specs.declared.actor.Sort.TheVariants.{FromHost, ToHost, Cable, Crossbar, Init, Poll, Notice, Dump, Begin, Done}
use Rattle.sl_layout.specs.Net.{Net, link_of}
use Rattle.sl_model.specs.declared.message.Message.{Message}
use Rattle.sl_model.specs.declared.message.Message.TheVariants.{Host as HostMsg, Data, Probe as ProbeMsg, Init as InitMsg, Poll as PollMsg, Notice as NoticeMsg, Dump as DumpMsg, Begin as BeginMsg, Done as DoneMsg}
use Rattle.sl_model.specs.History.{stamp_of}

abbrev pub fits : Sort → Message → Bool
fits FromHost (HostMsg b) = true
fits ToHost (HostMsg b) = true
fits Cable (Data k p) = true
fits Cable (ProbeMsg k) = true
fits Crossbar (Data k p) = true
fits Crossbar (ProbeMsg k) = true
fits Init (InitMsg k) = true
fits Poll PollMsg = true
fits Notice NoticeMsg = true
fits Dump (DumpMsg n) = true
fits Begin (BeginMsg k) = true
fits Done (DoneMsg u n) = true
fits _ _ = false

abbrev pub fits_link : Net → ℕ → Message → Bool
fits_link net l m = fits (link_of net l).sort m

abbrev pub is_stamped : Sort → Bool
is_stamped Cable = true
is_stamped Crossbar = true
is_stamped Init = true
is_stamped _ = false

-- the stamp of a message, 0 where it has none
abbrev pub stamp : Message → ℕ
stamp m = unwrap_or (stamp_of m) 0
