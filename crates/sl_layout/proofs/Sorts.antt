-- What holds of each of the ten sorts of links holds of a sort.
use Rattle.sl_layout.specs.declared.actor.Sort.{Sort}
use Rattle.sl_layout.specs.declared.actor.Sort.TheVariants.{FromHost, ToHost, Cable, Crossbar, Init, Poll, Notice, Dump, Begin, Done}

pub by_sort : (P : Sort → Type 0) → P FromHost → P ToHost → P Cable → P Crossbar → P Init → P Poll → P Notice → P Dump → P Begin → P Done → (s : Sort) → P s
by_sort P from_host to_host cable crossbar init poll notice dump begin done FromHost = from_host
by_sort P from_host to_host cable crossbar init poll notice dump begin done ToHost = to_host
by_sort P from_host to_host cable crossbar init poll notice dump begin done Cable = cable
by_sort P from_host to_host cable crossbar init poll notice dump begin done Crossbar = crossbar
by_sort P from_host to_host cable crossbar init poll notice dump begin done Init = init
by_sort P from_host to_host cable crossbar init poll notice dump begin done Poll = poll
by_sort P from_host to_host cable crossbar init poll notice dump begin done Notice = notice
by_sort P from_host to_host cable crossbar init poll notice dump begin done Dump = dump
by_sort P from_host to_host cable crossbar init poll notice dump begin done Begin = begin
by_sort P from_host to_host cable crossbar init poll notice dump begin done Done = done
