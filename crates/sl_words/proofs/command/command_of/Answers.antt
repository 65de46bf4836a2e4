use Rattle.std.proofs.Common.{sym}
use Rattle.sl_words.proofs.command.command_of.Goals as goal

pub returns-then-eq : goal.returns-then-eq
returns-then-eq c = record { command = rw (sym c.if-eq.ensures) c.step_words.ensures.command; number = c.step_words.ensures.number }

pub returns-then-eq-2 : goal.returns-then-eq-2
returns-then-eq-2 c = record { command = rw (sym c.if-eq.ensures, sym c.if-eq-2.ensures) c.run_words.ensures.command; number = c.run_words.ensures.number }

pub returns-then-eq-3 : goal.returns-then-eq-3
returns-then-eq-3 c = record { command = rw (sym c.if-eq.ensures, sym c.if-eq-2.ensures, sym c.if-eq-3.ensures) c.bare_command.ensures.command; number = c.bare_command.ensures.number tt }

pub returns-then-eq-4 : goal.returns-then-eq-4
returns-then-eq-4 c = record { command = rw (sym c.if-eq.ensures, sym c.if-eq-2.ensures, sym c.if-eq-3.ensures, sym c.if-eq-4.ensures) c.sample_command.ensures.command; number = c.sample_command.ensures.number }

pub returns-then-eq-5 : goal.returns-then-eq-5
returns-then-eq-5 c = record { command = rw (sym c.if-eq.ensures, sym c.if-eq-2.ensures, sym c.if-eq-3.ensures, sym c.if-eq-4.ensures, sym c.if-eq-5.ensures) c.bare_command-then-eq-5.ensures.command; number = c.bare_command-then-eq-5.ensures.number tt }

pub returns-then-eq-6 : goal.returns-then-eq-6
returns-then-eq-6 c = record { command = rw (sym c.if-eq.ensures, sym c.if-eq-2.ensures, sym c.if-eq-3.ensures, sym c.if-eq-4.ensures, sym c.if-eq-5.ensures, sym c.if-eq-6.ensures) c.bare_command-then-eq-6.ensures.command; number = c.bare_command-then-eq-6.ensures.number tt }

pub returns-then-eq-7 : goal.returns-then-eq-7
returns-then-eq-7 c = record { command = rw (sym c.if-eq.ensures, sym c.if-eq-2.ensures, sym c.if-eq-3.ensures, sym c.if-eq-4.ensures, sym c.if-eq-5.ensures, sym c.if-eq-6.ensures, sym c.if-eq-7.ensures) c.poll_command.ensures.command; number = c.poll_command.ensures.number }

pub returns-then-eq-8 : goal.returns-then-eq-8
returns-then-eq-8 c = record {
  command = rw (sym c.if-eq.ensures, sym c.if-eq-2.ensures, sym c.if-eq-3.ensures, sym c.if-eq-4.ensures, sym c.if-eq-5.ensures, sym c.if-eq-6.ensures, sym c.if-eq-7.ensures, sym c.if-eq-8.ensures) c.bare_command-then-eq-8.ensures.command;
  number = c.bare_command-then-eq-8.ensures.number tt;
}
