use Rattle.sl_link.proofs.ends.make_link.Given as goal

abbrev pub ghosts-make_limited : goal.ghosts-make_limited
ghosts-make_limited g a = record { limit = a.capacity }
