use Rattle.fill_core.proofs.fill_over.fill_all.Given as goal

abbrev pub ghosts-filled_alone : goal.ghosts-filled_alone
ghosts-filled_alone a = record { name = a.blank.name; parts = a.blank.parts }
