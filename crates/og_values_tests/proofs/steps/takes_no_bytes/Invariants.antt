use Rattle.og_values_tests.proofs.steps.takes_no_bytes.Given as goal

abbrev pub ghosts-three : goal.ghosts-three
ghosts-three g a = record { name = a.blank.name; parts = a.blank.parts }
