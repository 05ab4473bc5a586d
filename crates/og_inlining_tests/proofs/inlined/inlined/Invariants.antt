use Rattle.og_inlining_tests.proofs.inlined.inlined.Given as goal

abbrev pub ghosts-check_all : goal.ghosts-check_all
ghosts-check_all g a = record { name = a.blank.name; parts = a.blank.parts }
