use Rattle.machine_bench.proofs.runs.ended.Given as goal

abbrev pub ghosts-by_machine : goal.ghosts-by_machine
ghosts-by_machine a = record { name = a.blank.name; parts = a.blank.parts }
