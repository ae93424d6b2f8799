use Rattle.mr_jobs.proofs.round.array_round.Given as goal

abbrev pub ghosts-in_array : goal.ghosts-in_array
ghosts-in_array g a = record { size = a.size }
