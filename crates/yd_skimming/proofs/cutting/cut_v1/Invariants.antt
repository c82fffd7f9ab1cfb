use Rattle.yd_skimming.proofs.cutting.cut_v1.Given as goal

-- the vector is the one that is passed
abbrev pub ghosts-cut_plainly : goal.ghosts-cut_plainly
ghosts-cut_plainly a = record { vector = a.vector.now }
