use Rattle.std.proofs.Common.{◌≡◌, ◌++◌, [], take, drop}
use Rattle.yd_making.specs.Given.{basis_of_given}
use Rattle.yd_making.specs.Rights.{rights_from}
use Rattle.yd_making.specs.Steps.{steps_value}
use Rattle.yd_making.proofs.basis.Basis.rights.Given as goal

-- those of the steps so far, and then of the others, are all
abbrev pub invariant-loop-i : goal.invariant-loop-i
invariant-loop-i l = l.rights.items ++ rights_from l.self.client l.clock (basis_of_given l.self).document.units (steps_value (take l.i l.steps)) (steps_value (drop l.i l.steps))
    ≡ rights_from l.self.client l.clock (basis_of_given l.self).document.units [] (steps_value l.steps)
