use Rattle.std.proofs.Common.{◌≡◌, ◌++◌}
use Rattle.yd_editing.specs.Refused.{spans_refusal}
use Rattle.yd_making.specs.Given.{basis_of_given}
use Rattle.yd_making.specs.Steps.{fault_given}
use Rattle.yd_making.proofs.basis.Basis.spans_fault.Given as goal

-- the spans so far are held
abbrev pub invariant-loop-span : goal.invariant-loop-span
invariant-loop-span l = record {
  all : l.yielded ++ l.span-iterator ≡ l.spans;
  asked : fault_given (spans_refusal (basis_of_given l.self).vector l.span-iterator) ≡ fault_given (spans_refusal (basis_of_given l.self).vector l.spans);
}
