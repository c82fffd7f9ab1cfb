use Rattle.std.proofs.Common.{◌≡◌, ◌++◌, List}
use Rattle.yd_ids.specs.declared.id.Span.{Span}
use Rattle.yd_agreement.specs.Differing.{DifferAmong, content_of}
use Rattle.yd_agreement.specs.First.{IsFirstBut}
use Rattle.yd_agreement.specs.Sweep.{runs_in}
use Rattle.yd_agreement.proofs.EndsLemmas.{IsPartedAtAny}
use Rattle.yd_agreement.proofs.parting.parted_by.Given as goal

-- it is the first id by the spans so far, which with those that are left are the set
abbrev pub invariant-loop-span : goal.invariant-loop-span
invariant-loop-span l = record {
  done : List Span;
  both : done ++ l.span-iterator ≡ l.set;
  first_so_far : IsFirstBut (IsPartedAtAny (runs_in l.full) done) (DifferAmong content_of (runs_in l.full)) l.first;
}
