use Rattle.std.proofs.Common.{◌≡◌, ℕ, List, ◌++◌, Option, length}
use Rattle.yd_ending.specs.Writing.{TakesAll}
use Rattle.yd_ending.proofs.writing.write_out.Given as goal

-- a front of the bytes was taken, and this is the rest
pub record SoFar (taken taken_now : Option (List ℕ)) (faults faults_now : ℕ) (Calm CalmNow : Type 0) (bytes rest : List ℕ) : Type 0 where
  pub front : List ℕ
  pub parts : bytes ≡ front ++ rest
  pub takes : TakesAll taken taken_now front
  pub no_fault : faults_now ≡ faults
  pub calm : Calm → CalmNow

abbrev pub invariant-loop-rest : goal.invariant-loop-rest
invariant-loop-rest g l = SoFar (g.S.Sink.bytes_taken l.fn.out) (g.S.Sink.bytes_taken l.out) (g.S.Sink.faults l.fn.out) (g.S.Sink.faults l.out) (g.S.Sink.is_calm l.fn.out) (g.S.Sink.is_calm l.out) l.bytes l.rest

abbrev pub decreases-loop-rest : goal.decreases-loop-rest
decreases-loop-rest g l = length l.rest
