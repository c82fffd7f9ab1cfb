-- A column of numbers is read exactly, value by value and whole.
use Rattle.yd_cols.proofs.RunStandLemmas.{ends_runs, run_before, run_given, runs_end}
use Rattle.yd_cols.proofs.RunTakenLemmas.{run_again, run_fails, run_lacking, run_taken}
use Rattle.yd_cols.proofs.UintFaultLemmas.{uint_fails_as}
use Rattle.yd_cols.proofs.UintRunLemmas.{uint_skips}
use Rattle.yd_cols.specs.Column.{SpellsUintRun}
use Rattle.yd_cols.specs.Law.{IsExact, IsReadWhole}
use Rattle.yd_cols.specs.Reading.{end_of_uints, next_uint, uint_run_at}
use Rattle.yd_cols.specs.Standing.{UintsStand}
use Rattle.yd_cols.specs.Taking.{LacksUint, LacksUintRun, TakesUint}

pub uint_exact : IsExact next_uint TakesUint LacksUint
uint_exact = record {
  values = λ left v next. (run_taken uint_run_at SpellsUintRun uint_skips left v next, run_again uint_run_at SpellsUintRun uint_skips left v next);
  faults = λ left fault. (run_lacking uint_run_at LacksUintRun uint_fails_as left fault, run_fails uint_run_at LacksUintRun uint_fails_as left fault);
}

pub uint_whole : IsReadWhole (λ left. Unit {0}) next_uint end_of_uints UintsStand
uint_whole = record {
  given = λ left v vs sound stand. let given = run_given SpellsUintRun left v vs stand in (given.0, run_again uint_run_at SpellsUintRun uint_skips left v given.0 given.1, tt, given.2);
  taken = λ left v next vs sound read stand. run_before SpellsUintRun left v next vs (run_taken uint_run_at SpellsUintRun uint_skips left v next read) stand;
  end = λ left. (runs_end SpellsUintRun left, ends_runs SpellsUintRun left);
}
