-- What is left before the first value is what the column spells.
use Rattle.std.proofs.Common.{◌≡◌, ◌↔◌, ℕ, pos, true, false, List, refl, sym, subst, inl, inr}
use Rattle.yd_cols.specs.Column.{SpellsBytes, SpellsDiffRun, SpellsDiffs, SpellsUintRun, SpellsUints, differences}
use Rattle.yd_cols.specs.Reading.{bytes_in, diffs_in, runs_from, uints_in}
use Rattle.yd_cols.specs.Run.{SpellsRuns}
use Rattle.yd_cols.specs.Standing.{BytesStand, DiffsStand, RunsStand, UintsStand}
use Rattle.yd_cols.specs.declared.run.Run.{Run}

runs_start : {V : Type 0} (Spells : List ℕ → Run V → Type 0) (none : V) (bytes : List ℕ) (values : List V) → RunsStand Spells (runs_from none 0 bytes) values → SpellsRuns Spells bytes values
runs_start Spells none bytes values stand = subst (λ vs. SpellsRuns Spells bytes vs) (sym stand.all) stand.spelled

runs_stand : {V : Type 0} (Spells : List ℕ → Run V → Type 0) (none : V) (bytes : List ℕ) (values : List V) → SpellsRuns Spells bytes values → RunsStand Spells (runs_from none 0 bytes) values
runs_stand Spells none bytes values spelled = record { behind = values; spelled = spelled; all = refl }

pub uints_start : (bytes values : List ℕ) → UintsStand (uints_in bytes) values ↔ SpellsUints bytes values
uints_start bytes values = (runs_start SpellsUintRun 0 bytes values, runs_stand SpellsUintRun 0 bytes values)

pub diffs_start : (bytes values : List ℕ) → DiffsStand (diffs_in bytes) values ↔ SpellsDiffs bytes values
diffs_start bytes values = (
  λ stand. record { in_range = stand.in_range; spelled = runs_start SpellsDiffRun (pos 0) bytes (differences 0 values) stand.stand },
  λ spelled. record { in_range = spelled.in_range; stand = runs_stand SpellsDiffRun (pos 0) bytes (differences 0 values) spelled.spelled },
)

bytes_spelled : (bytes values : List ℕ) → BytesStand (bytes_in bytes) values → SpellsBytes bytes values
bytes_spelled bytes values (inl stands) = let same : false ≡ true = stands.opened in absurd cc
bytes_spelled bytes values (inr stand) = subst (λ vs. SpellsBytes bytes vs) (sym stand.all) stand.spelled

pub bytes_start : (bytes values : List ℕ) → BytesStand (bytes_in bytes) values ↔ SpellsBytes bytes values
bytes_start bytes values = (bytes_spelled bytes values, λ spelled. inr (record { closed = refl; behind = values; spelled = spelled; all = refl }))
