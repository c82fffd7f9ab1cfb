-- What the rows of a run say of lefts and rights.
use Rattle.std.proofs.Common.{◌≡◌, ℕ, zero, suc, ◌-◌, ◌<◌, inl, inr, Option, Some, refl, sym, ap, subst, arith}
use Rattle.yd_words.specs.Member.{IsIn}
use Rattle.yd_ids.specs.declared.id.Client.{Client}
use Rattle.yd_ids.specs.declared.id.Id.{Id}
use Rattle.yd_origins.specs.Table.{Row, OriginTable, left_of, right_of}
use Rattle.yd_origins.specs.Growing.{IsRun}
use Rattle.yd_scan.specs.declared.stretch.Stretch.{Stretch}
use Rattle.yd_scan.specs.Stretches.{units_from, later_units}
use Rattle.yd_arena.specs.Rows.{rows_of_units, rows_of_run}
use Rattle.yd_kept.specs.Placing.{IsRowOf}

module _ (table : OriginTable) (client : Client) (right : Option Id) where
  -- the units behind the first are a run, where each row is the table's
  later_run : (n clock : ℕ) → ((row : Row) → IsIn row (rows_of_units client (Some (record { client = client; clock = clock })) right (suc clock) n) → IsRowOf table row) →
      IsRun (left_of table) (record { client = client; clock = clock }) (units_from client (suc clock) n)
  later_run zero clock rows = tt
  later_run (suc n) clock rows = (
    (rows (record { id = record { client = client; clock = suc clock }; left = Some (record { client = client; clock = clock }); right = right }) (inl refl)).left,
    later_run n (suc clock) (λ row i. rows row (inr i)),
  )

  -- the right of each is the run's
  pub right_is : (n clock : ℕ) (left : Option Id) (row : Row) → IsIn row (rows_of_units client left right clock n) → row.right ≡ right
  right_is zero clock left row i = absurd i
  right_is (suc n) clock left row (inl e) = ap (λ (r : Row). r.right) e
  right_is (suc n) clock left row (inr i) = right_is n (suc clock) (Some (record { client = client; clock = clock })) row i

-- what a table says of a run: the left and the right of its first unit, and that the others follow
pub record IsRunOfTable (table : OriginTable) (run : Stretch) : Type 0 where
  pub left : left_of table run.id ≡ run.left
  pub right : right_of table run.id ≡ run.right
  pub later : IsRun (left_of table) run.id (later_units run)

pub run_of_table : (table : OriginTable) (run : Stretch) → 0 < run.len → ((row : Row) → IsIn row (rows_of_run run) → IsRowOf table row) → IsRunOfTable table run
run_of_table table run filled rows = let r = go run.len filled rows in record { left = r.0; right = r.1; later = r.2 }
  where
    go : (n : ℕ) → 0 < n → ((row : Row) → IsIn row (rows_of_units run.id.client run.left run.right run.id.clock n) → IsRowOf table row) →
        (left_of table run.id ≡ run.left) × (right_of table run.id ≡ run.right) × IsRun (left_of table) run.id (units_from run.id.client (suc run.id.clock) (n - 1))
    go zero lt rs = absurd (omega arith)
    go (suc n) lt rs =
        let first = rs (record { id = run.id; left = run.left; right = run.right }) (inl refl) in
        let e : suc n - 1 ≡ n = omega arith in (
          first.left,
          first.right,
          subst (λ m. IsRun (left_of table) run.id (units_from run.id.client (suc run.id.clock) m)) (sym e)
              (later_run table run.id.client run.right n run.id.clock (λ row i. rs row (inr i))),
        )
