-- What stands is a table of origins: the sources of an operation came in an earlier round.
use Rattle.std.proofs.Common.{◌≡◌, ℕ, zero, suc, ◌+◌, ◌<◌, Bool, true, false, List, length, refl, sym, subst, arith, true≢false}
use Rattle.std.specs.Prelude.{IfSome, not}
use Rattle.yd_words.specs.Member.{IsIn, AreDistinct}
use Rattle.yd_words.specs.Test.{one_if}
use Rattle.yd_words.proofs.OptionLemmas.{if_some_map, if_some_each}
use Rattle.yd_ids.specs.declared.id.Id.{Id}
use Rattle.yd_ops.specs.Operation.{Operation}
use Rattle.yd_origins.specs.Table.{OriginTable, ids_of, left_of, right_of, IsTable}
use Rattle.yd_ops.specs.Received.{has_operation, IsWritten}
use Rattle.yd_ops.proofs.OneOfLemmas.{operation_with}
use Rattle.yd_meaning.specs.Held.{sources, round, standing}
use Rattle.yd_meaning.specs.Order.{rows_of}
use Rattle.yd_meaning.proofs.RowLemmas.{row_one, has_row, written_distinct, one_operation, left_of-row, right_of-row}
use Rattle.yd_meaning.proofs.NeedLemmas.{left_source, right_source}
use Rattle.yd_meaning.proofs.RoundLemmas.{needs_before, round_in}
use Rattle.yd_meaning.proofs.StandingLemmas.{remaining, remaining_written, standing_written, standing_sources}

module _ (held : List Operation) (w : IsWritten held) where
  -- ---- how many rounds come before an operation

  -- the operations of which rounds are taken
  abbrev os : List Operation
  os = remaining held

  -- how many of the first rounds do not have the id
  abbrev pub rounds_without : ℕ → Id → ℕ
  rounds_without zero x = 0
  rounds_without (suc n) x = one_if (not (has_operation (round sources os n) x)) + rounds_without n x

  module _ (o : Operation) (i : IsIn o os) (y : Id) (j : IsIn y (sources o)) where
    -- a round that has the operation comes after one that has its source
    later_round : (n : ℕ) → has_operation (round sources os (suc n)) o.id ≡ true → has_operation (round sources os n) y ≡ true
    later_round n e = let (p, k, g) = operation_with (round sources os (suc n)) o.id e in
        let one : p ≡ o = one_operation os (written_distinct os (remaining_written held w)) p o (round_in sources os (suc n) p k) i g in
        needs_before sources os n p k y (subst (λ q. IsIn y (sources q)) (sym one) j)

    fewer_rounds : (n : ℕ) → rounds_without n y < rounds_without (suc n) o.id
    fewer_rounds zero = omega arith
    fewer_rounds (suc n) = go (has_operation (round sources os (suc n)) o.id) (has_operation (round sources os n) y) (later_round n) (fewer_rounds n)
      where
        go : (s t : Bool) → (s ≡ true → t ≡ true) → rounds_without n y < rounds_without (suc n) o.id →
            one_if (not t) + rounds_without n y < one_if (not s) + rounds_without (suc n) o.id
        go true true f lt = omega arith
        go true false f lt = absurd (true≢false (sym (f refl)))
        go false true f lt = omega arith
        go false false f lt = omega arith

    source_is_earlier : (n : ℕ) → IsIn o (round sources os n) → rounds_without n y < rounds_without n o.id
    source_is_earlier zero k = absurd k
    source_is_earlier (suc n) k = rw (needs_before sources os n o k y j) (omega (arith, fewer_rounds n))

  -- ---- the table

  abbrev rows : OriginTable
  rows = rows_of (standing held)

  -- how many rounds come before an id
  abbrev pub arrival : Id → ℕ
  arrival = rounds_without (length os)

  -- the second id stands, and came earlier than the first
  abbrev pub IsEarlier : Id → Id → Type 0
  IsEarlier x y = IsIn y (ids_of rows) × (arrival y < arrival x)

  pub standing_distinct : AreDistinct (ids_of rows)
  standing_distinct = written_distinct (standing held) (standing_written held w)

  -- what an operation stands on is earlier
  pub source_earlier : (o : Operation) → IsIn o (standing held) → (y : Id) → IsIn y (sources o) → IsEarlier o.id y
  source_earlier o i y j = (has_row (standing held) y (standing_sources held w o i y j), source_is_earlier o (round_in sources os (length os) o i) y j (length os) i)

  -- and so are its origins
  pub left_earlier : (x : Id) → IsIn x (ids_of rows) → IfSome (left_of rows x) (IsEarlier x)
  left_earlier x i = let (o, j, e) = row_one (standing held) x i in subst (λ z. IfSome (left_of rows z) (IsEarlier z)) e
      (rw (left_of-row (standing held) standing_distinct o j) (if_some_each (IsEarlier o.id) o.left_origin (λ y g. source_earlier o j y (left_source o y g))))

  pub right_earlier : (x : Id) → IsIn x (ids_of rows) → IfSome (right_of rows x) (IsEarlier x)
  right_earlier x i = let (o, j, e) = row_one (standing held) x i in subst (λ z. IfSome (right_of rows z) (IsEarlier z)) e
      (rw (right_of-row (standing held) standing_distinct o j) (if_some_each (IsEarlier o.id) o.right_origin (λ y g. source_earlier o j y (right_source o y g))))

  -- ---- lemmas for callers

  pub standing_table : IsTable rows
  standing_table = record {
    distinct = standing_distinct;
    has_left = λ x i. if_some_map (IsEarlier x) (λ y. IsIn y (ids_of rows)) (left_of rows x) (λ y c. c.0) (left_earlier x i);
    has_right = λ x i. if_some_map (IsEarlier x) (λ y. IsIn y (ids_of rows)) (right_of rows x) (λ y c. c.0) (right_earlier x i);
    ends = record {
      height = arrival;
      falls_left = λ x i. if_some_map (IsEarlier x) (λ y. arrival y < arrival x) (left_of rows x) (λ y c. c.1) (left_earlier x i);
      falls_right = λ x i. if_some_map (IsEarlier x) (λ y. arrival y < arrival x) (right_of rows x) (λ y c. c.1) (right_earlier x i);
    };
  }
