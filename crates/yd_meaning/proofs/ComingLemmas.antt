-- What is held comes in rounds, so every list can grow, and the defined document is a replica's own where the edit rules are kept.
use Rattle.std.proofs.Common.{◌≡◌, ℕ, zero, suc, ◌+◌, ◌<◌, Bool, true, false, not, List, [], Option, Some, None, inl, length, refl, sym, ap, ◌∙◌, subst, arith, true≢false}
use Rattle.std.specs.Prelude.{IfSome, if◌then◌else◌}
use Rattle.yd_words.specs.Member.{IsIn}
use Rattle.yd_words.specs.Test.{one_if}
use Rattle.yd_words.proofs.OptionLemmas.{if_some_each}
use Rattle.yd_ids.specs.declared.id.Id.{Id}
use Rattle.yd_ids.specs.Ids.{HasSmallerClock}
use Rattle.yd_ids.proofs.IdLemmas.{same_numbers}
use Rattle.yd_ops.specs.declared.lists.List.{List as DocList}
use Rattle.yd_ops.specs.Operation.{Operation}
use Rattle.yd_origins.specs.Table.{OriginTable, ids_of, left_of, right_of, IsTable}
use Rattle.yd_origins.specs.Operations.{OperationSet, kept_right}
use Rattle.yd_origins.specs.Scan.{after_scans}
use Rattle.yd_origins.specs.Sorted.{sorted}
use Rattle.yd_origins.proofs.ListTableLemmas.{own_member, in_own, own_left, own_right, own_is_table}
use Rattle.yd_origins.proofs.SortedLemmas.{in_sorted}
use Rattle.yd_ops.specs.Received.{has_operation, IsWritten}
use Rattle.yd_ops.proofs.OneOfLemmas.{operation_with}
use Rattle.yd_meaning.specs.Names.{same_list}
use Rattle.yd_meaning.specs.ListNames.{list_names}
use Rattle.yd_meaning.specs.Held.{needs, round, held_set, standing}
use Rattle.yd_meaning.specs.Order.{rows_of, operation_set, list_of, AreHonest}
use Rattle.yd_meaning.specs.Document.{document_with}
use Rattle.yd_meaning.proofs.HeldLemmas.{held_in}
use Rattle.yd_meaning.proofs.HonestLemmas.{honest_set}
use Rattle.yd_meaning.proofs.NeedLemmas.{left_source, right_source, before_needed, source_needed}
use Rattle.yd_meaning.proofs.RoundLemmas.{needs_before, round_in}
use Rattle.yd_meaning.proofs.RowLemmas.{row_one, has_row, row_has, written_distinct, one_operation, left_of-row, right_of-row}
use Rattle.yd_meaning.proofs.StandingLemmas.{standing_in}
use Rattle.yd_meaning.proofs.StandingTableLemmas.{standing_table}
use Rattle.yd_meaning.proofs.VectorLemmas.{held_written, held_smaller}
use Rattle.yd_meaning.specs.Grown.{table_in, IsGrown, HasAllOfList}
use Rattle.yd_meaning.specs.Own.{IsOwnDocument}
use Rattle.yd_meaning.proofs.ArrangingLemmas.{is_lower, arranged}
use Rattle.yd_meaning.proofs.DefinedLemmas.{ids_are, defined_each, defined_once, defined_as_held, defined_closed, defined_least}
use Rattle.yd_meaning.proofs.GrowthLemmas.{in_scans}
use Rattle.yd_meaning.proofs.GrownHonestLemmas.{grown_is_order}
use Rattle.yd_meaning.proofs.GrownStayingLemmas.{stands_held}

module _ (os : List Operation) (w : IsWritten os) where
  abbrev held : List Operation
  held = held_set os

  written : IsWritten held
  written = held_written os w

  -- ---- how many rounds come before an operation

  -- how many of the first rounds do not have the id
  abbrev rounds_without : ℕ → Id → ℕ
  rounds_without zero x = 0
  rounds_without (suc n) x = one_if (not (has_operation (round needs os n) x)) + rounds_without n x

  module _ (o : Operation) (i : IsIn o os) (y : Id) (j : IsIn y (needs o)) where
    -- a round that has the operation comes after one that has what it needs
    later_round : (n : ℕ) → has_operation (round needs os (suc n)) o.id ≡ true → has_operation (round needs os n) y ≡ true
    later_round n e = let (p, k, g) = operation_with (round needs os (suc n)) o.id e in
        let one : p ≡ o = one_operation os (written_distinct os w) p o (round_in needs os (suc n) p k) i g in
        needs_before needs os n p k y (subst (λ q. IsIn y (needs q)) (sym one) j)

    fewer_rounds : (n : ℕ) → rounds_without n y < rounds_without (suc n) o.id
    fewer_rounds zero = omega arith
    fewer_rounds (suc n) = go (has_operation (round needs os (suc n)) o.id) (has_operation (round needs os n) y) (later_round n) (fewer_rounds n)
      where
        go : (s t : Bool) → (s ≡ true → t ≡ true) → rounds_without n y < rounds_without (suc n) o.id →
            one_if (not t) + rounds_without n y < one_if (not s) + rounds_without (suc n) o.id
        go true true f lt = omega arith
        go true false f lt = absurd (true≢false (sym (f refl)))
        go false true f lt = omega arith
        go false false f lt = omega arith

    need_is_earlier : (n : ℕ) → IsIn o (round needs os n) → rounds_without n y < rounds_without n o.id
    need_is_earlier zero k = absurd k
    need_is_earlier (suc n) k = rw (needs_before needs os n o k y j) (omega (arith, fewer_rounds n))

  -- how many rounds come before an id
  abbrev arrival : Id → ℕ
  arrival = rounds_without (length os)

  need_earlier : (o : Operation) → IsIn o held → (y : Id) → IsIn y (needs o) → arrival y < arrival o.id
  need_earlier o i y j = need_is_earlier o (held_in os o i) y j (length os) i

  -- the client's unit before one came earlier
  before_earlier : (x y : Id) → has_operation held x ≡ true → y.client ≡ x.client → x.clock ≡ suc y.clock → arrival y < arrival x
  before_earlier x y there same next =
      let (o, i, e) = operation_with held x there in
      let is : y ≡ record { client = o.id.client; clock = y.clock } =
      same_numbers y (record { client = o.id.client; clock = y.clock }) (ap (λ c. c.0) same ∙ sym (ap (λ (z : Id). z.client.0) e)) refl in
      subst (λ z. arrival y < arrival z) e (subst (λ z. arrival z < arrival o.id) (sym is)
      (need_earlier o i (record { client = o.id.client; clock = y.clock }) (before_needed o y.clock (ap (λ (z : Id). z.clock) e ∙ next))))

  -- and so did all with smaller clocks
  smaller_earlier : (n : ℕ) (x y : Id) → has_operation held x ≡ true → y.client ≡ x.client → x.clock ≡ suc (n + y.clock) → arrival y < arrival x
  smaller_earlier zero x y there same next = before_earlier x y there same (omega (arith, next))
  smaller_earlier (suc n) x y there same next =
      let z : Id = record { client = x.client; clock = suc y.clock } in
      let below : has_operation held z ≡ true = held_smaller os w x z there (refl, omega (arith, next)) in
      omega (arith, before_earlier z y below same refl, smaller_earlier n x z there refl (omega (arith, next)))

  -- ---- the table of a list

  module _ (list : DocList) where
    abbrev set : OperationSet list_names
    set = operation_set (standing held)

    rows : IsTable (rows_of (standing held))
    rows = standing_table held written

    abbrev own : OriginTable
    own = table_in (standing held) list

    stands : (x : Id) → IsIn x (ids_of own) → (o : Operation) × IsIn o (standing held) × (o.id ≡ x)
    stands x i = row_one (standing held) x (own_member set rows list x i)

    kept_earlier : (x : Id) (z : Option Id) → IfSome z (λ y. arrival y < arrival x) → IfSome (kept_right set x z) (λ y. arrival y < arrival x)
    kept_earlier x None h = tt
    kept_earlier x (Some r) h = go (same_list (list_of (standing held) r) (list_of (standing held) x))
      where
        go : (t : Bool) → IfSome (if t then Some r else None) (λ y. arrival y < arrival x)
        go true = h
        go false = tt

    lefts : (x : Id) → IsIn x (ids_of own) → IfSome (left_of own x) (λ y. arrival y < arrival x)
    lefts x i = let (o, j, e) = stands x i in
        subst (λ z. IfSome z (λ y. arrival y < arrival x)) (sym (own_left set rows list x i))
        (subst (λ v. IfSome (left_of (rows_of (standing held)) v) (λ y. arrival y < arrival v)) e
        (rw (left_of-row (standing held) rows.distinct o j)
        (if_some_each (λ y. arrival y < arrival o.id) o.left_origin (λ y g. need_earlier o (standing_in held written o j).0 y (source_needed o y (left_source o y g))))))

    rights : (x : Id) → IsIn x (ids_of own) → IfSome (right_of own x) (λ y. arrival y < arrival x)
    rights x i = let (o, j, e) = stands x i in
        subst (λ z. IfSome z (λ y. arrival y < arrival x)) (sym (own_right set rows list x i)) (kept_earlier x (right_of (rows_of (standing held)) x)
        (subst (λ v. IfSome (right_of (rows_of (standing held)) v) (λ y. arrival y < arrival v)) e
        (rw (right_of-row (standing held) rows.distinct o j)
        (if_some_each (λ y. arrival y < arrival o.id) o.right_origin (λ y g. need_earlier o (standing_in held written o j).0 y (source_needed o y (right_source o y g)))))))

    clocks : (x y : Id) → IsIn x (ids_of own) → IsIn y (ids_of own) → HasSmallerClock y x → arrival y < arrival x
    clocks x y i j c =
        let there : has_operation held x ≡ true = stands_held held written x (row_has (standing held) x (own_member set rows list x i)) in
        let (n, e) = gap y.clock x.clock c.1 in smaller_earlier n x y there c.0 e
      where
        gap : (a b : ℕ) → a < b → (n : ℕ) × (b ≡ suc (n + a))
        gap a zero lt = absurd (omega (arith, lt))
        gap zero (suc b) lt = (b, omega arith)
        gap (suc a) (suc b) lt = let (n, e) = gap a b (omega (arith, lt)) in (n, omega (arith, e))

    abbrev coming : List Id
    coming = sorted (is_lower arrival) (ids_of own)

    abbrev grown_ids : List Id
    grown_ids = after_scans (left_of own) (right_of own) [] coming

    is_grown : IsGrown (standing held) list grown_ids
    is_grown = record { news = coming; arranged = arranged arrival own (own_is_table set rows list) lefts rights clocks; grown = refl }

    is_whole : HasAllOfList (standing held) list grown_ids
    is_whole x e of = in_scans (left_of own) (right_of own) coming [] x (inl (in_sorted (is_lower arrival) (ids_of own) x (in_own set rows list x (has_row (standing held) x e) of)))

    -- ---- lemmas for callers

    -- every list can grow
    pub can_grow : (ids : List Id) × IsGrown (standing held) list ids × HasAllOfList (standing held) list ids
    can_grow = (grown_ids, is_grown, is_whole)

  -- ---- the document that is defined

  module _ (honest : AreHonest held) (named : Id → Bool) where
    pub defined_is_own : IsOwnDocument (document_with held named) held named
    defined_is_own = record {
      lists = record {
        each = defined_each held written named;
        once = defined_once held written named;
        as_held = defined_as_held held written named;
        grown = λ list. subst (IsGrown (standing held) list)
            (grown_is_order held written (honest_set os w honest) list (grown_ids list) (is_grown list) (is_whole list) ∙ sym (ids_are held written named list)) (is_grown list);
      };
      closed = defined_closed held written named;
      least = defined_least held written named;
      keys = λ parent. refl;
    }
