-- The rows of a list are those of the stretches with its number.
use Rattle.std.proofs.Common.{◌≡◌, ℕ, Bool, List, Some, map, sym, ap, ◌∙◌, subst, arith, tests}
use Rattle.std.specs.Prelude.{Decides, IfSome, filter, nat_eq, slice_get}
use Rattle.yd_words.specs.Each.{Each}
use Rattle.yd_words.specs.Member.{IsIn}
use Rattle.yd_words.proofs.FilterLemmas.{kept_one}
use Rattle.yd_words.proofs.MemberLemmas.{each_in, in_each}
use Rattle.yd_words.proofs.OptionLemmas.{some_is, if_some_each}
use Rattle.yd_words.proofs.TestLemmas.{one_answer}
use Rattle.yd_ids.specs.declared.id.Id.{Id}
use Rattle.yd_ops.specs.declared.lists.List.{List as DocList}
use Rattle.yd_ops.specs.declared.runs.Run.{Run}
use Rattle.yd_ops.specs.Operation.{Operation}
use Rattle.yd_origins.specs.Table.{ids_of, IsTable}
use Rattle.yd_origins.specs.Operations.{table_of_list}
use Rattle.yd_meaning.specs.Names.{same_list}
use Rattle.yd_meaning.specs.ListNames.{same_list_decides}
use Rattle.yd_meaning.specs.Order.{rows_of, list_of, operation_set}
use Rattle.yd_meaning.proofs.RowLemmas.{row_one}
use Rattle.yd_order.specs.Stretch.{rows_of_stretch, rows_of_stretches, among_rows, EndsAtClock}
use Rattle.yd_entries.specs.declared.entry.Entry.{Entry}
use Rattle.yd_entries.specs.Entries.{operations_of_taken, IsTakenOf, is_listed}
use Rattle.yd_received.specs.Received.{listed_of}
use Rattle.yd_entries.proofs.EntriesLemmas.{each_kept}
use Rattle.yd_held.specs.Held.{HeldValue, HoldsAll}
use Rattle.yd_held.specs.Numbered.{list_at_place, is_in_list}
use Rattle.yd_stretches.specs.Stretches.{stretch_of, stretches_in}
use Rattle.yd_stretches.proofs.TakenRowLemmas.{IsOfRun, rows_of-taken, rows_of-operations, stretches_end}
use Rattle.yd_stretches.proofs.AmongLemmas.{rows_where, table_of_list-among, among_is_table}
use Rattle.yd_stretches.proofs.NumberLemmas.{stands_table, number_listed, entry_is, unit_list}
use Rattle.yd_stretches.proofs.OneListLemmas.{where-listed}

number_decides : (m n : ℕ) → Decides (nat_eq m n) (m ≡ n)
number_decides m n = ((λ e. grind (arith, tests)), (λ e. grind (arith, tests)))

module _ (k : HeldValue) (holds : HoldsAll k) where
  abbrev runs : List Run
  runs = k.received.runs

  abbrev ts : List Entry
  ts = k.received.entries

  abbrev stands : List Operation
  stands = listed_of k.received

  -- the rows of what stands are those of the stretches in lists
  listed_rows : rows_of stands ≡ rows_of_stretches (map stretch_of (filter is_listed ts))
  listed_rows = rows_of-operations runs (filter is_listed ts) (in_each (IsOfRun runs) (filter is_listed ts)
      (λ t i. let (passes, j) = kept_one is_listed ts t i in entry_is k holds t j passes))

  module _ (n : ℕ) (name : DocList) (there : slice_get k.names n ≡ Some name) where
    abbrev is_own : Id → Bool
    is_own x = same_list (list_of stands x) name

    -- an entry's units are of the list where the entry has its number
    own_number : (t : Entry) (m : ℕ) → slice_get k.names m ≡ Some (list_of stands t.id) → (x : Id) → list_of stands x ≡ list_of stands t.id → is_own x ≡ nat_eq m n
    own_number t m named x e = one_answer (is_own x) (nat_eq m n) (
      (λ same. holds.numbered.distinct m n name (named ∙ ap Some (sym e ∙ (same_list_decides (list_of stands x) name).0 same)) there),
      (λ same. (same_list_decides (list_of stands x) name).1 (e ∙ some_is (list_of stands t.id) name (sym named ∙ ap (slice_get k.names) same ∙ there))),
    ) (number_decides m n)

    own_entry : (t : Entry) → IsIn t ts →
        IfSome (list_at_place t.place) (λ m. (x : Id) → IsIn x (ids_of (rows_of_stretch (stretch_of t))) → is_own x ≡ nat_eq m n)
    own_entry t i = if_some_each (λ m. (x : Id) → IsIn x (ids_of (rows_of_stretch (stretch_of t))) → is_own x ≡ nat_eq m n) (list_at_place t.place) (λ m at x j.
        let passes = number_listed t.place m at in
        let (o, l, e) = row_one (operations_of_taken runs t) x (subst (λ rows. IsIn x (ids_of rows)) (sym (rows_of-taken runs t (entry_is k holds t i passes))) j) in
        own_number t m (named m at) x (sym (ap (list_of stands) e) ∙ unit_list k holds t i passes o l))
      where
        named : (m : ℕ) → list_at_place t.place ≡ Some m → slice_get k.names m ≡ Some (list_of stands t.id)
        named m at = subst (λ z. IfSome z (λ m. slice_get k.names m ≡ Some (list_of stands t.id))) at
            (each_in (λ (t : Entry). IfSome (list_at_place t.place) (λ n. slice_get k.names n ≡ Some (list_of stands t.id))) ts holds.numbered.named t i)

    own_rows : rows_where is_own (rows_of stands) ≡ rows_of_stretches (stretches_in n ts)
    own_rows = ap (rows_where is_own) listed_rows
        ∙ where-listed is_own n ts (in_each (λ (t : Entry). IfSome (list_at_place t.place) (λ m. (x : Id) → IsIn x (ids_of (rows_of_stretch
        (stretch_of t))) → is_own x ≡ nat_eq m n)) ts own_entry)

    -- ---- lemmas for callers

    -- the rows of a list are those of the stretches with its number
    pub list_table : table_of_list (operation_set stands) name ≡ among_rows (rows_of_stretches (stretches_in n ts))
    list_table = table_of_list-among (operation_set stands) (stands_table k holds) name ∙ ap among_rows own_rows

    -- and their rows are a table
    pub stretches_are_table : IsTable (among_rows (rows_of_stretches (stretches_in n ts)))
    stretches_are_table = subst (λ rows. IsTable (among_rows rows)) own_rows (among_is_table (operation_set stands) (stands_table k holds) name)

    pub list_stretches_end : Each EndsAtClock (stretches_in n ts)
    list_stretches_end = stretches_end runs (filter (is_in_list n) ts) (each_kept (is_in_list n) (IsTakenOf runs) ts holds.in_order.each)
