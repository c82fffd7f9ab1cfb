-- Lists of held operations that keep the edit rules: the laws of the order, at these.
use Rattle.std.proofs.Common.{◌≡◌, true, List, ◌∙◌}
use Rattle.yd_words.specs.Member.{IsIn}
use Rattle.yd_ids.specs.declared.id.Id.{Id}
use Rattle.yd_ops.specs.declared.lists.List.{List as DocList}
use Rattle.yd_ops.specs.Operation.{Operation}
use Rattle.yd_origins.specs.Table.{OriginTable, IsTable}
use Rattle.yd_origins.specs.Before.{is_before, IsInOrder, Fits}
use Rattle.yd_origins.specs.Growing.{GrowsByScan, IsClosed}
use Rattle.yd_origins.specs.Operations.{OperationSet, table_of_list, IsHonest}
use Rattle.yd_origins.proofs.FittingLemmas.{one_way, through, left_before, right_behind}
use Rattle.yd_origins.proofs.GrowingLemmas.{growth_keeps, growth_gives_order}
use Rattle.yd_origins.proofs.HonestLemmas.{own_fits, right_is}
use Rattle.yd_origins.proofs.ListTableLemmas.{own_is_table, own_left, own_list, own_member, in_own}
use Rattle.yd_origins.proofs.SortedLemmas.{order_in_order}
use Rattle.yd_ops.specs.Received.{has_operation, IsWritten}
use Rattle.yd_meaning.specs.ListNames.{list_names}
use Rattle.yd_meaning.specs.Held.{held_set, standing}
use Rattle.yd_meaning.specs.Order.{rows_of, list_of, order_of, operation_set, AreHonest}
use Rattle.yd_meaning.specs.Law.{IsHonestList, HasStrictOrder}
use Rattle.yd_meaning.proofs.RowLemmas.{one_row, row_has, left_of-row, right_of-row}
use Rattle.yd_meaning.proofs.VectorLemmas.{held_written}
use Rattle.yd_meaning.proofs.StandingTableLemmas.{standing_table}
use Rattle.yd_meaning.proofs.HonestLemmas.{honest_set}

-- ---- lemmas for callers

module _ (received : List Operation) (written : IsWritten received) (honest : AreHonest (held_set received)) (list : DocList) where
  -- the held operations that are not lost
  abbrev stands : List Operation
  stands = standing (held_set received)

  abbrev set : OperationSet list_names
  set = operation_set stands

  abbrev own : OriginTable
  own = table_of_list set list

  table : IsTable (rows_of stands)
  table = standing_table (held_set received) (held_written received written)

  own_table : IsTable own
  own_table = own_is_table set table list

  are_honest : IsHonest set
  are_honest = honest_set received written honest

  fits : Fits own
  fits = own_fits set table are_honest list

  pub honest_list : IsHonestList (held_set received) list
  honest_list = record {
    is_table = own_table;
    fits = fits;
    lefts = λ o i e. own_left set table list o.id (in_own set table list o.id (one_row stands o i) e) ∙ left_of-row stands table.distinct o i;
    rights = λ o i e. right_is set table are_honest list o.id (in_own set table list o.id (one_row stands o i) e) ∙ right_of-row stands table.distinct o i;
  }

  pub strict_order : HasStrictOrder (held_set received) list
  strict_order = record {
    strict = record {
      one_way = λ a b p q e. one_way own own_table fits a b p q e;
      through = λ x y z p q r e g. through own own_table fits x y z p q r e g;
      after_left = λ x y p e. left_before own own_table fits x y p (rw e at (own_table.has_left x p)) e;
      before_right = λ x y p e. right_behind own own_table fits x y p (rw e at (own_table.has_right x p)) e;
    };
    in_order = order_in_order own own_table fits;
  }

  -- ---- growing by scans

  module _ (old new : List Id) (closed : IsClosed own old) (sorted : IsInOrder (is_before own) old) (grows : GrowsByScan own old new) where
    pub grown_in_order : IsInOrder (is_before own) new
    grown_in_order = (growth_keeps own own_table fits old new closed sorted grows).1

    pub grown_is_list : ((x : Id) → has_operation stands x ≡ true → list_of stands x ≡ list → IsIn x new) → new ≡ order_of stands list
    grown_is_list whole = growth_gives_order own own_table fits old new closed sorted grows
        (λ x i. whole x (row_has stands x (own_member set table list x i)) (own_list set table list x i))
