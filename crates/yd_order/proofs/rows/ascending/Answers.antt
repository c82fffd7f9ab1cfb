use Rattle.std.proofs.Common.{rules, of_calls, subst}
use Rattle.std.proofs.lemmas.Fn.{always_returns_same}
use Rattle.std.proofs.lemmas.List.Sorted.{IsPermutation-map}
use Rattle.std.specs.List.Sorted.{IsPermutation}
use Rattle.yd_origins.specs.Table.{OriginTable}
use Rattle.yd_order.specs.declared.rows.OriginRow.{OriginRow}
use Rattle.yd_order.specs.Rows.{row_of, table_of}
use Rattle.yd_order.specs.Stretch.{rows_of_stretches}
use Rattle.yd_order.proofs.AscendingLemmas.{sorted_ascending}
use Rattle.yd_order.proofs.PermutedLemmas.{permuted_distinct}
use Rattle.yd_order.proofs.rows.ascending.Goals as goal

pub returns-clause-same : goal.returns-clause-same
returns-clause-same c =
    subst (λ (t : OriginTable). IsPermutation t (table_of c.sort_unstable_by_key.new.self.items)) c.in_ok-rows.ensures
    (IsPermutation-map row_of c.in_ok-rows.rows.items c.sort_unstable_by_key.new.self.items c.sort_unstable_by_key.ensures.permutation)

pub returns-clause-ascending : goal.returns-clause-ascending
returns-clause-ascending c =
    sorted_ascending c.sort_unstable_by_key.new.self.items
    (c.sort_unstable_by_key.ensures.sorted (λ (row : OriginRow). row.id) (always_returns_same _ _ _ (λ a r f k. search (rules, of_calls))))
    (permuted_distinct (rows_of_stretches c.args.stretches.now) (table_of c.sort_unstable_by_key.new.self.items) (returns-clause-same c) c.requires.distinct)
