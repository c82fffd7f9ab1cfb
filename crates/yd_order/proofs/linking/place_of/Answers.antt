use Rattle.std.proofs.Common.{rules, of_calls, sym, ◌∙◌, arith}
use Rattle.std.proofs.lemmas.Fn.{always_returns_same}
use Rattle.yd_ids.specs.Ids.{is_smaller}
use Rattle.yd_order.specs.declared.rows.OriginRow.{OriginRow}
use Rattle.yd_order.proofs.AscendingLemmas.{rows_parted, place_found, other_there, none_found}
use Rattle.yd_order.proofs.linking.place_of.Goals as goal
use Rattle.yd_order.proofs.linking.place_of.Goals.{else-at-rows-via-then-at-rows+else-is_same, else-at-rows-via-else-at-rows}

pub returns-then-is_same : goal.returns-then-is_same
returns-then-is_same c =
    sym (place_found c.args.rows.now c.partition_point-at.result c.args.id _ c.requires c.if-at-rows.true (sym c.is_same.ensures ∙ c.if-is_same.true))

pub returns-else-at-rows : goal.returns-else-at-rows
returns-else-at-rows c =
    let rows = c.args.rows.now in
    let at = c.partition_point-at.result in
    let x = c.args.id in
    let point = c.partition_point-at.ensures.partitioned (λ (row : OriginRow). is_smaller row.id x) (always_returns_same _ _ _ (λ a r f k. search (rules, of_calls))) (rows_parted rows x c.requires) in
    sym (none_found rows at x c.requires point (elim c.else-at-rows.branch [
      | else-at-rows-via-then-at-rows+else-is_same w ↦ λ lt d. other_there rows at x _ d _ w.is_same.ensures w.if-is_same.false lt
      | else-at-rows-via-else-at-rows w ↦ λ lt d. absurd (omega (arith, w.if-at-rows.false, lt))
    ]))
