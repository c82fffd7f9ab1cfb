use Rattle.std.proofs.Common.{◌≡◌, ◌∙◌, Some, sym, ap}
use Rattle.yd_order.specs.Rows.{place_of_neighbour}
use Rattle.yd_order.proofs.AscendingLemmas.{place_found}
use Rattle.yd_order.proofs.linking.place_of_neighbour.Goals as goal

pub returns-then-is_same : goal.returns-then-is_same
returns-then-is_same c =
    let there : c.args.neighbour ≡ Some c.in_ok-id.id = c.in_ok-id.was in
    sym (ap (place_of_neighbour c.args.rows.now) there
    ∙ place_found c.args.rows.now c.args.near c.in_ok-id.id _ c.requires c.if-near-rows.true (sym c.is_same.ensures ∙ c.if-is_same.true))
