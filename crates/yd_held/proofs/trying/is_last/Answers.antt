use Rattle.std.proofs.Common.{◌≡◌, ◌-◌, ◌∙◌, Some, length, sym, ap, arith, tests}
use Rattle.std.specs.Prelude.{slice_get}
use Rattle.yd_held.proofs.NotedLemmas.{one_client}
use Rattle.yd_held.proofs.TryingLemmas.{some_client}
use Rattle.yd_held.proofs.trying.is_last.Goals as goal

pub returns-in-Some : goal.returns-in-Some
returns-in-Some c =
    let last : slice_get c.args.clients.now (length c.args.clients.now - 1) ≡ Some c.in-Some.last.now = sym c.in-Some.ensures.value in (
      (λ e. last ∙ ap Some (one_client c.in-Some.last.now c.args.client (grind (arith, tests)))),
      (λ f. let same = some_client c.in-Some.last.now c.args.client (sym last ∙ f) in grind (arith, tests)),
    )
