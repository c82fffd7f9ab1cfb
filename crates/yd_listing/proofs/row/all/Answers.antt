use Rattle.std.proofs.Common.{◌∙◌, sym}
use Rattle.yd_arena.specs.Arena.{places_in}
use Rattle.yd_listing.proofs.RowLemmas.{ends_are, no_first, no_last}
use Rattle.yd_listing.proofs.row.all.Goals as goal

pub returns-in_err-first : goal.returns-in_err-first
returns-in_err-first c = c.from_residual.ensures ∙ no_first (places_in c.args.store.now.placed c.args.list) (sym c.first.ensures ∙ c.in_err-first.was)

pub returns-in_err-last : goal.returns-in_err-last
returns-in_err-last c = c.from_residual-in_err-last.ensures ∙ no_last (places_in c.args.store.now.placed c.args.list) (sym c.last.ensures ∙ c.in_err-last.was)

pub returns : goal.returns
returns c = ends_are (places_in c.args.store.now.placed c.args.list) c.in_ok-first.first c.in_ok-last.last (sym c.first.ensures ∙ c.in_ok-first.was)
    (sym c.last.ensures ∙ c.in_ok-last.was)
