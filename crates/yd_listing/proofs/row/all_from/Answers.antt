use Rattle.std.proofs.Common.{◌∙◌, sym}
use Rattle.yd_arena.specs.Arena.{places_in}
use Rattle.yd_listing.proofs.RowLemmas.{ends_from, some_last}
use Rattle.yd_listing.proofs.row.all_from.Goals as goal

pub returns-in_err-last : goal.returns-in_err-last
returns-in_err-last c = absurd (some_last (places_in c.args.store.now.placed c.args.list) c.args.first c.requires.place (sym c.last.ensures ∙ c.in_err-last.was))

pub returns : goal.returns
returns c = ends_from (places_in c.args.store.now.placed c.args.list) c.args.first c.in_ok-last.last c.requires.place (sym c.last.ensures ∙ c.in_ok-last.was)
