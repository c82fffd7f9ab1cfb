use Rattle.yd_arena.specs.Arena.{places_in}
use Rattle.yd_listing.proofs.RowLemmas.{whole_row}
use Rattle.yd_listing.proofs.WalkLemmas.{row_left}
use Rattle.yd_listing.proofs.walking.whole_walk.Goals as goal

pub invariant_of-result : goal.invariant_of-result
invariant_of-result c = record {
  within = c.requires.list;
  row = places_in c.args.store.now.placed c.args.list;
  is_row = whole_row c.args.store.now c.args.list c.all.result c.all.ensures;
  has_no_gone = c.requires.gone;
  lists = c.requires.lists;
  told = c.requires.told;
}

pub returns : goal.returns
returns c = row_left c.args.store.now c.args.list (c.requires.lists.distinct c.args.list c.requires.list) (places_in c.args.store.now.placed c.args.list) c.all.result
    (whole_row c.args.store.now c.args.list c.all.result c.all.ensures)
