use Rattle.std.proofs.Common.{◌∷◌, Some}
use Rattle.yd_chains.specs.Chain.{behind}
use Rattle.yd_arena.specs.Arena.{places_in}
use Rattle.yd_listing.proofs.RowLemmas.{later_row}
use Rattle.yd_listing.proofs.WalkLemmas.{row_left}
use Rattle.yd_listing.proofs.walking.walk_from.Goals as goal

pub invariant_of-result : goal.invariant_of-result
invariant_of-result c = record {
  within = c.requires.list;
  row = c.args.place ∷ behind (Some c.args.place) (places_in c.args.store.now.placed c.args.list);
  is_row = later_row c.args.store.now c.args.list c.args.place c.all_from.result c.requires.place c.all_from.ensures;
  has_no_gone = c.requires.told;
  lists = c.is_sound.ensures.lists;
  told = c.is_sound.ensures.told;
}

pub returns : goal.returns
returns c = row_left c.args.store.now c.args.list (c.is_sound.ensures.lists.distinct c.args.list c.requires.list)
    (c.args.place ∷ behind (Some c.args.place) (places_in c.args.store.now.placed c.args.list)) c.all_from.result
    (later_row c.args.store.now c.args.list c.args.place c.all_from.result c.requires.place c.all_from.ensures)
