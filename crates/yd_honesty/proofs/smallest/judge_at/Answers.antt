use Rattle.std.proofs.Common.{refl, sym, subst}
use Rattle.std.specs.Global.{Vec}
use Rattle.yd_order.specs.declared.stretch.Stretch.{Stretch}
use Rattle.yd_stretches.proofs.GatheringLemmas.{map_at}
use Rattle.yd_honesty.specs.Judging.{AreOfList}
use Rattle.yd_honesty.proofs.smallest.judge_at.Goals as goal

pub judge_list-requires-clause-list : goal.judge_list-requires-clause-list
judge_list-requires-clause-list c = (
  c.requires.list.0,
  subst (AreOfList c.args.received.now c.requires.list.0) (sym c.deref.ensures.value)
      (c.requires.list.1 c.index-lists-n.result.items (map_at (λ (bucket : Vec Stretch). bucket.items) c.args.lists.now c.args.n c.index-lists-n.result c.index-lists-n.result.items
      c.requires.inside c.index-lists-n.is refl)),
)

pub returns : goal.returns
returns c name of = c.in_ok-found.ensures name (subst (AreOfList c.args.received.now name) (sym c.deref.ensures.value)
    (of c.index-lists-n.result.items (map_at (λ (bucket : Vec Stretch). bucket.items) c.args.lists.now c.args.n c.index-lists-n.result c.index-lists-n.result.items
    c.requires.inside c.index-lists-n.is refl)))
