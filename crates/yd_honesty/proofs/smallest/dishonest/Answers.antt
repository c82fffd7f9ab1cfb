use Rattle.std.proofs.Common.{◌≡◌, ◌∙◌, true, Some, None, length, get_or, replicate, sym, ap, subst, arith}
use Rattle.std.specs.Global.{Vec}
use Rattle.std.specs.Prelude.{slice_get}
use Rattle.std.proofs.lemmas.List.{length-map, length-replicate}
use Rattle.yd_ops.specs.declared.lists.List.{List as DocList}
use Rattle.yd_order.specs.declared.stretch.Stretch.{Stretch}
use Rattle.yd_stretches.specs.Stretches.{stretch_lists}
use Rattle.yd_meaning.specs.Order.{list_or_root}
use Rattle.yd_honesty.specs.Judging.{AreOfList, IsBestOf}
use Rattle.yd_honesty.proofs.SmallestListLemmas.{gathered_of, all_more, all_lists}
use Rattle.yd_honesty.proofs.smallest.dishonest.Goals as goal

abbrev no_list : DocList
no_list = list_or_root None

pub judge_at-requires-clause-list : goal.judge_at-requires-clause-list
judge_at-requires-clause-list c =
    let k = c.args.held.now in
    let of = gathered_of k c.received-received.ensures.holds c.deref.result.now c.entries.result.now (stretch_lists c.in_ok-lists.lists.items) c.in_ok-lists.ensures
    (c.entries.ensures.entries ∙ ap (λ r. r.entries) c.received-received.ensures.received)
    (c.deref.ensures.value ∙ c.in_ok-marks.ensures ∙ ap (λ ns. replicate (length ns) true) c.names.ensures.names) c.loop-n.n no_list
    (omega (arith, c.loop-n-test.true, c.len-n-end.ensures, length-map c.in_ok-lists.lists.items (λ (bucket : Vec Stretch). bucket.items))) in (
      get_or k.names c.loop-n.n no_list,
      λ stretches f. subst (λ r. AreOfList r (get_or k.names c.loop-n.n no_list) stretches) (sym c.received-received.ensures.received)
          (of.1 stretches (subst (λ ls. slice_get (stretch_lists ls) c.loop-n.n ≡ Some stretches) c.deref-in-loop-n-2.ensures.value f)),
    )

pub loop-n-preserved : goal.loop-n-preserved
loop-n-preserved c =
    let k = c.args.held.now in
    let of = gathered_of k c.received-received.ensures.holds c.deref.result.now c.entries.result.now (stretch_lists c.in_ok-lists.lists.items) c.in_ok-lists.ensures
    (c.entries.ensures.entries ∙ ap (λ r. r.entries) c.received-received.ensures.received)
    (c.deref.ensures.value ∙ c.in_ok-marks.ensures ∙ ap (λ ns. replicate (length ns) true) c.names.ensures.names) c.loop-n.n no_list
    (omega (arith, c.loop-n-test.true, c.len-n-end.ensures, length-map c.in_ok-lists.lists.items (λ (bucket : Vec Stretch). bucket.items))) in
    all_more k.received k.names c.loop-n.n (get_or k.names c.loop-n.n no_list) c.loop-n.smallest c.in_ok-smallest.smallest of.0 c.loop-n.invariant
    (subst (λ r. IsBestOf r (get_or k.names c.loop-n.n no_list) c.loop-n.smallest c.in_ok-smallest.smallest) c.received-received.ensures.received
    (c.in_ok-smallest.ensures (get_or k.names c.loop-n.n no_list) (λ stretches f. subst (λ r. AreOfList r (get_or k.names c.loop-n.n no_list) stretches) (sym c.received-received.ensures.received)
    (of.1 stretches (subst (λ ls. slice_get (stretch_lists ls) c.loop-n.n ≡ Some stretches) c.deref-in-loop-n-2.ensures.value f)))))

pub returns : goal.returns
returns c = all_lists c.args.held.now c.received-received.ensures.holds c.loop-n.n c.loop-n.smallest
    (omega (
      arith,
      c.loop-n-test.false,
      c.len-n-end.ensures,
      length-map c.in_ok-lists.lists.items (λ (bucket : Vec Stretch). bucket.items),
      c.in_ok-lists.ensures.each,
      ap length (c.deref.ensures.value ∙ c.in_ok-marks.ensures),
      length-replicate (length c.names.result.now) true,
      ap length c.names.ensures.names,
    )) c.loop-n.invariant
