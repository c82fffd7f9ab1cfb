use Rattle.std.proofs.Common.{◌≡◌, ◌∙◌, true, false, refl, sym, subst, arith, true≢false}
use Rattle.yd_words.proofs.OptionLemmas.{some_is}
use Rattle.yd_received.specs.Received.{held_of}
use Rattle.yd_honesty.specs.Dishonest.{is_past}
use Rattle.yd_honesty.proofs.PartedLemmas.{parts_skip, parts_found, parts_all}
use Rattle.yd_honesty.proofs.judging.is_parted.Goals as goal

pub is_past-requires-clause-client : goal.is_past-requires-clause-client
is_past-requires-clause-client c = (c.requires.held c.loop-place.place c.id_at-in-loop-place.result c.id_at-in-loop-place.ensures).1

pub loop-place-preserved-then-not-is_past : goal.loop-place-preserved-then-not-is_past
loop-place-preserved-then-not-is_past c = record {
  within = c.requires.ends.within c.loop-place.place (omega arith) (omega (arith, c.loop-place-test.true, c.first_not_ahead-end.ensures.within));
  none = λ x e. parts_skip c.args.received.now c.requires.kept c.args.list.now.ids.items c.args.list.now.is_strict c.args.list.now.cells.items x c.args.left c.args.right
      c.args.ends.now c.loop-place.place c.id_at-in-loop-place.result c.requires.ends c.id_at-in-loop-place.ensures (c.requires.held c.args.at x e).0
      (subst (λ y. is_past (held_of c.args.received.now) y c.id_at-in-loop-place.result ≡ false) (some_is c.id_at.result x (sym c.id_at.ensures ∙ e))
      (sym c.is_past.ensures ∙ c.if-not-is_past.true)) (c.loop-place.invariant.none x e);
}

pub returns-then-is_between : goal.returns-then-is_between
returns-then-is_between c x e = (
  (λ f. parts_found c.args.received.now c.requires.kept c.args.list.now.ids.items c.args.list.now.is_strict c.args.list.now.cells.items x c.args.left c.args.right
      c.loop-place.place c.id_at-in-loop-place.result c.id_at-in-loop-place.ensures (c.requires.held c.args.at x e).0
      (subst (λ y. is_past (held_of c.args.received.now) y c.id_at-in-loop-place.result ≡ true) (some_is c.id_at.result x (sym c.id_at.ensures ∙ e))
      (sym c.is_past.ensures ∙ c.if-not-is_past.false)) (sym c.is_between.ensures ∙ c.if-is_between.true)),
  (λ parted. refl),
)

pub returns : goal.returns
returns c x e = (
  (λ f. absurd (true≢false (sym f))),
  (λ parted. absurd (parts_all c.args.received.now c.requires.kept c.args.list.now.ids.items c.args.list.now.is_strict c.args.list.now.cells.items x c.args.left c.args.right
      c.first_not_ahead-end.result c.loop-place.place c.first_not_ahead-end.ensures c.loop-place-test.false (c.loop-place.invariant.none x e) parted)),
)
