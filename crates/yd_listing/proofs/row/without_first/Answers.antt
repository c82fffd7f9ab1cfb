use Rattle.std.proofs.Common.{◌∙◌, sym}
use Rattle.yd_listing.proofs.RowLemmas.{first_only, first_taken, first_followed}
use Rattle.yd_listing.proofs.row.without_first.Goals as goal

pub returns-then-ends : goal.returns-then-ends
returns-then-ends c = λ row is. first_only c.args.store.now c.args.list (c.requires.sound.distinct c.args.list c.requires.list) c.args.ends row is c.if-ends.true

pub next-requires : goal.next-requires
next-requires c = c.requires.sound.within c.args.list c.args.ends.first c.requires.list c.requires.place

pub returns-in_err-first : goal.returns-in_err-first
returns-in_err-first c = λ row is. absurd (first_followed c.args.store.now c.args.list (c.requires.sound.distinct c.args.list c.requires.list) c.args.ends row is c.if-ends.false
    (sym c.in_err-first.was ∙ c.next.ensures.value c.args.list c.requires.list c.requires.place))

pub returns : goal.returns
returns c = λ row is. first_taken c.args.store.now c.args.list (c.requires.sound.distinct c.args.list c.requires.list) c.args.ends row is c.if-ends.false c.in_ok-first.first
    (sym c.in_ok-first.was ∙ c.next.ensures.value c.args.list c.requires.list c.requires.place)
