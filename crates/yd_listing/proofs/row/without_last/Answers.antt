use Rattle.std.proofs.Common.{◌∙◌, sym}
use Rattle.yd_listing.proofs.RowLemmas.{last_only, last_taken, last_preceded}
use Rattle.yd_listing.proofs.row.without_last.Goals as goal

pub returns-then-ends : goal.returns-then-ends
returns-then-ends c = λ row is. last_only c.args.store.now c.args.list (c.requires.sound.distinct c.args.list c.requires.list) c.args.ends row is c.if-ends.true

pub prev-requires : goal.prev-requires
prev-requires c = c.requires.sound.within c.args.list c.args.ends.last c.requires.list c.requires.place

pub returns-in_err-last : goal.returns-in_err-last
returns-in_err-last c = λ row is. absurd (last_preceded c.args.store.now c.args.list (c.requires.sound.distinct c.args.list c.requires.list) c.args.ends row is c.if-ends.false
    (sym c.in_err-last.was ∙ c.prev.ensures.value c.args.list c.requires.list c.requires.place))

pub returns : goal.returns
returns c = λ row is. last_taken c.args.store.now c.args.list (c.requires.sound.distinct c.args.list c.requires.list) c.args.ends row is c.if-ends.false c.in_ok-last.last
    (sym c.in_ok-last.was ∙ c.prev.ensures.value c.args.list c.requires.list c.requires.place)
