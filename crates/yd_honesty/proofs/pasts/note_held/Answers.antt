use Rattle.std.proofs.Common.{List, [], ◌∙◌, sym, ap, subst, get_or, arith}
use Rattle.yd_honesty.specs.Pasts.{Clocks, OnlyPast, NotesNeeds, entry_needs}
use Rattle.yd_honesty.proofs.NotingLemmas.{there_is_in, passes_grown, passes_same}
use Rattle.yd_honesty.proofs.pasts.note_held.Goals as goal

pub copy_at-requires : goal.copy_at-requires
copy_at-requires c = rw c.deref.ensures.value (omega (arith, (there_is_in c.args.received.now.entries c.args.at c.args.entry c.requires.there).1, c.requires.sound.size))

pub note_needs-requires-clause-there : goal.note_needs-requires-clause-there
note_needs-requires-clause-there c = (there_is_in c.args.received.now.entries c.args.at c.args.entry c.requires.there).0

pub note_needs-requires-clause-only : goal.note_needs-requires-clause-only
note_needs-requires-clause-only c = subst (λ (v : Clocks). OnlyPast c.args.received.now c.args.entry v)
    (sym (c.in_ok-past.ensures ∙ ap (λ (vs : List Clocks). get_or vs c.args.at []) c.deref.ensures.value))
    (c.requires.sound.each c.args.at c.args.entry c.requires.there c.requires.held)

pub returns-then-not-grew : goal.returns-then-not-grew
returns-then-not-grew c = passes_same c.args.received.now c.requires.whole c.args.pasts.now.items c.requires.sound c.args.at c.args.entry c.requires.there
    c.in_ok-past.past c.note_needs.new.past (c.in_ok-past.ensures ∙ ap (λ (vs : List Clocks). get_or vs c.args.at []) c.deref.ensures.value) c.in_ok-grew.grew c.if-not-grew.true
    (subst (λ zs. NotesNeeds c.args.received.now c.args.pasts.now.items c.args.entry zs c.in_ok-past.past c.note_needs.new.past c.in_ok-grew.grew)
    (c.deref-3.ensures.value ∙ c.in_ok-needs.ensures)
    (subst (λ ps. NotesNeeds c.args.received.now ps c.args.entry c.deref-3.result.now c.in_ok-past.past c.note_needs.new.past c.in_ok-grew.grew)
    c.deref-2.ensures.value c.in_ok-grew.ensures))

pub returns : goal.returns
returns c = passes_grown c.args.received.now c.requires.whole c.args.pasts.now.items c.requires.sound c.args.at c.args.entry c.requires.there
    c.in_ok-past.past c.note_needs.new.past (c.in_ok-past.ensures ∙ ap (λ (vs : List Clocks). get_or vs c.args.at []) c.deref.ensures.value)
    c.put_at.new.pasts.items c.put_at.ensures
    (subst (λ g. NotesNeeds c.args.received.now c.args.pasts.now.items c.args.entry (entry_needs c.args.received.now c.args.entry) c.in_ok-past.past c.note_needs.new.past g) c.if-not-grew.false
    (subst (λ zs. NotesNeeds c.args.received.now c.args.pasts.now.items c.args.entry zs c.in_ok-past.past c.note_needs.new.past c.in_ok-grew.grew)
    (c.deref-3.ensures.value ∙ c.in_ok-needs.ensures)
    (subst (λ ps. NotesNeeds c.args.received.now ps c.args.entry c.deref-3.result.now c.in_ok-past.past c.note_needs.new.past c.in_ok-grew.grew)
    c.deref-2.ensures.value c.in_ok-grew.ensures)))
