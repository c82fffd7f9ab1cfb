use Rattle.std.proofs.Common.{List, [], ◌∷◌, subst}
use Rattle.yd_ids.specs.declared.id.Span.{Span}
use Rattle.yd_fields.specs.Lent.{lent_struct}
use Rattle.yd_reading.specs.Taking.{TakesMore, placed}
use Rattle.yd_skimming.specs.Reaching.{HasTakenSections}
use Rattle.yd_skimming.proofs.ReachLemmas.{made_taken, text_taken}
use Rattle.yd_skimming.proofs.reaching.ReachStructTaker.take.Goals as goal

pub returns-in_ok-note-in-Text : goal.returns-in_ok-note-in-Text
returns-in_ok-note-in-Text c = subst (λ (old : List Span). TakesMore (HasTakenSections old) (HasTakenSections c.note.new.spans.items) (placed c.args.id (lent_struct c.args.entry.now) ∷ [])) c.self.view_is
    (text_taken c.self.inside.spans.items c.note.new.spans.items c.args.id c.args.entry.now c.in-Text.run' c.len.result c.in-Text.is c.requires c.len.ensures c.in_ok-note-in-Text.ensures.noted)

pub returns-in_ok-note_struct-in-Made : goal.returns-in_ok-note_struct-in-Made
returns-in_ok-note_struct-in-Made c = subst (λ (old : List Span). TakesMore (HasTakenSections old) (HasTakenSections c.note_struct.new.spans.items) (placed c.args.id (lent_struct c.args.entry.now) ∷ []))
    c.self.view_is (made_taken c.self.inside.spans.items c.note_struct.new.spans.items c.args.id c.args.entry.now c.in-Made.next c.in-Made.is c.in_ok-note_struct-in-Made.ensures.noted)
