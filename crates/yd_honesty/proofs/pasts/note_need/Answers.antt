use Rattle.std.proofs.Common.{[], get_or, arith, true≢false}
use Rattle.std.specs.Prelude.{true}
use Rattle.std.proofs.lemmas.Option.{slice_get-get_or}
use Rattle.yd_entries.proofs.EntryLemmas.{no_entry}
use Rattle.yd_honesty.proofs.NotingLemmas.{notes_need, one_read}
use Rattle.yd_honesty.proofs.pasts.note_need.Goals as goal

pub returns-then-joined : goal.returns-then-joined
returns-then-joined c = notes_need c.args.received.now c.args.pasts.now c.args.need c.args.past.now c.raise.new.past c.join.new.past c.index-pasts-entry_of.result
    c.in_ok-raised.raised c.in_ok-joined.joined true c.entry_of.result (get_or c.args.received.now.entries c.entry_of.result no_entry)
    (slice_get-get_or c.args.received.now.entries c.entry_of.result no_entry c.entry_of.ensures.inside) (c.entry_of.ensures.covers no_entry)
    (one_read c.args.pasts.now c.entry_of.result c.index-pasts-entry_of.result [] (omega (arith, c.requires.size, c.entry_of.ensures.inside)) c.index-pasts-entry_of.is)
    c.in_ok-raised.ensures c.in_ok-joined.ensures (λ e. absurd (true≢false e))

pub returns : goal.returns
returns c = notes_need c.args.received.now c.args.pasts.now c.args.need c.args.past.now c.raise.new.past c.join.new.past c.index-pasts-entry_of.result
    c.in_ok-raised.raised c.in_ok-joined.joined c.in_ok-raised.raised c.entry_of.result (get_or c.args.received.now.entries c.entry_of.result no_entry)
    (slice_get-get_or c.args.received.now.entries c.entry_of.result no_entry c.entry_of.ensures.inside) (c.entry_of.ensures.covers no_entry)
    (one_read c.args.pasts.now c.entry_of.result c.index-pasts-entry_of.result [] (omega (arith, c.requires.size, c.entry_of.ensures.inside)) c.index-pasts-entry_of.is)
    c.in_ok-raised.ensures c.in_ok-joined.ensures (λ e. (e, c.if-joined.false))
