use Rattle.std.proofs.Common.{[], ◌∙◌, ap, get_or, arith}
use Rattle.std.proofs.lemmas.Option.{slice_get-get_or}
use Rattle.yd_entries.specs.Entries.{is_held}
use Rattle.yd_entries.proofs.EntryLemmas.{no_entry}
use Rattle.yd_held.proofs.HeldEntryLemmas.{chosen_covered}
use Rattle.yd_honesty.specs.Pasts.{Clocks, is_told}
use Rattle.yd_honesty.proofs.NotingLemmas.{one_read}
use Rattle.yd_honesty.proofs.ToldLemmas.{told_past}
use Rattle.yd_honesty.proofs.pasts.is_past.Goals as goal

pub entry_of-requires : goal.entry_of-requires
entry_of-requires c = chosen_covered is_held c.args.received.now c.requires.whole.in_order c.args.of c.requires.held

pub returns : goal.returns
returns c = c.is_told.ensures
    ∙ ap (λ (v : Clocks). is_told v c.args.of c.args.other) (one_read c.args.pasts.now c.entry_of.result c.index-pasts-entry_of.result []
    (omega (arith, c.requires.pasts.sound.size, c.entry_of.ensures.inside)) c.index-pasts-entry_of.is)
    ∙ told_past c.args.received.now c.requires.whole c.args.pasts.now c.requires.pasts c.entry_of.result (get_or c.args.received.now.entries c.entry_of.result no_entry)
    (slice_get-get_or c.args.received.now.entries c.entry_of.result no_entry c.entry_of.ensures.inside) c.args.of (c.entry_of.ensures.covers no_entry) c.requires.held c.args.other
