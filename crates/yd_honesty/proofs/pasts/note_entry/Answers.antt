use Rattle.std.proofs.Common.{◌∙◌, Some, ap, get_or, sym}
use Rattle.std.proofs.lemmas.Option.{slice_get-get_or}
use Rattle.yd_honesty.proofs.pasts.note_entry.Goals as goal

pub note_held-requires-clause-there : goal.note_held-requires-clause-there
note_held-requires-clause-there c = slice_get-get_or c.args.received.now.entries c.args.at c.get-entry.result c.requires.inside
    ∙ ap Some (sym (c.get-entry.ensures ∙ ap (λ us. get_or us c.args.at c.get-entry.result) c.entries.ensures.entries))
