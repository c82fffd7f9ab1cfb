use Rattle.std.proofs.Common.{◌≡◌, ◌∙◌, true, Some, ap, get_or, subst, sym}
use Rattle.std.proofs.lemmas.Option.{slice_get-get_or}
use Rattle.yd_entries.specs.Entries.{covers, is_listed}
use Rattle.yd_held.proofs.HeldEntryLemmas.{chosen_covered}
use Rattle.yd_honesty.proofs.OriginsLemmas.{origins_are}
use Rattle.yd_honesty.proofs.origins.origins_of.Goals as goal

pub entry_of-requires : goal.entry_of-requires
entry_of-requires c = chosen_covered is_listed c.args.received.now c.requires.kept.whole.in_order c.args.id c.requires.listed

pub returns : goal.returns
returns c o i e =
    let here : get_or c.args.received.now.entries c.entry_of.result c.get-entry.result ≡ c.get-entry.result =
    sym (c.get-entry.ensures ∙ ap (λ us. get_or us c.entry_of.result c.get-entry.result) c.entries.ensures.entries) in
    let are = origins_are c.args.received.now c.requires.kept c.args.id c.entry_of.result c.get-entry.result
    (slice_get-get_or c.args.received.now.entries c.entry_of.result c.get-entry.result c.entry_of.ensures.inside ∙ ap Some here)
    (subst (λ t. covers t c.args.id ≡ true) here (c.entry_of.ensures.covers c.get-entry.result)) o i e in
    (c.left_of.ensures ∙ are.0, are.1)
