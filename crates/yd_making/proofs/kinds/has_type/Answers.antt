use Rattle.std.proofs.Common.{◌≡◌, get_or, sym, ap, ◌∙◌, subst}
use Rattle.yd_words.specs.Member.{IsIn}
use Rattle.yd_entries.specs.declared.entry.Entry.{Entry}
use Rattle.yd_entries.proofs.EntriesLemmas.{entry_at}
use Rattle.yd_making.specs.Types.{holds_type}
use Rattle.yd_making.proofs.TypeLemmas.{no_type, type_at}
use Rattle.yd_making.proofs.kinds.has_type.Goals as goal

pub returns-in-None : goal.returns-in-None
returns-in-None c = sym (no_type c.args.received.now c.entries-entries.ensures.kept c.args.id c.in-None.ensures.none)

pub returns-in-Some : goal.returns-in-Some
returns-in-Some c =
    let t = c.get.result in
    let own : t ≡ get_or c.args.received.now.entries c.in-Some.at t = c.get.ensures ∙ ap (λ ts. get_or ts c.in-Some.at t) c.entries-entries.ensures.entries in
    c.holds_type.ensures ∙ ap (λ rs. holds_type rs t) c.runs.ensures
    ∙ sym (type_at c.args.received.now c.entries-entries.ensures.kept t c.args.id
    (subst (λ (u : Entry). IsIn u c.args.received.now.entries) (sym own) (entry_at c.args.received.now.entries c.in-Some.at t c.in-Some.ensures.found.0))
    (ap (λ (u : Entry). u.id) own ∙ c.in-Some.ensures.found.1 t))
