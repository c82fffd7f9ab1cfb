use Rattle.std.proofs.Common.{◌≡◌, true, get_or, refl, sym, ap, ◌∙◌, subst}
use Rattle.yd_words.specs.Member.{IsIn}
use Rattle.yd_entries.specs.declared.entry.Entry.{Entry}
use Rattle.yd_entries.specs.Entries.{covers}
use Rattle.yd_entries.proofs.EntriesLemmas.{entry_at}
use Rattle.yd_making.proofs.lists.place_of.Goals as goal

pub returns : goal.returns
returns c =
    let t = c.get.result in
    let ts = c.args.received.now.entries in
    let own : t ≡ get_or ts c.entry_of.result t = c.get.ensures ∙ ap (λ us. get_or us c.entry_of.result t) c.entries.ensures.entries in (
      t,
      subst (λ (u : Entry). IsIn u ts) (sym own) (entry_at ts c.entry_of.result t c.entry_of.ensures.inside),
      subst (λ (u : Entry). covers u c.args.id ≡ true) (sym own) (c.entry_of.ensures.covers t),
      refl,
    )
