use Rattle.std.proofs.Common.{◌≡◌, get_or, map, string_bytes, sym, ap, ◌∙◌, subst}
use Rattle.std.specs.Prelude.{IfSome}
use Rattle.std.proofs.lemmas.Option.{get_or_from_slice_get}
use Rattle.yd_ops.specs.declared.lists.List.{List as DocList}
use Rattle.yd_doc.specs.Keys.{with_name}
use Rattle.yd_doc.proofs.UsedLemmas.{with_none}
use Rattle.yd_doc.proofs.keys.add_used.Goals as goal

pub returns-in_default : goal.returns-in_default
returns-in_default c = λ d tells.
    let own = c.requires.own in
    let keys = map string_bytes c.args.found.now.keys in
    let name = c.index-names-n.result in
    subst (λ z. IfSome z (λ list. keys ≡ with_name d c.args.parent.now list keys)) (sym own.there)
    (with_none d c.args.parent.now own.list keys
    (ap (λ (l : DocList). l.key) (sym (get_or_from_slice_get c.args.kept.now.names c.args.n own.list name own.there))
    ∙ ap (λ ns. (get_or ns c.args.n name).key) (sym c.names.ensures) ∙ c.in_default.is))
