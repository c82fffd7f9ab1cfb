use Rattle.std.proofs.Common.{◌∙◌}
use Rattle.yd_doc.specs.Kept.{received_of, own_document}
use Rattle.yd_doc.proofs.KeysLemmas.{names_keys}
use Rattle.yd_doc.proofs.UsedLemmas.{all_named}
use Rattle.yd_doc.proofs.replica.Replica.keys_from.Goals as goal

pub returns : goal.returns
returns c =
    let d = own_document c.args.self.now in
    c.in_ok-keys.ensures ∙ c.in_ok-found.ensures d c.requires.tells
    ∙ names_keys d (c.keys_have_units.ensures (received_of c.args.self.now) d c.own_document_is_replicas.ensures)
    c.args.kept.now.names (all_named c.args.kept.now d c.requires.tells) c.args.parent.now
