use Rattle.std.proofs.Common.{map, string_bytes, ap, ◌∙◌}
use Rattle.yd_meaning.specs.Document.{with_key}
use Rattle.yd_doc.proofs.KeysLemmas.{texts_with}
use Rattle.yd_doc.proofs.keys.add_key.Goals as goal

pub returns : goal.returns
returns c =
    ap (map string_bytes) c.in_ok-_is_new.ensures.keys
    ∙ texts_with c.args.found.now.keys c.in_ok-key.key
    ∙ ap (λ k. with_key k (map string_bytes c.args.found.now.keys)) (c.in_ok-key.ensures.ok ∙ c.as_str.ensures)
