use Rattle.std.proofs.Common.{◌∙◌}
use Rattle.yd_asking.proofs.RequestLemmas.{names_none}
use Rattle.yd_asking.proofs.request.named_files.Goals as goal

pub returns-in_default-clause-stops : goal.returns-in_default-clause-stops
returns-in_default-clause-stops c =
    names_none c.args.words.now c.loop-word.word-index c.word-item.result c.loop-word-test.true c.word-item.is (λ file named e. c.in_default.ensures.none file named (c.as_str.ensures ∙ e))
