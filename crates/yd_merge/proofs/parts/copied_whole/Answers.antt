use Rattle.yd_ops.specs.View.{content_value}
use Rattle.yd_merge.proofs.ContentLemmas.{rest_within}
use Rattle.yd_merge.proofs.parts.copied_whole.Goals as goal

pub before-requires-clause-inside : goal.before-requires-clause-inside
before-requires-clause-inside c = rest_within c.args.offset c.args.len (content_value c.args.content.now) (content_value c.in_ok-copy.copy) (content_value c.in_ok-rest.rest)
    c.requires.some c.requires.within c.in_ok-copy.ensures c.in_ok-rest.ensures
