use Rattle.std.proofs.Common.{◌+◌, ◌≤◌, subst, ◌∙◌}
use Rattle.yd_any.specs.AnyView.{any_trees}
use Rattle.yd_ops.specs.Value.{len_of}
use Rattle.yd_ops.specs.View.{content_value}
use Rattle.yd_merge.proofs.ContentLemmas.{all_part}
use Rattle.yd_merge.proofs.ValueLemmas.{lent_within}
use Rattle.yd_merge.proofs.parts.copied.Goals as goal

pub copied_values-requires-clause-within : goal.copied_values-requires-clause-within
copied_values-requires-clause-within c = lent_within c.as_slice.result.now (any_trees c.in-Any.values) c.args.offset c.args.len c.as_slice.ensures
    (subst (λ content. c.args.offset + c.args.len ≤ len_of (content_value content)) c.in-Any.is c.requires.within)

pub returns-then-len : goal.returns-then-len
returns-then-len c = c.in_ok-copy.ensures ∙ all_part c.args.offset c.args.len (content_value c.args.content.now) (c.if-len.true ∙ c.len.ensures) c.requires.within
