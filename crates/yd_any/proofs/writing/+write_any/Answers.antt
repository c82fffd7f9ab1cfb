use Rattle.std.proofs.Common.{rules, arith, ap, ◌∙◌}
use Rattle.yd_any.specs.AnyView.{any_tree}
use Rattle.std.proofs.lemmas.Grind.{common_steps}
use Rattle.yd_any.specs.declared.any_value.Any.{the_lemmas}
use Rattle.yd_any.proofs.AnyLists.{any_fields-entries, any_tree-Raw4, any_tree-Raw8}
use Rattle.yd_any.proofs.writing.+write_any.Goals as goal

pub write_pairs-write_any-requires : goal.write_pairs-write_any-requires
unfolding Rattle.yd_any.specs.declared.any_value.Any.TheBlock.the_depth
write_pairs-write_any-requires n c = search (rules, the_lemmas)

pub write_pairs-returns : goal.write_pairs-returns
write_pairs-returns n c = let all = any_fields-entries c.args.entries.now in grind (arith, common_steps)

pub write_any-returns-in_ok-write_hex-in-Raw4 : goal.write_any-returns-in_ok-write_hex-in-Raw4
write_any-returns-in_ok-write_hex-in-Raw4 n c =
    rw (ap any_tree c.in-Raw4.is ∙ any_tree-Raw4 c.in-Raw4.bytes, ← c.as_slice.ensures) (c.in_ok-write_hex-in-Raw4.ensures)

pub write_any-returns-in_ok-write_hex-in-Raw8 : goal.write_any-returns-in_ok-write_hex-in-Raw8
write_any-returns-in_ok-write_hex-in-Raw8 n c =
    rw (ap any_tree c.in-Raw8.is ∙ any_tree-Raw8 c.in-Raw8.bytes, ← c.as_slice-in-Raw8.ensures) (c.in_ok-write_hex-in-Raw8.ensures)
