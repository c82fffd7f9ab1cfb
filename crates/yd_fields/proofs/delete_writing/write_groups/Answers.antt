use Rattle.std.proofs.Common.{take, reverse, sym, subst}
use Rattle.yd_ids.specs.Set.{AreMaximal}
use Rattle.yd_fields.specs.UpdateFields.{fields_of_group, fields_of_groups, groups_of}
use Rattle.yd_fields.proofs.GroupLemmas.{last_group_fields, last_group_ranges, maximal_back, maximal_front, maximal_spans}
use Rattle.yd_fields.proofs.WritesLemmas.{remain_less}
use Rattle.yd_fields.proofs.delete_writing.write_groups.Goals as goal

pub write_group-requires-clause-clients : goal.write_group-requires-clause-clients
write_group-requires-clause-clients g c = rw c.split_at.ensures.back (maximal_spans _ (maximal_back _ _ c.loop-rest.invariant.maximal))

pub write_group-requires-clause-ranges : goal.write_group-requires-clause-ranges
write_group-requires-clause-ranges g c = rw c.split_at.ensures.back (last_group_ranges _ _ c.loop-rest.invariant.maximal c.last_group.ensures.last)

pub loop-rest-preserved : goal.loop-rest-preserved
loop-rest-preserved g c =
    let rest = c.loop-rest.rest.now in
    let others = c.split_at.result.0.now in
    let group = c.split_at.result.1.now in
    let start = c.last_group.result in
    record {
      maximal = subst AreMaximal {x = take start rest} (sym {b = take start rest} c.split_at.ensures.front) (maximal_front start rest c.loop-rest.invariant.maximal);
      remain =
          remain_less (fields_of_group group) (fields_of_groups (reverse (groups_of others)))
          (last_group_fields rest others group start c.last_group.ensures.last c.split_at.ensures.front c.split_at.ensures.back) c.loop-rest.invariant.remain c.in_ok-write_group.ensures;
    }
