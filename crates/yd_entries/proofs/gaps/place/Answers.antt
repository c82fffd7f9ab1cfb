use Rattle.std.proofs.Common.{length, get_or, arith, sym, subst}
use Rattle.std.proofs.lemmas.Bool.{OnTrue_at}
use Rattle.yd_words.proofs.EachLemmas.{each_take, each_drop}
use Rattle.yd_entries.specs.declared.entry.Entry.{Entry}
use Rattle.yd_entries.specs.Taking.{EndsBy, EndsBehind, ends_by}
use Rattle.yd_entries.proofs.EntryLemmas.{ends_true, ends_false, entries_parted, each_past}
use Rattle.yd_entries.proofs.gaps.place.Goals as goal

pub returns : goal.returns
returns c =
    let taken = c.args.taken.now in
    let id = c.args.id in
    let point = c.partition_point.ensures.partitioned (entries_parted taken id c.requires) in
    record {
      bound = c.partition_point.ensures.bound;
      before = each_take (EndsBy id) taken c.partition_point.result (λ k d low lt. ends_true id (get_or taken k d) (point.0 k d low lt));
      behind = each_drop (EndsBehind id) taken c.partition_point.result (λ k d low lt. ends_false id (get_or taken k d) (point.1 k d low lt));
    }

pub returns-then-is_behind : goal.returns-then-is_behind
returns-then-is_behind c = record {
  bound = omega (arith, c.len-count.ensures);
  before = OnTrue_at c.if-is_behind.true c.is_behind.ensures.all;
  behind = each_past (EndsBehind c.args.id) c.args.taken.now c.len-count.result (omega (arith, c.len-count.ensures));
}
