use Rattle.std.proofs.Common.{◌≡◌, true, false}
use Rattle.yd_words.proofs.EachLemmas.{each_take, each_drop}
use Rattle.yd_entries.specs.declared.entry.Entry.{Entry}
use Rattle.yd_making.specs.Waiting.{is_passed}
use Rattle.yd_making.proofs.WaitingLemmas.{passed_parted}
use Rattle.yd_making.proofs.waiting.passed.Goals as goal

pub returns : goal.returns
returns c =
    let entries = c.args.entries.now in
    let test = is_passed c.args.client.0 c.args.reached in
    let point = c.partition_point.ensures.partitioned (passed_parted c.args.client.0 c.args.reached entries c.requires) in
    record {
      bound = c.partition_point.ensures.bound;
      before = each_take (λ (t : Entry). test t ≡ true) entries c.partition_point.result point.0;
      behind = each_drop (λ (t : Entry). test t ≡ false) entries c.partition_point.result point.1;
    }
