use Rattle.std.proofs.Common.{◌≡◌, true, false, arith}
use Rattle.yd_words.proofs.EachLemmas.{each_take, each_drop}
use Rattle.yd_entries.specs.declared.entry.Entry.{Entry}
use Rattle.yd_entries.specs.Lookup.{begins_by}
use Rattle.yd_entries.proofs.LookupLemmas.{taken_parted}
use Rattle.yd_entries.proofs.lookup.place.Goals as goal

pub returns-then-bounds-clause-before : goal.returns-then-bounds-clause-before
returns-then-bounds-clause-before c =
    each_take (λ (t : Entry). begins_by t c.args.id ≡ true) c.args.taken.now c.guessed-bounds.result.low (λ k d low lt. c.guessed-bounds.ensures.part.before k d lt)

pub returns-then-bounds-clause-behind : goal.returns-then-bounds-clause-behind
returns-then-bounds-clause-behind c =
    each_drop (λ (t : Entry). begins_by t c.args.id ≡ false) c.args.taken.now c.guessed-bounds.result.low
    (λ k d low lt. c.guessed-bounds.ensures.part.behind k d (omega (arith, c.if-bounds.true, low)) lt)

pub returns-clause-before : goal.returns-clause-before
returns-clause-before c =
    let parted = c.partition_point.ensures.partitioned (taken_parted c.args.taken.now c.args.id c.requires) in
    each_take (λ (t : Entry). begins_by t c.args.id ≡ true) c.args.taken.now c.partition_point.result parted.0

pub returns-clause-behind : goal.returns-clause-behind
returns-clause-behind c =
    let parted = c.partition_point.ensures.partitioned (taken_parted c.args.taken.now c.args.id c.requires) in
    each_drop (λ (t : Entry). begins_by t c.args.id ≡ false) c.args.taken.now c.partition_point.result parted.1
