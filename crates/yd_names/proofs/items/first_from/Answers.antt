use Rattle.std.proofs.Common.{nat_lt, rules, of_calls}
use Rattle.std.proofs.lemmas.Fn.{always_returns_same}
use Rattle.yd_names.proofs.ItemsLemmas.{rising_parted, front_less, rest_greater, first_at}
use Rattle.yd_names.proofs.items.first_from.Goals as goal

pub returns : goal.returns
returns c =
    let point = c.partition_point.ensures.partitioned (λ code. nat_lt code c.args.low) (always_returns_same _ _ _ (λ a r f k. search (rules, of_calls)))
    (rising_parted c.args.rising.now c.args.low c.requires) in
    first_at c.args.rising.now c.args.low c.partition_point.result c.code_at.result c.requires c.partition_point.ensures.bound
    (front_less c.args.rising.now c.args.low c.partition_point.result point.0) (rest_greater c.args.rising.now c.args.low c.partition_point.result point.1)
    c.code_at.ensures
