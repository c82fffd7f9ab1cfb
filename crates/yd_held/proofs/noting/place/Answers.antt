use Rattle.std.proofs.Common.{◌≡◌, true, false, rules, of_calls}
use Rattle.std.proofs.lemmas.Fn.{always_returns_same}
use Rattle.yd_words.proofs.EachLemmas.{each_take, each_drop}
use Rattle.yd_held.specs.declared.noting.Lack.{Lack}
use Rattle.yd_held.specs.Noted.{stands_before}
use Rattle.yd_held.proofs.LackLemmas.{lacks_parted}
use Rattle.yd_held.proofs.noting.place.Goals as goal

pub returns : goal.returns
returns c =
    let lacks = c.args.lacks.now in
    let lack = c.args.lack in
    let point = c.partition_point.ensures.partitioned (λ (l : Lack). stands_before l lack) (always_returns_same _ _ _ (λ a r f k. search (rules, of_calls))) (lacks_parted lacks lack c.requires) in
    record {
      bound = c.partition_point.ensures.bound;
      before = each_take (λ l. stands_before l lack ≡ true) lacks c.partition_point.result point.0;
      behind = each_drop (λ l. stands_before l lack ≡ false) lacks c.partition_point.result point.1;
    }
