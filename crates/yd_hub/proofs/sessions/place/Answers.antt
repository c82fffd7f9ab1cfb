use Rattle.std.proofs.Common.{◌≡◌, ℕ, true, false, nat_lt, rules, of_calls}
use Rattle.std.proofs.lemmas.Fn.{always_returns_same}
use Rattle.yd_words.proofs.EachLemmas.{each_drop, each_take}
use Rattle.yd_hub.proofs.PlaceLemmas.{sessions_parted}
use Rattle.yd_hub.proofs.sessions.place.Goals as goal

pub returns : goal.returns
returns c =
    let numbers = c.args.numbers.now in
    let session = c.args.session in
    let point = c.partition_point.ensures.partitioned (λ (n : ℕ). nat_lt n session) (always_returns_same _ _ _ (λ a r f k. search (rules, of_calls))) (sessions_parted numbers session c.requires) in
    record {
      bound = c.partition_point.ensures.bound;
      before = each_take (λ (n : ℕ). nat_lt n session ≡ true) numbers c.partition_point.result point.0;
      behind = each_drop (λ (n : ℕ). nat_lt n session ≡ false) numbers c.partition_point.result point.1;
    }
