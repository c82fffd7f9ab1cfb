use Rattle.std.proofs.Common.{◌≡◌, ℕ, true, false, nat_lt, rules, of_calls}
use Rattle.std.proofs.lemmas.Fn.{always_returns_same}
use Rattle.yd_words.proofs.EachLemmas.{each_take, each_drop}
use Rattle.yd_ids.specs.declared.id.Client.{Client}
use Rattle.yd_ids.proofs.VectorLemmas.{clients_parted}
use Rattle.yd_ids.proofs.vector.place.Goals as goal

pub returns : goal.returns
returns c =
    let entries = c.args.entries.now in
    let client = c.args.client.0 in
    let point = c.partition_point.ensures.partitioned (λ (e : Client × ℕ). nat_lt e.0.0 client) (always_returns_same _ _ _ (λ a r f k. search (rules, of_calls))) (clients_parted entries client c.requires) in
    record {
      bound = c.partition_point.ensures.bound;
      before = each_take (λ (e : Client × ℕ). nat_lt e.0.0 client ≡ true) entries c.partition_point.result point.0;
      behind = each_drop (λ (e : Client × ℕ). nat_lt e.0.0 client ≡ false) entries c.partition_point.result point.1;
    }
