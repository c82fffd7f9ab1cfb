use Rattle.std.proofs.Common.{inl}
use Rattle.yd_hub.proofs.ExchangeLemmas.{takes_both, both_same, both_alike}
use Rattle.yd_hub.proofs.law.exchanges_meet.Goals as goal

pub returns : goal.returns
returns c = record {
  before = λ own other. record { own_ids = λ x e. e; no_others = λ x e. inl e };
  after = λ own other r both. record { own_ids = λ x e. (both x).1 (inl e); no_others = λ x e. (both x).0 e };
  both = takes_both;
  same_ids = both_same;
  alike = both_alike;
}
