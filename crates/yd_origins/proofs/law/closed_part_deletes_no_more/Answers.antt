use Rattle.yd_origins.proofs.DeletedLemmas.{deletes_no_more, naming_adds_none, deleted_still}
use Rattle.yd_origins.proofs.law.closed_part_deletes_no_more.Goals as goal

pub returns : goal.returns
returns c start = λ names part set t honest closed. record {
  deletes = λ named all among x i deleted. deletes_no_more part set t honest closed named all among i deleted;
  naming = λ named all more among more_names why x. (
    (λ deleted. naming_adds_none part set t honest closed named all more among why deleted),
    (λ deleted. deleted_still set all more more_names deleted),
  );
}
