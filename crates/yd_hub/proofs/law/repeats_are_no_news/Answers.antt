use Rattle.yd_hub.proofs.ExchangeLemmas.{again_no_news}
use Rattle.yd_hub.proofs.law.repeats_are_no_news.Goals as goal

pub returns : goal.returns
returns c = again_no_news
