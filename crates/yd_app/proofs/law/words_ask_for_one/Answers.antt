use Rattle.yd_asking.proofs.WordLemmas.{asks_same}
use Rattle.yd_app.proofs.law.words_ask_for_one.Goals as goal

pub returns : goal.returns
returns c = asks_same
