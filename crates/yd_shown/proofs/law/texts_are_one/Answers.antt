use Rattle.std.proofs.Common.{None, refl}
use Rattle.yd_meaning.specs.Text.{live_units}
use Rattle.yd_shown.proofs.SeenLemmas.{seen_text}
use Rattle.yd_shown.proofs.law.texts_are_one.Goals as goal

pub returns : goal.returns
returns c = record {
  units = λ document list. seen_text None (live_units document list);
  printed = λ document parent. refl;
}
