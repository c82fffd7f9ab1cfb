use Rattle.std.proofs.Common.{◌≡◌, ap}
use Rattle.yd_meaning.specs.Document.{Document}
use Rattle.yd_shown.specs.Law.{AreEqual}
use Rattle.yd_shown.specs.Shown.{shown}
use Rattle.yd_shown.proofs.law.equals_show_the_same.Goals as goal

-- equal documents are one
one_document : (one other : Document) → AreEqual one other → one ≡ other
one_document one other same = λ i. record {
  units = λ list. same.units list i;
  deleted = λ x. same.deleted x i;
  keys = λ parent. same.keys parent i;
}

pub returns : goal.returns
returns c = λ one other same parent mode. ap (λ d. shown d parent mode) (one_document one other same)
