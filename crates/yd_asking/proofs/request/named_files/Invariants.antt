use Rattle.yd_asking.proofs.RequestLemmas.{NamesFront}
use Rattle.yd_asking.proofs.request.named_files.Given as goal

abbrev pub invariant-loop-word : goal.invariant-loop-word
invariant-loop-word l = NamesFront l.words l.word-index l.files.items
