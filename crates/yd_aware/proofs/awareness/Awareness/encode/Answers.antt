use Rattle.std.proofs.Common.{sym, subst}
use Rattle.yd_words.specs.Each.{Each}
use Rattle.yd_sync.specs.Entry.{IsEntry}
use Rattle.yd_aware.proofs.KeptLemmas.{states_told}
use Rattle.yd_aware.proofs.awareness.Awareness.encode.Goals as goal

pub returns-clause-valid : goal.returns-clause-valid
returns-clause-valid c = subst (Each IsEntry) (sym c.in_ok-told.ensures) (states_told c.self.inside.rows.entries c.self.invariant.kept.told)
