use Rattle.std.proofs.Common.{sym, subst}
use Rattle.yd_store.specs.Lowering.{MapsUnits}
use Rattle.yd_state.specs.Telling.{told_by}
use Rattle.yd_state.proofs.less.tell_one.Goals as goal

pub returns-in-Down-clause-maps : goal.returns-in-Down-clause-maps
returns-in-Down-clause-maps c = subst (λ l. MapsUnits c.args.kept.now.store c.lower_parted.new.self.store (told_by l)) (sym c.in-Down.is) c.lower_parted.ensures.maps

pub returns-in-Half-clause-maps : goal.returns-in-Half-clause-maps
returns-in-Half-clause-maps c = subst (λ l. MapsUnits c.args.kept.now.store c.tear_half.new.self.store (told_by l)) (sym c.in-Half.is) c.tear_half.ensures.maps
