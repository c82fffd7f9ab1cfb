use Rattle.std.proofs.Common.{None, refl, sym, subst}
use Rattle.yd_store.specs.Lowering.{MapsUnits}
use Rattle.yd_store.specs.Halves.{half_of, torn_at}
use Rattle.yd_store.proofs.LoweredLemmas.{maps_none}
use Rattle.yd_store.proofs.store.Store.tear.Goals as goal

pub returns-in_default-clause-maps : goal.returns-in_default-clause-maps
returns-in_default-clause-maps c = subst (λ z. MapsUnits c.args.self.now c.args.self.now (torn_at (half_of z))) (sym c.in_default.is) (maps_none c.args.self.now (torn_at None) (λ o. refl))
