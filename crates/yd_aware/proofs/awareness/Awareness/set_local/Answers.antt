use Rattle.std.proofs.Common.{◌<◌, ◌^◌, suc, subst}
use Rattle.std.specs.Prelude.{IfSome}
use Rattle.yd_ids.specs.Id.{IsClient}
use Rattle.yd_sync.specs.Table.{after_local, standing_in}
use Rattle.yd_aware.proofs.KeptLemmas.{result_kept, set_kept}
use Rattle.yd_aware.proofs.awareness.Awareness.set_local.Goals as goal

pub invariant_of-self : goal.invariant_of-self
invariant_of-self c = record {
  owner = c.self.invariant.owner;
  kept = result_kept c.set_own-result.result c.self.inside.rows.entries c.set_own-result.new.rows.entries
      (after_local c.in-Some.own c.args.state c.args.now c.self.inside.rows.entries) (suc (standing_in c.self.inside.rows.entries c.in-Some.own.0).clock < 2 ^ 53)
      c.set_own-result.ensures.set c.set_own-result.ensures.unchanged c.set_own-result.ensures.fits
      (λ fits. set_kept c.in-Some.own c.args.state c.args.now c.self.inside.rows.entries
      (subst (λ o. IfSome o IsClient) c.in-Some.is c.self.invariant.owner) c.requires.state fits c.self.invariant.kept)
      c.self.invariant.kept;
}
