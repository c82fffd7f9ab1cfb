use Rattle.std.proofs.Common.{◌≡◌, ◌<◌, ◌^◌, suc, true, Some, is_some, subst}
use Rattle.std.specs.Prelude.{IfSome}
use Rattle.yd_ids.specs.Id.{IsClient}
use Rattle.yd_sync.specs.Table.{standing_in}
use Rattle.yd_aware.specs.AwareTable.{after_renewal}
use Rattle.yd_aware.proofs.KeptLemmas.{renewal_kept, result_kept}
use Rattle.yd_aware.proofs.awareness.Awareness.renew.Goals as goal

pub invariant_of-self : goal.invariant_of-self
invariant_of-self c = record {
  owner = c.self.invariant.owner;
  kept = result_kept c.renew_own-result.result c.self.inside.rows.entries c.renew_own-result.new.rows.entries
      (after_renewal (Some c.in-Some.own) c.args.now c.self.inside.rows.entries)
      (is_some (standing_in c.self.inside.rows.entries c.in-Some.own.0).state ≡ true → suc (standing_in c.self.inside.rows.entries c.in-Some.own.0).clock < 2 ^ 53)
      c.renew_own-result.ensures.renewed c.renew_own-result.ensures.unchanged c.renew_own-result.ensures.fits
      (λ fits. renewal_kept c.in-Some.own c.args.now c.self.inside.rows.entries (subst (λ o. IfSome o IsClient) c.in-Some.is c.self.invariant.owner) fits c.self.invariant.kept)
      c.self.invariant.kept;
}
