use Rattle.std.proofs.Common.{refl, subst}
use Rattle.yd_ops.specs.View.{update_value}
use Rattle.yd_doc.specs.Editing.{IsCommitted}
use Rattle.yd_doc.specs.Kept.{Kept}
use Rattle.yd_doc.proofs.replica.Replica.commit.Goals as goal

pub returns-clause-taken : goal.returns-clause-taken
returns-clause-taken c =
    let old : Kept = record { client = c.self.inside.client; is_behind = c.self.inside.is_behind; state = c.self.inside.state } in
    let new : Kept = record { client = c.self.inside.client; is_behind = c.self.inside.is_behind; state = c.take_copy.new.self } in
    subst (λ (r : Kept). IsCommitted r new (update_value c.args.update.now)) c.self.view_is (record {
      received = c.in_ok-take_copy.ensures.received;
      client = refl;
      is_behind = refl;
      grows = record { grows = c.in_ok-take_copy.ensures.grows; loses = c.in_ok-take_copy.ensures.loses };
    })
