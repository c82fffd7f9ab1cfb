use Rattle.std.proofs.Common.{◌++◌, ◌∙◌, List, ℕ, ap, subst, ◌<◌, ◌^◌, length}
use Rattle.yd_num.specs.Writing.{shortest_blob}
use Rattle.yd_ops.specs.View.{update_value}
use Rattle.yd_v1.proofs.LogWrittenLemmas.{MakesBody, body_made}
use Rattle.yd_v1.proofs.log_writing.write_entry.Goals as goal

-- the body of the update
made : (c : goal.In_ok-push_blob) → MakesBody c.as_slice.result.now (update_value c.args.update.now)
made c = body_made (update_value c.args.update.now) c.clear.new.self c.as_slice.result.now c.requires c.clear.ensures (c.as_slice.ensures ∙ c.in_ok-write_update.ensures.put) c.in_ok-write_update.ensures.spelled

pub returns-clause-appended : goal.returns-clause-appended
returns-clause-appended c = c.in_ok-push_blob.ensures.appended ∙ ap (λ (body : List ℕ). c.args.log.now ++ shortest_blob body) (made c).body_is

pub returns-clause-again : goal.returns-clause-again
returns-clause-again c = record { stands = (made c).stands; fits = subst (λ (body : List ℕ). length body < 2 ^ 53) (made c).body_is c.in_ok-push_blob.ensures.fits }
