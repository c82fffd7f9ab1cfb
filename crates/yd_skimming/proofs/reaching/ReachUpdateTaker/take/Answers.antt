use Rattle.std.proofs.Common.{List, [], ◌∷◌, subst}
use Rattle.yd_ids.specs.declared.id.Span.{Span}
use Rattle.yd_ops.specs.View.{update_value}
use Rattle.yd_v1.specs.Log.{TakesMore}
use Rattle.yd_skimming.specs.Reaching.{HasTaken}
use Rattle.yd_skimming.proofs.ReachLemmas.{update_taken}
use Rattle.yd_skimming.proofs.reaching.ReachUpdateTaker.take.Goals as goal

pub returns : goal.returns
returns c = subst (λ (old : List Span). TakesMore (HasTaken old) (HasTaken c.note_update.new.spans.items) (update_value c.args.update ∷ [])) c.self.view_is
    (update_taken c.self.inside.spans.items c.note_update.new.spans.items (update_value c.args.update) c.in_ok-note_update.ensures.noted)
