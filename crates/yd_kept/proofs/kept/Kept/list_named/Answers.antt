use Rattle.std.proofs.Common.{◌≡◌, ◌∙◌, List, [], ◌∷◌, Some, sym, ap, ap₂, subst}
use Rattle.std.specs.Prelude.{take}
use Rattle.yd_ops.specs.declared.lists.List.{List as DocList}
use Rattle.yd_store.specs.Store.{Stored}
use Rattle.yd_store.proofs.KeepingLemmas.{kept_keeps}
use Rattle.yd_kept.specs.Kept.{KeepsHeld}
use Rattle.yd_kept.proofs.ChangeLemmas.{units_keep, list_made, take_front}
use Rattle.yd_kept.proofs.kept.Kept.list_named.Goals as goal

pub returns-in-Ok-clause-kept : goal.returns-in-Ok-clause-kept
returns-in-Ok-clause-kept c =
    let old : Stored = c.self.inside.store in
    let new : Stored = c.add_list.new.self in
    let names : List DocList = c.self.inside.names in
    rw (← c.self.view_is) (subst (λ ns. KeepsHeld (record { store = old; names = names }) (record { store = new; names = ns })) (sym c.in_ok-push.ensures.pushed)
    (list_made old new names c.in_ok-copy.field-0 (λ n e. c.in_default.ensures.none n (e ∙ ap (λ (l : DocList). Some l) c.in_ok-copy.ensures))
    c.in-Ok.ensures.lists c.in-Ok.ensures.runs c.in-Ok.ensures.contents))

pub returns-in-Err-clause-kept : goal.returns-in-Err-clause-kept
returns-in-Err-clause-kept c =
    let old : Stored = c.self.inside.store in
    let new : Stored = c.add_list.new.self in
    let names : List DocList = c.self.inside.names in
    let same : c.truncate.new.self ≡ names = c.truncate.ensures ∙ ap₂ take c.len-count.ensures c.in_ok-push.ensures.pushed ∙ take_front names (c.in_ok-copy.field-0 ∷ []) in
    rw (← c.self.view_is) (subst (λ ns. KeepsHeld (record { store = old; names = names }) (record { store = new; names = ns })) (sym same)
    (units_keep names old new (kept_keeps old new c.in-Err.ensures.unchanged)))
