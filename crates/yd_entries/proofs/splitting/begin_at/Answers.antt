use Rattle.std.proofs.Common.{◌≡◌, ◌∙◌, ◌-◌, length, Some, refl, sym, subst, true≢false}
use Rattle.std.specs.Prelude.{slice_get}
use Rattle.std.proofs.lemmas.Option.{slice_get_read}
use Rattle.yd_entries.specs.Splitting.{IsAstride}
use Rattle.yd_entries.proofs.BeginLemmas.{begins_none, begins_split, begins_pair}
use Rattle.yd_entries.proofs.splitting.begin_at.Goals as goal

pub returns-in_ok-split_pair-clause-begins : goal.returns-in_ok-split_pair-clause-begins
returns-in_ok-split_pair-clause-begins c =
    let ts = c.args.taken.now in
    let t = c.get-entry.result in
    let found = c.in-Some.ensures.found in
    begins_pair c.args.runs.now.items ts c.args.id c.in-Some.at t (slice_get_read ts (length ts) c.in-Some.at t refl found.0 c.get-entry.ensures)
    (subst (IsAstride c.args.id) (sym c.get-entry.ensures) (found.1 t)) (c.args.id.clock - t.id.clock) refl c.split_pair.new.runs.items c.split_pair.new.taken c.in_ok-split_pair.ensures.begins

pub returns-in_ok-split-clause-begins : goal.returns-in_ok-split-clause-begins
returns-in_ok-split-clause-begins c =
    let ts = c.args.taken.now in
    let t = c.get-entry.result in
    let found = c.in-Some.ensures.found in
    let parts = rw c.deref.ensures.value at c.parts_pair_of.ensures in
    begins_split c.args.runs.now.items ts c.args.id c.in-Some.at t (slice_get_read ts (length ts) c.in-Some.at t refl found.0 c.get-entry.ensures)
    (subst (IsAstride c.args.id) (sym c.get-entry.ensures) (found.1 t)) (c.args.id.clock - t.id.clock) refl c.split.new.taken c.requires.each c.requires.in_order
    (λ parted. true≢false (sym (parts.1 parted) ∙ c.if-parts_pair_of.false)) c.in_ok-split.ensures

pub returns-in_default-clause-begins : goal.returns-in_default-clause-begins
returns-in_default-clause-begins c =
    begins_none c.args.runs.now.items c.args.taken.now c.args.id c.requires.each c.requires.in_order c.in_default.ensures.none
