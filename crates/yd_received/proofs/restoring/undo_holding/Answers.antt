use Rattle.std.proofs.Common.{◌≡◌, ◌∙◌, ◌<◌, length, get_or, ap, sym, subst, arith}
use Rattle.yd_ids.specs.Id.{IsId}
use Rattle.yd_words.proofs.EachLemmas.{each_at}
use Rattle.yd_entries.specs.declared.entry.Entry.{Entry}
use Rattle.yd_received.specs.Received.{undone}
use Rattle.yd_received.proofs.RestoringLemmas.{walked, walked_all, walked_length, walked_next, walked_more}
use Rattle.yd_received.proofs.restoring.undo_holding.Goals as goal

pub undone-requires : goal.undone-requires
undone-requires c =
    let entry = c.get-entry.result in
    let same : entry ≡ get_or c.args.entries.now c.loop-at.at entry = c.get-entry.ensures ∙ ap (λ ts. get_or ts c.loop-at.at entry) c.loop-at.invariant
    ∙ walked_next (undone c.args.clocks.now) c.loop-at.at c.args.entries.now entry in
    let lt : c.loop-at.at < length c.args.entries.now = omega (arith, c.len-at-end.ensures) in
    subst (λ (t : Entry). IsId t.id) (sym same) (each_at (λ t. IsId t.id) c.args.entries.now c.loop-at.at entry c.requires lt)

pub get-entry-requires : goal.get-entry-requires
get-entry-requires c = omega (arith, c.loop-at-test.true, c.len-at-end.ensures, ap length c.loop-at.invariant, walked_length (undone c.args.clocks.now) c.loop-at.at c.args.entries.now)

pub set-requires : goal.set-requires
set-requires c = omega (arith, c.loop-at-test.true, c.len-at-end.ensures, ap length c.loop-at.invariant, walked_length (undone c.args.clocks.now) c.loop-at.at c.args.entries.now)

pub loop-at-preserved : goal.loop-at-preserved
loop-at-preserved c =
    let entry = c.get-entry.result in
    let same : entry ≡ get_or c.args.entries.now c.loop-at.at entry = c.get-entry.ensures ∙ ap (λ ts. get_or ts c.loop-at.at entry) c.loop-at.invariant
    ∙ walked_next (undone c.args.clocks.now) c.loop-at.at c.args.entries.now entry in
    let lt : c.loop-at.at < length c.args.entries.now = omega (arith, c.len-at-end.ensures) in
    c.set.ensures ∙ walked_more (undone c.args.clocks.now) c.loop-at.at c.args.entries.now c.loop-at.entries c.undone.result entry lt c.loop-at.invariant
    (c.undone.ensures ∙ ap (undone c.args.clocks.now) same)

pub returns : goal.returns
returns c =
    let all : c.loop-at.at ≡ length c.args.entries.now = omega (arith, c.len-at-end.ensures) in
    c.loop-at.invariant ∙ ap (λ n. walked (undone c.args.clocks.now) n c.args.entries.now) all ∙ walked_all (undone c.args.clocks.now) c.args.entries.now
