use Rattle.std.proofs.Common.{◌≡◌, ◌∙◌, ◌<◌, length, get_or, ap, arith}
use Rattle.yd_entries.specs.declared.entry.Entry.{Entry}
use Rattle.yd_entries.specs.declared.place.Place.TheVariants.{Waits}
use Rattle.yd_received.specs.Received.{with_place}
use Rattle.yd_received.proofs.RestoringLemmas.{walked, walked_all, walked_length, walked_next, walked_more}
use Rattle.yd_received.proofs.restoring.let_wait.Goals as goal

pub get-entry-requires : goal.get-entry-requires
get-entry-requires c = omega (arith, c.loop-at-test.true, c.len-at-end.ensures, ap length c.loop-at.invariant, walked_length (λ (t : Entry). with_place t Waits) c.loop-at.at c.args.entries.now)

pub set-requires : goal.set-requires
set-requires c = omega (arith, c.loop-at-test.true, c.len-at-end.ensures, ap length c.loop-at.invariant, walked_length (λ (t : Entry). with_place t Waits) c.loop-at.at c.args.entries.now)

pub loop-at-preserved : goal.loop-at-preserved
loop-at-preserved c =
    let entry = c.get-entry.result in
    let same : entry ≡ get_or c.args.entries.now c.loop-at.at entry = c.get-entry.ensures ∙ ap (λ ts. get_or ts c.loop-at.at entry) c.loop-at.invariant
    ∙ walked_next (λ (t : Entry). with_place t Waits) c.loop-at.at c.args.entries.now entry in
    let lt : c.loop-at.at < length c.args.entries.now = omega (arith, c.len-at-end.ensures) in
    c.set.ensures ∙ walked_more (λ (t : Entry). with_place t Waits) c.loop-at.at c.args.entries.now c.loop-at.entries (with_place entry Waits) entry lt c.loop-at.invariant
    (ap (λ (t : Entry). with_place t Waits) same)

pub returns : goal.returns
returns c =
    let all : c.loop-at.at ≡ length c.args.entries.now = omega (arith, c.len-at-end.ensures) in
    c.loop-at.invariant ∙ ap (λ n. walked (λ (t : Entry). with_place t Waits) n c.args.entries.now) all ∙ walked_all (λ (t : Entry). with_place t Waits) c.args.entries.now
