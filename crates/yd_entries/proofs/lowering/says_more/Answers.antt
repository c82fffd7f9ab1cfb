use Rattle.std.proofs.Common.{◌<◌, inl, inr, length, take, get_or, ◌≡◌, true, false, refl, sym, subst, arith, tests, true≢false}
use Rattle.yd_words.proofs.EachLemmas.{each_weaker, each_at}
use Rattle.yd_words.specs.Member.{IsIn}
use Rattle.yd_entries.specs.Entries.{IsTakenOf, operations_of_taken}
use Rattle.yd_entries.specs.Lowering.{begins_within}
use Rattle.yd_entries.proofs.ScanLemmas.{IsLow}
use Rattle.yd_entries.specs.Taking.{EndsBy, EndsBehind}
use Rattle.yd_entries.proofs.EntryLemmas.{each_from, each_past}
use Rattle.yd_entries.proofs.ScanLemmas.{IsLow, rest_behind, low_and_behind, none_more, says_more_at, of_entry, each_one_more, each_one_less, each_both}
use Rattle.yd_entries.proofs.lowering.says_more.Goals as goal

pub loop-at-init : goal.loop-at-init
loop-at-init c = (
  each_weaker (EndsBy c.args.id) (IsLow c.args.id c.args.len c.args.level c.args.runs.now) (λ t e. inl e) (take c.place-at.result c.args.taken.now) c.place-at.ensures.before,
  c.place-at.ensures.behind,
)

pub loop-at-preserved : goal.loop-at-preserved
loop-at-preserved c = (
  each_one_more (IsLow c.args.id c.args.len c.args.level c.args.runs.now) c.args.taken.now c.loop-at.at c.get-entry.result (omega arith) c.loop-at.invariant.0
      (subst (IsLow c.args.id c.args.len c.args.level c.args.runs.now) c.get-entry.ensures (inr (inr (omega (arith, c.level_of.ensures, c.if-level_of-level.false))))),
  each_one_less (EndsBehind c.args.id) c.args.taken.now c.loop-at.at c.loop-at.invariant.1,
)

pub returns-then-not-begins_within : goal.returns-then-not-begins_within
returns-then-not-begins_within c = (
  (λ no. absurd (true≢false (sym no))),
  (λ more. absurd (none_more c.args.runs.now c.args.taken.now c.args.id c.args.len c.args.level c.requires.each
      (low_and_behind c.args.runs.now c.args.taken.now c.args.id c.loop-at.at c.args.len c.args.level c.loop-at.invariant.0
      (rest_behind c.args.taken.now c.args.id c.loop-at.at c.get-entry.result c.args.len c.requires.in_order c.loop-at.invariant.1
      (λ lt. subst (λ t. begins_within c.args.id c.args.len t ≡ false) c.get-entry.ensures (grind (arith, tests, c.begins_within.ensures, c.if-not-begins_within.true))))) more)),
)

pub returns-then-level_of-level : goal.returns-then-level_of-level
returns-then-level_of-level c =
    let entry = c.get-entry.result in
    let is : entry ≡ get_or c.args.taken.now c.loop-at.at entry = c.get-entry.ensures in
    let lt : c.loop-at.at < length c.args.taken.now = omega arith in
    let (o, i, among, less) = says_more_at c.args.runs.now entry c.args.id c.args.len c.args.level c.requires.some
    (subst (IsTakenOf c.args.runs.now) (sym is) (each_at (IsTakenOf c.args.runs.now) c.args.taken.now c.loop-at.at entry c.requires.each lt))
    (subst (EndsBehind c.args.id) (sym is) (each_from (EndsBehind c.args.id) c.args.taken.now c.loop-at.at entry c.loop-at.invariant.1 lt))
    (grind (arith, tests, c.begins_within.ensures, c.if-not-begins_within.false))
    (omega (arith, c.level_of.ensures, c.if-level_of-level.true)) in
    ((λ yes. (o, of_entry c.args.runs.now c.args.taken.now c.loop-at.at entry o lt (subst (λ t. IsIn o (operations_of_taken c.args.runs.now t)) is i), among, less)), (λ more. refl))

pub returns : goal.returns
returns c = (
  (λ no. absurd (true≢false (sym no))),
  (λ more. absurd (none_more c.args.runs.now c.args.taken.now c.args.id c.args.len c.args.level c.requires.each
      (each_both (IsLow c.args.id c.args.len c.args.level c.args.runs.now) c.args.taken.now c.loop-at.at c.loop-at.invariant.0
      (each_past (IsLow c.args.id c.args.len c.args.level c.args.runs.now) c.args.taken.now c.loop-at.at (omega arith))) more)),
)
