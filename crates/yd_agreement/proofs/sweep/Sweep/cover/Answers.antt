use Rattle.std.proofs.Common.{rules, of_calls, ap, length, arith}
use Rattle.std.proofs.lemmas.Fn.{always_returns_same}
use Rattle.yd_ops.specs.View.{run_value}
use Rattle.yd_agreement.specs.Sweep.{runs_in}
use Rattle.yd_agreement.proofs.BegunLemmas.{cover_tells, is_begun, none_begins, parted_by}
use Rattle.yd_agreement.proofs.CoverLemmas.{cover_so_far, length-lent}
use Rattle.yd_agreement.proofs.sweep.Sweep.cover.Goals as goal

pub returns-then-count-eq0 : goal.returns-then-count-eq0
returns-then-count-eq0 c = none_begins (runs_in c.args.self.now) c.args.id c.partition_point-count.result
    (parted_by c.args.self.now.runs.items c.deref.result.now c.args.id c.partition_point-count.result c.requires.ascending c.deref.ensures.value
    (c.partition_point-count.ensures.partitioned (is_begun c.args.id) (always_returns_same _ _ _ (λ a r f k. search (rules, of_calls)))))
    c.if-count-eq0.true

pub returns : goal.returns
returns c = cover_tells (runs_in c.args.self.now) c.args.id c.partition_point-count.result (run_value c.index.result.now.now)
    (parted_by c.args.self.now.runs.items c.deref.result.now c.args.id c.partition_point-count.result c.requires.ascending c.deref.ensures.value
    (c.partition_point-count.ensures.partitioned (is_begun c.args.id) (always_returns_same _ _ _ (λ a r f k. search (rules, of_calls)))))
    (cover_so_far c.args.self.now.runs.items c.args.self.now.covers.items (length (runs_in c.args.self.now)) c.partition_point-count.result c.index.result.now c.requires.covers
    (omega (arith, c.if-count-eq0.false)) (omega (arith, c.partition_point-count.ensures.bound, ap length c.deref.ensures.value, length-lent c.args.self.now.runs.items))
    c.index.ensures)
