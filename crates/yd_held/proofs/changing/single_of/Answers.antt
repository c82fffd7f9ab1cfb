use Rattle.std.proofs.Common.{◌∙◌, ◌-◌, arith, ap, sym, length, get_or}
use Rattle.yd_words.proofs.FilterLemmas.{length-filter}
use Rattle.yd_entries.specs.Entries.{is_of_first}
use Rattle.yd_held.specs.Held.{held_value}
use Rattle.yd_held.proofs.SingleLemmas.{came_alone}
use Rattle.yd_held.proofs.changing.single_of.Goals as goal

pub overflow_sub-len : goal.overflow_sub-len
overflow_sub-len c = omega (
  arith,
  c.len.ensures,
  ap length c.entries-entries.ensures.entries,
  c.requires.were,
  length-filter (is_of_first c.args.from) c.args.held.now.received.entries,
)

pub returns : goal.returns
returns c = record {
  single = came_alone (held_value c.args.held.now) c.args.order.now c.args.from c.args.count c.get.result
      (c.get.ensures ∙ ap (λ us. get_or us (get_or c.args.order.now 0 0) c.get.result) c.entries-entries.ensures.entries) c.requires.were (rw c.runs-runs.ensures at c.if-runs-from-ne1.false)
      (ap (λ n. n - c.args.count) (sym (c.len.ensures ∙ ap length c.entries-entries.ensures.entries)) ∙ c.if-len-count-ne1.false) c.requires.inside c.if-order-ne1.false c.if-get-from.false;
  none = tt;
}
