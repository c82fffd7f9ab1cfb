use Rattle.std.proofs.Common.{sym, subst}
use Rattle.yd_words.specs.Each.{Each}
use Rattle.yd_sync.specs.Entry.{IsEntry}
use Rattle.yd_sync.specs.Table.{after_entries, taken_of}
use Rattle.yd_aware.proofs.KeptLemmas.{answer_told, entries_kept, result_kept, taken_told}
use Rattle.yd_aware.proofs.TakingLemmas.{on_ok}
use Rattle.yd_aware.proofs.awareness.Awareness.apply_from.Goals as goal

pub invariant_of-self : goal.invariant_of-self
invariant_of-self c =
    let are : Each IsEntry c.as_slice.result.now = subst (Each IsEntry) (sym c.as_slice.ensures) c.requires in
    record {
      owner = c.self.invariant.owner;
      kept = result_kept c.take_all-result.result c.self.inside.rows.entries c.take_all-result.new.rows.entries
          (after_entries c.self.inside.own c.args.now c.args.source c.as_slice.result.now c.self.inside.rows.entries) (Unit {0})
          c.take_all-result.ensures.after c.take_all-result.ensures.unchanged (on_ok (Unit {0}) c.take_all-result.result tt)
          (λ u. entries_kept c.self.inside.own c.args.now c.args.source c.as_slice.result.now c.self.inside.rows.entries are c.self.invariant.kept)
          c.self.invariant.kept;
    }

pub returns-clause-valid : goal.returns-clause-valid
returns-clause-valid c =
    let are : Each IsEntry c.as_slice.result.now = subst (Each IsEntry) (sym c.as_slice.ensures) c.requires in
    answer_told c.take_all-result.result (taken_of c.self.inside.own c.args.now c.args.source c.as_slice.result.now c.self.inside.rows.entries)
    c.take_all-result.ensures.taken
    (taken_told c.self.inside.own c.args.now c.args.source c.as_slice.result.now c.self.inside.rows.entries are)
