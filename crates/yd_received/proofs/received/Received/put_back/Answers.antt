use Rattle.std.proofs.Common.{sym, subst}
use Rattle.yd_words.specs.Each.{Each}
use Rattle.yd_ids.specs.Id.{IsId}
use Rattle.yd_words.proofs.EachLemmas.{each_weaker}
use Rattle.yd_entries.specs.Entries.{IsTakenOf, is_of_first}
use Rattle.yd_entries.proofs.EntriesLemmas.{each_kept}
use Rattle.yd_received.proofs.received.Received.put_back.Goals as goal

pub undo_holding-requires : goal.undo_holding-requires
undo_holding-requires c =
    let runs = c.self.inside.runs.items in
    let entries = c.self.inside.entries in
    subst (Each (λ t. IsId t.id)) (sym c.keep_first.ensures)
    (each_kept (is_of_first c.args.count) (λ t. IsId t.id) entries (each_weaker (IsTakenOf runs) (λ t. IsId t.id) (λ t is. is.id) entries c.self.invariant.each))
