use Rattle.std.proofs.Common.{List, ℕ, sym, subst}
use Rattle.yd_ops.specs.Value.{UpdateValue}
use Rattle.yd_fields.specs.UpdateFields.{fields_of_update}
use Rattle.yd_fields.proofs.WritesLemmas.{writes_then}
use Rattle.yd_skimming.specs.BlockWriting.{Appends, Holds, IsWrittenAs, fields_of_counted}
use Rattle.yd_skimming.proofs.BlockWritingLemmas.{written_as}
use Rattle.yd_skimming.proofs.block_writing.BlockWriter.finish.Goals as goal

pub returns : goal.returns
returns c = λ blocks written valid.
    let u : UpdateValue = record { blocks = blocks; deletes = c.args.deletes.now } in
    let begun : Holds (fields_of_counted blocks) c.write_all.new.all = subst (λ (old : List ℕ). Appends (fields_of_counted blocks) old c.write_all.new.all) c.new-all.ensures (c.in_ok-write_all.ensures blocks written) in
    let holds : Holds (fields_of_update u) c.write_deletes.new.writer = writes_then begun c.in_ok-write_deletes.ensures in
    subst (λ (bytes : List ℕ). IsWrittenAs bytes u) (sym c.in_ok-bytes.ensures.written) (written_as u c.write_deletes.new.writer holds valid)
