use Rattle.std.proofs.Common.{List, ℕ, subst, arith}
use Rattle.yd_fields.specs.Lent.{lent_struct}
use Rattle.yd_fields.specs.UpdateFields.{fields_of_struct}
use Rattle.yd_skimming.specs.BlockWriting.{Appends}
use Rattle.yd_skimming.proofs.BlockWritingLemmas.{behind_gap, behind_none}
use Rattle.yd_skimming.proofs.block_writing.put_behind.Goals as goal
use Rattle.yd_skimming.proofs.block_writing.put_behind.Goals.{then-gap-gt0+in_ok-put_skip, else-gap-gt0}

pub returns : goal.returns
returns c =
    let s = lent_struct c.args.entry.now in
    let new = c.write_lent.new.writer in
    let From : List ℕ → Type 0 = λ (mid : List ℕ). Appends (fields_of_struct s) mid new in
    elim c.if-gap-gt0.branch [
      | then-gap-gt0+in_ok-put_skip w ↦ behind_gap c.args.gap s c.args.body.now w.put_skip.new.body new (omega arith) w.in_ok-put_skip.ensures (subst From w.body-is c.in_ok-write_lent.ensures)
      | else-gap-gt0 w ↦ behind_none c.args.gap s c.args.body.now new (omega arith) (subst From w.body-is c.in_ok-write_lent.ensures)
    ]
