use Rattle.std.proofs.Common.{sym, ◌∙◌}
use Rattle.yd_fields.specs.Lent.{lent_struct}
use Rattle.yd_skimming.proofs.GroupWritingLemmas.{put_apart}
use Rattle.yd_skimming.proofs.group_writing.GroupWriter.put.Goals as goal

pub returns : goal.returns
returns c = λ built group is has. put_apart c.args.self.now _ c.args.id (lent_struct c.args.entry.now) c.len.result built group is has
    (sym c.joins.ensures ∙ c.if-joins.false) c.in_ok-put.ensures c.tail_of-self.ensures c.len.ensures
