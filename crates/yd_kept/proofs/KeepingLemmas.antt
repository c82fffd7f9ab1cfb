-- What keeps all rows of an arena.
use Rattle.std.proofs.Common.{length, ap, ◌∙◌, arith}
use Rattle.yd_arena.specs.Arena.{Placed, IsSame}
use Rattle.yd_arena.proofs.CutLemmas.{cuts_keep_rows, same_has_rows}
use Rattle.yd_kept.specs.Placing.{KeepsRows, RowsAreKept}

room_keeps_rows : (old new : Placed) → IsSame old new → KeepsRows old new
room_keeps_rows old new same = record { count = ap length same.lists; rows = λ k kl. same_has_rows old new same k; nexts = same.nexts }

rows_kept_twice : (old mid new : Placed) → KeepsRows old mid → KeepsRows mid new → KeepsRows old new
rows_kept_twice old mid new a b = record {
  count = b.count ∙ a.count;
  rows = λ k kl. b.rows k (omega (arith, kl, a.count)) ∙ a.rows k kl;
  nexts = λ client. b.nexts client ∙ a.nexts client;
}

-- ---- lemmas for callers

pub rows_are_kept : RowsAreKept
rows_are_kept = record {
  by_cuts = λ old new place n lists lt some le cuts. record { count = cuts.lists.count; rows = cuts_keep_rows old new place n lists lt some le cuts; nexts = cuts.nexts };
  by_room = room_keeps_rows;
  twice = rows_kept_twice;
}
