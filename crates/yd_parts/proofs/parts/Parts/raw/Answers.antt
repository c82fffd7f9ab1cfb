use Rattle.yd_num.proofs.BlobLemmas.{bytes_front}
use Rattle.yd_parts.proofs.parts.Parts.raw.Goals as goal

pub unreachable-requires : goal.unreachable-requires
unreachable-requires g c =
    let all_bytes = (bytes_front g.row.N c.self.inside.cursor.unread c.in-Ok.bytes.now c.take.new.self.unread c.in-Ok.ensures.0).is_front.1 in
    c.in-Err-try_from.ensures.1 all_bytes
