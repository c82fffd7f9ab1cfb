use Rattle.yd_position.proofs.WrittenLemmas.{written_stands}
use Rattle.yd_position.proofs.writing.write_position.Goals as goal

pub returns-clause-read_again : goal.returns-clause-read_again
returns-clause-read_again c = rw c.in_ok-bytes.ensures.written (written_stands c.args.position.now c.in_ok-bytes.ensures.writable c.requires.assoc)
