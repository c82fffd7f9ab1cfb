use Rattle.yd_sync.specs.Message.{message_value}
use Rattle.yd_sync.proofs.WrittenLemmas.{written_stands}
use Rattle.yd_sync.proofs.writing.write_message.Goals as goal

pub returns-clause-read_again : goal.returns-clause-read_again
returns-clause-read_again c = rw c.in_ok-bytes.ensures.written (written_stands (message_value c.args.message.now) c.in_ok-bytes.ensures.body)
