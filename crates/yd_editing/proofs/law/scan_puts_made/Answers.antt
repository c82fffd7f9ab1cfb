use Rattle.yd_editing.proofs.ScannedLemmas.{scan_puts_made}
use Rattle.yd_editing.proofs.law.scan_puts_made.Goals as goal

pub returns : goal.returns
returns c = scan_puts_made
