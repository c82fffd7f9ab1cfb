use Rattle.std.proofs.Common.{drop, refl}
use Rattle.yd_num.proofs.TextLemmas.{text_at-utf8, text_at-other}
use Rattle.yd_num.proofs.field.text_of.Goals as goal

pub returns-in-Ok : goal.returns-in-Ok
returns-in-Ok c = (text_at-utf8 c.args.bytes.now c.in_ok-blob.blob.now c.in-Ok.text.now (drop c.in_ok-blob.len c.args.bytes.now) c.in_ok-blob.ensures.0 c.in-Ok.ensures.0 c.in-Ok.ensures.1, c.in_ok-blob.ensures.1)

pub returns-in-Err : goal.returns-in-Err
returns-in-Err c = (text_at-other c.args.bytes.now c.in_ok-blob.blob.now (drop c.in_ok-blob.len c.args.bytes.now) c.in_ok-blob.ensures.0 c.in-Err.ensures, refl)
