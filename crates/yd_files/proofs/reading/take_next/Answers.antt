use Rattle.std.proofs.Common.{refl, ap, Err}
use Rattle.yd_files.proofs.ToldLemmas.{lacks, loads_too_large}
use Rattle.yd_files.proofs.reading.take_next.Goals as goal

pub returns-in-Err-ReadFault-clause-stops : goal.returns-in-Err-ReadFault-clause-stops
returns-in-Err-ReadFault-clause-stops g c =
    let failed = c.in-Err-ReadFault in
    let load = failed.ensures in
    let is = ap Err failed.field-0-is in
    (refl, load.failed is, load.begun, λ calmly is_told. lacks (g.L.Library.told c.args.library.now) c.args.file.name.now (λ named. (load.calm calmly named).1 is) is_told)

pub returns-in-Err-TooLarge-clause-stops : goal.returns-in-Err-TooLarge-clause-stops
returns-in-Err-TooLarge-clause-stops g c = (refl, loads_too_large _ _ c.args.file.name.now (rw c.in-Err-TooLarge.field-0-is at c.in-Err-TooLarge.ensures.loads))
