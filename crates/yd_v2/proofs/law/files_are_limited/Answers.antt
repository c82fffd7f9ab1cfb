use Rattle.yd_fields.proofs.LimitLemmas.{update_limited}
use Rattle.yd_v2.proofs.law.files_are_limited.Goals as goal
use Rattle.yd_v2.specs.Reading.{most_structs}

pub returns : goal.returns
returns c = λ bytes u stands. update_limited most_structs stands.fields.things u stands.fields.leads
