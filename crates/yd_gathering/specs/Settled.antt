-- What was put off, gathered behind what is kept (own).
use Rattle.std.specs.Prelude.{List, ◌++◌}
use Rattle.yd_ops.specs.Value.{UpdateValue}
use Rattle.yd_gathering.specs.Gathered.{StandsAs}
use Rattle.yd_gathering.specs.Late.{updates_late}
use Rattle.yd_gathering.specs.Said.{SaysInTurn}
use Rattle.yd_gathering.specs.declared.late.Late.{Late}

-- behind what says some updates in turn, these stand for what was put off behind those
abbrev pub Settles : List UpdateValue → Late → List UpdateValue → Type 0
Settles before late behind = (taken : List UpdateValue) → SaysInTurn taken before → StandsAs (taken ++ updates_late late) (before ++ behind)
