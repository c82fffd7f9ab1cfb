-- The verdicts of the code as those of the definition.
use Rattle.yd_origins.specs.Scan.{Verdict, stops, moves, stays}
use Rattle.yd_scan.specs.declared.judging.Verdict.{Verdict as Answer}
use Rattle.yd_scan.specs.declared.judging.Verdict.TheVariants.{Stops, Moves, Stays}

-- the verdict that an answer of the code is
abbrev pub verdict_of : Answer → Verdict
verdict_of Stops = stops
verdict_of Moves = moves
verdict_of Stays = stays
