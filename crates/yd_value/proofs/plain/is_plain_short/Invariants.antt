use Rattle.json.specs.Written.{PlainBetween}
use Rattle.yd_value.proofs.plain.is_plain_short.Given as goal

abbrev pub invariant-loop-byte : goal.invariant-loop-byte
invariant-loop-byte l = PlainBetween l.text 0 l.byte-index
