use Rattle.std.proofs.Common.{◌≡◌, ◌-◌, ◌++◌, length, take, drop, vec_len}
use Rattle.yd_units.specs.Text.{text_of}
use Rattle.yd_units.proofs.spelling.push_text.Given as goal

-- what is written, and the text of the units that are left, is the whole, and what was there stays
abbrev pub invariant-loop-at : goal.invariant-loop-at
invariant-loop-at l = record {
  kept : take (vec_len l.initial.out) l.out.items ≡ l.initial.out.items;
  joined : l.out.items ++ text_of (drop l.at l.units) ≡ l.initial.out.items ++ text_of l.units;
}

abbrev pub decreases-loop-at : goal.decreases-loop-at
decreases-loop-at l = length l.units - l.at
