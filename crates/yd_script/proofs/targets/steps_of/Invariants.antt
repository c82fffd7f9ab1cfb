use Rattle.std.proofs.Common.{◌≡◌, map, drop}
use Rattle.serde_json.specs.View.{view}
use Rattle.yd_script.specs.Given.{steps_in}
use Rattle.yd_script.proofs.GivenLemmas.{steps_with}
use Rattle.yd_script.proofs.targets.steps_of.Given as goal

-- the steps so far, and those that are left, are all
abbrev pub invariant-loop-item : goal.invariant-loop-item
invariant-loop-item l = steps_in (map view l.items) ≡ steps_with l.steps.items (steps_in (map view (drop l.item-index l.items)))
