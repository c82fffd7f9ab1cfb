use Rattle.std.proofs.Common.{◌≡◌, ◌++◌, List, [], ℕ, append_assoc}
use Rattle.std.specs.Prelude.{codes, decimal}
use Rattle.yd_parts.specs.declared.fault.Cause.{Cause}
use Rattle.yd_parts.specs.declared.fault.Spot.{Spot}
use Rattle.yd_ending.specs.Reason.{cause_name, column_prefix, fault_text}
use Rattle.yd_ending.proofs.WritingLemmas.{if_err, on_err, on_ok, part_then, then_all, then_part}
use Rattle.yd_ending.proofs.refusal.tell_fault.Goals as goal

-- the two parts of the line
abbrev named : Cause → List ℕ
named cause = cause_name cause ++ codes " " ++ []

abbrev placed : Spot → List ℕ
placed spot = column_prefix spot.column ++ decimal spot.at ++ codes "\n"

parts : (name column digits end : List ℕ) → (name ++ codes " " ++ (column ++ digits)) ++ end ≡ (name ++ codes " " ++ []) ++ (column ++ digits ++ end)
parts name column digits end = simp append_assoc

in_parts : (cause : Cause) (spot : Spot) → fault_text (record { cause = cause; spot = spot }) ++ codes "\n" ≡ named cause ++ placed spot
in_parts cause spot = parts (cause_name cause) (column_prefix spot.column) (decimal spot.at) (codes "\n")

pub returns-in_err-write_line-clause-part : goal.returns-in_err-write_line-clause-part
returns-in_err-write_line-clause-part g c =
    let told = rw c.name_of_cause.ensures at c.in_err-write_line.ensures.part in
    if_err c.from_residual.result (rw (in_parts c.args.cause c.args.spot) (part_then _ _ (named c.args.cause) (placed c.args.spot) told))

pub returns-clause-whole : goal.returns-clause-whole
returns-clause-whole g c =
    let first = rw c.name_of_cause.ensures at c.in_ok-write_line.ensures.whole in
    let second = rw (c.prefix_of_column.ensures, c.format.ensures.text) at c.write_line-2.ensures.whole in
    rw (in_parts c.args.cause c.args.spot) (on_ok _ (then_all _ _ _ (named c.args.cause) (placed c.args.spot) first) second)

pub returns-clause-part : goal.returns-clause-part
returns-clause-part g c =
    let first = rw c.name_of_cause.ensures at c.in_ok-write_line.ensures.whole in
    let second = rw (c.prefix_of_column.ensures, c.format.ensures.text) at c.write_line-2.ensures.part in
    rw (in_parts c.args.cause c.args.spot) (on_err _ (then_part _ _ _ (named c.args.cause) (placed c.args.spot) first) second)
