use Rattle.std.proofs.Common.{◌≡◌, ◌++◌, List, [], ℕ, append_assoc}
use Rattle.std.specs.Prelude.{codes}
use Rattle.yd_parts.specs.declared.fault.Cause.{Cause}
use Rattle.yd_parts.specs.declared.fault.Spot.{Spot}
use Rattle.yd_ending.specs.Lines.{refused_line}
use Rattle.yd_ending.specs.Reason.{fault_text}
use Rattle.yd_files.specs.Seen.{file_of}
use Rattle.yd_files.specs.Files.{prefix_of}
use Rattle.yd_files.specs.declared.file.File.{File}
use Rattle.yd_ending.proofs.WritingLemmas.{if_err, on_err, on_ok, part_then, then_all, then_part}
use Rattle.yd_ending.proofs.refusal.tell_file.Goals as goal

-- the three parts of the line
abbrev named : File → List ℕ
named file = codes "refused " ++ prefix_of (file_of file).kind ++ (file_of file).name

abbrev blank : List ℕ
blank = codes " " ++ [] ++ []

abbrev told : Cause → Spot → List ℕ
told cause spot = fault_text (record { cause = cause; spot = spot }) ++ codes "\n"

parts : (said prefix name fault end : List ℕ) → said ++ (prefix ++ name) ++ codes " " ++ fault ++ end ≡ (said ++ prefix ++ name) ++ ((codes " " ++ [] ++ []) ++ (fault ++ end))
parts said prefix name fault end = simp append_assoc

in_parts : (file : File) (cause : Cause) (spot : Spot) → refused_line (file_of file) (record { cause = cause; spot = spot }) ≡ named file ++ (blank ++ told cause spot)
in_parts file cause spot = parts (codes "refused ") (prefix_of (file_of file).kind) (file_of file).name (fault_text (record { cause = cause; spot = spot })) (codes "\n")

pub returns-in_err-write_line-clause-part : goal.returns-in_err-write_line-clause-part
returns-in_err-write_line-clause-part g c =
    let first = rw c.prefix.ensures at c.in_err-write_line.ensures.part in
    if_err c.from_residual.result (rw (in_parts c.args.file c.args.cause c.args.spot) (part_then _ _ (named c.args.file) (blank ++ told c.args.cause c.args.spot) first))

pub returns-in_err-write_line-2-clause-part : goal.returns-in_err-write_line-2-clause-part
returns-in_err-write_line-2-clause-part g c =
    let first = rw c.prefix.ensures at c.in_ok-write_line.ensures.whole in
    if_err c.from_residual-in_err-write_line-2.result
    (rw (in_parts c.args.file c.args.cause c.args.spot) (then_part _ _ _ (named c.args.file) (blank ++ told c.args.cause c.args.spot) first (part_then _ _ blank (told c.args.cause c.args.spot) c.in_err-write_line-2.ensures.part)))

pub returns-clause-whole : goal.returns-clause-whole
returns-clause-whole g c =
    let first = rw c.prefix.ensures at c.in_ok-write_line.ensures.whole in
    let second = c.in_ok-write_line-2.ensures.whole in
    rw (in_parts c.args.file c.args.cause c.args.spot) (on_ok _ (then_all _ _ _ (named c.args.file) (blank ++ told c.args.cause c.args.spot) first) (on_ok _ (then_all _ _ _ blank (told c.args.cause c.args.spot) second) c.tell_fault.ensures.whole))

pub returns-clause-part : goal.returns-clause-part
returns-clause-part g c =
    let first = rw c.prefix.ensures at c.in_ok-write_line.ensures.whole in
    let second = c.in_ok-write_line-2.ensures.whole in
    rw (in_parts c.args.file c.args.cause c.args.spot) (on_err _ (then_part _ _ _ (named c.args.file) (blank ++ told c.args.cause c.args.spot) first) (on_err _ (then_part _ _ _ blank (told c.args.cause c.args.spot) second) c.tell_fault.ensures.part))
