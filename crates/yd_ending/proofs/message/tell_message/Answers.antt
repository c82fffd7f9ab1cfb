use Rattle.std.proofs.Common.{◌≡◌, ◌++◌, List, ℕ, ap, append_assoc}
use Rattle.std.specs.Prelude.{codes, decimal}
use Rattle.yd_sync.specs.declared.fault.MessageFault.{MessageFault}
use Rattle.yd_ending.specs.Message.{message_text, refused_message_line}
use Rattle.yd_ending.proofs.WritingLemmas.{if_err, on_err, on_ok, part_then, then_all, then_part}
use Rattle.yd_ending.proofs.message.tell_message.Goals as goal

-- the two parts of the line
abbrev numbered : ℕ → List ℕ
numbered number = codes "refused message " ++ decimal number ++ codes " "

abbrev told : MessageFault → List ℕ
told fault = message_text fault ++ codes "\n"

in_parts : (number : ℕ) (fault : MessageFault) → refused_message_line number fault ≡ numbered number ++ told fault
in_parts number fault = append_assoc (numbered number) (message_text fault) (codes "\n")

pub returns-in_err-write_line-clause-part : goal.returns-in_err-write_line-clause-part
returns-in_err-write_line-clause-part g c =
    let first = rw c.format.ensures.text at c.in_err-write_line.ensures.part in
    if_err c.from_residual.result (rw (in_parts c.args.number c.args.fault) (part_then _ _ (numbered c.args.number) (told c.args.fault) first))

pub returns-clause-whole : goal.returns-clause-whole
returns-clause-whole g c =
    let first = rw c.format.ensures.text at c.in_ok-write_line.ensures.whole in
    rw (in_parts c.args.number c.args.fault) (on_ok _ (then_all _ _ _ (numbered c.args.number) (told c.args.fault) first) c.tell_why.ensures.whole)

pub returns-clause-part : goal.returns-clause-part
returns-clause-part g c =
    let first = rw c.format.ensures.text at c.in_ok-write_line.ensures.whole in
    rw (in_parts c.args.number c.args.fault) (on_err _ (then_part _ _ _ (numbered c.args.number) (told c.args.fault) first) c.tell_why.ensures.part)
