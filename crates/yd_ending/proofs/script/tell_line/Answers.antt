use Rattle.std.proofs.Common.{◌≡◌, ◌++◌, List, [], ℕ, sym, ap, ◌∙◌, subst, append_assoc}
use Rattle.std.proofs.lemmas.List.{append-nil}
use Rattle.std.specs.Prelude.{codes, decimal}
use Rattle.yd_ending.specs.Script.{cause_text}
use Rattle.yd_ending.specs.Writing.{TakesPart}
use Rattle.yd_ending.proofs.WritingLemmas.{if_err, on_err, part_then, then_part}
use Rattle.yd_ending.proofs.script.tell_line.Goals as goal

-- the three parts of the line
parts : (named digits blank cause end : List ℕ) → named ++ digits ++ blank ++ cause ++ end ≡ named ++ ((digits ++ blank ++ []) ++ (cause ++ end))
parts named digits blank cause end = append_assoc (named ++ digits ++ blank) cause end ∙ ap (λ l. l ++ (cause ++ end)) (append_assoc named digits blank)
    ∙ append_assoc named (digits ++ blank) (cause ++ end) ∙ ap (λ l. named ++ (l ++ (cause ++ end))) (sym (append-nil (digits ++ blank)))

pub returns-in_err-write_line-clause-part : goal.returns-in_err-write_line-clause-part
returns-in_err-write_line-clause-part g c =
    let named : List ℕ = codes "refused " ++ c.args.script.now ++ codes " line " in
    let numbered : List ℕ = decimal c.args.number ++ codes " " ++ [] in
    let caused : List ℕ = cause_text c.args.cause ++ codes "\n" in
    if_err c.from_residual.result
    (subst (TakesPart (g.S.Sink.bytes_taken c.args.err.now) (g.S.Sink.bytes_taken c.write_line.new.sink)) (sym (parts named (decimal c.args.number) (codes " ") (cause_text c.args.cause) (codes "\n")))
    (part_then _ _ named (numbered ++ caused) c.in_err-write_line.ensures.part))

pub returns-in_err-write_line-2-clause-part : goal.returns-in_err-write_line-2-clause-part
returns-in_err-write_line-2-clause-part g c =
    let second = rw c.format.ensures.text at c.in_err-write_line-2.ensures.part in
    let named : List ℕ = codes "refused " ++ c.args.script.now ++ codes " line " in
    let numbered : List ℕ = decimal c.args.number ++ codes " " ++ [] in
    let caused : List ℕ = cause_text c.args.cause ++ codes "\n" in
    if_err c.from_residual-in_err-write_line-2.result
    (subst (TakesPart (g.S.Sink.bytes_taken c.args.err.now) (g.S.Sink.bytes_taken c.write_line-2.new.sink)) (sym (parts named (decimal c.args.number) (codes " ") (cause_text c.args.cause) (codes "\n")))
    (then_part _ _ _ named (numbered ++ caused) c.in_ok-write_line.ensures.whole (part_then _ _ numbered caused second)))

pub returns-clause-part : goal.returns-clause-part
returns-clause-part g c =
    let second = rw c.format.ensures.text at c.in_ok-write_line-2.ensures.whole in
    let named : List ℕ = codes "refused " ++ c.args.script.now ++ codes " line " in
    let numbered : List ℕ = decimal c.args.number ++ codes " " ++ [] in
    let caused : List ℕ = cause_text c.args.cause ++ codes "\n" in
    on_err c.tell_cause.result
    (λ rest. subst (TakesPart (g.S.Sink.bytes_taken c.args.err.now) (g.S.Sink.bytes_taken c.tell_cause.new.err)) (sym (parts named (decimal c.args.number) (codes " ") (cause_text c.args.cause) (codes "\n")))
    (then_part _ _ _ named (numbered ++ caused) c.in_ok-write_line.ensures.whole (then_part _ _ _ numbered caused second rest))) c.tell_cause.ensures.part
