use Rattle.std.proofs.Common.{◌≡◌, ◌++◌, List, [], ℕ, sym, ap₂, ◌∙◌, subst, append_assoc}
use Rattle.std.proofs.lemmas.List.{append-nil}
use Rattle.std.specs.Prelude.{codes, decimal}
use Rattle.yd_ending.specs.Writing.{TakesPart}
use Rattle.yd_ending.proofs.WritingLemmas.{if_err, on_err, part_then, then_part}
use Rattle.yd_ending.proofs.script.tell_number.Goals as goal

-- the two parts of the line
parts : (name blank digits end : List ℕ) → name ++ blank ++ digits ++ end ≡ (name ++ blank ++ []) ++ (digits ++ [] ++ end)
parts name blank digits end = append_assoc (name ++ blank) digits end ∙ sym (ap₂ (λ x y. x ++ (y ++ end)) (append-nil (name ++ blank)) (append-nil digits))

pub returns-in_err-write_line-clause-part : goal.returns-in_err-write_line-clause-part
returns-in_err-write_line-clause-part g c =
    if_err c.from_residual.result
    (subst (TakesPart (g.S.Sink.bytes_taken c.args.err.now) (g.S.Sink.bytes_taken c.write_line.new.sink)) (sym (parts c.args.name.now (codes " ") (decimal c.args.number) (codes "\n")))
    (part_then _ _ (c.args.name.now ++ codes " " ++ []) (decimal c.args.number ++ [] ++ codes "\n") c.in_err-write_line.ensures.part))

pub returns-clause-part : goal.returns-clause-part
returns-clause-part g c =
    let told = rw c.format.ensures.text at c.write_line-2.ensures.part in
    on_err c.write_line-2.result
    (λ rest. subst (TakesPart (g.S.Sink.bytes_taken c.args.err.now) (g.S.Sink.bytes_taken c.write_line-2.new.sink)) (sym (parts c.args.name.now (codes " ") (decimal c.args.number) (codes "\n")))
    (then_part _ _ _ (c.args.name.now ++ codes " " ++ []) (decimal c.args.number ++ [] ++ codes "\n") c.in_ok-write_line.ensures.whole rest)) told
