use Rattle.std.proofs.Common.{◌≡◌, ◌++◌, List, ℕ, sym, ap, ◌∙◌, subst, append_assoc}
use Rattle.std.specs.Prelude.{codes, decimal}
use Rattle.yd_ending.specs.Writing.{TakesAll, TakesPart}
use Rattle.yd_ending.proofs.WritingLemmas.{if_err, on_err, on_ok, part_then, then_all, then_part}
use Rattle.yd_ending.proofs.script.tell_id.Goals as goal

-- the two parts of the line
parts : (named blank digits end : List ℕ) → named ++ blank ++ digits ++ end ≡ named ++ (blank ++ digits ++ end)
parts named blank digits end = append_assoc (named ++ blank) digits end ∙ append_assoc named blank (digits ++ end) ∙ ap (λ l. named ++ l) (sym (append_assoc blank digits end))

pub returns-in_err-write_line-clause-part : goal.returns-in_err-write_line-clause-part
returns-in_err-write_line-clause-part g c =
    let told = rw c.format.ensures.text at c.in_err-write_line.ensures.part in
    let named : List ℕ = c.args.name.now ++ codes " " ++ decimal c.args.id.client.0 in
    if_err c.from_residual.result
    (subst (TakesPart (g.S.Sink.bytes_taken c.args.err.now) (g.S.Sink.bytes_taken c.write_line.new.sink)) (sym (parts named (codes " ") (decimal c.args.id.clock) (codes "\n")))
    (part_then _ _ named (codes " " ++ decimal c.args.id.clock ++ codes "\n") told))

pub returns-clause-whole : goal.returns-clause-whole
returns-clause-whole g c =
    let first = rw c.format.ensures.text at c.in_ok-write_line.ensures.whole in
    let second = rw c.format-2.ensures.text at c.write_line-2.ensures.whole in
    let named : List ℕ = c.args.name.now ++ codes " " ++ decimal c.args.id.client.0 in
    on_ok c.write_line-2.result
    (λ rest. subst (TakesAll (g.S.Sink.bytes_taken c.args.err.now) (g.S.Sink.bytes_taken c.write_line-2.new.sink)) (sym (parts named (codes " ") (decimal c.args.id.clock) (codes "\n")))
    (then_all _ _ _ named (codes " " ++ decimal c.args.id.clock ++ codes "\n") first rest)) second

pub returns-clause-part : goal.returns-clause-part
returns-clause-part g c =
    let first = rw c.format.ensures.text at c.in_ok-write_line.ensures.whole in
    let second = rw c.format-2.ensures.text at c.write_line-2.ensures.part in
    let named : List ℕ = c.args.name.now ++ codes " " ++ decimal c.args.id.client.0 in
    on_err c.write_line-2.result
    (λ rest. subst (TakesPart (g.S.Sink.bytes_taken c.args.err.now) (g.S.Sink.bytes_taken c.write_line-2.new.sink)) (sym (parts named (codes " ") (decimal c.args.id.clock) (codes "\n")))
    (then_part _ _ _ named (codes " " ++ decimal c.args.id.clock ++ codes "\n") first rest)) second
