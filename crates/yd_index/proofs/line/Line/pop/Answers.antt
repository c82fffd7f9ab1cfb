use Rattle.std.proofs.Common.{◌-◌, [], ◌∷◌, ◌++◌, get_or, ◌∙◌, sym, ap, subst, arith}
use Rattle.std.specs.Prelude.{remove}
use Rattle.yd_index.specs.Line.{Fills}
use Rattle.yd_index.proofs.PoppingLemmas.{some_entry, last_split, fills_front}
use Rattle.yd_index.proofs.line.Line.pop.Goals as goal

pub overflow_sub-n : goal.overflow_sub-n
overflow_sub-n c = omega (arith, some_entry c.self.inside.entries.items c.self.inside.next c.self.invariant (rw (← c.self.view_is) at c.requires), c.len-n.ensures)

pub invariant_of-self : goal.invariant_of-self
invariant_of-self c =
    let es = c.self.inside.entries.items in
    let n = c.len-n.result in
    let pos = some_entry es c.self.inside.next c.self.invariant (rw (← c.self.view_is) at c.requires) in
    let split = last_split es (n - 1) c.remove-last.result (omega (arith, pos, c.len-n.ensures)) in
    let fills : Fills 0 (remove es (n - 1) ++ get_or es (n - 1) c.remove-last.result ∷ []) c.self.inside.next = subst (λ xs. Fills 0 xs c.self.inside.next) split c.self.invariant in
    rw c.remove-last.ensures.done (subst (λ e. Fills 0 (remove es (n - 1)) e.clock) (sym c.remove-last.ensures.value) (fills_front (remove es (n - 1)) (get_or es (n - 1) c.remove-last.result) 0 c.self.inside.next fills))

pub returns-clause-entries : goal.returns-clause-entries
returns-clause-entries c =
    let es = c.self.inside.entries.items in
    let n = c.len-n.result in
    let pos = some_entry es c.self.inside.next c.self.invariant (rw (← c.self.view_is) at c.requires) in
    let split = last_split es (n - 1) c.remove-last.result (omega (arith, pos, c.len-n.ensures)) in
    rw (← c.self.view_is, c.remove-last.ensures.done) (split ∙ ap (λ e. remove es (n - 1) ++ e ∷ []) (sym c.remove-last.ensures.value))
