-- Where no run goes over the ends of a span, marking its runs marks its units.
use Rattle.std.proofs.Common.{◌≡◌, ◌+◌, ◌≤◌, inl, inr, sym, subst, arith}
use Rattle.yd_ids.specs.declared.id.Span.{Span}
use Rattle.yd_arena.specs.Arena.{Placed, IsArena, runs_of, next_clock}
use Rattle.yd_arena.specs.Marks.{IsBorder, MarksSpan}
use Rattle.yd_arena.proofs.MarkLemmas.{marks_are_units}
use Rattle.yd_store.specs.Contents.{Contented}
use Rattle.yd_store.specs.Store.{Stored}
use Rattle.yd_store.specs.Units.{KeepsUnits}
use Rattle.yd_store.specs.Deleting.{DeletesUnits}

-- runs are cut at both ends, and those between are marked
pub deletes_units : (old mid new : Stored) (span : Span) → KeepsUnits old mid → IsArena mid.placed.lines (runs_of mid.placed) →
    IsBorder (runs_of mid.placed) span.client.0 span.clock → IsBorder (runs_of mid.placed) span.client.0 (span.clock + span.len) → span.clock + span.len ≤ next_clock old.placed span.client.0 →
    MarksSpan (runs_of mid.placed) mid.marks.rows new.marks.rows span → new.placed ≡ mid.placed → new.contents ≡ mid.contents → DeletesUnits old new span
deletes_units old mid new span k arena front back held marks placed contents =
    let held_now : span.clock + span.len ≤ next_clock mid.placed span.client.0 = omega (arith, held, k.nexts span.client.0) in
    subst (λ (p : Placed). DeletesUnits old (record { placed = p; marks = new.marks; contents = new.contents }) span) (sym placed)
    (subst (λ (c : Contented). DeletesUnits old (record { placed = mid.placed; marks = new.marks; contents = c }) span) (sym contents)
    (record {
      count = k.count;
      lists = k.lists;
      rows = k.rows;
      operations = λ o. ((λ h. (k.operations o).0 (record { place = h.place; within = h.within; member = h.member })), (λ h. (let g = (k.operations o).1 h in record { place = g.place; within = g.within; member = g.member })));
      marks = λ id. (let law = marks_are_units mid.placed.lines (runs_of mid.placed) mid.marks.rows new.marks.rows span arena front back held_now marks id in (
        (λ h. elim (law.0 h) [ inl x ↦ inl ((k.marks id).0 x) | inr x ↦ inr x ]),
        (λ h. law.1 (elim h [ inl x ↦ inl ((k.marks id).1 x) | inr x ↦ inr x ])),
      ));
      nexts = k.nexts;
    }))
