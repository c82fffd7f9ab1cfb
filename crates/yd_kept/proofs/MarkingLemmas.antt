-- The ids of a set, marked span by span.
use Rattle.std.proofs.Common.{◌≡◌, ℕ, ◌+◌, ◌-◌, ◌<◌, ◌≤◌, inl, inr, List, [], ◌∷◌, ◌++◌, length, refl, sym, ap, ap₂, ◌∙◌, subst, append_assoc, append-nil, arith}
use Rattle.std.specs.Prelude.{◌↔◌, ◌⊎◌, flat_map}
use Rattle.yd_words.specs.Each.{Each}
use Rattle.yd_words.specs.Member.{IsIn}
use Rattle.yd_words.proofs.EachLemmas.{each_weaker, each_append}
use Rattle.yd_ids.specs.declared.id.Id.{Id}
use Rattle.yd_ids.specs.declared.id.Span.{Span}
use Rattle.yd_ids.specs.Id.{IsSpan}
use Rattle.yd_ids.specs.Span.{InSpan}
use Rattle.yd_ids.specs.Set.{HasId, AreMaximal}
use Rattle.yd_ids.proofs.SetLemmas.{has_front, has_either}
use Rattle.yd_arena.specs.Arena.{Placed, IsArena, runs_of, count_of, places_in, next_clock}
use Rattle.yd_arena.specs.Rows.{rows_in}
use Rattle.yd_arena.specs.Marks.{IsBorder, MarksSpan}
use Rattle.yd_arena.proofs.MarkLemmas.{marks_are_units}
use Rattle.yd_store.specs.Contents.{Contented, told_of}
use Rattle.yd_store.specs.Store.{Stored}
use Rattle.yd_store.specs.Units.{operations_at, operations_in, HasOperation, KeepsUnits, HasMarked}
use Rattle.yd_ops.specs.declared.lists.List.{List as DocList}
use Rattle.yd_ops.specs.Operation.{Operation}
use Rattle.yd_kept.specs.Marking.{AreHeld, IsParted, AreParted, MarksUnits, MarksEach, PartingAndMarkingDeletes}
use Rattle.yd_kept.proofs.ChangeLemmas.{further_both, rows_stay}

-- ---- the next span

-- the spans up to the next one and those behind it
pub one_more : (front back rest all : List Span) (span : Span) → front ++ back ≡ all → back ≡ span ∷ rest → (front ++ span ∷ []) ++ rest ≡ all
one_more front back rest all span e next = append_assoc front (span ∷ []) rest ∙ ap (λ (xs : List Span). front ++ xs) (sym next) ∙ e

at_front : (front : List Span) (span : Span) (rest : List Span) → AreMaximal (front ++ span ∷ rest) → IsSpan span × (0 < span.len)
at_front [] span rest m = (m.0, m.1)
at_front (first ∷ front) span rest m = at_front front span rest m.3

pub next_of_set : (front back rest all : List Span) (span : Span) → AreMaximal all → front ++ back ≡ all → back ≡ span ∷ rest → IsSpan span × (0 < span.len)
next_of_set front back rest all span m e next = at_front front span rest (subst AreMaximal (sym e ∙ ap (λ (xs : List Span). front ++ xs) next) m)

each_in : (P : Span → Type 0) (front : List Span) (span : Span) (rest : List Span) → Each P (front ++ span ∷ rest) → P span
each_in P [] span rest h = h.0
each_in P (first ∷ front) span rest h = each_in P front span rest h.1

pub next_parted : (it : Stored) (front back rest all : List Span) (span : Span) → AreParted it all → front ++ back ≡ all → back ≡ span ∷ rest → IsParted it span
next_parted it front back rest all span h e next = each_in (IsParted it) front span rest (subst (AreParted it) (sym e ∙ ap (λ (xs : List Span). front ++ xs) next) h)

-- its last id is held, and so all of it is
pub next_held : (it : Stored) (front back rest all : List Span) (span : Span) → AreMaximal all → AreHeld it all → front ++ back ≡ all → back ≡ span ∷ rest →
    span.clock + span.len ≤ next_clock it.placed span.client.0
next_held it front back rest all span m held e next =
    let is = next_of_set front back rest all span m e next in
    let last : Id = record { client = span.client; clock = span.clock + span.len - 1 } in
    let inside : InSpan span last = (refl, omega (arith, is.1), omega (arith, is.1)) in
    let among : HasId all last = subst (λ xs. HasId xs last) e (has_either front back last (inr (subst (λ xs. HasId xs last) (sym next) (inl inside)))) in
    omega (arith, is.1, held last among)

-- ---- runs that are parted

pub parted_kept : (old new : Stored) (spans : List Span) → KeepsUnits old new → AreParted old spans → AreParted new spans
parted_kept old new spans k = each_weaker (IsParted old) (IsParted new) (λ span h. record {
  front = k.borders span.client.0 span.clock h.front;
  back = k.borders span.client.0 (span.clock + span.len) h.back;
}) spans

pub parted_more : (old new : Stored) (spans : List Span) (span : Span) → KeepsUnits old new → AreParted old spans → IsParted new span → AreParted new (spans ++ span ∷ [])
parted_more old new spans span k each one = each_append (IsParted new) spans (span ∷ []) (parted_kept old new spans k each) (one, tt)

-- ---- units that are marked

pub marks_none : (it : Stored) → MarksUnits it it []
marks_none it = record { placed = refl; contents = refl; marks = λ id. ((λ h. inl h), (λ h. elim h [ inl x ↦ x | inr x ↦ absurd x ])) }

pub still_held : (old mid : Stored) (spans : List Span) (span : Span) → MarksUnits old mid spans → span.clock + span.len ≤ next_clock old.placed span.client.0 →
    span.clock + span.len ≤ next_clock mid.placed span.client.0
still_held old mid spans span m h = subst (λ (p : Placed). span.clock + span.len ≤ next_clock p span.client.0) (sym m.placed) h

pub still_parted : (old mid : Stored) (spans : List Span) (span : Span) → MarksUnits old mid spans → IsParted old span → IsParted mid span
still_parted old mid spans span m h = record {
  front = subst (λ (p : Placed). IsBorder (runs_of p) span.client.0 span.clock) (sym m.placed) h.front;
  back = subst (λ (p : Placed). IsBorder (runs_of p) span.client.0 (span.clock + span.len)) (sym m.placed) h.back;
}

-- a span more
pub marks_more : (old mid new : Stored) (spans : List Span) (span : Span) → MarksUnits old mid spans → IsArena old.placed.lines (runs_of old.placed) → IsParted old span →
    span.clock + span.len ≤ next_clock old.placed span.client.0 → MarksSpan (runs_of mid.placed) mid.marks.rows new.marks.rows span →
    new.placed ≡ mid.placed → new.contents ≡ mid.contents → MarksUnits old new (spans ++ span ∷ [])
marks_more old mid new spans span m arena parted held marked placed contents = record {
  placed = placed ∙ m.placed;
  contents = contents ∙ m.contents;
  marks = λ id. ((λ h. to id h), (λ h. from id h));
}
  where
    law : (id : Id) → HasMarked new id ↔ (HasMarked mid id ⊎ InSpan span id)
    law id = subst (λ (p : Placed). HasMarked (record { placed = p; marks = new.marks; contents = new.contents }) id ↔ (HasMarked mid id ⊎ InSpan span id)) (sym placed)
        (marks_are_units mid.placed.lines (runs_of mid.placed) mid.marks.rows new.marks.rows span
        (subst (λ (p : Placed). IsArena p.lines (runs_of p)) (sym m.placed) arena) (still_parted old mid spans span m parted).front
        (still_parted old mid spans span m parted).back (still_held old mid spans span m held) marked id)

    to : (id : Id) → HasMarked new id → HasMarked old id ⊎ HasId (spans ++ span ∷ []) id
    to id h = elim ((law id).0 h) [
      | inl x ↦ elim ((m.marks id).0 x) [ inl y ↦ inl y | inr y ↦ inr (has_either spans (span ∷ []) id (inl y)) ]
      | inr x ↦ inr (has_either spans (span ∷ []) id (inr (inl x)))
    ]

    from : (id : Id) → HasMarked old id ⊎ HasId (spans ++ span ∷ []) id → HasMarked new id
    from id (inl x) = (law id).1 (inl ((m.marks id).1 (inl x)))
    from id (inr x) = elim (has_front spans (span ∷ []) id x) [
      | inl y ↦ (law id).1 (inl ((m.marks id).1 (inr y)))
      | inr (inl y) ↦ (law id).1 (inr y)
      | inr (inr y) ↦ absurd y
    ]

-- ---- at the end

pub all_spans : (front back all : List Span) → front ++ back ≡ all → back ≡ [] → front ≡ all
all_spans front back all e none = sym (append-nil front) ∙ ap (λ (xs : List Span). front ++ xs) (sym none) ∙ e

-- ---- in a store with names

pub marks_each : (names : List DocList) (old new : Stored) (spans : List Span) → MarksUnits old new spans →
    MarksEach (record { store = old; names = names }) (record { store = new; names = names }) spans
marks_each names old new spans m = record {
  units = m;
  names = refl;
  filled = rows_stay names old new (ap count_of m.placed) (λ list lt. ap (λ (p : Placed). rows_in p list) m.placed) (λ client. ap (λ (p : Placed). next_clock p client) m.placed);
}

-- ---- the law

module _ (mid new : Stored) (spans : List Span) (m : MarksUnits mid new spans) where
  same_at : (i : ℕ) → operations_at (runs_of new.placed) (told_of new.contents) i ≡ operations_at (runs_of mid.placed) (told_of mid.contents) i
  same_at i = ap₂ (λ (p : Placed) (c : Contented). operations_at (runs_of p) (told_of c) i) m.placed m.contents

  same_in : (list : ℕ) → operations_in new list ≡ operations_in mid list
  same_in list = ap₂ (λ (p : Placed) (c : Contented). flat_map (operations_at (runs_of p) (told_of c)) (places_in p list)) m.placed m.contents

  same_has : (o : Operation) → HasOperation new o ↔ HasOperation mid o
  same_has o = (
    (λ h. record { place = h.place; within = subst (λ (p : Placed). h.place < length (runs_of p)) m.placed h.within; member = subst (IsIn o) (same_at h.place) h.member }),
    (λ h. record { place = h.place; within = subst (λ (p : Placed). h.place < length (runs_of p)) (sym m.placed) h.within; member = subst (IsIn o) (sym (same_at h.place)) h.member }),
  )

pub parting_and_marking_deletes : PartingAndMarkingDeletes
parting_and_marking_deletes = λ old mid new spans k names count m. record {
  names = m.names ∙ names;
  count = ap count_of m.units.placed ∙ count;
  lists = λ n lt. same_in mid.store new.store spans m.units n ∙ k.lists n lt;
  rows = λ n lt. ap (λ (p : Placed). rows_in p n) m.units.placed ∙ k.rows n lt;
  operations = λ o. let s = same_has mid.store new.store spans m.units o in
      ((λ h. (k.operations o).0 (s.0 h)), (λ h. s.1 ((k.operations o).1 h)));
  marks = λ id. (
    (λ h. elim ((m.units.marks id).0 h) [ inl x ↦ inl ((k.marks id).0 x) | inr x ↦ inr x ]),
    (λ h. (m.units.marks id).1 (elim h [ inl x ↦ inl ((k.marks id).1 x) | inr x ↦ inr x ])),
  );
  nexts = λ client. ap (λ (p : Placed). next_clock p client) m.units.placed ∙ k.nexts client;
  filled = λ held w fills. let f = k.filled held w fills in further_both held old mid new f (m.filled held w f.fills);
}
