-- What is told less of held operations, and what it becomes.
use Rattle.std.proofs.Common.{◌≡◌, ℕ, zero, suc, ◌<◌, Bool, true, false, List, inl, inr, refl, sym, ap, ◌∙◌, subst, arith, tests, nat_eq, true≢false}
use Rattle.std.specs.Prelude.{nat_lt, if◌then◌else◌}
use Rattle.yd_words.specs.Member.{IsIn}
use Rattle.yd_words.proofs.MemberLemmas.{in_each}
use Rattle.std.proofs.lemmas.Bool.{cases_Bool}
use Rattle.yd_ids.specs.declared.id.Id.{Id}
use Rattle.yd_ops.specs.Operation.{UnitContent, Operation, text_unit, any_unit, json_unit, bytes, embedded, mark, nested_type, deleted_unit, gone_unit, gone_operation, gone_from, later_id, level_of, as_level}
use Rattle.yd_meaning.specs.Held.{is_gone}
use Rattle.yd_meaning.specs.Staying.{AreSeenAlike}
use Rattle.yd_store.specs.Lowering.{lowered_to}
use Rattle.yd_store.specs.Halves.{torn}
use Rattle.yd_kept.specs.Kept.{KeptValue}
use Rattle.yd_entries.specs.declared.entry.Entry.{Entry}
use Rattle.yd_entries.specs.Entries.{operations_of_taken, operations_told, covers, is_held}
use Rattle.yd_entries.proofs.EntriesLemmas.{one_entry}
use Rattle.yd_received.specs.Received.{held_of}
use Rattle.yd_held.specs.Held.{HeldValue, HoldsAll}
use Rattle.yd_held.proofs.HeldEntryLemmas.{is_taken, chosen_entry}
use Rattle.yd_held.proofs.HoldingLemmas.{is_written}
use Rattle.yd_held.proofs.KeptLemmas.{holds_holding}
use Rattle.yd_ops.proofs.WritingLemmas.{written_agrees}
use Rattle.yd_held.proofs.HeldUnitLemmas.{unit_gone, unit_covers}
use Rattle.yd_state.specs.Placing.{KeepsAll}
use Rattle.yd_held.specs.Turn.{IsToldAs, HoldsOn}
use Rattle.yd_state.specs.Telling.{EachIsHeld, IsLessEntry, CanBeLess}

-- ---- operations that are gone

in_gone : (id : Id) (count : ℕ) (o : Operation) → IsIn o (gone_from id count) → o ≡ gone_operation o.id
in_gone id zero o i = absurd i
in_gone id (suc count) o (inl e) = e ∙ ap gone_operation (ap (λ (p : Operation). p.id) (sym e))
in_gone id (suc count) o (inr i) = in_gone (later_id id 1) count o i

module _ (k : HeldValue) (holds : HoldsAll k) where
  -- one that is held has its id alone
  pub gone_alone : (o : Operation) → IsIn o (held_of k.received) → is_gone o ≡ true → o ≡ gone_operation o.id
  gone_alone o i gone =
      let (t, j, passes, l) = chosen_entry is_held k.received holds.in_order o i in
      let told : t.is_gone ≡ true = sym (unit_gone k.received.runs t (is_taken k.received holds.in_order t j) o l) ∙ gone in
      in_gone t.id t.len o (subst (λ b. IsIn o (operations_told b k.received.runs t)) told l)

  -- a held operation is one of the entry that has its id
  pub of_its_entry : (t : Entry) → IsIn t k.received.entries → (o : Operation) → IsIn o (held_of k.received) → covers t o.id ≡ true → IsIn o (operations_of_taken k.received.runs t)
  of_its_entry t here o i c =
      let (u, j, passes, l) = chosen_entry is_held k.received holds.in_order o i in
      let same : u ≡ t = one_entry k.received.entries holds.in_order.in_order u t o.id j here (unit_covers k.received.runs u (is_taken k.received holds.in_order u j) o l) c in
      subst (λ v. IsIn o (operations_of_taken k.received.runs v)) same l

  -- no two held operations have one id
  pub one_held : (o q : Operation) → IsIn o (held_of k.received) → IsIn q (held_of k.received) → o.id ≡ q.id → o ≡ q
  one_held o q i j e = written_agrees (held_of k.received) (is_written k (holds_holding k holds)) o q i j e

-- ---- as it was

pub told_itself : (o : Operation) → IsToldAs o o
told_itself o = record {
  id = refl;
  alike = elim (cases_Bool (is_gone o)) [
    | inl gone ↦ inl gone
    | inr e ↦ inr (e, e, record { id = refl; left = refl; right = refl; list = refl })
  ];
  text = λ e. (0xFFFD, e);
}

-- a store that has just what is held has each operation as it is held
pub each_is_held : (k : HeldValue) → HoldsAll k → (it : KeptValue) → KeepsAll (held_of k.received) it → (left : Id → Type 0) → EachIsHeld k left it.store
each_is_held k holds it keeps left o h = record {
  held = o;
  there = keeps.no_more o h;
  told = told_itself o;
  gone = gone_alone k holds o (keeps.no_more o h);
  same_or_left = inl refl;
}

-- ---- less

if-true : {X : Type 0} (t : Bool) (a b : X) → t ≡ true → (if t then a else b) ≡ a
if-true t a b e = ap (λ (s : Bool). if s then a else b) e

if-false : {X : Type 0} (t : Bool) (a b : X) → t ≡ false → (if t then a else b) ≡ b
if-false t a b e = ap (λ (s : Bool). if s then a else b) e

-- a unit content of a level
one_level : (c : UnitContent) → level_of c ≡ 1 → c ≡ deleted_unit
one_level (text_unit u) e = absurd (omega (arith, e))
one_level (any_unit v) e = absurd (omega (arith, e))
one_level (json_unit v) e = absurd (omega (arith, e))
one_level (bytes b) e = absurd (omega (arith, e))
one_level (embedded v) e = absurd (omega (arith, e))
one_level (mark key v) e = absurd (omega (arith, e))
one_level (nested_type kind) e = absurd (omega (arith, e))
one_level deleted_unit e = refl
one_level gone_unit e = absurd (omega (arith, e))

-- an operation with the neighbours, the list and the content of another one is that
same_operation : (o q : Operation) → AreSeenAlike o q → (content : UnitContent) → q.content ≡ content →
    q ≡ record { id = o.id; left_origin = o.left_origin; right_origin = o.right_origin; list = o.list; content = content }
same_operation o q alike content e i = record { id = alike.id i; left_origin = alike.left i; right_origin = alike.right i; list = alike.list i; content = e i }

-- ---- what is held, once less is told

module _ (o q : Operation) (told : IsToldAs o q) (gone : is_gone o ≡ true → o ≡ gone_operation o.id) where
  is_zero : (c : UnitContent) → level_of c ≡ 0 → nat_eq (level_of c) 0 ≡ true
  is_zero c e = grind (arith, tests)

  not_zero : (c : UnitContent) → nat_eq (level_of c) 0 ≡ false → 0 < level_of c
  not_zero c e = grind (arith, tests)

  -- one that is not gone differs in its content alone
  seen_alike : is_gone q ≡ false → (is_gone o ≡ false) × AreSeenAlike o q
  seen_alike e = elim told.alike [
    | inl lost ↦ absurd (true≢false (sym lost ∙ e))
    | inr both ↦ (both.0, both.2)
  ]

  -- as U+FFFD
  pub torn_is : q.content ≡ text_unit 0xFFFD → torn o ≡ q
  torn_is e =
      let full : is_gone q ≡ false = ap (λ (c : UnitContent). nat_eq (level_of c) 0) e in
      sym (same_operation o q (seen_alike full).1 (text_unit 0xFFFD) e)

  -- as a deleted one
  pub deleted_is : level_of q.content ≡ 1 → lowered_to 1 o ≡ q
  deleted_is e =
      let content : q.content ≡ deleted_unit = one_level q.content e in
      let full : is_gone q ≡ false = ap (λ (c : UnitContent). nat_eq (level_of c) 0) content in
      let (told_o, alike) = seen_alike full in
      let deleted : as_level 1 o ≡ q = sym (same_operation o q alike deleted_unit content) in
      elim (cases_Bool (nat_lt 1 (level_of o.content))) [
        | inl more ↦ if-true (nat_lt 1 (level_of o.content)) (as_level 1 o) o more ∙ deleted
        | inr other ↦
            let low : level_of o.content ≡ 1 = grind (arith, tests, other, not_zero o.content told_o) in
            if-false (nat_lt 1 (level_of o.content)) (as_level 1 o) o other
            ∙ same_operation o o (record { id = refl; left = refl; right = refl; list = refl }) deleted_unit (one_level o.content low) ∙ deleted
      ]

  -- as a gone one
  pub gone_is : q ≡ gone_operation q.id → lowered_to 0 o ≡ q
  gone_is form =
      let same : gone_operation o.id ≡ q = ap gone_operation (sym told.id) ∙ sym form in
      elim (cases_Bool (nat_lt 0 (level_of o.content))) [
        | inl more ↦ if-true (nat_lt 0 (level_of o.content)) (as_level 0 o) o more ∙ same
        | inr other ↦
            let low : level_of o.content ≡ 0 = grind (arith, tests, other) in
            if-false (nat_lt 0 (level_of o.content)) (as_level 0 o) o other ∙ gone (is_zero o.content low) ∙ same
      ]

-- ---- what was held

-- so less can be told of what was held, in a store that has just this
pub can_be_less : (old k : HeldValue) → HoldsAll old → HoldsAll k → (told order : List ℕ) → HoldsOn told order old k → (it : KeptValue) → KeepsAll (held_of old.received) it →
    CanBeLess k told it.store
can_be_less old k holds now told order on it keeps = record {
  each = λ o h.
      let (q, there, told_as, same) = on.each o (keeps.no_more o h) in record {
        held = q;
        there = there;
        told = told_as;
        gone = gone_alone old holds o (keeps.no_more o h);
        same_or_left = same;
      };
  less = in_each (IsLessEntry k) told (λ at i. let one = on.less at i in record { entry = one.entry; there = one.there; held = one.held; less = one.less });
}
