-- Units are told less, one change after another: what is left to do, and that nothing is at the end.
use Rattle.std.proofs.Common.{◌≡◌, ℕ, ◌<◌, ◌≤◌, ◌+◌, Bool, true, false, List, [], ◌∷◌, ◌++◌, ◌⊎◌, inl, inr, Some, length, refl, sym, ap, ◌∙◌, subst, arith, tests, nat_eq, true≢false}
use Rattle.std.proofs.lemmas.Bool.{cases_Bool}
use Rattle.std.specs.Prelude.{if◌then◌else◌, slice_get}
use Rattle.yd_words.specs.Member.{IsIn}
use Rattle.yd_words.proofs.MemberLemmas.{in_left_part, in_right_part, in_with_last, in_each, each_in}
use Rattle.yd_words.proofs.TestLemmas.{test_fails}
use Rattle.yd_ids.specs.declared.id.Id.{Id}
use Rattle.yd_ids.specs.declared.id.Span.{Span}
use Rattle.yd_ids.specs.Span.{InSpan}
use Rattle.yd_ids.specs.Ids.{is_same}
use Rattle.yd_ops.specs.declared.lists.List.{List as DocList}
use Rattle.yd_ids.proofs.IdLemmas.{same_is, same_itself}
use Rattle.yd_ops.specs.Operation.{UnitContent, Operation, level_of}
use Rattle.yd_meaning.specs.Held.{standing}
use Rattle.yd_meaning.specs.Grown.{IsGrown}
use Rattle.yd_arena.specs.Arena.{Placed, runs_of, units_in, next_clock}
use Rattle.yd_arena.specs.Marks.{IsBorder}
use Rattle.yd_store.specs.declared.level.Level.{Level}
use Rattle.yd_store.specs.declared.level.Level.TheVariants.{Gone, Deleted}
use Rattle.yd_store.specs.Store.{Stored}
use Rattle.yd_store.specs.Contents.{Contented, told_of}
use Rattle.yd_store.specs.Units.{HasOperation, operations_at}
use Rattle.yd_store.specs.Lowering.{number_of, is_in_span, lowered_to, MapsUnits}
use Rattle.yd_store.specs.Halves.{torn}
use Rattle.yd_store.proofs.FreedLemmas.{freed_torn, freed_lowered}
use Rattle.yd_kept.specs.Filling.{FillsLists}
use Rattle.yd_kept.specs.Telling.{IsSoundStore}
use Rattle.yd_kept.specs.Kept.{KeptValue}
use Rattle.yd_kept.specs.Marking.{MarksUnits}
use Rattle.yd_listing.proofs.LawLemmas.{find_name}
use Rattle.yd_received.specs.Received.{held_of}
use Rattle.yd_held.specs.Held.{HeldValue, HoldsAll}
use Rattle.yd_state.specs.declared.less.Less.{Less}
use Rattle.yd_state.specs.declared.less.Less.TheVariants.{Down, Half}
use Rattle.yd_state.specs.Grown.{ids_of}
use Rattle.yd_state.specs.Placing.{KeepsIds, KeepsAll, PlacesAll}
use Rattle.yd_state.proofs.NamesLemmas.{has_lists}
use Rattle.yd_state.specs.Telling.{IsHeldAs, EachIsHeld, CanBeLess, IsFor, IsToTell, told_by, TellsHeld, IsReady, LeavesLess, KeepsStanding}
use Rattle.yd_state.proofs.LessLemmas.{gone_alone, told_itself, torn_is, deleted_is, gone_is}

-- what stays true while less is told
pub record IsTelling (k : HeldValue) (start cur : KeptValue) (less : List Less) : Type 0 where
  pub tells : KeepsStanding start cur
  pub leaves : LeavesLess k less cur.store

pub telling_none : (k : HeldValue) (it : KeptValue) (less : List Less) → LeavesLess k less it.store → IsTelling k it it less
telling_none k it less leaves = record { tells = record { names = refl; placed = refl; marks = λ id. ((λ m. m), (λ m. m)) }; leaves = leaves }

-- ---- one change

in_span : (span : Span) (x : Id) → is_in_span span x ≡ true → InSpan span x
in_span span x e = grind (arith, tests)

span_in : (span : Span) (x : Id) → InSpan span x → is_in_span span x ≡ true
span_in span x i = grind (arith, tests, i.0, i.1, i.2)

if-true : {X : Type 0} (t : Bool) (a b : X) → t ≡ true → (if t then a else b) ≡ a
if-true t a b e = ap (λ (s : Bool). if s then a else b) e

if-false : {X : Type 0} (t : Bool) (a b : X) → t ≡ false → (if t then a else b) ≡ b
if-false t a b e = ap (λ (s : Bool). if s then a else b) e

zero_is : (c : UnitContent) → level_of c ≡ 0 → nat_eq (level_of c) 0 ≡ true
zero_is c e = grind (arith, tests)

-- what a change makes of an operation: what is held, where it is for its id, and nothing where it is not
module _ (k : HeldValue) (holds : HoldsAll k) (o : Operation) (found : IsHeldAs k (λ x. Unit {0}) o) where
  pub for_one : (one : Less) → TellsHeld k one → IsFor one o.id → told_by one o ≡ found.held
  for_one (Down span Gone) tells i =
      if-true (is_in_span span o.id) (lowered_to 0 o) o (span_in span o.id i)
      ∙ gone_is o found.held found.told found.gone (gone_alone k holds found.held found.there (zero_is found.held.content (tells found.held found.there (subst (InSpan span) (sym found.told.id) i))))
  for_one (Down span Deleted) tells i =
      if-true (is_in_span span o.id) (lowered_to 1 o) o (span_in span o.id i)
      ∙ deleted_is o found.held found.told found.gone (tells found.held found.there (subst (InSpan span) (sym found.told.id) i))
  for_one (Half t) tells i =
      if-true (is_same o.id t.half) (torn o) o (subst (λ x. is_same o.id x ≡ true) (sym i) (same_itself o.id))
      ∙ torn_is o found.held found.told found.gone (tells found.held found.there (found.told.id ∙ sym i))

pub not_for : (one : Less) (o : Operation) → (IsFor one o.id → ⊥) → told_by one o ≡ o
not_for (Down span level) o out = if-false (is_in_span span o.id) (lowered_to (number_of level) o) o (test_fails (is_in_span span o.id) (λ e. out (in_span span o.id e)))
not_for (Half t) o out = if-false (is_same o.id t.half) (torn o) o (test_fails (is_same o.id t.half) (λ e. out (sym (same_is o.id t.half e))))

pub for_decides : (one : Less) (x : Id) → IsFor one x ⊎ (IsFor one x → ⊥)
for_decides (Down span level) x = elim (cases_Bool (is_in_span span x)) [
  | inl e ↦ inl (in_span span x e)
  | inr e ↦ inr (λ i. true≢false (sym (span_in span x i) ∙ e))
]
for_decides (Half t) x = elim (cases_Bool (is_same t.half x)) [
  | inl e ↦ inl (same_is t.half x e)
  | inr e ↦ inr (λ i. true≢false (sym (subst (λ y. is_same t.half y ≡ true) i (same_itself t.half)) ∙ e))
]

-- what is left for one id
less_left : (less : List Less) (one : Less) (x : Id) → (IsFor one x → ⊥) → IsToTell (less ++ one ∷ []) x → IsToTell less x
less_left less one x out (other, i, for) = elim (in_with_last less one other i) [
  | inl j ↦ (other, j, for)
  | inr e ↦ absurd (out (subst (λ l. IsFor l x) e for))
]

-- ---- a change is done

module _ (k : HeldValue) (holds : HoldsAll k) (old new : Stored) (less : List Less) (one : Less) (leaves : LeavesLess k (less ++ one ∷ []) old)
    (maps : MapsUnits old new (told_by one)) (placed : new.placed ≡ old.placed) where
  tells : TellsHeld k one
  tells = each_in (TellsHeld k) (less ++ one ∷ []) leaves.ready.tell one (in_right_part one less (one ∷ []) (inl refl))

  -- whatever is left
  abbrev known : (left : Id → Type 0) (o : Operation) → IsHeldAs k left o → IsHeldAs k (λ x. Unit {0}) o
  known left o found = record { held = found.held; there = found.there; told = found.told; gone = found.gone; same_or_left = inr tt }

  each_then : EachIsHeld k (IsToTell less) new
  each_then o h =
      let (p, was, is) = maps.was o h in
      let found = leaves.each p was in
      elim (for_decides one p.id) [
        | inl for ↦ subst (IsHeldAs k (IsToTell less)) (sym (is ∙ for_one k holds p (known (IsToTell (less ++ one ∷ [])) p found) one tells for)) (record {
          held = found.held;
          there = found.there;
          told = told_itself found.held;
          gone = gone_alone k holds found.held found.there;
          same_or_left = inl refl;
        })
        | inr out ↦ subst (IsHeldAs k (IsToTell less)) (sym (is ∙ not_for one p out)) (record {
          held = found.held;
          there = found.there;
          told = found.told;
          gone = found.gone;
          same_or_left = elim found.same_or_left [ inl e ↦ inl e | inr left ↦ inr (less_left less one p.id out left) ];
        })
      ]

  -- what was ready for others is ready still
  ready_then : (other : Less) → TellsHeld k other → IsReady old other → IsReady new other
  ready_then (Down span level) right ready = (
    subst (λ (p : Placed). span.clock + span.len ≤ next_clock p span.client.0) (sym placed) ready.0,
    record {
      front = subst (λ (p : Placed). IsBorder (runs_of p) span.client.0 span.clock) (sym placed) ready.1.front;
      back = subst (λ (p : Placed). IsBorder (runs_of p) span.client.0 (span.clock + span.len)) (sym placed) ready.1.back;
    },
  )
  ready_then (Half t) right ready = half_then one maps tells
    where
      half_then : (l : Less) → MapsUnits old new (told_by l) → TellsHeld k l → IsReady new (Half t)
      half_then (Half u) m own = freed_torn old new (Some u.half) (Some t.half) (Some t) m ready
      half_then (Down span level) m own = freed_lowered old new span (number_of level) t.half t m (λ i. out level own i) ready
        where
          held_half : (q : Operation) × IsIn q (held_of k.received) × (q.id ≡ t.half)
          held_half =
              let known = ready.2.known in
              let found = leaves.each known.operation known.there in (found.held, found.there, found.told.id ∙ known.id_is)

          full : level_of held_half.0.content ≡ 2
          full = ap level_of (right held_half.0 held_half.1 held_half.2)

          out : (n : Level) → TellsHeld k (Down span n) → InSpan span t.half → ⊥
          out Gone low i = omega (arith, full, low held_half.0 held_half.1 (subst (InSpan span) (sym held_half.2) i))
          out Deleted low i = omega (arith, full, low held_half.0 held_half.1 (subst (InSpan span) (sym held_half.2) i))

  leaves_then : LeavesLess k less new
  leaves_then = record {
    ready = record {
      ready = in_each (IsReady new) less (λ other i.
          ready_then other (each_in (TellsHeld k) (less ++ one ∷ []) leaves.ready.tell other (in_left_part other less (one ∷ []) i))
          (each_in (IsReady old) (less ++ one ∷ []) leaves.ready.ready other (in_left_part other less (one ∷ []) i)));
      tell = in_each (TellsHeld k) less (λ other i. each_in (TellsHeld k) (less ++ one ∷ []) leaves.ready.tell other (in_left_part other less (one ∷ []) i));
    };
    each = each_then;
  }

-- ---- lemmas for callers

pub ready_last : (k : HeldValue) (less : List Less) (one : Less) (all : List Less) → all ≡ less ++ one ∷ [] → (it : Stored) → LeavesLess k all it → IsReady it one
ready_last k less one all is it leaves = each_in (IsReady it) (less ++ one ∷ []) (subst (λ ls. LeavesLess k ls it) is leaves).ready.ready one (in_right_part one less (one ∷ []) (inl refl))

pub telling_then : (k : HeldValue) → HoldsAll k → (start cur new : KeptValue) (less : List Less) (one : Less) (all : List Less) → all ≡ less ++ one ∷ [] →
    IsTelling k start cur all → MapsUnits cur.store new.store (told_by one) → new.store.placed ≡ cur.store.placed → new.names ≡ cur.names → IsTelling k start new less
telling_then k holds start cur new less one all is telling maps placed names = record {
  tells = record {
    names = names ∙ telling.tells.names;
    placed = placed ∙ telling.tells.placed;
    marks = λ id. ((λ m. (telling.tells.marks id).0 ((maps.marks id).0 m)), (λ m. (maps.marks id).1 ((telling.tells.marks id).1 m)));
  };
  leaves = leaves_then k holds cur.store new.store less one (subst (λ ls. LeavesLess k ls cur.store) is telling.leaves) maps placed;
}

-- the ids of a store are those of another one that stands as it does
pub ids_then : (held : List Operation) (old new : KeptValue) → KeepsStanding old new → KeepsIds held old → KeepsIds held new
ids_then held old new tells keeps = record {
  filled = subst (λ ns. FillsLists held ns new.store.placed) (sym tells.names) (subst (FillsLists held old.names) (sym tells.placed) keeps.filled);
  all = λ x e. subst (λ (p : Placed). x.clock < next_clock p x.client.0) (sym tells.placed) (keeps.all x e);
  below = λ x low. keeps.below x (subst (λ (p : Placed). x.clock < next_clock p x.client.0) tells.placed low);
  grown = λ n name e. subst (λ (p : Placed). IsGrown (standing held) name (units_in p n)) (sym tells.placed) (keeps.grown n name (ap (λ ns. slice_get ns n) (sym tells.names) ∙ e));
}

-- and at the end it has just what is held
pub telling_ends : (k : HeldValue) (start cur : KeptValue) → KeepsIds (held_of k.received) start → (less : List Less) → length less ≡ 0 → IsTelling k start cur less →
    KeepsAll (held_of k.received) cur
telling_ends k start cur keeps [] none telling = record {
  ids = ids_then (held_of k.received) start cur telling.tells keeps;
  no_more = λ o h.
      let found = telling.leaves.each o h in elim found.same_or_left [
        | inl e ↦ subst (λ p. IsIn p (held_of k.received)) e found.there
        | inr left ↦ absurd left.1
      ];
}
telling_ends k start cur keeps (one ∷ less) none telling = absurd (omega (arith, none))

-- the lists have the ids that they had
pub told_ids : (held : List Operation) (old new : KeptValue) → KeepsStanding old new → KeepsIds held old → IsSoundStore old.store → IsSoundStore new.store → (list : DocList) →
    ids_of new list ≡ ids_of old list
told_ids held old new tells keeps sound sound_new list =
    let now = ids_then held old new tells keeps in
    elim (find_name old.names list) [
      | inl h ↦
          (has_lists new now.filled.distinct sound_new now.filled.count).named h.0 list (ap (λ ns. slice_get ns h.0) tells.names ∙ h.1)
          ∙ ap (λ (p : Placed). units_in p h.0) tells.placed
          ∙ sym ((has_lists old keeps.filled.distinct sound keeps.filled.count).named h.0 list h.1)
      | inr none ↦
          (has_lists new now.filled.distinct sound_new now.filled.count).others list (λ i. none (subst (IsIn list) tells.names i))
          ∙ sym ((has_lists old keeps.filled.distinct sound keeps.filled.count).others list none)
    ]

-- ---- where units are marked

-- what is ready and left is so where units are marked
pub leaves_marked : (k : HeldValue) (less : List Less) (old new : Stored) (spans : List Span) → MarksUnits old new spans → LeavesLess k less old → LeavesLess k less new
leaves_marked k less old new spans marks leaves = record {
  ready = record {
    ready = in_each (IsReady new) less (λ one i. still one (each_in (IsReady old) less leaves.ready.ready one i));
    tell = leaves.ready.tell;
  };
  each = λ o h. leaves.each o (was o h);
}
  where
    was : (o : Operation) → HasOperation new o → HasOperation old o
    was o h = record {
      place = h.place;
      within = subst (λ (p : Placed). h.place < length (runs_of p)) marks.placed h.within;
      member = subst (λ (p : Placed). IsIn o (operations_at (runs_of p) (told_of old.contents) h.place)) marks.placed
          (subst (λ (s : Contented). IsIn o (operations_at (runs_of new.placed) (told_of s) h.place)) marks.contents h.member);
    }

    still : (one : Less) → IsReady old one → IsReady new one
    still one ready = subst (λ (s : Stored). IsReady s one) (λ i. record { placed = sym marks.placed i; marks = new.marks; contents = sym marks.contents i })
        (with_marks one ready)
      where
        with_marks : (l : Less) → IsReady old l → IsReady (record { placed = old.placed; marks = new.marks; contents = old.contents }) l
        with_marks (Down span level) r = (r.0, record { front = r.1.front; back = r.1.back })
        with_marks (Half t) r = (
          r.0,
          r.1,
          record {
            known = record {
              operation = r.2.known.operation;
              there = record { place = r.2.known.there.place; within = r.2.known.there.within; member = r.2.known.there.member };
              id_is = r.2.known.id_is;
              unit = r.2.known.unit;
              known = r.2.known.known;
            };
            front = r.2.front;
            back = r.2.back;
          },
        )

-- ---- where entries came

-- what is there is held, or of an entry that came
pub can_placed : (k : HeldValue) → HoldsAll k → (told : List ℕ) (old new : KeptValue) → PlacesAll k old new → CanBeLess k told old.store → CanBeLess k told new.store
can_placed k holds told old new placed can = record {
  each = λ o h. elim ((placed.operations o).0 h) [
    | inl was ↦ can.each o was
    | inr news ↦ record { held = o; there = news.0; told = told_itself o; gone = gone_alone k holds o news.0; same_or_left = inl refl }
  ];
  less = can.less;
}
