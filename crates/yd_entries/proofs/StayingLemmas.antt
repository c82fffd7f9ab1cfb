-- Units stay at their places: where nothing changes, one step after another, and in each step of the code.
use Rattle.std.proofs.Common.{◌≡◌, ℕ, zero, suc, ◌+◌, ◌-◌, ◌≤◌, Bool, true, false, ◌&&◌, not, nat_eq, nat_le, nat_lt, cond, List, [], ◌∷◌, ◌++◌, length, set, Some, ◌⊎◌, inl, inr, refl, sym, ap, ap₂, ◌∙◌, subst, arith, tests, true≢false, append_assoc, length-append}
use Rattle.std.specs.Prelude.{filter, slice_get}
use Rattle.std.proofs.lemmas.Bool.{cases_Bool}
use Rattle.yd_words.specs.Each.{Each}
use Rattle.yd_words.specs.Member.{IsIn}
use Rattle.yd_words.proofs.MemberLemmas.{in_left_part, in_right_part, in_parts}
use Rattle.yd_words.proofs.OptionLemmas.{some_is}
use Rattle.yd_ids.specs.declared.id.Id.{Id}
use Rattle.yd_ops.specs.declared.runs.Run.{Run}
use Rattle.yd_ops.specs.Operation.{Operation}
use Rattle.yd_entries.specs.declared.entry.Entry.{Entry}
use Rattle.yd_entries.specs.declared.place.Place.{Place}
use Rattle.yd_entries.specs.declared.place.Place.TheVariants.{Waits, Lost, In}
use Rattle.yd_entries.specs.Entries.{operations_of_taken, operations_in, IsTakenOf, StandsBefore, AreInOrder, is_held_at, is_held, covers, is_of_first, GrowBy, OnlyAdds}
use Rattle.yd_entries.specs.Lowering.{BecomesLess}
use Rattle.yd_entries.specs.Splitting.{IsSplittable, front_of, back_told, back_of, split_in}
use Rattle.yd_entries.specs.Staying.{place_at, is_told_by_first, is_held_by_later, KeepsPlaces}
use Rattle.yd_entries.proofs.EntriesLemmas.{each_kept, apart}
use Rattle.yd_entries.proofs.FirstLemmas.{later_run}
use Rattle.yd_entries.proofs.PartLemmas.{back-id, back-len, both_operations}
use Rattle.yd_entries.proofs.SetLemmas.{set_same}
use Rattle.yd_entries.proofs.TakenLemmas.{grown_operations, grown_in}

-- ---- nothing changed, and one change after another

-- more runs behind the others alone change nothing
pub stays_grown : (runs new : List Run) (ts : List Entry) → GrowBy runs new → Each (IsTakenOf runs) ts → KeepsPlaces runs ts new ts
stays_grown runs new ts grow each = record {
  placed = λ x. refl;
  told = λ count le o i. same (is_told_by_first count) o i;
  less = λ count le o i. inl (same (is_held_by_later count) o i);
}
  where
    same : (test : Entry → Bool) (o : Operation) → IsIn o (operations_in new (filter test ts)) → IsIn o (operations_in runs (filter test ts))
    same test o i = subst (IsIn o) (grown_in runs new (filter test ts) grow (each_kept test (IsTakenOf runs) ts each)) i

pub stays_none : (runs : List Run) (ts : List Entry) → KeepsPlaces runs ts runs ts
stays_none runs ts = record { placed = λ x. refl; told = λ count le o i. i; less = λ count le o i. inl i }

pub stays_more : (a b c : List Run) (x y z : List Entry) → GrowBy a b → KeepsPlaces a x b y → KeepsPlaces b y c z → KeepsPlaces a x c z
stays_more a b c x y z (more, e) first second = record {
  placed = λ id. second.placed id ∙ first.placed id;
  told = λ count le o i. first.told count le o (second.told count (longer count le) o i);
  less = λ count le o i. elim (second.less count (longer count le) o i) [ inl j ↦ first.less count le o j | inr low ↦ inr low ];
}
  where
    longer : (count : ℕ) → count ≤ length a → count ≤ length b
    longer count le = omega (arith, le, ap length e, length-append a more)

-- ---- entries that are added

-- what is behind an entry has none of its ids
uncovered : (t : Entry) (ts : List Entry) (x : Id) → Each (StandsBefore t) ts → covers t x ≡ true → place_at ts x ≡ Waits
uncovered t [] x before e = refl
uncovered t (s ∷ ss) x before e = elim (cases_Bool (covers s x)) [
  | inl f ↦ absurd (apart t s x before.0 e f)
  | inr f ↦ rw f (uncovered t ss x before.1 e)
]

not_held : (p : Place) → is_held_at p ≡ false → p ≡ Waits
not_held Waits e = refl
not_held Lost e = absurd (true≢false e)
not_held (In n) e = absurd (true≢false e)

-- the held ones alone give each id its place
place_held : (ts : List Entry) → AreInOrder ts → (x : Id) → place_at (filter is_held ts) x ≡ place_at ts x
place_held [] order x = refl
place_held (t ∷ ts) order x = go (is_held t) refl (covers t x) refl (place_held ts order.1 x)
  where
    go : (b : Bool) → is_held t ≡ b → (c : Bool) → covers t x ≡ c → place_at (filter is_held ts) x ≡ place_at ts x →
        place_at (cond b (t ∷ filter is_held ts) (filter is_held ts)) x ≡ cond c t.place (place_at ts x)
    go true held true e rest = ap (λ c. cond c t.place (place_at (filter is_held ts) x)) e
    go true held false e rest = ap (λ c. cond c t.place (place_at (filter is_held ts) x)) e ∙ rest
    go false held true e rest = rest ∙ uncovered t ts x order.0 e ∙ sym (not_held t.place held)
    go false held false e rest = rest

-- what passes two tests passes the one of what passes the other
both_tests : (p q : Entry → Bool) (ts : List Entry) → filter (λ t. p t && q t) ts ≡ filter p (filter q ts)
both_tests p q [] = refl
both_tests p q (t ∷ ts) = go (p t) (q t) refl (both_tests p q ts)
  where
    go : (a b : Bool) → p t ≡ a → filter (λ s. p s && q s) ts ≡ filter p (filter q ts) →
        cond (a && b) (t ∷ filter (λ s. p s && q s) ts) (filter (λ s. p s && q s) ts) ≡ filter p (cond b (t ∷ filter q ts) (filter q ts))
    go true true e rest = rw e (ap (λ us. t ∷ us) rest)
    go false true e rest = rw e rest
    go true false e rest = rest
    go false false e rest = rest

and_turns : (a b : Bool) → (a && b) ≡ (b && a)
and_turns true true = refl
and_turns true false = refl
and_turns false true = refl
and_turns false false = refl

turned_tests : (p q : Entry → Bool) (ts : List Entry) → filter (λ t. p t && q t) ts ≡ filter (λ t. q t && p t) ts
turned_tests p q [] = refl
turned_tests p q (t ∷ ts) = ap₂ (λ b us. cond b (t ∷ us) us) (and_turns (p t) (q t)) (turned_tests p q ts)

module _ (old_runs runs : List Run) (old new : List Entry) (grow : GrowBy old_runs runs) (each : Each (IsTakenOf old_runs) old) (order : AreInOrder old) (also : AreInOrder new)
    (adds : OnlyAdds (length old_runs) old new) where
  same_filter : (test : Entry → Bool) → filter test new ≡ filter test old → (o : Operation) → IsIn o (operations_in runs (filter test new)) →
      IsIn o (operations_in old_runs (filter test old))
  same_filter test same o i = subst (IsIn o) (grown_in old_runs runs (filter test old) grow (each_kept test (IsTakenOf old_runs) old each))
      (subst (λ ts. IsIn o (operations_in runs ts)) same i)

  told_same : (count : ℕ) → count ≤ length old_runs → filter (is_told_by_first count) new ≡ filter (is_told_by_first count) old
  told_same count le =
      both_tests (λ t. not t.is_gone) (is_of_first count) new
      ∙ ap (λ ts. filter (λ (t : Entry). not t.is_gone) ts) (adds.first count le)
      ∙ sym (both_tests (λ t. not t.is_gone) (is_of_first count) old)

  held_same : (count : ℕ) → filter (is_held_by_later count) new ≡ filter (is_held_by_later count) old
  held_same count = turn new ∙ ap (λ ts. filter (λ (t : Entry). not t.is_gone && not (nat_lt t.run count)) ts) adds.held ∙ sym (turn old)
    where
      turn : (ts : List Entry) → filter (is_held_by_later count) ts ≡ filter (λ (t : Entry). not t.is_gone && not (nat_lt t.run count)) (filter is_held ts)
      turn ts = turned_tests is_held (λ t. not t.is_gone && not (nat_lt t.run count)) ts ∙ both_tests (λ t. not t.is_gone && not (nat_lt t.run count)) is_held ts

  pub stays_added : KeepsPlaces old_runs old runs new
  stays_added = record {
    placed = λ x. sym (place_held new also x) ∙ ap (λ ts. place_at ts x) adds.held ∙ place_held old order x;
    told = λ count le o i. same_filter (is_told_by_first count) (told_same count le) o i;
    less = λ count le o i. inl (same_filter (is_held_by_later count) (held_same count) o i);
  }

-- ---- an entry that another takes the place of

and_none : (a b : Bool) → b ≡ false → (a && b) ≡ false
and_none true b e = e
and_none false b e = refl

-- what passes a test behind an entry passes it with that
in_tail : (test : Entry → Bool) (runs : List Run) (s : Entry) (ss : List Entry) (o : Operation) → IsIn o (operations_in runs (filter test ss)) →
    IsIn o (operations_in runs (filter test (s ∷ ss)))
in_tail test runs s ss o i = go (test s)
  where
    go : (b : Bool) → IsIn o (operations_in runs (cond b (s ∷ filter test ss) (filter test ss)))
    go true = in_right_part o (operations_of_taken runs s) (operations_in runs (filter test ss)) i
    go false = i

module _ (t u : Entry) (id : u.id ≡ t.id) (len : u.len ≡ t.len) (place : u.place ≡ t.place) where
  place_set : (ts : List Entry) (at : ℕ) → slice_get ts at ≡ Some t → (x : Id) → place_at (set ts at u) x ≡ place_at ts x
  place_set [] at e x = refl
  place_set (s ∷ ss) zero e x =
      ap₂ (λ b p. cond b p (place_at ss x)) same place ∙ ap (λ r. place_at (r ∷ ss) x) (sym (some_is s t e))
    where
      same : covers u x ≡ covers t x
      same = ap₂ (λ (i : Id) n. nat_eq i.client.0 x.client.0 && (nat_le i.clock x.clock && nat_lt x.clock (i.clock + n))) id len
  place_set (s ∷ ss) (suc at) e x = ap (λ p. cond (covers s x) s.place p) (place_set ss at e x)

  module _ (runs new : List Run) (grow : GrowBy runs new) where
    -- what passes a test with the new one passed it, or is of the new one
    set_passes : (test : Entry → Bool) (ts : List Entry) (at : ℕ) → slice_get ts at ≡ Some t → Each (IsTakenOf runs) ts → (o : Operation) →
        IsIn o (operations_in new (filter test (set ts at u))) → IsIn o (operations_in runs (filter test ts)) ⊎ ((test u ≡ true) × IsIn o (operations_of_taken new u))
    set_passes test [] at e each o i = absurd cc
    set_passes test (s ∷ ss) zero e each o i = go (test u) refl i
      where
        behind : IsIn o (operations_in new (filter test ss)) → IsIn o (operations_in runs (filter test (s ∷ ss)))
        behind j = in_tail test runs s ss o (subst (IsIn o) (grown_in runs new (filter test ss) grow (each_kept test (IsTakenOf runs) ss each.1)) j)

        go : (b : Bool) → test u ≡ b → IsIn o (operations_in new (cond b (u ∷ filter test ss) (filter test ss))) →
            IsIn o (operations_in runs (filter test (s ∷ ss))) ⊎ ((test u ≡ true) × IsIn o (operations_of_taken new u))
        go true passes j = elim (in_parts o (operations_of_taken new u) (operations_in new (filter test ss)) j) [ inl k ↦ inr (passes, k) | inr k ↦ inl (behind k) ]
        go false passes j = inl (behind j)
    set_passes test (s ∷ ss) (suc at) e each o i = go (λ k. set_passes test ss at e each.1 o k) (test s) i
      where
        Rest : Type 0
        Rest = IsIn o (operations_in new (filter test (set ss at u))) → IsIn o (operations_in runs (filter test ss)) ⊎ ((test u ≡ true) × IsIn o (operations_of_taken new u))

        go : Rest → (b : Bool) → IsIn o (operations_in new (cond b (s ∷ filter test (set ss at u)) (filter test (set ss at u)))) →
            IsIn o (operations_in runs (cond b (s ∷ filter test ss) (filter test ss))) ⊎ ((test u ≡ true) × IsIn o (operations_of_taken new u))
        go rest true j = elim (in_parts o (operations_of_taken new s) (operations_in new (filter test (set ss at u))) j) [
          | inl k ↦ inl (in_left_part o (operations_of_taken runs s) (operations_in runs (filter test ss)) (subst (IsIn o) (grown_operations runs new s grow each.0.run_there) k))
          | inr k ↦ elim (rest k) [
            | inl m ↦ inl (in_right_part o (operations_of_taken runs s) (operations_in runs (filter test ss)) m)
            | inr m ↦ inr m
          ]
        ]
        go rest false j = rest j

    pub stays_set : (ts : List Entry) (at : ℕ) → slice_get ts at ≡ Some t → Each (IsTakenOf runs) ts → BecomesLess runs t new u → KeepsPlaces runs ts new (set ts at u)
    stays_set ts at e each (inl same) =
        subst (λ us. KeepsPlaces runs ts new us) (set_same ts at t e ∙ ap (λ s. set ts at s) (sym same)) (stays_grown runs new ts grow each)
    stays_set ts at e each (inr (inl gone)) = record {
      placed = λ x. place_set ts at e x;
      told = λ count le o i. elim (set_passes (is_told_by_first count) ts at e each o i) [
        | inl j ↦ j
        | inr (passes, j) ↦ absurd (true≢false (sym passes ∙ ap (λ b. not b && nat_lt u.run count) gone))
      ];
      less = λ count le o i. elim (set_passes (is_held_by_later count) ts at e each o i) [
        | inl j ↦ inl j
        | inr (passes, j) ↦ absurd (true≢false (sym passes ∙ ap (λ b. is_held u && (not b && not (nat_lt u.run count))) gone ∙ and_none (is_held u) false refl))
      ];
    }
    stays_set ts at e each (inr (inr (later, less))) = record {
      placed = λ x. place_set ts at e x;
      told = λ count le o i. elim (set_passes (is_told_by_first count) ts at e each o i) [
        | inl j ↦ j
        | inr (passes, j) ↦ absurd (true≢false (sym passes ∙ and_none (not u.is_gone) (nat_lt u.run count) (later_run u count (omega (arith, le, later)))))
      ];
      less = λ count le o i. elim (set_passes (is_held_by_later count) ts at e each o i) [
        | inl j ↦ inl j
        | inr (passes, j) ↦ inr (less o j)
      ];
    }

-- ---- an entry in two

module _ (t : Entry) (n : ℕ) (can : IsSplittable t n) where
  back_place : (b : Bool) → (back_told b t n).place ≡ t.place
  back_place true = refl
  back_place false = refl

  covers_back : (x : Id) → covers (back_of t n) x ≡ (nat_eq t.id.client.0 x.client.0 && (nat_le (t.id.clock + n) x.clock && nat_lt x.clock (t.id.clock + n + (t.len - n))))
  covers_back x = ap₂ (λ (i : Id) k. nat_eq i.client.0 x.client.0 && (nat_le i.clock x.clock && nat_lt x.clock (i.clock + k))) (back-id t n) (back-len t n)

  -- an id of the whole is one of the front or of the back
  part_of : (x : Id) → covers t x ≡ true → covers (front_of t n) x ≡ false → covers (back_of t n) x ≡ true
  part_of x e f = covers_back x ∙ here (t.id.clock + n + (t.len - n)) (omega (arith, can.fewer))
    where
      here : (end : ℕ) → end ≡ t.id.clock + t.len → (nat_eq t.id.client.0 x.client.0 && (nat_le (t.id.clock + n) x.clock && nat_lt x.clock end)) ≡ true
      here end is = grind (arith, tests)

  front_not : (x : Id) → covers t x ≡ false → covers (front_of t n) x ≡ false
  front_not x e = let fewer = can.fewer in grind (arith, tests)

  back_not : (x : Id) → covers t x ≡ false → covers (back_of t n) x ≡ false
  back_not x e = covers_back x ∙ here (t.id.clock + n + (t.len - n)) (omega (arith, can.fewer))
    where
      here : (end : ℕ) → end ≡ t.id.clock + t.len → (nat_eq t.id.client.0 x.client.0 && (nat_le (t.id.clock + n) x.clock && nat_lt x.clock end)) ≡ false
      here end is = grind (arith, tests)

  parts_place : (x : Id) (rest : Place) → cond (covers (front_of t n) x) t.place (cond (covers (back_of t n) x) (back_of t n).place rest) ≡ cond (covers t x) t.place rest
  parts_place x rest = elim (cases_Bool (covers t x)) [
    | inl e ↦ elim (cases_Bool (covers (front_of t n) x)) [
      | inl f ↦ rw (e, f) refl
      | inr f ↦ rw (e, f, part_of x e f) (back_place t.is_gone)
    ]
    | inr e ↦ rw (e, front_not x e, back_not x e) refl
  ]

  place_split : (ts : List Entry) (at : ℕ) → slice_get ts at ≡ Some t → (x : Id) → place_at (split_in at n ts) x ≡ place_at ts x
  place_split [] at e x = refl
  place_split (s ∷ ss) zero e x = subst (λ r. place_at (front_of r n ∷ back_of r n ∷ ss) x ≡ place_at (r ∷ ss) x) (sym (some_is s t e)) (parts_place x (place_at ss x))
  place_split (s ∷ ss) (suc at) e x = ap (λ p. cond (covers s x) s.place p) (place_split ss at e x)

  module _ (runs : List Run) (is : IsTakenOf runs t) where
    -- a test that both parts pass as the whole does
    passes_split : (test : Entry → Bool) → test (front_of t n) ≡ test t → test (back_of t n) ≡ test t → (ts : List Entry) (at : ℕ) → slice_get ts at ≡ Some t →
        operations_in runs (filter test (split_in at n ts)) ≡ operations_in runs (filter test ts)
    passes_split test front back [] at e = refl
    passes_split test front back (s ∷ ss) zero e =
        subst (λ r. operations_in runs (filter test (front_of r n ∷ back_of r n ∷ ss)) ≡ operations_in runs (filter test (r ∷ ss))) (sym (some_is s t e))
        (rw (front, back) (go (test t)))
      where
        rest : List Entry
        rest = filter test ss

        go : (b : Bool) → operations_in runs (cond b (front_of t n ∷ cond b (back_of t n ∷ rest) rest) (cond b (back_of t n ∷ rest) rest)) ≡ operations_in runs (cond b (t ∷ rest) rest)
        go true = sym (append_assoc (operations_of_taken runs (front_of t n)) (operations_of_taken runs (back_of t n)) (operations_in runs rest))
            ∙ ap (λ os. os ++ operations_in runs rest) (both_operations runs t n is can)
        go false = refl
    passes_split test front back (s ∷ ss) (suc at) e = go (test s) (passes_split test front back ss at e)
      where
        go : (b : Bool) → operations_in runs (filter test (split_in at n ss)) ≡ operations_in runs (filter test ss) →
            operations_in runs (cond b (s ∷ filter test (split_in at n ss)) (filter test (split_in at n ss))) ≡ operations_in runs (cond b (s ∷ filter test ss) (filter test ss))
        go true rest = ap (λ os. operations_of_taken runs s ++ os) rest
        go false rest = rest

    pub stays_split : (ts : List Entry) (at : ℕ) → slice_get ts at ≡ Some t → KeepsPlaces runs ts runs (split_in at n ts)
    stays_split ts at e = record {
      placed = λ x. place_split ts at e x;
      told = λ count le o i. subst (IsIn o) (passes_split (is_told_by_first count) refl (told count t.is_gone) ts at e) i;
      less = λ count le o i. inl (subst (IsIn o) (passes_split (is_held_by_later count) refl (held count t.is_gone) ts at e) i);
    }
      where
        told : (count : ℕ) (b : Bool) → is_told_by_first count (back_told b t n) ≡ is_told_by_first count t
        told count true = refl
        told count false = refl

        held : (count : ℕ) (b : Bool) → is_held_by_later count (back_told b t n) ≡ is_held_by_later count t
        held count true = refl
        held count false = refl
