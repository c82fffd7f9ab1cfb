-- What an undo makes of the deleted ids of a list with a key: one run at most.
use Rattle.std.proofs.Common.{◌≡◌, ◌≢◌, ◌⊎◌, ℕ, zero, suc, ◌+◌, ◌-◌, ◌<◌, ◌≤◌, ◌&&◌, ◌||◌, not, Bool, true, false, List, [], ◌∷◌, Option, Some, None, inl, inr, refl, sym, ap, ◌∙◌, subst, arith, true≢false}
use Rattle.std.proofs.lemmas.Bool.{cases_Bool, false_from_ne_true}
use Rattle.std.specs.Prelude.{if◌then◌else◌}
use Rattle.yd_words.specs.Each.{Each}
use Rattle.yd_words.proofs.EachLemmas.{each_append}
use Rattle.yd_ids.specs.declared.id.Id.{Id}
use Rattle.yd_ids.specs.declared.id.Span.{Span}
use Rattle.yd_ids.specs.Ids.{is_same, is_same_neighbour}
use Rattle.yd_ids.specs.Set.{HasId, AreMaximal}
use Rattle.yd_ids.proofs.IdLemmas.{other_id, same_says, same_numbers}
use Rattle.yd_ops.specs.declared.lists.List.{List as DocList}
use Rattle.yd_ops.specs.Operation.{later_id}
use Rattle.yd_ops.specs.Value.{ContentValue}
use Rattle.yd_meaning.specs.Held.{is_in_span, is_named}
use Rattle.yd_meaning.specs.ListNames.{same_list_decides}
use Rattle.yd_meaning.specs.Names.{has_key, same_list}
use Rattle.yd_state.specs.Lent.{Lent, lent}
use Rattle.yd_state.specs.Lent as lents
use Rattle.yd_subsets.specs.Below.{span_below}
use Rattle.yd_editing.specs.Step.{make}
use Rattle.yd_remaking.specs.Group.{units_from, group_from}
use Rattle.yd_remaking.specs.Last.{last_made}
use Rattle.yd_undo.specs.Remade.{Seen, units_in, is_place, is_made_in, step_of_group, group_in, step_at_end, step_of_key, key_steps_from, steps_of_groups, steps_of_keys}
use Rattle.yd_undo.proofs.EachLemmas.{groups_each}
use Rattle.yd_restoring.specs.Keyed.{MakesElse}
use Rattle.yd_restoring.proofs.ElseLemmas.{MakesOnce, once_then, then_once}
use Rattle.yd_restoring.proofs.LeftLemmas.{span_from, in_span_is, is_in_span-is, behind_same, not_behind, apart_spans, below_all}

-- ---- spans

or_true : (t u : Bool) → u ≡ true → t || u ≡ true
or_true true u e = refl
or_true false u e = e

one_less : (len : ℕ) → suc len - 1 ≡ len
one_less len = omega arith

-- the ids of the first span are all held
len_is : (seen : Seen) (span : Span) (spans : List Span) → AreMaximal (span ∷ spans) →
    ((y : Id) → is_named (span ∷ spans) y ≡ true → y.clock < seen.basis.vector y.client.0) → (span_below seen.basis.vector span).len ≡ span.len
len_is seen span spans maximal below = below_all seen.basis.vector span maximal.1 (λ y e. below y (ap (λ t. t || is_named spans y) e))

-- ---- what is made of a list with a key

module _ (seen : Seen) (deleted : List Span) (name : DocList) (keyed : has_key name ≡ true) where
  abbrev last : Option Id
  last = last_made deleted None (units_in seen name)

  abbrev end : Option Id
  end = lents.last_unit seen.basis.document name

  -- nothing is made there in lists without a key
  group_else : (other : DocList) (x : Id) (most : ℕ) → Each (MakesElse name) (step_of_group seen (Some other) x (group_in seen (Some other) x most))
  group_else other x most = go (has_key other) (is_place seen other) refl
    where
      makes : (us : List Lent) → other ≢ name → Each (MakesElse name) (step_of_group seen (Some other) x us)
      makes [] differ = tt
      makes (u ∷ us) differ = (differ, tt)

      go : (k p : Bool) → has_key other ≡ k → Each (MakesElse name) (step_of_group seen (Some other) x (if not k && p then group_from most (units_from x (units_in seen other)) else []))
      go true p f = tt
      go false false f = tt
      go false true f = makes (group_from most (units_from x (units_in seen other))) (λ same. true≢false (sym keyed ∙ sym (ap has_key same) ∙ f))

  pub groups_else : (spans : List Span) → Each (MakesElse name) (steps_of_groups seen spans)
  groups_else spans = groups_each (MakesElse name) seen group_else spans

  -- nor of an id that is not the last
  key_else : (x : Id) (l : Option DocList) → is_same_neighbour (Some x) last ≡ false → Each (MakesElse name) (step_of_key seen deleted l x)
  key_else x None e = tt
  key_else x (Some other) e = elim (cases_Bool (same_list other name)) [
    | inl same ↦ of_it ((same_list_decides other name).0 same)
    | inr differ ↦ go (is_made_in seen deleted other x) (λ same. true≢false (sym ((same_list_decides other name).1 same) ∙ differ))
  ]
    where
      at_end : (us : List Lent) → other ≢ name → Each (MakesElse name) (step_at_end other (lents.last_unit seen.basis.document other) us)
      at_end [] differ = tt
      at_end (u ∷ us) differ = (differ, tt)

      go : (t : Bool) → other ≢ name → Each (MakesElse name) (if t then step_at_end other (lents.last_unit seen.basis.document other) (group_from 1 (units_from x (units_in seen other))) else [])
      go true differ = at_end (group_from 1 (units_from x (units_in seen other))) differ
      go false differ = tt

      of_it : other ≡ name → Each (MakesElse name) (step_of_key seen deleted (Some other) x)
      of_it same = subst (λ l. Each (MakesElse name) (step_of_key seen deleted (Some l) x)) (sym same)
          (subst (λ t. Each (MakesElse name) (if t then step_at_end name end (group_from 1 (units_from x (units_in seen name))) else [])) (sym not_made) tt)
        where
          and_false : (a b : Bool) → a && (b && false) ≡ false
          and_false true true = refl
          and_false true false = refl
          and_false false b = refl

          not_made : is_made_in seen deleted name x ≡ false
          not_made = ap (λ t. has_key name && (is_place seen name && t)) e ∙ and_false (has_key name) (is_place seen name)

  -- ---- where there is none

  module _ (none : (x : Id) → is_same_neighbour (Some x) last ≡ false) where
    row_none : (len : ℕ) (x : Id) → Each (MakesElse name) (key_steps_from seen deleted x len)
    row_none zero x = tt
    row_none (suc len) x = each_append (MakesElse name) (step_of_key seen deleted (seen.list_of x) x) (key_steps_from seen deleted (later_id x 1) len)
        (key_else x (seen.list_of x) (none x)) (row_none len (later_id x 1))

    pub keys_none : (spans : List Span) → Each (MakesElse name) (steps_of_keys seen deleted spans)
    keys_none [] = tt
    keys_none (span ∷ spans) = each_append (MakesElse name)
        (key_steps_from seen deleted (record { client = span.client; clock = span.clock }) (span_below seen.basis.vector span).len) (steps_of_keys seen deleted spans)
        (row_none (span_below seen.basis.vector span).len (record { client = span.client; clock = span.clock })) (keys_none spans)

  -- ---- where there is one

  module _ (z : Id) (is : last ≡ Some z) (content : ContentValue) (there : step_of_key seen deleted (seen.list_of z) z ≡ make name end content ∷ []) where
    other_than : (x : Id) → is_same x z ≡ false → Each (MakesElse name) (step_of_key seen deleted (seen.list_of x) x)
    other_than x e = key_else x (seen.list_of x) (ap (is_same_neighbour (Some x)) is ∙ e)

    row_else : (len : ℕ) (x : Id) → is_in_span (span_from x len) z ≡ false → Each (MakesElse name) (key_steps_from seen deleted x len)
    row_else zero x e = tt
    row_else (suc len) x e = each_append (MakesElse name) (step_of_key seen deleted (seen.list_of x) x) (key_steps_from seen deleted (later_id x 1) len)
        (other_than x (other_id x z (λ same. true≢false (sym (in_span_is (span_from x (suc len)) z (at_first same)) ∙ e))))
        (row_else len (later_id x 1) (later (cases_Bool (is_in_span (span_from x 1) z))))
      where
        at_first : x ≡ z → (x.client.0 ≡ z.client.0) × (x.clock ≤ z.clock) × (z.clock < x.clock + suc len)
        at_first same = (ap (λ (y : Id). y.client.0) same, omega (arith, ap (λ (y : Id). y.clock) same), omega (arith, ap (λ (y : Id). y.clock) same))

        later : (is_in_span (span_from x 1) z ≡ true) ⊎ (is_in_span (span_from x 1) z ≡ false) → is_in_span (span_from (later_id x 1) len) z ≡ false
        later (inl a) = subst (λ n. is_in_span (span_from (later_id x 1) n) z ≡ false) (one_less len) (not_behind x z (suc len) 1 a)
        later (inr a) = subst (λ n. is_in_span (span_from (later_id x 1) n) z ≡ false) (one_less len) (behind_same x z (suc len) 1 (omega arith) a ∙ e)

    row_once : (len : ℕ) (x : Id) → is_in_span (span_from x len) z ≡ true → MakesOnce name end content (key_steps_from seen deleted x len)
    row_once zero x e = let (c, low, high) = is_in_span-is (span_from x 0) z e in absurd (never low high)
      where
        never : x.clock ≤ z.clock → z.clock < x.clock + 0 → ⊥
        never low high = absurd (omega (arith, low, high))
    row_once (suc len) x e = elim (same_says x z) [
      | inl same ↦ once_then name end content (step_of_key seen deleted (seen.list_of x) x) (key_steps_from seen deleted (later_id x 1) len)
          (subst (λ steps. MakesOnce name end content steps) (sym (ap (λ y. step_of_key seen deleted (seen.list_of y) y) same.1 ∙ there)) (inl (refl, tt)))
          (row_else len (later_id x 1) (subst (λ n. is_in_span (span_from (later_id x 1) n) z ≡ false) (one_less len)
          (not_behind x z (suc len) 1 (in_span_is (span_from x 1) z (at_first same.1)))))
      | inr differ ↦ then_once name end content (step_of_key seen deleted (seen.list_of x) x) (key_steps_from seen deleted (later_id x 1) len) (other_than x differ.0)
          (row_once len (later_id x 1) (subst (λ n. is_in_span (span_from (later_id x 1) n) z ≡ true) (one_less len)
          (behind_same x z (suc len) 1 (omega arith) (not_first differ.1) ∙ e)))
    ]
      where
        at_first : x ≡ z → (x.client.0 ≡ z.client.0) × (x.clock ≤ z.clock) × (z.clock < x.clock + 1)
        at_first same = (ap (λ (y : Id). y.client.0) same, omega (arith, ap (λ (y : Id). y.clock) same), omega (arith, ap (λ (y : Id). y.clock) same))

        not_first : x ≢ z → is_in_span (span_from x 1) z ≡ false
        not_first differ = false_from_ne_true (is_in_span (span_from x 1) z) (λ f. let (c, low, high) = is_in_span-is (span_from x 1) z f in
            differ (same_numbers x z c (omega (arith, low, high))))

    spans_else : (spans : List Span) → (HasId spans z → ⊥) → ((y : Id) → is_named spans y ≡ true → y.clock < seen.basis.vector y.client.0) → AreMaximal spans →
        Each (MakesElse name) (steps_of_keys seen deleted spans)
    spans_else [] f below maximal = tt
    spans_else (span ∷ spans) f below maximal = each_append (MakesElse name)
        (key_steps_from seen deleted (record { client = span.client; clock = span.clock }) (span_below seen.basis.vector span).len) (steps_of_keys seen deleted spans)
        (subst (λ len. Each (MakesElse name) (key_steps_from seen deleted (record { client = span.client; clock = span.clock }) len)) (sym (len_is seen span spans maximal below))
        (row_else span.len (record { client = span.client; clock = span.clock }) (false_from_ne_true (is_in_span span z) (λ e. f (inl (is_in_span-is span z e))))))
        (spans_else spans (λ h. f (inr h)) (λ y e. below y (or_true (is_in_span span y) (is_named spans y) e)) maximal.3)

    pub spans_once : (spans : List Span) → AreMaximal spans → HasId spans z → ((y : Id) → is_named spans y ≡ true → y.clock < seen.basis.vector y.client.0) →
        MakesOnce name end content (steps_of_keys seen deleted spans)
    spans_once [] maximal h below = absurd h
    spans_once (span ∷ spans) maximal (inl i) below = once_then name end content
        (key_steps_from seen deleted (record { client = span.client; clock = span.clock }) (span_below seen.basis.vector span).len) (steps_of_keys seen deleted spans)
        (subst (λ len. MakesOnce name end content (key_steps_from seen deleted (record { client = span.client; clock = span.clock }) len)) (sym (len_is seen span spans maximal below))
        (row_once span.len (record { client = span.client; clock = span.clock }) (in_span_is span z i)))
        (spans_else spans (apart_spans span spans maximal.2 z i) (λ y e. below y (or_true (is_in_span span y) (is_named spans y) e)) maximal.3)
    spans_once (span ∷ spans) maximal (inr h) below = then_once name end content
        (key_steps_from seen deleted (record { client = span.client; clock = span.clock }) (span_below seen.basis.vector span).len) (steps_of_keys seen deleted spans)
        (subst (λ len. Each (MakesElse name) (key_steps_from seen deleted (record { client = span.client; clock = span.clock }) len)) (sym (len_is seen span spans maximal below))
        (row_else span.len (record { client = span.client; clock = span.clock })
        (false_from_ne_true (is_in_span span z) (λ e. apart_spans span spans maximal.2 z (is_in_span-is span z e) h))))
        (spans_once spans maximal.3 h (λ y e. below y (or_true (is_in_span span y) (is_named spans y) e)))
