-- Values of a key at units: what marks put around some units do, and what it does that the key's marks between them go.
use Rattle.std.proofs.Common.{◌≡◌, ◌≢◌, ◌+◌, ℕ, suc, true, false, not, List, [], ◌∷◌, ◌++◌, map, length, inl, inr, refl, sym, ap, ap₂, ◌∙◌, subst, arith, true≢false}
use Rattle.std.proofs.lemmas.Bool.{cases_Bool, false_from_ne_true}
use Rattle.std.proofs.lemmas.Slice.Eq.{bytes_eq-Decides}
use Rattle.std.proofs.Math.Seq.{take-append_seam, drop-append_seam}
use Rattle.std.specs.Prelude.{filter, take, drop, if◌then◌else◌}
use Rattle.std.specs.Str.{bytes_eq}
use Rattle.yd_any.specs.Tree.{AnyTree, null}
use Rattle.yd_ops.specs.Operation.{UnitContent, text_unit, any_unit, json_unit, bytes, embedded, mark, nested_type, deleted_unit, gone_unit, Operation}
use Rattle.yd_shown.specs.Shown.{is_counted}
use Rattle.yd_editing.specs.TextEdit.{value_after, value_in_force, is_mark_of}
use Rattle.yd_editing.specs.TextLaw.{Valued, valued, with_value, with_values}

-- ---- units that are no marks of the key

pub counted_no_mark : (key : List ℕ) (content : UnitContent) → is_counted content ≡ true → is_mark_of key content ≡ false
counted_no_mark key (text_unit unit) e = refl
counted_no_mark key (any_unit value) e = refl
counted_no_mark key (json_unit value) e = refl
counted_no_mark key (bytes blob) e = refl
counted_no_mark key (embedded value) e = refl
counted_no_mark key (mark k value) e = absurd (true≢false (sym e))
counted_no_mark key (nested_type kind) e = refl
counted_no_mark key deleted_unit e = refl
counted_no_mark key gone_unit e = refl

no_mark_keeps : (key : List ℕ) (content : UnitContent) (v : AnyTree) → is_mark_of key content ≡ false → value_after key content v ≡ v
no_mark_keeps key (text_unit unit) v e = refl
no_mark_keeps key (any_unit value) v e = refl
no_mark_keeps key (json_unit value) v e = refl
no_mark_keeps key (bytes blob) v e = refl
no_mark_keeps key (embedded value) v e = refl
no_mark_keeps key (mark k value) v e = ap (λ t. if t then value else v) e
no_mark_keeps key (nested_type kind) v e = refl
no_mark_keeps key deleted_unit v e = refl
no_mark_keeps key gone_unit v e = refl

counted_keeps : (key : List ℕ) (content : UnitContent) (v : AnyTree) → is_counted content ≡ true → value_after key content v ≡ v
counted_keeps key content v e = no_mark_keeps key content v (counted_no_mark key content e)

bytes_differ : (a b : List ℕ) → a ≢ b → bytes_eq a b ≡ false
bytes_differ a b differ = false_from_ne_true (bytes_eq a b) (λ e. differ ((bytes_eq-Decides a b).0 e))

-- a mark of one key keeps the others, and is not counted
mark_keeps : (key other : List ℕ) (content : UnitContent) (v : AnyTree) → other ≢ key → is_mark_of key content ≡ true → value_after other content v ≡ v
mark_keeps key other (text_unit unit) v differ e = absurd (true≢false (sym e))
mark_keeps key other (any_unit value) v differ e = absurd (true≢false (sym e))
mark_keeps key other (json_unit value) v differ e = absurd (true≢false (sym e))
mark_keeps key other (bytes blob) v differ e = absurd (true≢false (sym e))
mark_keeps key other (embedded value) v differ e = absurd (true≢false (sym e))
mark_keeps key other (mark k value) v differ e = ap (λ t. if t then value else v) (bytes_differ k other (λ f. differ (sym f ∙ (bytes_eq-Decides k key).0 e)))
mark_keeps key other (nested_type kind) v differ e = absurd (true≢false (sym e))
mark_keeps key other deleted_unit v differ e = absurd (true≢false (sym e))
mark_keeps key other gone_unit v differ e = absurd (true≢false (sym e))

mark_not_counted : (key : List ℕ) (content : UnitContent) → is_mark_of key content ≡ true → is_counted content ≡ false
mark_not_counted key content e = false_from_ne_true (is_counted content) (λ f. true≢false (sym e ∙ counted_no_mark key content f))

-- ---- one unit in front

valued_counted : (key : List ℕ) (v : AnyTree) (o : Operation) (os : List Operation) → is_counted o.content ≡ true →
    valued key v (o ∷ os) ≡ record { unit = o; value = v } ∷ valued key v os
valued_counted key v o os e = ap (λ t. if t then record { unit = o; value = v } ∷ valued key v os else valued key (value_after key o.content v) os) e

valued_other : (key : List ℕ) (v : AnyTree) (o : Operation) (os : List Operation) → is_counted o.content ≡ false →
    valued key v (o ∷ os) ≡ valued key (value_after key o.content v) os
valued_other key v o os e = ap (λ t. if t then record { unit = o; value = v } ∷ valued key v os else valued key (value_after key o.content v) os) e

-- ---- lists joined

pub valued_append : (key : List ℕ) (os ps : List Operation) (v : AnyTree) → valued key v (os ++ ps) ≡ valued key v os ++ valued key (value_in_force key os v) ps
valued_append key [] ps v = refl
valued_append key (o ∷ os) ps v = elim (cases_Bool (is_counted o.content)) [
  | inl e ↦ valued_counted key v o (os ++ ps) e ∙ ap (λ us. record { unit = o; value = v } ∷ us) (valued_append key os ps v)
      ∙ ap₂ (λ us x. us ++ valued key (value_in_force key os x) ps) (sym (valued_counted key v o os e)) (sym (counted_keeps key o.content v e))
  | inr e ↦ valued_other key v o (os ++ ps) e ∙ valued_append key os ps (value_after key o.content v)
      ∙ ap (λ us. us ++ valued key (value_in_force key os (value_after key o.content v)) ps) (sym (valued_other key v o os e))
]

in_force_append : (key : List ℕ) (os ps : List Operation) (v : AnyTree) → value_in_force key (os ++ ps) v ≡ value_in_force key ps (value_in_force key os v)
in_force_append key [] ps v = refl
in_force_append key (o ∷ os) ps v = in_force_append key os ps (value_after key o.content v)

pub length-valued : (key : List ℕ) (os : List Operation) (v : AnyTree) → length (valued key v os) ≡ length (filter (λ o. is_counted o.content) os)
length-valued key [] v = refl
length-valued key (o ∷ os) v = elim (cases_Bool (is_counted o.content)) [
  | inl e ↦ rw e (ap suc (length-valued key os v))
  | inr e ↦ rw e (length-valued key os (value_after key o.content v))
]

-- ---- a mark in front

mark_in_front : (key k : List ℕ) (value v : AnyTree) (m : Operation) (os : List Operation) → m.content ≡ mark k value →
    valued key v (m ∷ os) ≡ valued key (if bytes_eq k key then value else v) os
mark_in_front key k value v m os e = subst (λ c. (if is_counted c then record { unit = m; value = v } ∷ valued key v os else valued key (value_after key c v) os)
    ≡ valued key (if bytes_eq k key then value else v) os) (sym e) refl

own_in_front : (key : List ℕ) (value v : AnyTree) (m : Operation) (os : List Operation) → m.content ≡ mark key value → valued key v (m ∷ os) ≡ valued key value os
own_in_front key value v m os e = mark_in_front key key value v m os e ∙ ap (λ t. valued key (if t then value else v) os) ((bytes_eq-Decides key key).1 refl)

other_in_front : (key other : List ℕ) (value v : AnyTree) (m : Operation) (os : List Operation) → other ≢ key → m.content ≡ mark key value →
    valued other v (m ∷ os) ≡ valued other v os
other_in_front key other value v m os differ e = mark_in_front other key value v m os e
    ∙ ap (λ t. valued other (if t then value else v) os) (bytes_differ key other (λ f. differ (sym f)))

-- ---- without the key's marks

abbrev pub without_marks : List ℕ → List Operation → List Operation
without_marks key os = filter (λ o. not (is_mark_of key o.content)) os

without_kept : (key : List ℕ) (o : Operation) (os : List Operation) → is_mark_of key o.content ≡ false → without_marks key (o ∷ os) ≡ o ∷ without_marks key os
without_kept key o os e = ap (λ t. if not t then o ∷ without_marks key os else without_marks key os) e

without_gone : (key : List ℕ) (o : Operation) (os : List Operation) → is_mark_of key o.content ≡ true → without_marks key (o ∷ os) ≡ without_marks key os
without_gone key o os e = ap (λ t. if not t then o ∷ without_marks key os else without_marks key os) e

-- all its units have one value
own_without : (key : List ℕ) (value : AnyTree) (os : List Operation) (v : AnyTree) → valued key value (without_marks key os) ≡ map (with_value value) (valued key v os)
own_without key value [] v = refl
own_without key value (o ∷ os) v = elim (cases_Bool (is_counted o.content)) [
  | inl e ↦ ap (valued key value) (without_kept key o os (counted_no_mark key o.content e)) ∙ valued_counted key value o (without_marks key os) e
      ∙ ap (λ us. record { unit = o; value = value } ∷ us) (own_without key value os v) ∙ ap (map (with_value value)) (sym (valued_counted key v o os e))
  | inr e ↦ elim (cases_Bool (is_mark_of key o.content)) [
    | inl m ↦ ap (valued key value) (without_gone key o os m) ∙ own_without key value os (value_after key o.content v)
        ∙ ap (map (with_value value)) (sym (valued_other key v o os e))
    | inr m ↦ ap (valued key value) (without_kept key o os m) ∙ valued_other key value o (without_marks key os) e
        ∙ ap (λ x. valued key x (without_marks key os)) (no_mark_keeps key o.content value m)
        ∙ own_without key value os (value_after key o.content v) ∙ ap (map (with_value value)) (sym (valued_other key v o os e))
  ]
]

-- of another key nothing changes
others_without : (key other : List ℕ) → other ≢ key → (os : List Operation) (v : AnyTree) →
    (valued other v (without_marks key os) ≡ valued other v os) × (value_in_force other (without_marks key os) v ≡ value_in_force other os v)
others_without key other differ [] v = (refl, refl)
others_without key other differ (o ∷ os) v = elim (cases_Bool (is_mark_of key o.content)) [
  | inl m ↦ let same : value_after other o.content v ≡ v = mark_keeps key other o.content v differ m in
      let (a, b) = others_without key other differ os v in (
        ap (valued other v) (without_gone key o os m) ∙ a ∙ ap (λ x. valued other x os) (sym same) ∙ sym (valued_other other v o os (mark_not_counted key o.content m)),
        ap (λ ps. value_in_force other ps v) (without_gone key o os m) ∙ b ∙ ap (λ x. value_in_force other os x) (sym same),
      )
  | inr m ↦ elim (cases_Bool (is_counted o.content)) [
    | inl e ↦ let (a, b) = others_without key other differ os v in (
      ap (valued other v) (without_kept key o os m) ∙ valued_counted other v o (without_marks key os) e ∙ ap (λ us. record { unit = o; value = v } ∷ us) a
          ∙ sym (valued_counted other v o os e),
      ap (λ ps. value_in_force other ps v) (without_kept key o os m) ∙ (others_without key other differ os (value_after other o.content v)).1,
    )
    | inr e ↦ let (a, b) = others_without key other differ os (value_after other o.content v) in (
      ap (valued other v) (without_kept key o os m) ∙ valued_other other v o (without_marks key os) e ∙ a ∙ sym (valued_other other v o os e),
      ap (λ ps. value_in_force other ps v) (without_kept key o os m) ∙ b,
    )
  ]
]

-- ---- values at indexes

-- a list with one more at its end
pub length-one_more : (os : List Operation) (last : Operation) → length (os ++ last ∷ []) ≡ length os + 1
length-one_more [] last = refl
length-one_more (o ∷ os) last = ap suc (length-one_more os last) ∙ later (length os)
  where
    later : (n : ℕ) → suc (n + 1) ≡ suc n + 1
    later n = omega arith

at_indexes : (value : AnyTree) (index len : ℕ) (xs ys zs all : List Valued) → length xs ≡ index → length ys ≡ len → all ≡ xs ++ (ys ++ zs) →
    xs ++ (map (with_value value) ys ++ zs) ≡ with_values value index len all
at_indexes value index len xs ys zs all e f g =
    ap₂ (λ us ws. xs ++ (map (with_value value) us ++ ws)) (sym (take-append_seam ys zs)) (sym (drop-append_seam ys zs))
    ∙ ap (λ n. xs ++ (map (with_value value) (take n (ys ++ zs)) ++ drop n (ys ++ zs))) f
    ∙ ap₂ (λ us ws. us ++ (map (with_value value) (take len ws) ++ drop len ws)) (sym take_front) (sym drop_front)
  where
    take_front : take index all ≡ xs
    take_front = ap₂ take (sym e) g ∙ take-append_seam xs (ys ++ zs)

    drop_front : drop index all ≡ ys ++ zs
    drop_front = ap₂ drop (sym e) g ∙ drop-append_seam xs (ys ++ zs)

-- ---- lemmas for callers

-- units between two marks, of which the second has the value that was in force behind them
module _ (key : List ℕ) (value : AnyTree) (front middle back : List Operation) (one two : Operation) (one_mark : one.content ≡ mark key value)
    (two_mark : two.content ≡ mark key (value_in_force key (front ++ middle) null)) where
  abbrev v_front : AnyTree
  v_front = value_in_force key front null

  abbrev v_back : AnyTree
  v_back = value_in_force key (front ++ middle) null

  valued_before : valued key null (front ++ (middle ++ back)) ≡ valued key null front ++ (valued key v_front middle ++ valued key v_back back)
  valued_before = valued_append key front (middle ++ back) null ∙ ap (λ us. valued key null front ++ us) (valued_append key middle back v_front
      ∙ ap (λ x. valued key v_front middle ++ valued key x back) (sym (in_force_append key front middle null)))

  valued_after : valued key null (front ++ (one ∷ (without_marks key middle ++ (two ∷ back))))
      ≡ valued key null front ++ (map (with_value value) (valued key v_front middle) ++ valued key v_back back)
  valued_after = valued_append key front (one ∷ (without_marks key middle ++ (two ∷ back))) null ∙ ap (λ us. valued key null front ++ us)
      (own_in_front key value v_front one (without_marks key middle ++ (two ∷ back)) one_mark
      ∙ valued_append key (without_marks key middle) (two ∷ back) value
      ∙ ap₂ (λ us ws. us ++ ws) (own_without key value middle v_front) (own_in_front key v_back (value_in_force key (without_marks key middle) value) two back two_mark))

  pub others_valued : (other : List ℕ) → other ≢ key → valued other null (front ++ (one ∷ (without_marks key middle ++ (two ∷ back))))
      ≡ valued other null (front ++ (middle ++ back))
  others_valued other differ = valued_append other front (one ∷ (without_marks key middle ++ (two ∷ back))) null ∙ ap (λ us. valued other null front ++ us)
      (other_in_front key other value (value_in_force other front null) one (without_marks key middle ++ (two ∷ back)) differ one_mark
      ∙ valued_append other (without_marks key middle) (two ∷ back) (value_in_force other front null)
      ∙ ap₂ (λ us x. us ++ valued other x (two ∷ back)) (others_without key other differ middle (value_in_force other front null)).0
      (others_without key other differ middle (value_in_force other front null)).1
      ∙ ap (λ us. valued other (value_in_force other front null) middle ++ us) (other_in_front key other (value_in_force key (front ++ middle) null)
      (value_in_force other middle (value_in_force other front null)) two back differ two_mark)
      ∙ sym (valued_append other middle back (value_in_force other front null)))
      ∙ sym (valued_append other front (middle ++ back) null)

  -- the units of the middle have the value, and all others are as before
  pub values_between : (index len : ℕ) → length (valued key null front) ≡ index → length (valued key v_front middle) ≡ len →
      valued key null (front ++ (one ∷ (without_marks key middle ++ (two ∷ back)))) ≡ with_values value index len (valued key null (front ++ (middle ++ back)))
  values_between index len e f = valued_after
      ∙ at_indexes value index len (valued key null front) (valued key v_front middle) (valued key v_back back) (valued key null (front ++ (middle ++ back))) e f valued_before
