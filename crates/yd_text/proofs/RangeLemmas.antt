-- The ids of units in a range of indexes, as they are gathered piece by piece.
use Rattle.std.proofs.Common.{◌≡◌, ◌⊎◌, ◌↔◌, ◌<◌, ◌≤◌, ◌+◌, ◌-◌, ◌^◌, ℕ, zero, suc, List, [], ◌∷◌, ◌++◌, map, take, drop, inl, inr, refl, sym, ap, ap₂, ◌∙◌, subst, arith, length, append-nil}
use Rattle.std.proofs.lemmas.List.{take-map, drop-map}
use Rattle.yd_words.specs.Each.{Each}
use Rattle.yd_words.specs.Member.{IsIn}
use Rattle.yd_words.proofs.MemberLemmas.{in_left_part, in_right_part, in_parts}
use Rattle.yd_ids.specs.declared.id.Id.{Id}
use Rattle.yd_ids.specs.declared.id.Span.{Span}
use Rattle.yd_ids.specs.Id.{IsSpan}
use Rattle.yd_ids.specs.Span.{InSpan}
use Rattle.yd_ids.specs.Set.{HasId, AreMaximal, AddsSpan}
use Rattle.yd_ids.proofs.IdLemmas.{same_numbers}
use Rattle.yd_ids.proofs.SetOfLemmas.{set_of_alone}
use Rattle.yd_ops.specs.declared.lists.List.{List as DocList}
use Rattle.yd_ops.specs.Operation.{Operation, later_id}
use Rattle.yd_ops.proofs.OperationLemmas.{later_later, later_none}
use Rattle.yd_meaning.specs.Document.{Document}
use Rattle.yd_editing.specs.TextEdit.{counted_units, ids_of_units}
use Rattle.yd_state.specs.Lent.{Lent, lent_units}
use Rattle.yd_doc.specs.Counted.{counted_ids, ids_from}
use Rattle.yd_doc.proofs.CountedLemmas.{counted_lent}
use Rattle.yd_text.specs.Ranges.{TakesRange, TakesPart}

-- ---- ids in a row

abbrev pub row_span : Id → ℕ → Span
row_span id n = record { client = id.client; clock = id.clock; len = n }

row_has : (id : Id) (n : ℕ) (x : Id) → IsIn x (ids_from id n) → InSpan (row_span id n) x
row_has id zero x i = absurd i
row_has id (suc n) x (inl e) = (ap (λ (y : Id). y.client.0) (sym e), omega (arith, ap (λ (y : Id). y.clock) e), omega (arith, ap (λ (y : Id). y.clock) e))
row_has id (suc n) x (inr i) = let (c, low, high) = row_has (later_id id 1) n x i in (c, omega (arith, low), omega (arith, high))

in_row : (id : Id) (n : ℕ) (x : Id) → InSpan (row_span id n) x → IsIn x (ids_from id n)
in_row id zero x h = absurd (omega (arith, h.1, h.2))
in_row id (suc n) x h = elim (first_or_later id.clock x.clock h.1) [
  | inl e ↦ inl (same_numbers x id (sym h.0) (sym e))
  | inr lt ↦ inr (in_row (later_id id 1) n x (h.0, omega (arith, lt), omega (arith, h.2)))
]
  where
    first_or_later : (a b : ℕ) → a ≤ b → (a ≡ b) ⊎ (a < b)
    first_or_later zero zero m = inl refl
    first_or_later zero (suc b) m = inr (omega arith)
    first_or_later (suc a) zero m = absurd (omega (arith, m))
    first_or_later (suc a) (suc b) m = elim (first_or_later a b (omega (arith, m))) [ inl e ↦ inl (ap suc e) | inr n ↦ inr (omega (arith, n)) ]

-- the first of a row and of what comes
take_row : (id : Id) (n part want : ℕ) (rest : List Id) → part ≤ n → part ≤ want → (part ≡ n) ⊎ (part ≡ want) →
    take want (ids_from id n ++ rest) ≡ ids_from id part ++ take (want - part) rest
take_row id zero zero want rest a b c = ap (λ k. take k rest) same
  where
    same : want ≡ want - 0
    same = omega arith
take_row id zero (suc part) want rest a b c = absurd (omega (arith, a))
take_row id (suc n) zero zero rest a b c = refl
take_row id (suc n) zero (suc want) rest a b c = absurd (none c)
  where
    none : (zero ≡ suc n) ⊎ (zero ≡ suc want) → ⊥
    none (inl e) = omega (arith, e)
    none (inr e) = omega (arith, e)
take_row id (suc n) (suc part) zero rest a b c = absurd (omega (arith, b))
take_row id (suc n) (suc part) (suc want) rest a b c = ap (λ ids. id ∷ ids) (take_row (later_id id 1) n part want rest (omega (arith, a)) (omega (arith, b)) (less c)
    ∙ ap (λ k. ids_from (later_id id 1) part ++ take k rest) same)
  where
    less : (suc part ≡ suc n) ⊎ (suc part ≡ suc want) → (part ≡ n) ⊎ (part ≡ want)
    less (inl e) = inl (omega (arith, e))
    less (inr e) = inr (omega (arith, e))

    same : want - part ≡ suc want - suc part
    same = omega arith

-- a row from a later id on
drop_row : (id : Id) (n skip : ℕ) (rest : List Id) → skip ≤ n → drop skip (ids_from id n ++ rest) ≡ ids_from (later_id id skip) (n - skip) ++ rest
drop_row id n zero rest le = ap₂ (λ (y : Id) k. ids_from y k ++ rest) (sym (later_none id)) same
  where
    same : n ≡ n - 0
    same = omega arith
drop_row id zero (suc skip) rest le = absurd (omega (arith, le))
drop_row id (suc n) (suc skip) rest le = drop_row (later_id id 1) n skip rest (omega (arith, le))
    ∙ ap₂ (λ (y : Id) k. ids_from y k ++ rest) (later_later id 1 skip ∙ ap (later_id id) next) same
  where
    next : 1 + skip ≡ suc skip
    next = omega arith

    same : n - skip ≡ suc n - suc skip
    same = omega arith

-- a row that is passed
pass_row : (id : Id) (n skip : ℕ) (rest : List Id) → n ≤ skip → drop skip (ids_from id n ++ rest) ≡ drop (skip - n) rest
pass_row id zero skip rest le = ap (λ k. drop k rest) same
  where
    same : skip ≡ skip - 0
    same = omega arith
pass_row id (suc n) zero rest le = absurd (omega (arith, le))
pass_row id (suc n) (suc skip) rest le = pass_row (later_id id 1) n skip rest (omega (arith, le)) ∙ ap (λ k. drop k rest) same
  where
    same : skip - n ≡ suc skip - suc n
    same = omega arith

-- ---- lemmas for callers: a piece

-- a piece before the range
pub passes : (ids : List Span) (row : List Id) (id : Id) (n skip want : ℕ) → row ≡ ids_from id n → n ≤ skip → TakesRange ids ids row skip want (skip - n) want
passes ids row id n skip want e le rest x = ((λ h. subst Has (sym same) h), (λ h. subst Has same h))
  where
    Has : List Id → Type 0
    Has xs = HasId ids x ⊎ IsIn x (take want xs)

    same : drop skip (row ++ rest) ≡ drop (skip - n) rest
    same = ap (λ r. drop skip (r ++ rest)) e ∙ pass_row id n skip rest le

-- a piece of which a part is in the range
pub takes_part : (old new : List Span) (row : List Id) (id : Id) (n skip want part : ℕ) → row ≡ ids_from id n → skip ≤ n → part ≤ n - skip → part ≤ want →
    (part ≡ n - skip) ⊎ (part ≡ want) → AddsSpan old new (row_span (later_id id skip) part) → TakesRange old new row skip want 0 (want - part)
takes_part old new row id n skip want part e le a b c adds rest x = (to, from)
  where
    same : take want (drop skip (row ++ rest)) ≡ ids_from (later_id id skip) part ++ take (want - part) rest
    same = ap (λ r. take want (drop skip (r ++ rest))) e ∙ ap (take want) (drop_row id n skip rest le)
        ∙ take_row (later_id id skip) (n - skip) part want rest a b c

    to : HasId new x ⊎ IsIn x (take (want - part) (drop 0 rest)) → HasId old x ⊎ IsIn x (take want (drop skip (row ++ rest)))
    to (inl h) = elim (((adds x).0) h) [
      | inl i ↦ inl i
      | inr i ↦ inr (subst (IsIn x) (sym same) (in_left_part x (ids_from (later_id id skip) part) (take (want - part) rest) (in_row (later_id id skip) part x i)))
    ]
    to (inr i) = inr (subst (IsIn x) (sym same) (in_right_part x (ids_from (later_id id skip) part) (take (want - part) rest) i))

    from : HasId old x ⊎ IsIn x (take want (drop skip (row ++ rest))) → HasId new x ⊎ IsIn x (take (want - part) (drop 0 rest))
    from (inl h) = inl ((adds x).1 (inl h))
    from (inr i) = elim (in_parts x (ids_from (later_id id skip) part) (take (want - part) rest) (subst (IsIn x) same i)) [
      | inl j ↦ inl ((adds x).1 (inr (row_has (later_id id skip) part x j)))
      | inr j ↦ inr j
    ]

-- ---- lemmas for callers: the whole range

-- an id of a set is in range
in_range : (ids : List Span) (x : Id) → AreMaximal ids → HasId ids x → IsSpan (row_span x 1)
in_range [] x m h = absurd h
in_range (s ∷ ss) x m (inl h) = record { client = subst (λ n. n < 2 ^ 53) h.0 m.0.client; end = omega (arith, h.2, m.0.end) }
in_range (s ∷ ss) x m (inr h) = in_range ss x m.3 h

abbrev pub spans_of : List Operation → List Span
spans_of os = map (λ (o : Operation). record { client = o.id.client; clock = o.id.clock; len = 1 }) os

spans_have : (os : List Operation) (x : Id) → IsIn x (map (λ (o : Operation). o.id) os) → HasId (spans_of os) x
spans_have [] x i = absurd i
spans_have (o ∷ os) x (inl e) = inl (ap (λ (y : Id). y.client.0) (sym e), omega (arith, ap (λ (y : Id). y.clock) e), omega (arith, ap (λ (y : Id). y.clock) e))
spans_have (o ∷ os) x (inr i) = inr (spans_have os x i)

have_spans : (os : List Operation) (x : Id) → HasId (spans_of os) x → IsIn x (map (λ (o : Operation). o.id) os)
have_spans [] x h = absurd h
have_spans (o ∷ os) x (inl h) = inl (same_numbers x o.id (sym h.0) (omega (arith, h.1, h.2)))
have_spans (o ∷ os) x (inr h) = inr (have_spans os x h)

all_spans : (os : List Operation) → ((x : Id) → IsIn x (map (λ (o : Operation). o.id) os) → IsSpan (row_span x 1)) → Each IsSpan (spans_of os)
all_spans [] f = tt
all_spans (o ∷ os) f = (f o.id (inl refl), all_spans os (λ x i. f x (inr i)))

-- a set with just the ids of units is theirs
pub ids_are : (ids : List Span) (units : List Operation) → AreMaximal ids → ((x : Id) → HasId ids x ↔ IsIn x (map (λ (o : Operation). o.id) units)) → ids ≡ ids_of_units units
ids_are ids units maximal same = set_of_alone (spans_of units) ids
    (all_spans units (λ x i. in_range ids x maximal ((same x).1 i))) maximal
    (λ x. ((λ h. spans_have units x ((same x).0 h)), (λ h. (same x).1 (have_spans units x h))))

-- a set with just the ids of the range is that of its units
pub range_is : (ids : List Span) (document : Document) (name : DocList) (index len : ℕ) → AreMaximal ids →
    ((x : Id) → HasId ids x ↔ IsIn x (take len (drop index (counted_ids (lent_units document name))))) → ids ≡ ids_of_units (take len (drop index (counted_units document name)))
range_is ids document name index len maximal same = ids_are ids (take len (drop index (counted_units document name))) maximal
    (λ x. ((λ h. subst (IsIn x) are ((same x).0 h)), (λ i. (same x).1 (subst (IsIn x) (sym are) i))))
  where
    are : take len (drop index (counted_ids (lent_units document name))) ≡ map (λ (o : Operation). o.id) (take len (drop index (counted_units document name)))
    are = ap (λ xs. take len (drop index xs)) (counted_lent document.deleted (document.units name))
        ∙ ap (take len) (drop-map (λ (o : Operation). o.id) index (counted_units document name))
        ∙ take-map (λ (o : Operation). o.id) len (drop index (counted_units document name))

-- ---- lemmas for callers: the loop

-- at first nothing is had
pub nothing_taken : (ids : List Span) → ids ≡ [] → (wanted : List Id) (x : Id) → (HasId ids x ⊎ IsIn x wanted) ↔ IsIn x wanted
nothing_taken ids e wanted x = ((λ h. elim h [ inl i ↦ absurd (subst (λ spans. HasId spans x) e i) | inr i ↦ i ]), inr)

-- a piece more
pub more_taken : (old new : List Span) (row before behind : List Id) (skip want skip_then want_then : ℕ) → before ≡ row ++ behind →
    TakesRange old new row skip want skip_then want_then → (x : Id) (P : Type 0) → (HasId old x ⊎ IsIn x (take want (drop skip before))) ↔ P →
    (HasId new x ⊎ IsIn x (take want_then (drop skip_then behind))) ↔ P
more_taken old new row before behind skip want skip_then want_then e takes x P so_far =
    ((λ h. so_far.0 (back ((takes behind x).0 h))), (λ p. (takes behind x).1 (forth (so_far.1 p))))
  where
    back : HasId old x ⊎ IsIn x (take want (drop skip (row ++ behind))) → HasId old x ⊎ IsIn x (take want (drop skip before))
    back (inl h) = inl h
    back (inr i) = inr (subst (λ ids. IsIn x (take want (drop skip ids))) (sym e) i)

    forth : HasId old x ⊎ IsIn x (take want (drop skip before)) → HasId old x ⊎ IsIn x (take want (drop skip (row ++ behind)))
    forth (inl h) = inl h
    forth (inr i) = inr (subst (λ ids. IsIn x (take want (drop skip ids))) e i)

-- at last nothing comes
pub nothing_left : (ids : List Span) (left : List Lent) → left ≡ [] → (skip want : ℕ) (x : Id) (P : Type 0) →
    (HasId ids x ⊎ IsIn x (take want (drop skip (counted_ids left)))) ↔ P → HasId ids x ↔ P
nothing_left ids left e skip want x P so_far = ((λ h. so_far.0 (inl h)), (λ p. elim (so_far.1 p) [ inl h ↦ h | inr i ↦ absurd (empty skip want (subst (λ us. IsIn x (take want (drop skip (counted_ids us)))) e i)) ]))
  where
    empty : (s w : ℕ) → IsIn x (take w (drop s [])) → ⊥
    empty zero zero i = i
    empty zero (suc w) i = i
    empty (suc s) zero i = i
    empty (suc s) (suc w) i = i

-- where no more is wanted, all is had
pub nothing_wanted : (ids : List Span) (left : List Id) (skip want : ℕ) → want ≡ 0 → (x : Id) (P : Type 0) → (HasId ids x ⊎ IsIn x (take want (drop skip left))) ↔ P → HasId ids x ↔ P
nothing_wanted ids left skip want e x P so_far =
    ((λ h. so_far.0 (inl h)), (λ p. elim (so_far.1 p) [ inl h ↦ h | inr i ↦ absurd (subst (λ w. IsIn x (take w (drop skip left))) e i) ]))

-- ---- from the back

nothing_of_none : (s w : ℕ) → take {A = Id} w (drop s []) ≡ []
nothing_of_none zero zero = refl
nothing_of_none zero (suc w) = refl
nothing_of_none (suc s) zero = refl
nothing_of_none (suc s) (suc w) = refl

nothing_past : (ids : List Id) (s w : ℕ) → length ids ≤ s → take w (drop s ids) ≡ []
nothing_past [] s w le = nothing_of_none s w
nothing_past (x ∷ xs) zero w le = absurd (omega (arith, le))
nothing_past (x ∷ xs) (suc s) w le = nothing_past xs s w (omega (arith, le))

-- a range of two parts
range_parts : (xs row : List Id) (index len : ℕ) →
    take len (drop index (xs ++ row)) ≡ take len (drop index xs) ++ take (len - (length xs - index)) (drop (index - length xs) row)
range_parts [] row index len = ap₂ (λ k j. take k (drop j row)) a b ∙ ap (λ ys. ys ++ take (len - (0 - index)) (drop (index - 0) row)) (sym (nothing_of_none index len))
  where
    a : len ≡ len - (0 - index)
    a = omega arith

    b : index ≡ index - 0
    b = omega arith
range_parts (x ∷ xs) row zero zero = ap (λ k. take k (drop (0 - suc (length xs)) row)) a
  where
    a : 0 ≡ 0 - (suc (length xs) - 0)
    a = omega arith
range_parts (x ∷ xs) row zero (suc len) = ap (λ ys. x ∷ ys) (range_parts xs row zero len ∙ ap₂ (λ k j. take len xs ++ take k (drop j row)) a b)
  where
    a : len - (length xs - 0) ≡ suc len - (suc (length xs) - 0)
    a = omega arith

    b : 0 - length xs ≡ 0 - suc (length xs)
    b = omega arith
range_parts (x ∷ xs) row (suc index) len = range_parts xs row index len ∙ ap₂ (λ k j. take len (drop index xs) ++ take k (drop j row)) a b
  where
    a : len - (length xs - index) ≡ len - (suc (length xs) - suc index)
    a = omega arith

    b : index - length xs ≡ suc index - suc (length xs)
    b = omega arith

-- a part of a row
row_part : (id : Id) (n s k part : ℕ) → part ≤ n - s → part ≤ k → (part ≡ n - s) ⊎ (part ≡ k) → take k (drop s (ids_from id n)) ≡ ids_from (later_id id s) part
row_part id n s k part a b c = ap (λ ids. take k (drop s ids)) (sym (append-nil (ids_from id n))) ∙ elim (in_or_past s n) [
  | inl le ↦ ap (take k) (drop_row id n s [] le) ∙ take_row (later_id id s) (n - s) part k [] a b c
      ∙ ap (λ ys. ids_from (later_id id s) part ++ ys) (nothing_of_none 0 (k - part)) ∙ append-nil (ids_from (later_id id s) part)
  | inr lt ↦ ap (take k) (pass_row id n s [] (omega (arith, lt))) ∙ nothing_of_none (s - n) k ∙ ap (ids_from (later_id id s)) (none a lt)
]
  where
    in_or_past : (a b : ℕ) → (a ≤ b) ⊎ (b < a)
    in_or_past zero b = inl (omega arith)
    in_or_past (suc a) zero = inr (omega arith)
    in_or_past (suc a) (suc b) = elim (in_or_past a b) [ inl le ↦ inl (omega (arith, le)) | inr lt ↦ inr (omega (arith, lt)) ]

    none : part ≤ n - s → n < s → 0 ≡ part
    none le lt = omega (arith, le, lt)

module _ (old : List Span) (row : List Id) (id : Id) (n before index len part : ℕ) (e : row ≡ ids_from id n) (a : part ≤ n - (index - before))
    (b : part ≤ len - (before - index)) (c : (part ≡ n - (index - before)) ⊎ (part ≡ len - (before - index))) where
  part_is : take (len - (before - index)) (drop (index - before) row) ≡ ids_from (later_id id (index - before)) part
  part_is = ap (λ r. take (len - (before - index)) (drop (index - before) r)) e ∙ row_part id n (index - before) (len - (before - index)) part a b c

  -- no unit of a piece is in a range
  pub no_part : part ≡ 0 → TakesPart old old row before index len
  no_part e0 x = (inl, (λ h. elim h [ inl i ↦ i | inr i ↦ absurd (subst (IsIn x) (part_is ∙ ap (ids_from (later_id id (index - before))) e0) i) ]))

  -- some are
  pub some_part : (new : List Span) → AddsSpan old new (row_span (later_id id (index - before)) part) → TakesPart old new row before index len
  some_part new adds x = (
    (λ h. elim ((adds x).0 h) [ inl i ↦ inl i | inr i ↦ inr (subst (IsIn x) (sym part_is) (in_row (later_id id (index - before)) part x i)) ]),
    (λ h. elim h [ inl i ↦ (adds x).1 (inl i) | inr i ↦ (adds x).1 (inr (row_has (later_id id (index - before)) part x (subst (IsIn x) part_is i))) ]),
  )

-- a piece less at the end
pub part_taken : (old new : List Span) (front row all : List Id) (before index len : ℕ) → all ≡ front ++ row → before ≡ length front → TakesPart old new row before index len →
    (x : Id) (P : Type 0) → (HasId old x ⊎ IsIn x (take len (drop index all))) ↔ P → (HasId new x ⊎ IsIn x (take len (drop index front))) ↔ P
part_taken old new front row all before index len e f takes x P so_far = (to, from)
  where
    part : List Id
    part = take (len - (before - index)) (drop (index - before) row)

    same : take len (drop index all) ≡ take len (drop index front) ++ part
    same = ap (λ ids. take len (drop index ids)) e ∙ range_parts front row index len
        ∙ ap (λ m. take len (drop index front) ++ take (len - (m - index)) (drop (index - m) row)) (sym f)

    to : HasId new x ⊎ IsIn x (take len (drop index front)) → P
    to (inl h) = so_far.0 (elim ((takes x).0 h) [ inl i ↦ inl i | inr i ↦ inr (subst (IsIn x) (sym same) (in_right_part x (take len (drop index front)) part i)) ])
    to (inr i) = so_far.0 (inr (subst (IsIn x) (sym same) (in_left_part x (take len (drop index front)) part i)))

    from : P → HasId new x ⊎ IsIn x (take len (drop index front))
    from p = elim (so_far.1 p) [
      | inl h ↦ inl ((takes x).1 (inl h))
      | inr i ↦ elim (in_parts x (take len (drop index front)) part (subst (IsIn x) same i)) [
        | inl j ↦ inr j
        | inr j ↦ inl ((takes x).1 (inr j))
      ]
    ]

-- before the range nothing is wanted
pub nothing_before : (ids : List Span) (left : List Id) (index len : ℕ) → length left ≤ index → (x : Id) (P : Type 0) →
    (HasId ids x ⊎ IsIn x (take len (drop index left))) ↔ P → HasId ids x ↔ P
nothing_before ids left index len le x P so_far =
    ((λ h. so_far.0 (inl h)), (λ p. elim (so_far.1 p) [ inl h ↦ h | inr i ↦ absurd (subst (IsIn x) (nothing_past left index len le) i) ]))
