-- An insertion: the span is joined with one after another, and is put between the others.
use Rattle.std.proofs.Common.{◌≡◌, ℕ, zero, suc, ◌+◌, ◌-◌, ◌<◌, ◌≤◌, ◌⊎◌, ◌↔◌, List, [], ◌∷◌, ◌++◌, length, get_or, take, drop, inl, inr, refl, sym, ap, ◌∙◌, subst, arith}
use Rattle.std.proofs.lemmas.Bool.{cases_lt}
use Rattle.std.proofs.lemmas.List.{drop_more, take-append-drop, get_or_default}
use Rattle.yd_words.specs.Each.{Each}
use Rattle.yd_words.proofs.EachLemmas.{each_weaker, each_both, each_at}
use Rattle.yd_ids.specs.declared.id.Id.{Id}
use Rattle.yd_ids.specs.declared.id.Span.{Span}
use Rattle.yd_ids.specs.Id.{IsSpan}
use Rattle.yd_ids.specs.Inserting.{IsPlace, JoinsUpTo}
use Rattle.yd_ids.specs.Set.{HasId, AreMaximal, AddsSpan}
use Rattle.yd_ids.specs.Span.{InSpan, EndsBefore, Reaches, ReachesInto, BeginsBy, joined}
use Rattle.yd_ids.proofs.SetLemmas.{span_at, apart_at, after_at, before_at, maximal_front, maximal_back, maximal_around, has_front, has_either}
use Rattle.yd_ids.proofs.SpanLemmas.{before_begins, not_both, touch_client, joined_span, joined_some, before_joined, reaches_joined, joined_reaches, joined_before, joined_again, joined_over, in_joined}

-- the span so far, of which some are still to be tried
pub record IsJoining (spans : List Span) (from : ℕ) (span : Span) (to : ℕ) (whole : Span) : Type 0 where
  pub bound : (from ≤ to) × (to ≤ length spans)
  pub is_span : IsSpan whole × (0 < whole.len)
  pub before : Each (λ front. EndsBefore front whole) (take from spans)
  pub behind : Each (λ next. Reaches next whole.client.0 whole.clock) (drop to spans)
  pub ids : (id : Id) → (InSpan whole id ⊎ HasId (drop to spans) id) ↔ (InSpan span id ⊎ HasId (drop from spans) id)

pub regroup : {A B C J S : Type 0} → (A ⊎ (B ⊎ C)) ↔ S → J ↔ (A ⊎ B) → (J ⊎ C) ↔ S
regroup {A} {B} {C} {J} {S} f g = (there, back)
  where
    there : J ⊎ C → S
    there (inl j) = elim (g.0 j) [ inl a ↦ f.0 (inl a) | inr b ↦ f.0 (inr (inl b)) ]
    there (inr c) = f.0 (inr (inr c))

    sort : A ⊎ (B ⊎ C) → J ⊎ C
    sort (inl a) = inl (g.1 (inl a))
    sort (inr (inl b)) = inl (g.1 (inr b))
    sort (inr (inr c)) = inr c

    back : S → J ⊎ C
    back s = sort (f.1 s)

in_front : (P : Span → Type 0) (xs : List Span) (n k : ℕ) (d : Span) → Each P (take n xs) → k < n → k < length xs → P (get_or xs k d)
in_front P xs zero k d h lt le = absurd (omega arith)
in_front P [] (suc n) k d h lt le = absurd (omega arith)
in_front P (x ∷ xs) (suc n) zero d h lt le = h.0
in_front P (x ∷ xs) (suc n) (suc k) d h lt le = in_front P xs n k d h.1 (omega arith) (omega arith)

in_back : (P : Span → Type 0) (xs : List Span) (n k : ℕ) (d : Span) → Each P (drop n xs) → n ≤ k → k < length xs → P (get_or xs k d)
in_back P xs zero k d h le lt = each_at P xs k d h lt
in_back P [] (suc n) k d h le lt = absurd (omega arith)
in_back P (x ∷ xs) (suc n) zero d h le lt = absurd (omega arith)
in_back P (x ∷ xs) (suc n) (suc k) d h le lt = in_back P xs n k d h (omega arith) (omega arith)

-- ---- one after another

pub joining_begins : (xs : List Span) (from : ℕ) (s : Span) → IsSpan s × (0 < s.len) → from ≤ length xs → IsPlace xs from s → IsJoining xs from s from s
joining_begins xs from s is le p = record { bound = (omega arith, le); is_span = is; before = p.before; behind = p.behind; ids = λ id. ((λ h. h), (λ h. h)) }

pub joining_goes_on : (xs : List Span) (from : ℕ) (s : Span) (to : ℕ) (w d : Span) → AreMaximal xs → IsJoining xs from s to w → to < length xs → Reaches w (get_or xs to d).client.0 (get_or xs to d).clock →
    IsJoining xs from s (to + 1) (joined w (get_or xs to d))
joining_goes_on xs from s to w d m j lt touches =
    let t = get_or xs to d in
    let rest = drop_more xs to d lt in
    let behind : Each (λ next. Reaches next w.client.0 w.clock) (get_or xs to d ∷ drop (to + 1) xs) = subst (Each (λ next. Reaches next w.client.0 w.clock)) rest j.behind in
    let same = touch_client w (get_or xs to d) touches behind.0 in
    let bound = j.bound in
    record {
      bound = (omega arith, omega arith);
      is_span = (joined_span w (get_or xs to d) j.is_span.0 (span_at xs to d m lt).0, joined_some w (get_or xs to d) j.is_span.1);
      before = each_both (λ u. EndsBefore u w) (λ u. EndsBefore u (get_or xs to d)) (λ u. EndsBefore u (joined w (get_or xs to d))) (λ u p q. before_joined u w (get_or xs to d) same p q) (take from xs) j.before
          (before_at xs from to d m bound.0 lt);
      behind = each_weaker (λ next. Reaches next w.client.0 w.clock) (λ next. Reaches next (joined w (get_or xs to d)).client.0 (joined w (get_or xs to d)).clock) (λ u p. reaches_joined u w (get_or xs to d) p) (drop (to + 1) xs) behind.1;
      ids = λ id. regroup (subst (λ ys. (InSpan w id ⊎ HasId ys id) ↔ (InSpan s id ⊎ HasId (drop from xs) id)) rest (j.ids id)) (in_joined w (get_or xs to d) id touches behind.0);
    }

pub joining_ends : (xs : List Span) (from : ℕ) (s : Span) (to : ℕ) (w : Span) → IsJoining xs from s to w → Each (EndsBefore w) (drop to xs) → JoinsUpTo xs from s to w
joining_ends xs from s to w j e = record { bound = j.bound; is_span = j.is_span; before = j.before; behind = e; ids = j.ids }

pub place_before : (xs : List Span) (from to : ℕ) (s : Span) → IsPlace xs from s → to ≤ length xs → Each (EndsBefore s) (drop to xs) → from ≤ length xs → from ≤ to
place_before xs from to s p le behind bound = elim (cases_lt to from) [
  | inl lt ↦ absurd (not_both (get_or xs to s) s (in_front (λ u. EndsBefore u s) xs from to s p.before lt (omega arith)) (in_back (EndsBefore s) xs to to s behind (omega arith) (omega arith)))
  | inr ge ↦ ge
]

-- where the span reaches none from its place on, it stays as it is
pub joins_none : (xs : List Span) (from to : ℕ) (s : Span) → IsSpan s × (0 < s.len) → from ≤ length xs → IsPlace xs from s → from ≡ to → Each (EndsBefore s) (drop to xs) → JoinsUpTo xs from s to s
joins_none xs from to s is le p e behind =
    subst (λ k. JoinsUpTo xs from s k s) e (joining_ends xs from s from s (joining_begins xs from s is le p) (subst (λ k. Each (EndsBefore s) (drop k xs)) (sym e) behind))

module _ (xs : List Span) (from : ℕ) (s f : Span) (m : AreMaximal xs) (is : IsSpan s × (0 < s.len)) (p : IsPlace xs from s) (first : f ≡ get_or xs from f) where
  touches : (k : ℕ) → from ≤ k → k < length xs → ReachesInto s (get_or xs k f) → s.client.0 ≡ (get_or xs k f).client.0
  touches k le lt reach = touch_client s (get_or xs k f) reach (in_back (λ next. Reaches next s.client.0 s.clock) xs from k f p.behind le lt)

  -- those up to a place, joined with the first and the last of them
  joining_reaches : (n k : ℕ) → k ≡ from + n → k < length xs → ((j : ℕ) → j ≤ k → ReachesInto s (get_or xs j f)) → IsJoining xs from s (k + 1) (joined (joined s f) (get_or xs k f))
  joining_reaches zero k e lt reach =
      let here : k ≡ from = omega arith in
      let same : f ≡ get_or xs k f = first ∙ ap (λ j. get_or xs j f) (sym here) in
      let begun : IsJoining xs from s k s = subst (λ j. IsJoining xs from s j s) (sym here) (joining_begins xs from s is (omega arith) p) in
      let one = joining_goes_on xs from s k s f m begun lt (reach k (omega arith)) in
      subst (IsJoining xs from s (k + 1)) (sym (joined_again s (get_or xs k f)) ∙ ap (λ u. joined (joined s u) (get_or xs k f)) (sym same)) one
  joining_reaches (suc n) k e lt reach =
      let k' = from + n in
      let next : k' + 1 ≡ k = omega arith in
      let before = joining_reaches n k' refl (omega arith) (λ j le. reach j (omega arith)) in
      let w = joined (joined s f) (get_or xs k' f) in
      let j : IsJoining xs from s k w = subst (λ i. IsJoining xs from s i w) next before in
      let on = joining_goes_on xs from s k w f m j lt (joined_reaches (joined s f) (get_or xs k' f) (get_or xs k f) (joined_reaches s f (get_or xs k f) (reach k (omega arith)))) in
      let over = joined_over s f (get_or xs k' f) (get_or xs k f)
      (touches from (omega arith) (omega arith) (reach from (omega arith)) ∙ ap (λ u. u.client.0) (sym first))
      (touches k' (omega arith) (omega arith) (reach k' (omega arith))) (touches k (omega arith) lt (reach k (omega arith))) (begins k' (omega arith) (omega arith)) (apart_at xs k' k f m (omega arith) lt) in
      subst (IsJoining xs from s (k + 1)) over on
    where
      begins : (i : ℕ) → from ≤ i → i < length xs → BeginsBy f (get_or xs i f)
      begins i le less = elim (cases_lt from i) [
        | inl more ↦ subst (λ u. BeginsBy u (get_or xs i f)) (sym first) (before_begins (get_or xs from f) (get_or xs i f) (apart_at xs from i f m more less))
        | inr ge ↦ let here : i ≡ from = omega arith in inr (ap (λ u. u.client.0) (first ∙ ap (λ j. get_or xs j f) (sym here)), omega (arith, ap (λ u. u.clock) (first ∙ ap (λ j. get_or xs j f) (sym here))))
      ]

  pub joins_between : (to : ℕ) (l : Span) → from < to → to ≤ length xs → l ≡ get_or xs (to - 1) l → Each (ReachesInto s) (take to xs) → Each (EndsBefore s) (drop to xs) →
      JoinsUpTo xs from s to (joined (joined s f) l)
  joins_between to l lt le last front behind =
      let k = to - 1 in
      let next : k + 1 ≡ to = omega arith in
      let reach : (j : ℕ) → j ≤ k → ReachesInto s (get_or xs j f) = λ j h. in_front (ReachesInto s) xs to j f front (omega arith) (omega arith) in
      let same : get_or xs k f ≡ l = get_or_default xs k f l (omega arith) ∙ sym last in
      let w = joined (joined s f) (get_or xs k f) in
      let joining : IsJoining xs from s to w = subst (λ i. IsJoining xs from s i w) next (joining_reaches (k - from) k (omega arith) (omega arith) reach) in
      let low : s.client.0 ≡ f.client.0 = touches from (omega arith) (omega arith) (reach from (omega arith)) ∙ ap (λ u. u.client.0) (sym first) in
      let high : s.client.0 ≡ (get_or xs k f).client.0 = touches k (omega arith) (omega arith) (reach k (omega arith)) in
      let ends : Each (EndsBefore w) (drop to xs) = each_both (EndsBefore (joined s f)) (EndsBefore (get_or xs k f)) (EndsBefore w) (λ u a b. joined_before (joined s f) (get_or xs k f) u high a b) (drop to xs)
      (each_both (EndsBefore s) (EndsBefore f) (EndsBefore (joined s f)) (λ u a b. joined_before s f u low a b) (drop to xs) behind
      (subst (λ u. Each (EndsBefore u) (drop to xs)) (sym first) (after_at xs from to f m lt)))
      (after_at xs k to f m (omega arith)) in
      subst (λ u. JoinsUpTo xs from s to (joined (joined s f) u)) same (joining_ends xs from s to w joining ends)

-- ---- lemmas for callers

pub inserted_maximal : (xs : List Span) (from : ℕ) (s : Span) (to : ℕ) (w : Span) → AreMaximal xs → JoinsUpTo xs from s to w → AreMaximal (take from xs ++ w ∷ drop to xs)
inserted_maximal xs from s to w m j = maximal_around (take from xs) w (drop to xs) (maximal_front xs from m) (maximal_back xs to m) j.is_span.0 j.is_span.1 j.before j.behind

pub inserted_ids : (xs : List Span) (from : ℕ) (s : Span) (to : ℕ) (w : Span) → JoinsUpTo xs from s to w → AddsSpan xs (take from xs ++ w ∷ drop to xs) s
inserted_ids xs from s to w j id = (there, back)
  where
    whole : (ys : List Span) → take from xs ++ drop from xs ≡ ys → HasId (take from xs) id ⊎ HasId (drop from xs) id → HasId ys id
    whole ys e h = subst (λ zs. HasId zs id) e (has_either (take from xs) (drop from xs) id h)

    parts : HasId xs id → HasId (take from xs) id ⊎ HasId (drop from xs) id
    parts h = has_front (take from xs) (drop from xs) id (subst (λ zs. HasId zs id) (sym (take-append-drop from xs)) h)

    there : HasId (take from xs ++ w ∷ drop to xs) id → HasId xs id ⊎ InSpan s id
    there h = elim (has_front (take from xs) (w ∷ drop to xs) id h) [
      | inl a ↦ inl (whole xs (take-append-drop from xs) (inl a))
      | inr b ↦ elim ((j.ids id).0 b) [ inl i ↦ inr i | inr k ↦ inl (whole xs (take-append-drop from xs) (inr k)) ]
    ]

    back : HasId xs id ⊎ InSpan s id → HasId (take from xs ++ w ∷ drop to xs) id
    back (inr i) = has_either (take from xs) (w ∷ drop to xs) id (inr ((j.ids id).1 (inl i)))
    back (inl h) = elim (parts h) [
      | inl a ↦ has_either (take from xs) (w ∷ drop to xs) id (inl a)
      | inr k ↦ has_either (take from xs) (w ∷ drop to xs) id (inr ((j.ids id).1 (inr k)))
    ]
