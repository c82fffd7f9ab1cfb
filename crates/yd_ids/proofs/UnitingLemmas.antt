-- A union: one span after another, in order of where they begin, is put behind the others.
use Rattle.std.proofs.Common.{◌≡◌, ℕ, zero, suc, ◌+◌, ◌<◌, ◌≤◌, ◌⊎◌, ◌↔◌, Bool, true, false, cond, List, [], ◌∷◌, ◌++◌, length, get_or, set, Some, None, inl, inr, refl, sym, ap, ◌∙◌, subst, arith}
use Rattle.std.proofs.lemmas.List.{get_or_default}
use Rattle.std.specs.Prelude.{slice_get}
use Rattle.std.proofs.lemmas.Option.{same_Some}
use Rattle.yd_words.specs.Each.{Each}
use Rattle.yd_words.proofs.EachLemmas.{each_weaker, each_both}
use Rattle.yd_ids.specs.declared.id.Id.{Id}
use Rattle.yd_ids.specs.declared.id.Span.{Span}
use Rattle.yd_ids.specs.Id.{IsSpan}
use Rattle.yd_ids.specs.Set.{HasId, AreMaximal, AddsSpans}
use Rattle.yd_ids.specs.Span.{InSpan, Reaches, ends_below, EndsBefore, BeginsBy, joined}
use Rattle.yd_ids.specs.Uniting.{BeginsFirst, TakesNext, with_last}
use Rattle.yd_ids.proofs.SetLemmas.{begins_by_all}
use Rattle.yd_ids.proofs.SpanLemmas.{below_true, below_false, before_by, before_begins, by_reaches, touch_client, joined_span, joined_some, before_joined, joined_by, in_joined}

-- ---- the code's two ways

pub last_joined : (xs : List Span) (n : ℕ) (d s : Span) → n + 1 ≡ length xs → ends_below (get_or xs n d) s.client.0 s.clock ≡ false → set xs n (joined (get_or xs n d) s) ≡ with_last xs s
last_joined [] n d s e f = absurd (omega arith)
last_joined (x ∷ []) zero d s e f = rw f
last_joined (x ∷ []) (suc n) d s e f = absurd (omega arith)
last_joined (x ∷ y ∷ xs) zero d s e f = absurd (omega arith)
last_joined (x ∷ y ∷ xs) (suc n) d s e f = ap (λ zs. x ∷ zs) (last_joined (y ∷ xs) n d s (omega arith) f)

pub last_pushed : (xs : List Span) (n : ℕ) (d s : Span) → n + 1 ≡ length xs → ends_below (get_or xs n d) s.client.0 s.clock ≡ true → xs ++ s ∷ [] ≡ with_last xs s
last_pushed [] n d s e f = absurd (omega arith)
last_pushed (x ∷ []) zero d s e f = rw f
last_pushed (x ∷ []) (suc n) d s e f = absurd (omega arith)
last_pushed (x ∷ y ∷ xs) zero d s e f = absurd (omega arith)
last_pushed (x ∷ y ∷ xs) (suc n) d s e f = ap (λ zs. x ∷ zs) (last_pushed (y ∷ xs) n d s (omega arith) f)

pub first_pushed : (xs : List Span) (s : Span) → length xs ≤ 0 → xs ++ s ∷ [] ≡ with_last xs s
first_pushed [] s le = refl
first_pushed (x ∷ xs) s le = absurd (omega arith)

-- the same, as the code reads them
pub joined_there : (xs : List Span) (n : ℕ) (a b s w : Span) (t : Bool) → n + 1 ≡ length xs → a ≡ get_or xs n a → b ≡ get_or xs n b → t ≡ ends_below a s.client.0 s.clock → t ≡ false → w ≡ joined b s → set xs n w ≡ with_last xs s
joined_there xs n a b s w t len p q e f g =
    let same : a ≡ get_or xs n b = p ∙ get_or_default xs n a b (omega arith) in
    ap (set xs n) (g ∙ ap (λ z. joined z s) q) ∙ last_joined xs n b s len (subst (λ z. ends_below z s.client.0 s.clock ≡ false) same (sym e ∙ f))

pub pushed_there : (xs : List Span) (n : ℕ) (a s : Span) (t : Bool) → n + 1 ≡ length xs → a ≡ get_or xs n a → t ≡ ends_below a s.client.0 s.clock → t ≡ true → xs ++ s ∷ [] ≡ with_last xs s
pushed_there xs n a s t len p e f = last_pushed xs n a s len (subst (λ z. ends_below z s.client.0 s.clock ≡ true) p (sym e ∙ f))

-- ---- what one span more keeps

-- all begin where this one does, or before
abbrev pub AllBy : List Span → Span → Type 0
AllBy xs t = Each (λ u. BeginsBy u t) xs

-- one that begins by another and is not before it touches it
touching : (y s : Span) → BeginsBy y s → Reaches y s.client.0 s.clock → y.client.0 ≡ s.client.0
touching y s by r = touch_client y s r (by_reaches y s by)

pub with_by : (xs : List Span) (s t : Span) → AllBy xs t → BeginsBy s t → AllBy (with_last xs s) t
with_by [] s t h b = (b, tt)
with_by (x ∷ []) s t h b = go (ends_below x s.client.0 s.clock)
  where
    go : (e : Bool) → AllBy (cond e (x ∷ s ∷ []) (joined x s ∷ [])) t
    go true = (h.0, (b, tt))
    go false = (joined_by x s t h.0, tt)
with_by (x ∷ y ∷ xs) s t h b = (h.0, with_by (y ∷ xs) s t h.1 b)

before_with : (r y : Span) (xs : List Span) (s : Span) → Each (EndsBefore r) (y ∷ xs) → AllBy (y ∷ xs) s → Each (EndsBefore r) (with_last (y ∷ xs) s)
before_with r y [] s h b = go (ends_below y s.client.0 s.clock) refl
  where
    go : (e : Bool) → ends_below y s.client.0 s.clock ≡ e → Each (EndsBefore r) (cond e (y ∷ s ∷ []) (joined y s ∷ []))
    go true e = (h.0, (before_by r y s h.0 b.0, tt))
    go false e = (before_joined r y s (touching y s b.0 (below_false y s.client.0 s.clock e)) h.0 (before_by r y s h.0 b.0), tt)
before_with r y (z ∷ xs) s h b = (h.0, before_with r z xs s h.1 b.1)

pub with_maximal : (xs : List Span) (s : Span) → AreMaximal xs → IsSpan s → 0 < s.len → AllBy xs s → AreMaximal (with_last xs s)
with_maximal [] s m is some b = (is, some, tt, tt)
with_maximal (x ∷ []) s m is some b = go (ends_below x s.client.0 s.clock) refl
  where
    go : (e : Bool) → ends_below x s.client.0 s.clock ≡ e → AreMaximal (cond e (x ∷ s ∷ []) (joined x s ∷ []))
    go true e = (m.0, m.1, (below_true x s.client.0 s.clock e, tt), (is, some, tt, tt))
    go false e = (joined_span x s m.0 is, joined_some x s m.1, tt, tt)
with_maximal (x ∷ y ∷ xs) s m is some b = (m.0, m.1, before_with x y xs s m.2 b.1, with_maximal (y ∷ xs) s m.3 is some b.1)

pub with_has : (xs : List Span) (s : Span) (id : Id) → AllBy xs s → HasId (with_last xs s) id → HasId xs id ⊎ InSpan s id
with_has [] s id b (inl i) = inr i
with_has [] s id b (inr h) = absurd h
with_has (x ∷ []) s id b h = go (ends_below x s.client.0 s.clock) refl h
  where
    go : (e : Bool) → ends_below x s.client.0 s.clock ≡ e → HasId (cond e (x ∷ s ∷ []) (joined x s ∷ [])) id → HasId (x ∷ []) id ⊎ InSpan s id
    go true e (inl i) = inl (inl i)
    go true e (inr (inl i)) = inr i
    go true e (inr (inr k)) = absurd k
    go false e (inl i) = elim ((in_joined x s id (below_false x s.client.0 s.clock e) (by_reaches x s b.0)).0 i) [ inl a ↦ inl (inl a) | inr k ↦ inr k ]
    go false e (inr k) = absurd k
with_has (x ∷ y ∷ xs) s id b (inl i) = inl (inl i)
with_has (x ∷ y ∷ xs) s id b (inr h) = elim (with_has (y ∷ xs) s id b.1 h) [ inl a ↦ inl (inr a) | inr k ↦ inr k ]

pub has_with : (xs : List Span) (s : Span) (id : Id) → AllBy xs s → HasId xs id ⊎ InSpan s id → HasId (with_last xs s) id
has_with [] s id b (inl h) = absurd h
has_with [] s id b (inr i) = inl i
has_with (x ∷ []) s id b h = go (ends_below x s.client.0 s.clock) refl h
  where
    go : (e : Bool) → ends_below x s.client.0 s.clock ≡ e → HasId (x ∷ []) id ⊎ InSpan s id → HasId (cond e (x ∷ s ∷ []) (joined x s ∷ [])) id
    go true e (inl (inl i)) = inl i
    go true e (inl (inr k)) = absurd k
    go true e (inr i) = inr (inl i)
    go false e (inl (inl i)) = inl ((in_joined x s id (below_false x s.client.0 s.clock e) (by_reaches x s b.0)).1 (inl i))
    go false e (inl (inr k)) = absurd k
    go false e (inr i) = inl ((in_joined x s id (below_false x s.client.0 s.clock e) (by_reaches x s b.0)).1 (inr i))
has_with (x ∷ y ∷ xs) s id b (inl (inl i)) = inl i
has_with (x ∷ y ∷ xs) s id b (inl (inr h)) = inr (has_with (y ∷ xs) s id b.1 (inl h))
has_with (x ∷ y ∷ xs) s id b (inr i) = inr (has_with (y ∷ xs) s id b.1 (inr i))

-- ---- which span comes next

pub begins_first : (xs ys : List Span) (s t : Span) → Some s ≡ slice_get xs 0 → Some t ≡ slice_get ys 0 → AreMaximal ys → BeginsBy s t → BeginsFirst xs ys
begins_first [] ys s t e f m b = absurd cc
begins_first (x ∷ xs) [] s t e f m b = absurd cc
begins_first (x ∷ xs) (y ∷ ys) s t e f m b = begins_by_all x y ys m (subst (BeginsBy x) (same_Some t y f) (subst (λ u. BeginsBy u t) (same_Some s x e) b))

pub alone_first : (xs ys : List Span) (s : Span) → Some s ≡ slice_get xs 0 → None ≡ slice_get ys 0 → BeginsFirst xs ys
alone_first [] ys s e f = absurd cc
alone_first (x ∷ xs) [] s e f = tt
alone_first (x ∷ xs) (y ∷ ys) s e f = absurd cc

pub other_first : (xs ys : List Span) → None ≡ slice_get xs 0 → BeginsFirst ys xs ⊎ ((xs ≡ []) × (ys ≡ []))
other_first [] [] e = inr (refl, refl)
other_first [] (y ∷ ys) e = inl tt
other_first (x ∷ xs) ys e = absurd cc

-- ---- the merge

-- the spans so far, of which some of both lists are still to come
pub record IsUniting (left right both lefts rights : List Span) : Type 0 where
  pub lefts_maximal : AreMaximal lefts
  pub rights_maximal : AreMaximal rights
  pub maximal : AreMaximal both
  pub left_order : Each (AllBy both) lefts
  pub right_order : Each (AllBy both) rights
  pub ids : (id : Id) → (HasId both id ⊎ (HasId lefts id ⊎ HasId rights id)) ↔ (HasId left id ⊎ HasId right id)

pub none_before : (xs : List Span) → Each (AllBy []) xs
none_before [] = tt
none_before (x ∷ xs) = (tt, none_before xs)

pub uniting_begins : (left right both : List Span) → AreMaximal left → AreMaximal right → both ≡ [] → IsUniting left right both left right
uniting_begins left right both m n e = subst (λ zs. IsUniting left right zs left right) (sym e) begun
  where
    begun : IsUniting left right [] left right
    begun = record {
      lefts_maximal = m;
      rights_maximal = n;
      maximal = tt;
      left_order = none_before left;
      right_order = none_before right;
      ids = λ id. ((λ h. elim h [ inl k ↦ absurd k | inr k ↦ k ]), (λ h. inr h));
    }

-- an order that the next of one list, and those behind it, keep
pub next_order : (both : List Span) (t : Span) (rest : List Span) → Each (AllBy both) rest → Each (BeginsBy t) rest → Each (AllBy (with_last both t)) rest
next_order both t rest h b = each_both (AllBy both) (BeginsBy t) (AllBy (with_last both t)) (λ u p q. with_by both t u p q) rest h b

left_ids : {B B2 T A R S : Type 0} → B2 ↔ (B ⊎ T) → (B ⊎ ((T ⊎ A) ⊎ R)) ↔ S → (B2 ⊎ (A ⊎ R)) ↔ S
left_ids {B} {B2} {T} {A} {R} {S} f g = (there, λ s. back (g.1 s))
  where
    there : B2 ⊎ (A ⊎ R) → S
    there (inl b) = elim (f.0 b) [ inl x ↦ g.0 (inl x) | inr x ↦ g.0 (inr (inl (inl x))) ]
    there (inr (inl a)) = g.0 (inr (inl (inr a)))
    there (inr (inr r)) = g.0 (inr (inr r))

    back : B ⊎ ((T ⊎ A) ⊎ R) → B2 ⊎ (A ⊎ R)
    back (inl b) = inl (f.1 (inl b))
    back (inr (inl (inl x))) = inl (f.1 (inr x))
    back (inr (inl (inr a))) = inr (inl a)
    back (inr (inr r)) = inr (inr r)

swap_ids : {B A R S : Type 0} → (B ⊎ (A ⊎ R)) ↔ S → (B ⊎ (R ⊎ A)) ↔ S
swap_ids {B} {A} {R} {S} f = ((λ h. f.0 (swap h)), (λ s. swap (f.1 s)))
  where
    swap : {X Y : Type 0} → B ⊎ (X ⊎ Y) → B ⊎ (Y ⊎ X)
    swap (inl b) = inl b
    swap (inr (inl x)) = inr (inr x)
    swap (inr (inr y)) = inr (inl y)

-- the two lists in the other order
flip : (left right both lefts rights : List Span) → IsUniting left right both lefts rights → IsUniting left right both rights lefts
flip left right both lefts rights u = record {
  lefts_maximal = u.rights_maximal;
  rights_maximal = u.lefts_maximal;
  maximal = u.maximal;
  left_order = u.right_order;
  right_order = u.left_order;
  ids = λ id. swap_ids (u.ids id);
}

-- ---- lemmas for callers

pub left_goes_on : (left right both : List Span) (s : Span) (lefts rights : List Span) → IsUniting left right both (s ∷ lefts) rights → Each (BeginsBy s) rights → IsUniting left right (with_last both s) lefts rights
left_goes_on left right both s lefts rights u first = record {
  lefts_maximal = u.lefts_maximal.3;
  rights_maximal = u.rights_maximal;
  maximal = with_maximal both s u.maximal u.lefts_maximal.0 u.lefts_maximal.1 u.left_order.0;
  left_order = next_order both s lefts u.left_order.1 (each_weaker (EndsBefore s) (BeginsBy s) (λ t e. before_begins s t e) lefts u.lefts_maximal.2);
  right_order = next_order both s rights u.right_order first;
  ids = λ id. left_ids ((λ h. with_has both s id u.left_order.0 h), (λ h. has_with both s id u.left_order.0 h)) (u.ids id);
}

pub goes_on : (left right both lefts rights ls rs : List Span) (s : Span) → IsUniting left right both lefts rights → TakesNext lefts rights ls rs (Some s) → IsUniting left right (with_last both s) ls rs
goes_on left right both lefts rights ls rs s u (inl ((first, taken), rest)) =
    left_goes_on left right both s ls rs (subst (λ zs. IsUniting left right both zs rs) taken (subst (IsUniting left right both lefts) rest u)) (subst (Each (BeginsBy s)) rest first)
goes_on left right both lefts rights ls rs s u (inr ((first, taken), rest)) =
    let v : IsUniting left right both (s ∷ rs) ls = subst (λ zs. IsUniting left right both zs ls) taken (subst (IsUniting left right both rights) rest (flip left right both lefts rights u)) in
    flip left right (with_last both s) rs ls (left_goes_on left right both s rs ls v (subst (Each (BeginsBy s)) rest first))

pub next_span : (left right both lefts rights ls rs : List Span) (s : Span) → IsUniting left right both lefts rights → TakesNext lefts rights ls rs (Some s) → IsSpan s
next_span left right both lefts rights ls rs s u (inl ((first, taken), rest)) = let m : AreMaximal (s ∷ ls) = subst AreMaximal taken u.lefts_maximal in m.0
next_span left right both lefts rights ls rs s u (inr ((first, taken), rest)) = let m : AreMaximal (s ∷ rs) = subst AreMaximal taken u.rights_maximal in m.0

pub fewer : (lefts rights ls rs : List Span) (s : Span) → TakesNext lefts rights ls rs (Some s) → length ls + length rs < length lefts + length rights
fewer lefts rights ls rs s (inl ((first, taken), rest)) = omega (arith, ap length taken, ap length rest)
fewer lefts rights ls rs s (inr ((first, taken), rest)) = omega (arith, ap length taken, ap length rest)

pub uniting_ends : (left right both lefts rights ls rs : List Span) → IsUniting left right both lefts rights → TakesNext lefts rights ls rs None → AddsSpans left both right
uniting_ends left right both lefts rights ls rs u (none, nothing) id = ((λ h. (u.ids id).0 (inl h)), (λ h. all ((u.ids id).1 h)))
  where
    all : HasId both id ⊎ (HasId lefts id ⊎ HasId rights id) → HasId both id
    all (inl h) = h
    all (inr (inl h)) = absurd (subst (λ zs. HasId zs id) none h)
    all (inr (inr h)) = absurd (subst (λ zs. HasId zs id) nothing h)
