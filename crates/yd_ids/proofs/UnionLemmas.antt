-- Sets of ids: the same ids make the same list, and what the union has.
use Rattle.std.proofs.Common.{◌≡◌, ℕ, ◌+◌, ◌<◌, ◌⊎◌, ◌↔◌, Bool, true, false, cond, List, [], ◌∷◌, inl, inr, refl, sym, ap₂, subst, arith, nat_eq}
use Rattle.std.proofs.lemmas.Bool.{cases_lt, eq-eqb, eqb-true, eqb-false}
use Rattle.yd_words.specs.Each.{Each}
use Rattle.yd_words.proofs.EachLemmas.{each_weaker}
use Rattle.yd_ids.specs.declared.id.Id.{Id}
use Rattle.yd_ids.specs.declared.id.Span.{Span}
use Rattle.yd_ids.specs.Id.{IsSpan}
use Rattle.yd_ids.specs.Set.{HasId, AreMaximal, AddsSpan, AddsSpans, with_span, union_of}
use Rattle.yd_ids.specs.Span.{InSpan, ends_below, EndsBefore, BeginsBy, joined}
use Rattle.yd_ids.proofs.SetLemmas.{once}
use Rattle.yd_ids.proofs.SpanLemmas.{below_true, below_false, through, before_begins, before_joined, joined_span, span_same, touch_client, in_joined}

-- ---- the same ids, the same list

-- the first id of a span, and the one behind its last
abbrev first_of : Span → Id
first_of s = record { client = s.client; clock = s.clock }

abbrev end_of : Span → Id
end_of s = record { client = s.client; clock = s.clock + s.len }

begins_first : (t : Span) (xs : List Span) (s : Span) → Each (BeginsBy t) xs → HasId xs (first_of s) → BeginsBy t s
begins_first t [] s h i = absurd i
begins_first t (x ∷ xs) s h (inl i) = go h.0
  where
    go : BeginsBy t x → BeginsBy t s
    go (inl a) = inl (omega arith)
    go (inr a) = inr (omega arith, omega arith)
begins_first t (x ∷ xs) s h (inr k) = begins_first t xs s h.1 k

-- a span's first id is in the other set, so that the other's first span begins there or before
not_later : (s t : Span) (ss ts : List Span) → AreMaximal (s ∷ ss) → AreMaximal (t ∷ ts) → ((id : Id) → HasId (s ∷ ss) id → HasId (t ∷ ts) id) → BeginsBy t s
not_later s t ss ts m n f =
    let some = m.1 in
    let here : InSpan s (first_of s) = (refl, omega arith, omega arith) in
    begins_first t (t ∷ ts) s (inr (refl, omega arith), each_weaker (EndsBefore t) (BeginsBy t) (λ u e. before_begins t u e) ts n.2) (f (first_of s) (inl here))

end_free : (s : Span) (xs : List Span) → Each (EndsBefore s) xs → HasId xs (end_of s) → ⊥
end_free s [] h i = i
end_free s (x ∷ xs) h (inl i) = go h.0
  where
    go : EndsBefore s x → ⊥
    go (inl a) = absurd (omega arith)
    go (inr a) = absurd (omega arith)
end_free s (x ∷ xs) h (inr k) = end_free s xs h.1 k

not_shorter : (s t : Span) (ss ts : List Span) → AreMaximal (s ∷ ss) → ((id : Id) → HasId (t ∷ ts) id → HasId (s ∷ ss) id) → s.client.0 ≡ t.client.0 → s.clock ≡ t.clock → s.len < t.len → ⊥
not_shorter s t ss ts m f e g lt =
    let there : InSpan t (end_of s) = (sym e, omega arith, omega arith) in
    elim (f (end_of s) (inl there)) [ inl i ↦ absurd (omega arith) | inr k ↦ end_free s ss m.2 k ]

same_begin : (s t : Span) → BeginsBy s t → BeginsBy t s → (s.client.0 ≡ t.client.0) × (s.clock ≡ t.clock)
same_begin s t (inl a) (inl b) = absurd (omega arith)
same_begin s t (inl a) (inr b) = absurd (omega arith)
same_begin s t (inr a) (inl b) = absurd (omega arith)
same_begin s t (inr a) (inr b) = (omega arith, omega arith)

rest_in : (s t : Span) (ss ts : List Span) → AreMaximal (s ∷ ss) → s ≡ t → ((id : Id) → HasId (s ∷ ss) id → HasId (t ∷ ts) id) → (id : Id) → HasId ss id → HasId ts id
rest_in s t ss ts m e f id h = elim (f id (inr h)) [
  | inl i ↦ absurd (once s ss id m.2 (subst (λ u. InSpan u id) (sym e) i) h)
  | inr k ↦ k
]

pub sets_same : (ss ts : List Span) → AreMaximal ss → AreMaximal ts → ((id : Id) → HasId ss id ↔ HasId ts id) → ss ≡ ts
sets_same [] [] m n same = refl
sets_same [] (t ∷ ts) m n same = let some = n.1 in absurd ((same (first_of t)).1 (inl (refl, omega arith, omega arith)))
sets_same (s ∷ ss) [] m n same = let some = m.1 in absurd ((same (first_of s)).0 (inl (refl, omega arith, omega arith)))
sets_same (s ∷ ss) (t ∷ ts) m n same = go (same_begin s t (not_later t s ts ss n m back) (not_later s t ss ts m n there)) (λ more. sets_same ss ts m.3 n.3 more)
  where
    there : (id : Id) → HasId (s ∷ ss) id → HasId (t ∷ ts) id
    there id = (same id).0

    back : (id : Id) → HasId (t ∷ ts) id → HasId (s ∷ ss) id
    back id = (same id).1

    lens : (s.client.0 ≡ t.client.0) × (s.clock ≡ t.clock) → s.len ≡ t.len
    lens e = elim (cases_lt s.len t.len) [
      | inl lt ↦ absurd (not_shorter s t ss ts m back e.0 e.1 lt)
      | inr le ↦ elim (cases_lt t.len s.len) [ inl lt ↦ absurd (not_shorter t s ts ss n there (sym e.0) (sym e.1) lt) | inr ge ↦ omega arith ]
    ]

    go : (s.client.0 ≡ t.client.0) × (s.clock ≡ t.clock) → (((id : Id) → HasId ss id ↔ HasId ts id) → ss ≡ ts) → s ∷ ss ≡ t ∷ ts
    go e more =
        let first : s ≡ t = span_same s t e.0 e.1 (lens e) in
        ap₂ (λ x xs. x ∷ xs) first (more (λ id. (rest_in s t ss ts m first there id, rest_in t s ts ss n (sym first) back id)))

-- ---- one span more

positive : (n : ℕ) → nat_eq n 0 ≡ false → 0 < n
positive n e = omega (arith, eqb-false n 0 e)

none_in : (s : Span) (id : Id) → nat_eq s.len 0 ≡ true → InSpan s id → ⊥
none_in s id e i = absurd (omega (arith, eqb-true s.len 0 e))

with_after : (r s : Span) (xs : List Span) → EndsBefore r s → Each (EndsBefore r) xs → Each (EndsBefore r) (with_span s xs)
with_after r s [] p h = go (nat_eq s.len 0)
  where
    go : (e : Bool) → Each (EndsBefore r) (cond e [] (s ∷ []))
    go true = tt
    go false = (p, tt)
with_after r s (t ∷ ts) p h = go (nat_eq s.len 0) (ends_below s t.client.0 t.clock) refl (ends_below t s.client.0 s.clock) refl (with_after r s ts p h.1) (λ q. with_after r (joined s t) ts q h.1)
  where
    go : (e x : Bool) → ends_below s t.client.0 t.clock ≡ x → (y : Bool) → ends_below t s.client.0 s.clock ≡ y → Each (EndsBefore r) (with_span s ts) → (EndsBefore r (joined s t) → Each (EndsBefore r) (with_span (joined s t) ts)) →
        Each (EndsBefore r) (cond e (t ∷ ts) (cond x (s ∷ t ∷ ts) (cond y (t ∷ with_span s ts) (with_span (joined s t) ts))))
    go true x a y b f g = h
    go false true a y b f g = (p, h)
    go false false a true b f g = (h.0, f)
    go false false a false b f g = g (before_joined r s t (touch_client s t (below_false s t.client.0 t.clock a) (below_false t s.client.0 s.clock b)) p h.0)

pub with_maximal : (s : Span) (xs : List Span) → IsSpan s → AreMaximal xs → AreMaximal (with_span s xs)
with_maximal s [] is m = go (nat_eq s.len 0) refl
  where
    go : (e : Bool) → nat_eq s.len 0 ≡ e → AreMaximal (cond e [] (s ∷ []))
    go true e = tt
    go false e = (is, positive s.len e, tt, tt)
with_maximal s (t ∷ ts) is m = go (nat_eq s.len 0) refl (ends_below s t.client.0 t.clock) refl (ends_below t s.client.0 s.clock) refl (with_maximal s ts is m.3) (with_maximal (joined s t) ts (joined_span s t is m.0) m.3)
  where
    go : (e : Bool) → nat_eq s.len 0 ≡ e → (x : Bool) → ends_below s t.client.0 t.clock ≡ x → (y : Bool) → ends_below t s.client.0 s.clock ≡ y → AreMaximal (with_span s ts) → AreMaximal (with_span (joined s t) ts) →
        AreMaximal (cond e (t ∷ ts) (cond x (s ∷ t ∷ ts) (cond y (t ∷ with_span s ts) (with_span (joined s t) ts))))
    go true e x a y b f g = m
    go false e true a y b f g = let first = below_true s t.client.0 t.clock a in (is, positive s.len e, (first, each_weaker (EndsBefore t) (EndsBefore s) (λ u q. through s t u first q) ts m.2), m)
    go false e false a true b f g = (m.0, m.1, with_after t s ts (below_true t s.client.0 s.clock b) m.2, f)
    go false e false a false b f g = g

pub with_ids : (s : Span) (xs : List Span) (id : Id) → HasId (with_span s xs) id ↔ (HasId xs id ⊎ InSpan s id)
with_ids s [] id = go (nat_eq s.len 0) refl
  where
    go : (e : Bool) → nat_eq s.len 0 ≡ e → HasId (cond e [] (s ∷ [])) id ↔ (HasId [] id ⊎ InSpan s id)
    go true e = ((λ h. absurd h), (λ h. elim h [ inl k ↦ k | inr i ↦ none_in s id e i ]))
    go false e = ((λ h. elim h [ inl i ↦ inr i | inr k ↦ absurd k ]), (λ h. elim h [ inl k ↦ absurd k | inr i ↦ inl i ]))
with_ids s (t ∷ ts) id = go (nat_eq s.len 0) refl (ends_below s t.client.0 t.clock) refl (ends_below t s.client.0 s.clock) refl (with_ids s ts id) (with_ids (joined s t) ts id)
  where
    swap : HasId (s ∷ t ∷ ts) id ↔ (HasId (t ∷ ts) id ⊎ InSpan s id)
    swap = ((λ h. elim h [ inl i ↦ inr i | inr k ↦ inl k ]), (λ h. elim h [ inl k ↦ inr k | inr i ↦ inl i ]))

    later : HasId (with_span s ts) id ↔ (HasId ts id ⊎ InSpan s id) → HasId (t ∷ with_span s ts) id ↔ (HasId (t ∷ ts) id ⊎ InSpan s id)
    later f = (there, back)
      where
        there : HasId (t ∷ with_span s ts) id → HasId (t ∷ ts) id ⊎ InSpan s id
        there (inl i) = inl (inl i)
        there (inr h) = elim (f.0 h) [ inl k ↦ inl (inr k) | inr i ↦ inr i ]

        back : HasId (t ∷ ts) id ⊎ InSpan s id → HasId (t ∷ with_span s ts) id
        back (inl (inl i)) = inl i
        back (inl (inr k)) = inr (f.1 (inl k))
        back (inr i) = inr (f.1 (inr i))

    both : InSpan (joined s t) id ↔ (InSpan s id ⊎ InSpan t id) → HasId (with_span (joined s t) ts) id ↔ (HasId ts id ⊎ InSpan (joined s t) id) → HasId (with_span (joined s t) ts) id ↔ (HasId (t ∷ ts) id ⊎ InSpan s id)
    both j f = (there, back)
      where
        there : HasId (with_span (joined s t) ts) id → HasId (t ∷ ts) id ⊎ InSpan s id
        there h = elim (f.0 h) [ inl k ↦ inl (inr k) | inr i ↦ elim (j.0 i) [ inl a ↦ inr a | inr b ↦ inl (inl b) ] ]

        back : HasId (t ∷ ts) id ⊎ InSpan s id → HasId (with_span (joined s t) ts) id
        back (inl (inl i)) = f.1 (inr (j.1 (inr i)))
        back (inl (inr k)) = f.1 (inl k)
        back (inr i) = f.1 (inr (j.1 (inl i)))

    go : (e : Bool) → nat_eq s.len 0 ≡ e → (x : Bool) → ends_below s t.client.0 t.clock ≡ x → (y : Bool) → ends_below t s.client.0 s.clock ≡ y → HasId (with_span s ts) id ↔ (HasId ts id ⊎ InSpan s id) →
        HasId (with_span (joined s t) ts) id ↔ (HasId ts id ⊎ InSpan (joined s t) id) →
        HasId (cond e (t ∷ ts) (cond x (s ∷ t ∷ ts) (cond y (t ∷ with_span s ts) (with_span (joined s t) ts)))) id ↔ (HasId (t ∷ ts) id ⊎ InSpan s id)
    go true e x a y b f g = ((λ h. inl h), (λ h. elim h [ inl k ↦ k | inr i ↦ absurd (none_in s id e i) ]))
    go false e true a y b f g = swap
    go false e false a true b f g = later f
    go false e false a false b f g = both (in_joined s t id (below_false s t.client.0 t.clock a) (below_false t s.client.0 s.clock b)) g

-- ---- the union

pub union_maximal : (ls rs : List Span) → AreMaximal ls → AreMaximal rs → AreMaximal (union_of ls rs)
union_maximal [] rs m n = n
union_maximal (a ∷ ls) rs m n = union_maximal ls (with_span a rs) m.3 (with_maximal a rs m.0 n)

pub union_ids : (ls rs : List Span) → AddsSpans ls (union_of ls rs) rs
union_ids [] rs id = ((λ h. inr h), (λ h. elim h [ inl k ↦ absurd k | inr k ↦ k ]))
union_ids (a ∷ ls) rs id = go (union_ids ls (with_span a rs) id) (with_ids a rs id)
  where
    go : HasId (union_of ls (with_span a rs)) id ↔ (HasId ls id ⊎ HasId (with_span a rs) id) → HasId (with_span a rs) id ↔ (HasId rs id ⊎ InSpan a id) → HasId (union_of ls (with_span a rs)) id ↔ (HasId (a ∷ ls) id ⊎ HasId rs id)
    go f g = (there, back)
      where
        there : HasId (union_of ls (with_span a rs)) id → HasId (a ∷ ls) id ⊎ HasId rs id
        there h = elim (f.0 h) [ inl k ↦ inl (inr k) | inr k ↦ elim (g.0 k) [ inl b ↦ inr b | inr i ↦ inl (inl i) ] ]

        back : HasId (a ∷ ls) id ⊎ HasId rs id → HasId (union_of ls (with_span a rs)) id
        back (inl (inl i)) = f.1 (inr (g.1 (inr i)))
        back (inl (inr k)) = f.1 (inl k)
        back (inr b) = f.1 (inr (g.1 (inl b)))

-- ---- lemmas for callers

-- a set that has the ids of both is their union
pub union_alone : (ls ks rs : List Span) → AreMaximal ls → AreMaximal ks → AreMaximal rs → AddsSpans ls ks rs → ks ≡ union_of ls rs
union_alone ls ks rs m n o h = sets_same ks (union_of ls rs) n (union_maximal ls rs m o) (λ id. ((λ k. (union_ids ls rs id).1 ((h id).0 k)), (λ k. (h id).1 ((union_ids ls rs id).0 k))))

pub union_commutes : (ls rs : List Span) → AreMaximal ls → AreMaximal rs → union_of ls rs ≡ union_of rs ls
union_commutes ls rs m n = union_alone rs (union_of ls rs) ls n (union_maximal ls rs m n) m (λ id. (
  (λ h. elim ((union_ids ls rs id).0 h) [ inl a ↦ inr a | inr b ↦ inl b ]),
  (λ h. (union_ids ls rs id).1 (elim h [ inl b ↦ inr b | inr a ↦ inl a ])),
))

pub union_again : (ls : List Span) → AreMaximal ls → union_of ls ls ≡ ls
union_again ls m = sym (union_alone ls ls ls m m m (λ id. ((λ h. inl h), (λ h. elim h [ inl a ↦ a | inr a ↦ a ]))))

pub union_groups : (ls rs ks : List Span) → AreMaximal ls → AreMaximal rs → AreMaximal ks → union_of (union_of ls rs) ks ≡ union_of ls (union_of rs ks)
union_groups ls rs ks m n o = union_alone ls (union_of (union_of ls rs) ks) (union_of rs ks) m (union_maximal (union_of ls rs) ks (union_maximal ls rs m n) o) (union_maximal rs ks n o) (λ id. (there id, back id))
  where
    there : (id : Id) → HasId (union_of (union_of ls rs) ks) id → HasId ls id ⊎ HasId (union_of rs ks) id
    there id h = elim ((union_ids (union_of ls rs) ks id).0 h) [
      | inl k ↦ elim ((union_ids ls rs id).0 k) [ inl a ↦ inl a | inr b ↦ inr ((union_ids rs ks id).1 (inl b)) ]
      | inr c ↦ inr ((union_ids rs ks id).1 (inr c))
    ]

    back : (id : Id) → HasId ls id ⊎ HasId (union_of rs ks) id → HasId (union_of (union_of ls rs) ks) id
    back id (inl a) = (union_ids (union_of ls rs) ks id).1 (inl ((union_ids ls rs id).1 (inl a)))
    back id (inr k) = elim ((union_ids rs ks id).0 k) [
      | inl b ↦ (union_ids (union_of ls rs) ks id).1 (inl ((union_ids ls rs id).1 (inr b)))
      | inr c ↦ (union_ids (union_of ls rs) ks id).1 (inr c)
    ]

-- a set that has the ids of another and those of a span
pub insert_alone : (old new : List Span) (s : Span) → AreMaximal old → AreMaximal new → IsSpan s → AddsSpan old new s → new ≡ with_span s old
insert_alone old new s m n is h = sets_same new (with_span s old) n (with_maximal s old is m) (λ id. ((λ k. (with_ids s old id).1 ((h id).0 k)), (λ k. (h id).1 ((with_ids s old id).0 k))))

pub insert_one : (old : List Span) (s : Span) → AreMaximal old → IsSpan s → 0 < s.len → with_span s old ≡ union_of old (s ∷ [])
insert_one old s m is some = union_commutes (s ∷ []) old (is, some, tt, tt) m

pub insert_none : (old : List Span) (s : Span) → s.len ≡ 0 → with_span s old ≡ old
insert_none [] s e = rw (eq-eqb s.len 0 e)
insert_none (t ∷ ts) s e = rw (eq-eqb s.len 0 e)

pub inserts_commute : (old : List Span) (s t : Span) → AreMaximal old → IsSpan s → IsSpan t → with_span s (with_span t old) ≡ with_span t (with_span s old)
inserts_commute old s t m is it = sets_same (with_span s (with_span t old)) (with_span t (with_span s old)) (with_maximal s (with_span t old) is (with_maximal t old it m)) (with_maximal t (with_span s old) it (with_maximal s old is m))
    (λ id. (over s t id, over t s id))
  where
    over : (u v : Span) (id : Id) → HasId (with_span u (with_span v old)) id → HasId (with_span v (with_span u old)) id
    over u v id h = elim ((with_ids u (with_span v old) id).0 h) [
      | inl k ↦ elim ((with_ids v old id).0 k) [
        | inl a ↦ (with_ids v (with_span u old) id).1 (inl ((with_ids u old id).1 (inl a)))
        | inr i ↦ (with_ids v (with_span u old) id).1 (inr i)
      ]
      | inr i ↦ (with_ids v (with_span u old) id).1 (inl ((with_ids u old id).1 (inr i)))
    ]
