-- A span that others are cut out of, one after another: what is left has the ids that the others lack.
use Rattle.std.proofs.Common.{◌≡◌, ◌↔◌, ◌+◌, ◌^◌, ◌<◌, ◌≤◌, ◌-◌, ◌&&◌, min, Bool, true, false, cond, nat_eq, nat_lt, List, [], ◌∷◌, ◌++◌, ◌⊎◌, inl, inr, refl, sym, ap, ◌∙◌, subst, arith, tests}
use Rattle.std.proofs.lemmas.Bool.{cases_lt}
use Rattle.yd_words.specs.Each.{Each}
use Rattle.yd_words.proofs.EachLemmas.{each_append}
use Rattle.yd_ids.specs.declared.id.Id.{Id}
use Rattle.yd_ids.specs.declared.id.Span.{Span}
use Rattle.yd_ids.specs.Id.{IsSpan}
use Rattle.yd_ids.specs.Set.{HasId, AreMaximal, HaveSameIds}
use Rattle.yd_ids.specs.Span.{InSpan, EndsBefore}
use Rattle.yd_ids.proofs.SetLemmas.{has_front, has_either}
use Rattle.yd_ids.proofs.SetOfLemmas.{maximal_spans}
use Rattle.yd_subsets.specs.Cut.{below_cut, behind_cut, clock_behind, with_some}
use Rattle.yd_subsets.specs.Part.{HasRest}

-- ---- one cut

pub below_span : (s cut : Span) → IsSpan s → IsSpan (below_cut s cut)
below_span s cut is = record { client = is.client; end = go (nat_eq s.client.0 cut.client.0 && nat_lt s.clock cut.clock) }
  where
    go : (t : Bool) → s.clock + cond t (min s.len (cut.clock - s.clock)) 0 < 2 ^ 53
    go true = let e = is.end in omega (arith, e)
    go false = let e = is.end in omega (arith, e)

pub behind_span : (s cut : Span) → IsSpan s → IsSpan (behind_cut s cut)
behind_span s cut is = go (nat_eq s.client.0 cut.client.0)
  where
    go : (t : Bool) → IsSpan (cond t (record { client = s.client; clock = clock_behind s cut; len = s.clock + s.len - clock_behind s cut }) s)
    go true = record { client = is.client; end = let e = is.end in omega (arith, e) }
    go false = is

-- what is below is of the span, of the other's client, and below the other
in_below : (s cut : Span) (x : Id) → InSpan (below_cut s cut) x → InSpan s x × (cut.client.0 ≡ x.client.0) × (x.clock < cut.clock)
in_below s cut x i = go (nat_eq s.client.0 cut.client.0) refl (nat_lt s.clock cut.clock) refl i
  where
    go : (t : Bool) → nat_eq s.client.0 cut.client.0 ≡ t → (u : Bool) → nat_lt s.clock cut.clock ≡ u →
        (s.client.0 ≡ x.client.0) × (s.clock ≤ x.clock) × (x.clock < s.clock + cond (t && u) (min s.len (cut.clock - s.clock)) 0) → InSpan s x × (cut.client.0 ≡ x.client.0) × (x.clock < cut.clock)
    go true e true f (c, low, high) = let same : s.client.0 ≡ cut.client.0 = grind (arith, tests) in
        ((c, low, omega (arith, low, high)), sym same ∙ c, omega (arith, low, high))
    go true e false f (c, low, high) = absurd (omega (arith, low, high))
    go false e u f (c, low, high) = absurd (omega (arith, low, high))

below_in : (s cut : Span) (x : Id) → InSpan s x → cut.client.0 ≡ x.client.0 → x.clock < cut.clock → InSpan (below_cut s cut) x
below_in s cut x i c lt = go (nat_eq s.client.0 cut.client.0) refl (nat_lt s.clock cut.clock) refl
  where
    go : (t : Bool) → nat_eq s.client.0 cut.client.0 ≡ t → (u : Bool) → nat_lt s.clock cut.clock ≡ u →
        (s.client.0 ≡ x.client.0) × (s.clock ≤ x.clock) × (x.clock < s.clock + cond (t && u) (min s.len (cut.clock - s.clock)) 0)
    go true e true f = (i.0, i.1, let a = i.1 in let b = i.2 in omega (arith, a, b, lt))
    go true e false f = let a = i.1 in absurd (grind (arith, tests))
    go false e u f = let a = i.0 in absurd (grind (arith, tests))

-- what is behind is of the span and not of the other
in_behind : (s cut : Span) (x : Id) → InSpan (behind_cut s cut) x → InSpan s x × (InSpan cut x → ⊥)
in_behind s cut x i = go (nat_eq s.client.0 cut.client.0) refl i
  where
    go : (t : Bool) → nat_eq s.client.0 cut.client.0 ≡ t →
        InSpan (cond t (record { client = s.client; clock = clock_behind s cut; len = s.clock + s.len - clock_behind s cut }) s) x → InSpan s x × (InSpan cut x → ⊥)
    go true e (c, low, high) = ((c, omega (arith, low, high), omega (arith, low, high)), (λ k. let d = k.2 in omega (arith, low, high, d)))
    go false e (c, low, high) = ((c, low, high), (λ k. let d = k.0 in absurd (grind (arith, tests))))

behind_in : (s cut : Span) (x : Id) → InSpan s x → cut.client.0 ≡ x.client.0 → cut.clock + cut.len ≤ x.clock → InSpan (behind_cut s cut) x
behind_in s cut x i c le = go (nat_eq s.client.0 cut.client.0) refl
  where
    go : (t : Bool) → nat_eq s.client.0 cut.client.0 ≡ t →
        InSpan (cond t (record { client = s.client; clock = clock_behind s cut; len = s.clock + s.len - clock_behind s cut }) s) x
    go true e = let a = i.1 in let b = i.2 in (i.0, omega (arith, a, b, le), omega (arith, a, b, le))
    go false e = i

other_in : (s cut : Span) (x : Id) → InSpan s x → nat_eq s.client.0 cut.client.0 ≡ false → InSpan (behind_cut s cut) x
other_in s cut x i e = rw e i

parts_have : (s cut : Span) (x : Id) → InSpan s x → (InSpan cut x → ⊥) → InSpan (below_cut s cut) x ⊎ InSpan (behind_cut s cut) x
parts_have s cut x i apart = go (nat_eq s.client.0 cut.client.0) refl
  where
    go : (t : Bool) → nat_eq s.client.0 cut.client.0 ≡ t → InSpan (below_cut s cut) x ⊎ InSpan (behind_cut s cut) x
    go false e = inr (other_in s cut x i e)
    go true e = elim (cases_lt x.clock cut.clock) [
      | inl lt ↦ inl (below_in s cut x i one lt)
      | inr low ↦ elim (cases_lt x.clock (cut.clock + cut.len)) [
        | inl high ↦ absurd (apart (one, low, high))
        | inr le ↦ inr (behind_in s cut x i one le)
      ]
    ]
      where
        one : cut.client.0 ≡ x.client.0
        one = sym (let a : s.client.0 ≡ cut.client.0 = grind (arith, tests) in a) ∙ i.0

-- what is below one of maximal spans is in none behind it
later_none : (cut : Span) (cuts : List Span) (x : Id) → Each (EndsBefore cut) cuts → cut.client.0 ≡ x.client.0 → x.clock < cut.clock → HasId cuts x → ⊥
later_none cut [] x each c lt h = h
later_none cut (next ∷ cuts) x each c lt (inl i) = elim each.0 [
  | inl less ↦ let d = i.0 in omega (arith, less, c, d)
  | inr both ↦ let d = i.1 in let e = both.1 in omega (arith, d, e, lt)
]
later_none cut (next ∷ cuts) x each c lt (inr h) = later_none cut cuts x each.1 c lt h

-- ---- one more span, if it has an id

none_in : (s : Span) (x : Id) → nat_lt 0 s.len ≡ false → InSpan s x → ⊥
none_in s x e i = let a = i.1 in let b = i.2 in let none : s.len ≤ 0 = grind (arith, tests) in omega (arith, a, b, none)

pub some_has : (spans : List Span) (s : Span) (x : Id) → HasId (with_some spans s) x ↔ (HasId spans x ⊎ InSpan s x)
some_has spans s x = go (nat_lt 0 s.len) refl
  where
    go : (t : Bool) → nat_lt 0 s.len ≡ t → HasId (cond t (spans ++ s ∷ []) spans) x ↔ (HasId spans x ⊎ InSpan s x)
    go true e = (
      (λ h. elim (has_front spans (s ∷ []) x h) [ inl a ↦ inl a | inr (inl i) ↦ inr i | inr (inr k) ↦ absurd k ]),
      (λ h. has_either spans (s ∷ []) x (elim h [ inl a ↦ inl a | inr i ↦ inr (inl i) ])),
    )
    go false e = ((λ h. inl h), (λ h. elim h [ inl a ↦ a | inr i ↦ absurd (none_in s x e i) ]))

pub some_spans : (spans : List Span) (s : Span) → Each IsSpan spans → IsSpan s → Each IsSpan (with_some spans s)
some_spans spans s each is = go (nat_lt 0 s.len)
  where
    go : (t : Bool) → Each IsSpan (cond t (spans ++ s ∷ []) spans)
    go true = each_append IsSpan spans (s ∷ []) each (is, tt)
    go false = each

-- ---- one cut after another

-- what was put apart, and what is left of the span without the cuts that are still to come, is what there was and the rest of the span
pub record IsCutting (old : List Span) (span : Span) (others cuts now : List Span) (left : Span) : Type 0 where
  pub spans : Each IsSpan now
  pub is_left : IsSpan left
  pub maximal : AreMaximal cuts
  pub ids : (x : Id) → (HasId now x ⊎ (InSpan left x × (HasId cuts x → ⊥))) ↔ (HasId old x ⊎ (InSpan span x × (HasId others x → ⊥)))

pub cutting_begins : (old : List Span) (span : Span) (others : List Span) → Each IsSpan old → IsSpan span → AreMaximal others → IsCutting old span others others old span
cutting_begins old span others each is maximal = record { spans = each; is_left = is; maximal = maximal; ids = λ x. ((λ h. h), (λ h. h)) }

pub cutting_goes_on : (old : List Span) (span : Span) (others : List Span) (cut : Span) (cuts now : List Span) (left : Span) → IsCutting old span others (cut ∷ cuts) now left →
    IsCutting old span others cuts (with_some now (below_cut left cut)) (behind_cut left cut)
cutting_goes_on old span others cut cuts now left is = record {
  spans = some_spans now (below_cut left cut) is.spans (below_span left cut is.is_left);
  is_left = behind_span left cut is.is_left;
  maximal = is.maximal.3;
  ids = λ x. ((λ h. (is.ids x).0 (back x h)), (λ h. there x ((is.ids x).1 h)));
}
  where
    back : (x : Id) → HasId (with_some now (below_cut left cut)) x ⊎ (InSpan (behind_cut left cut) x × (HasId cuts x → ⊥)) →
        HasId now x ⊎ (InSpan left x × (HasId (cut ∷ cuts) x → ⊥))
    back x (inl h) = elim ((some_has now (below_cut left cut) x).0 h) [
      | inl a ↦ inl a
      | inr i ↦ let (j, c, lt) = in_below left cut x i in
          inr (j, λ k. elim k [ inl d ↦ let low = d.1 in omega (arith, low, lt) | inr l ↦ later_none cut cuts x is.maximal.2 c lt l ])
    ]
    back x (inr (i, rest)) = let (j, apart) = in_behind left cut x i in inr (j, λ k. elim k [ inl d ↦ apart d | inr l ↦ rest l ])

    there : (x : Id) → HasId now x ⊎ (InSpan left x × (HasId (cut ∷ cuts) x → ⊥)) →
        HasId (with_some now (below_cut left cut)) x ⊎ (InSpan (behind_cut left cut) x × (HasId cuts x → ⊥))
    there x (inl h) = inl ((some_has now (below_cut left cut) x).1 (inl h))
    there x (inr (i, apart)) = elim (parts_have left cut x i (λ d. apart (inl d))) [
      | inl b ↦ inl ((some_has now (below_cut left cut) x).1 (inr b))
      | inr b ↦ inr (b, λ l. apart (inr l))
    ]

pub cutting_ends : (old : List Span) (span : Span) (others now : List Span) (left : Span) → IsCutting old span others [] now left → HasRest old span others (with_some now left)
cutting_ends old span others now left is x = (
  (λ h. (is.ids x).0 (elim ((some_has now left x).0 h) [ inl a ↦ inl a | inr i ↦ inr (i, λ k. k) ])),
  (λ h. (some_has now left x).1 (elim ((is.ids x).1 h) [ inl a ↦ inl a | inr i ↦ inr i.0 ])),
)

-- ---- one span after another

-- what is put apart, and the rest of the spans that are still to come, is the rest of the set
pub record IsParting (set others spans now : List Span) : Type 0 where
  pub all_spans : Each IsSpan now
  pub left_spans : Each IsSpan spans
  pub ids : (x : Id) → (HasId now x ⊎ (HasId spans x × (HasId others x → ⊥))) ↔ (HasId set x × (HasId others x → ⊥))

pub parting_goes_on : (set others : List Span) (span : Span) (spans old new : List Span) → IsParting set others (span ∷ spans) old → Each IsSpan new → HasRest old span others new →
    IsParting set others spans new
parting_goes_on set others span spans old new is each rest = record {
  all_spans = each;
  left_spans = is.left_spans.1;
  ids = λ x. (
    (λ h. (is.ids x).0 (elim h [
      | inl a ↦ elim ((rest x).0 a) [ inl b ↦ inl b | inr b ↦ inr (inl b.0, b.1) ]
      | inr b ↦ inr (inr b.0, b.1)
    ])),
    (λ h. elim ((is.ids x).1 h) [
      | inl a ↦ inl ((rest x).1 (inl a))
      | inr b ↦ elim b.0 [ inl i ↦ inl ((rest x).1 (inr (i, b.1))) | inr k ↦ inr (k, b.1) ]
    ]),
  );
}

pub parting_begins : (set others spans now : List Span) → spans ≡ set → now ≡ [] → AreMaximal set → IsParting set others spans now
parting_begins set others spans now same none maximal = record {
  all_spans = subst (Each IsSpan) (sym none) tt;
  left_spans = subst (Each IsSpan) (sym same) (maximal_spans set maximal);
  ids = λ x. (
    (λ h. elim h [ inl a ↦ absurd (subst (λ ss. HasId ss x) none a) | inr b ↦ (subst (λ ss. HasId ss x) same b.0, b.1) ]),
    (λ h. inr (subst (λ ss. HasId ss x) (sym same) h.0, h.1)),
  );
}

-- a set of what is apart, once no span is left
pub parting_ends : (set others spans now part : List Span) → spans ≡ [] → IsParting set others spans now → HaveSameIds part now → (x : Id) → HasId part x ↔ (HasId set x × (HasId others x → ⊥))
parting_ends set others spans now part none is same x = (
  (λ h. (is.ids x).0 (inl ((same x).0 h))),
  (λ h. (same x).1 (elim ((is.ids x).1 h) [ inl a ↦ a | inr b ↦ absurd (subst (λ ss. HasId ss x) none b.0) ])),
)

-- ---- lemmas for callers: the same, as the code makes them

pub cutting_next : (old : List Span) (span : Span) (others all : List Span) (cut : Span) (cuts now new : List Span) (left rest part : Span) → IsCutting old span others all now left →
    all ≡ cut ∷ cuts → part ≡ below_cut left cut → new ≡ with_some now part → rest ≡ behind_cut left cut → IsCutting old span others cuts new rest
cutting_next old span others all cut cuts now new left rest part is e p n r =
    subst (λ ss. IsCutting old span others cuts ss rest) (sym (n ∙ ap (with_some now) p))
    (subst (λ s. IsCutting old span others cuts (with_some now (below_cut left cut)) s) (sym r)
    (cutting_goes_on old span others cut cuts now left (subst (λ ss. IsCutting old span others ss now left) e is)))

pub cutting_done : (old : List Span) (span : Span) (others all now new : List Span) (left : Span) → IsCutting old span others all now left → all ≡ [] → new ≡ with_some now left →
    HasRest old span others new
cutting_done old span others all now new left is none e = subst (HasRest old span others) (sym e)
    (cutting_ends old span others now left (subst (λ ss. IsCutting old span others ss now left) none is))
