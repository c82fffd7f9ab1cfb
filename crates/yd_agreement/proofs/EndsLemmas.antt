-- Pairs that the ends of spans part, over the spans of a set and over updates.
use Rattle.std.proofs.Common.{◌≡◌, ◌↔◌, ℕ, ◌+◌, ◌<◌, List, [], ◌∷◌, ◌++◌, ◌⊎◌, inl, inr, Option, None, length, get_or, map, take, refl, sym, ap, ◌∙◌, subst, append_assoc, append-nil}
use Rattle.std.proofs.lemmas.List.{map-append, take_more}
use Rattle.yd_words.specs.Member.{IsIn}
use Rattle.yd_words.proofs.MemberLemmas.{each_in, in_left_part, in_right_part, in_with_last}
use Rattle.yd_ids.specs.Id.{IsSpan}
use Rattle.yd_ids.specs.Set.{AreMaximal, HasId}
use Rattle.yd_ids.proofs.SetOfLemmas.{maximal_spans}
use Rattle.yd_ids.specs.declared.id.Id.{Id}
use Rattle.yd_ids.specs.declared.id.Span.{Span}
use Rattle.yd_ops.specs.Operation.{later_id, operations_of}
use Rattle.yd_ops.specs.Value.{RunValue, UpdateValue}
use Rattle.yd_ops.specs.Deletes.{SpellLess}
use Rattle.yd_agreement.specs.Differing.{DifferAmong, content_of}
use Rattle.yd_ops.specs.View.{update_value}
use Rattle.yd_ops.specs.declared.updates.Update.{Update}
use Rattle.yd_agreement.specs.First.{IsFirstBut, first_of}
use Rattle.yd_agreement.specs.Parting.{IsParted, IsPartedAtEnds, IsPartedBy}
use Rattle.yd_agreement.proofs.BorderLemmas.{end_just_one, just_one_end}
use Rattle.yd_agreement.proofs.FirstLemmas.{but_alike, but_either}

-- ---- the ends of spans

-- one of the runs has a pair, and a span of the list begins or ends between its halves
abbrev pub IsPartedAtAny : List RunValue → List Span → Id → Type 0
IsPartedAtAny runs spans x = (s : Span) × IsIn s spans × IsPartedAtEnds runs s x

pub none_at_any : (runs : List RunValue) (spans : List Span) → spans ≡ [] → IsFirstBut (IsPartedAtAny runs spans) (DifferAmong content_of runs) None
none_at_any runs spans none x (s, i, p) = absurd (subst (λ ss. IsIn s ss) none i)

pub any_with_last : (runs : List RunValue) (spans : List Span) (s : Span) (x : Id) → (IsPartedAtAny runs spans x ⊎ IsPartedAtEnds runs s x) ↔ IsPartedAtAny runs (spans ++ s ∷ []) x
any_with_last runs spans s x = (there, back)
  where
    there : IsPartedAtAny runs spans x ⊎ IsPartedAtEnds runs s x → IsPartedAtAny runs (spans ++ s ∷ []) x
    there (inl (t, i, p)) = (t, in_left_part t spans (s ∷ []) i, p)
    there (inr p) = (s, in_right_part s spans (s ∷ []) (inl refl), p)

    back : IsPartedAtAny runs (spans ++ s ∷ []) x → IsPartedAtAny runs spans x ⊎ IsPartedAtEnds runs s x
    back (t, i, p) = elim (in_with_last spans s t i) [ inl j ↦ inl (t, j, p) | inr e ↦ inr (subst (λ u. IsPartedAtEnds runs u x) e p) ]

-- a set has just one of the halves where one of its spans begins or ends between them
pub any_parted : (runs : List RunValue) (set : List Span) → AreMaximal set → (x : Id) → IsPartedAtAny runs set x ↔ IsPartedBy runs set x
any_parted runs set maximal x = (there, back)
  where
    there : IsPartedAtAny runs set x → IsPartedBy runs set x
    there (s, i, inl (have, e)) = (have, end_just_one set x maximal (s, i, inl e))
    there (s, i, inr (have, e)) = (have, end_just_one set x maximal (s, i, inr e))

    back : IsPartedBy runs set x → IsPartedAtAny runs set x
    back (have, one) = let (s, i, end) = just_one_end set x one in (s, i, elim end [ inl e ↦ inl (have, e) | inr e ↦ inr (have, e) ])

-- ---- updates

pub none_parted : (runs : List RunValue) (updates : List UpdateValue) → updates ≡ [] → IsFirstBut (IsParted runs updates) (DifferAmong content_of runs) None
none_parted runs updates none x p = absurd (subst (λ us. IsIn p.other us) none p.there)

pub parted_with_last : (runs : List RunValue) (updates : List UpdateValue) (update : UpdateValue) (less : List Span) →
    ((x : Id) → SpellLess (operations_of update) x ↔ HasId less x) → (x : Id) → (IsParted runs updates x ⊎ IsPartedBy runs less x) ↔ IsParted runs (updates ++ update ∷ []) x
parted_with_last runs updates update less spells x = (there, back)
  where
    spelled : SpellLess (operations_of update) x ↔ SpellLess (operations_of update) (later_id x 1) → HasId less x ↔ HasId less (later_id x 1)
    spelled both = (
      (λ h. (spells (later_id x 1)).0 (both.0 ((spells x).1 h))),
      (λ h. (spells x).0 (both.1 ((spells (later_id x 1)).1 h))),
    )

    had : HasId less x ↔ HasId less (later_id x 1) → SpellLess (operations_of update) x ↔ SpellLess (operations_of update) (later_id x 1)
    had both = (
      (λ h. (spells (later_id x 1)).1 (both.0 ((spells x).0 h))),
      (λ h. (spells x).1 (both.1 ((spells (later_id x 1)).0 h))),
    )

    there : IsParted runs updates x ⊎ IsPartedBy runs less x → IsParted runs (updates ++ update ∷ []) x
    there (inl p) = record { pair = p.pair; other = p.other; there = in_left_part p.other updates (update ∷ []) p.there; one_less = p.one_less }
    there (inr (have, one)) = record {
      pair = have;
      other = update;
      there = in_right_part update updates (update ∷ []) (inl refl);
      one_less = λ both. one (spelled both);
    }

    back : IsParted runs (updates ++ update ∷ []) x → IsParted runs updates x ⊎ IsPartedBy runs less x
    back p = elim (in_with_last updates update p.other p.there) [
      | inl i ↦ inl (record { pair = p.pair; other = p.other; there = i; one_less = p.one_less })
      | inr e ↦ inr (
        p.pair,
        λ both. p.one_less (subst (λ u. SpellLess (operations_of u) x ↔ SpellLess (operations_of u) (later_id x 1)) (sym e) (had both)),
      )
    ]

-- one more update
pub parted_next : (runs : List RunValue) (updates : List Update) (i : ℕ) (update : Update) (less : List Span) (best found new : Option Id) → i < length updates →
    update ≡ get_or updates i update →
    ((x : Id) → SpellLess (operations_of (update_value update)) x ↔ HasId less x) → IsFirstBut (IsParted runs (map update_value (take i updates)))
    (DifferAmong content_of runs) best →
    IsFirstBut (IsPartedBy runs less) (DifferAmong content_of runs) found → new ≡ first_of best found →
    IsFirstBut (IsParted runs (map update_value (take (i + 1) updates))) (DifferAmong content_of runs) new
parted_next runs updates i update less best found new lt at spells first also e = subst (IsFirstBut (IsParted runs (map update_value (take (i + 1) updates)))
    (DifferAmong content_of runs)) (sym e)
    (subst (λ us. IsFirstBut (IsParted runs us) (DifferAmong content_of runs) (first_of best found)) (sym more)
    (but_alike (λ x. IsParted runs (map update_value (take i updates)) x ⊎ IsPartedBy runs less x) (IsParted runs (map update_value (take i updates) ++ update_value update ∷ []))
    (DifferAmong content_of runs) (first_of best found) (parted_with_last runs (map update_value (take i updates)) (update_value update) less spells)
    (but_either (IsParted runs (map update_value (take i updates))) (IsPartedBy runs less) (DifferAmong content_of runs) best found first also)))
  where
    more : map update_value (take (i + 1) updates) ≡ map update_value (take i updates) ++ update_value update ∷ []
    more = ap (map update_value) (take_more updates i update lt) ∙ map-append update_value (take i updates) (get_or updates i update ∷ [])
        ∙ ap (λ (u : Update). map update_value (take i updates) ++ update_value u ∷ []) (sym at)

-- a span that is left of a set is one
pub left_is_span : (set done rest behind : List Span) (span : Span) → AreMaximal set → done ++ rest ≡ set → rest ≡ span ∷ behind → IsSpan span
left_is_span set done rest behind span maximal both e = each_in IsSpan set (maximal_spans set maximal) span
    (subst (λ ss. IsIn span ss) both (in_right_part span done rest (subst (λ ss. IsIn span ss) (sym e) (inl refl))))

pub done_more : (set done rest behind : List Span) (span : Span) → done ++ rest ≡ set → rest ≡ span ∷ behind → (done ++ span ∷ []) ++ behind ≡ set
done_more set done rest behind span both e = append_assoc done (span ∷ []) behind ∙ ap (λ ss. done ++ ss) (sym e) ∙ both

pub done_all : (set done rest : List Span) → done ++ rest ≡ set → rest ≡ [] → done ≡ set
done_all set done rest both none = sym (append-nil done) ∙ ap (λ ss. done ++ ss) (sym none) ∙ both

-- one more span
pub ends_next : (runs : List RunValue) (done : List Span) (span : Span) (best found new : Option Id) → IsFirstBut (IsPartedAtAny runs done) (DifferAmong content_of runs) best →
    IsFirstBut (IsPartedAtEnds runs span) (DifferAmong content_of runs) found → new ≡ first_of best found →
    IsFirstBut (IsPartedAtAny runs (done ++ span ∷ [])) (DifferAmong content_of runs) new
ends_next runs done span best found new first also e = subst (IsFirstBut (IsPartedAtAny runs (done ++ span ∷ [])) (DifferAmong content_of runs)) (sym e)
    (but_alike (λ x. IsPartedAtAny runs done x ⊎ IsPartedAtEnds runs span x) (IsPartedAtAny runs (done ++ span ∷ [])) (DifferAmong content_of runs) (first_of best found)
    (any_with_last runs done span) (but_either (IsPartedAtAny runs done) (IsPartedAtEnds runs span) (DifferAmong content_of runs) best found first also))

-- at the end all spans are looked at
pub ends_all : (runs : List RunValue) (set done : List Span) (best : Option Id) → AreMaximal set → done ≡ set →
    IsFirstBut (IsPartedAtAny runs done) (DifferAmong content_of runs) best →
    IsFirstBut (IsPartedBy runs set) (DifferAmong content_of runs) best
ends_all runs set done best maximal e first = but_alike (IsPartedAtAny runs set) (IsPartedBy runs set) (DifferAmong content_of runs) best (any_parted runs set maximal)
    (subst (λ ss. IsFirstBut (IsPartedAtAny runs ss) (DifferAmong content_of runs) best) e first)
