-- The set of many spans: in order of where they begin, one after another is put behind the others.
use Rattle.std.proofs.Common.{◌≡◌, ℕ, zero, suc, ◌+◌, ◌<◌, ◌≤◌, ◌⊎◌, ◌↔◌, List, [], ◌∷◌, length, get_or, drop, inl, inr, sym, subst, false, is_lt, add-one, arith}
use Rattle.std.specs.List.Sorted.{IsSorted}
use Rattle.std.proofs.lemmas.List.{drop_more, drop_all}
use Rattle.yd_words.specs.Each.{Each}
use Rattle.yd_words.proofs.EachLemmas.{each_weaker, each_at}
use Rattle.yd_ids.specs.declared.id.Id.{Id}
use Rattle.yd_ids.specs.declared.id.Span.{Span}
use Rattle.yd_ids.specs.Gathering.{AreOrdered, IsApart}
use Rattle.yd_ids.specs.Id.{IsSpan}
use Rattle.yd_ids.specs.Set.{HasId, HaveSameIds, AreMaximal}
use Rattle.yd_ids.specs.Span.{InSpan, BeginsBy, EndsBefore}
use Rattle.yd_ids.specs.Uniting.{with_last}
use Rattle.yd_ids.proofs.SpanLemmas.{span_cmp, by_order, by_both, through}
use Rattle.yd_ids.proofs.UnitingLemmas.{AllBy, with_maximal, with_has, has_with, next_order, none_before}
use Rattle.yd_ids.proofs.InsertingLemmas.{regroup}

-- ---- in order

from_neighbours : (xs : List Span) → ((k : ℕ) (d : Span) → suc k < length xs → BeginsBy (get_or xs k d) (get_or xs (suc k) d)) → AreOrdered xs
from_neighbours [] h = tt
from_neighbours (x ∷ []) h = (tt, tt)
from_neighbours (x ∷ y ∷ xs) h =
    let first : BeginsBy x y = h 0 x (omega arith) in
    let rest = from_neighbours (y ∷ xs) (λ k d lt. h (suc k) d (omega arith)) in
    ((first, each_weaker (BeginsBy y) (BeginsBy x) (λ u b. by_both x y u first b) xs rest.0), rest)

-- spans that are sorted are in the order in which they begin
pub sorted_ordered : (xs : List Span) → IsSorted span_cmp xs → AreOrdered xs
sorted_ordered xs h = from_neighbours xs (λ k d lt. by_order (get_or xs k d) (get_or xs (suc k) d) (subst (λ n. is_lt (span_cmp (get_or xs n d) (get_or xs k d)) ≡ false) (add-one k) (h k d (omega arith) (omega arith))))

-- ---- maximal already

-- a span that stands before maximal ones
apart_front : (x : Span) (rest : List Span) → IsSpan x → IsApart (x ∷ rest) → AreMaximal rest → AreMaximal (x ∷ rest)
apart_front x [] is apart m = (is, apart, tt, tt)
apart_front x (y ∷ ys) is apart m = (is, apart.0, (apart.1, each_weaker (EndsBefore y) (EndsBefore x) (λ u b. through x y u apart.1 b) ys m.2), m)

-- one span more is looked at, from the last one on
pub apart_more : (spans : List Span) (at n : ℕ) → Each IsSpan spans → at ≡ n + 1 → at ≤ length spans → IsApart (drop n spans) → AreMaximal (drop at spans) → AreMaximal (drop n spans)
apart_more [] at n are next le apart m = absurd (omega (arith, next, le))
apart_more (d ∷ ds) at n are next le apart m =
    let spans = d ∷ ds in
    let lt : n < length spans = omega (arith, next, le) in
    let here = drop_more spans n d lt in
    subst AreMaximal (sym here)
    (apart_front (get_or spans n d) (drop (n + 1) spans) (each_at IsSpan spans n d are lt) (subst IsApart here apart) (subst (λ k. AreMaximal (drop k spans)) next m))

-- ---- one after another

-- the spans so far, of which some are still to come
pub record IsGathering (spans set : List Span) (i : ℕ) : Type 0 where
  pub maximal : AreMaximal set
  pub order : Each (AllBy set) (drop i spans)
  pub ids : (id : Id) → (HasId set id ⊎ HasId (drop i spans) id) ↔ HasId spans id

ordered_back : (xs : List Span) (n : ℕ) → AreOrdered xs → AreOrdered (drop n xs)
ordered_back xs zero o = o
ordered_back [] (suc n) o = tt
ordered_back (x ∷ xs) (suc n) o = ordered_back xs n o.1

-- those behind a place begin where the one there does, or behind
behind_at : (xs : List Span) (n : ℕ) (d : Span) → AreOrdered xs → n < length xs → Each (BeginsBy (get_or xs n d)) (drop (n + 1) xs)
behind_at xs n d o lt =
    let back : AreOrdered (get_or xs n d ∷ drop (n + 1) xs) = subst AreOrdered (drop_more xs n d lt) (ordered_back xs n o) in
    back.0

left_ids : {B T R S : Type 0} → (T → ⊥) → (B ⊎ (T ⊎ R)) ↔ S → (B ⊎ R) ↔ S
left_ids {B} {T} {R} {S} f g = (there, λ s. back (g.1 s))
  where
    there : B ⊎ R → S
    there (inl b) = g.0 (inl b)
    there (inr r) = g.0 (inr (inr r))

    back : B ⊎ (T ⊎ R) → B ⊎ R
    back (inl b) = inl b
    back (inr (inl t)) = absurd (f t)
    back (inr (inr r)) = inr r

-- ---- lemmas for callers

pub gathering_begins : (spans set : List Span) → set ≡ [] → IsGathering spans set 0
gathering_begins spans set e = subst (λ zs. IsGathering spans zs 0) (sym e) begun
  where
    begun : IsGathering spans [] 0
    begun = record { maximal = tt; order = none_before spans; ids = λ id. ((λ h. elim h [ inl k ↦ absurd k | inr k ↦ k ]), (λ h. inr h)) }

-- a span with ids is put behind the others
pub gathering_puts : (spans set : List Span) (i : ℕ) (d : Span) → Each IsSpan spans → AreOrdered spans → IsGathering spans set i → i < length spans → 0 < (get_or spans i d).len → IsGathering spans (with_last set (get_or spans i d)) (i + 1)
gathering_puts spans set i d are ordered g lt some =
    let here = drop_more spans i d lt in
    let order : Each (AllBy set) (get_or spans i d ∷ drop (i + 1) spans) = subst (Each (AllBy set)) here g.order in
    record {
      maximal = with_maximal set (get_or spans i d) g.maximal (each_at IsSpan spans i d are lt) some order.0;
      order = next_order set (get_or spans i d) (drop (i + 1) spans) order.1 (behind_at spans i d ordered lt);
      ids = λ id. regroup (subst (λ zs. (HasId set id ⊎ HasId zs id) ↔ HasId spans id) here (g.ids id)) ((λ h. with_has set (get_or spans i d) id order.0 h), (λ h. has_with set (get_or spans i d) id order.0 h));
    }

-- one without ids is left out
pub gathering_leaves : (spans set : List Span) (i : ℕ) (d : Span) → IsGathering spans set i → i < length spans → (get_or spans i d).len ≤ 0 → IsGathering spans set (i + 1)
gathering_leaves spans set i d g lt none =
    let here = drop_more spans i d lt in
    let order : Each (AllBy set) (get_or spans i d ∷ drop (i + 1) spans) = subst (Each (AllBy set)) here g.order in
    record {
      maximal = g.maximal;
      order = order.1;
      ids = λ id. left_ids (empty id) (subst (λ zs. (HasId set id ⊎ HasId zs id) ↔ HasId spans id) here (g.ids id));
    }
  where
    empty : (id : Id) → InSpan (get_or spans i d) id → ⊥
    empty id h = absurd (omega arith)

pub gathering_ends : (spans set : List Span) (i : ℕ) → IsGathering spans set i → length spans ≤ i → HaveSameIds set spans
gathering_ends spans set i g le id = ((λ h. (g.ids id).0 (inl h)), (λ h. all ((g.ids id).1 h)))
  where
    all : HasId set id ⊎ HasId (drop i spans) id → HasId set id
    all (inl h) = h
    all (inr h) = absurd (subst (λ zs. HasId zs id) (drop_all i spans le) h)
