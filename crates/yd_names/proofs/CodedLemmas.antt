-- Names that are found by their codes or in the crowd, as they come and go at the end.
use Rattle.std.proofs.Common.{◌≡◌, ◌≢◌, ◌∙◌, ℕ, zero, suc, ◌<◌, List, [], ◌∷◌, ◌++◌, Option, Some, None, IfSome, inl, inr, length, take, nat_lt, refl, sym, ap, arith, tests}
use Rattle.std.specs.Prelude.{filter, true, slice_get, IfNone}
use Rattle.std.proofs.lemmas.Cmp.{tied_itself}
use Rattle.std.proofs.lemmas.Option.{slice_get_within}
use Rattle.yd_ops.specs.declared.lists.List.{List as DocList}
use Rattle.yd_names.specs.Coding.{code_of_list}
use Rattle.yd_names.specs.Crowds.{IsJoined, IsTied}
use Rattle.yd_names.specs.Names.{AreCoded}
use Rattle.yd_names.specs.Order.{list_cmp, list_total}
use Rattle.yd_names.proofs.CodesLemmas.{got_stays, got_before, got_last, one_longer}
use Rattle.yd_names.proofs.NamesLemmas.{got_in_front, front_has}
use Rattle.yd_names.proofs.OrderLemmas.{same_name}
use Rattle.yd_names.proofs.CrowdsLemmas.{beside, shortened}
use Rattle.yd_names.proofs.InsertingLemmas.{passes_left}

pub coded_beside : (names : List DocList) (name : DocList) (codes crowd : List ℕ) (code : ℕ) → AreCoded names codes crowd → code ≡ code_of_list name →
    AreCoded (names ++ name ∷ []) (codes ++ code ∷ []) crowd
coded_beside names name codes crowd code a is = record {
  each = one_longer code codes ∙ ap suc a.each ∙ sym (one_longer name names);
  found = λ n x e. elim (got_before name names n x e) [
    | inl f ↦ elim (a.found n x f) [ inl there ↦ inl (got_stays codes (code ∷ []) n (code_of_list x) there) | inr at ↦ inr at ]
    | inr (same, one) ↦ inl (got_last code codes n (same ∙ sym a.each) ∙ ap (λ c. Some c) (is ∙ ap code_of_list one))
  ];
  in_order = beside list_cmp names name crowd a.in_order;
}

pub coded_joined : (names : List DocList) (name : DocList) (codes crowd more : List ℕ) (code : ℕ) → AreCoded names codes crowd → IsJoined list_cmp names name crowd more →
    AreCoded (names ++ name ∷ []) (codes ++ code ∷ []) more
coded_joined names name codes crowd more code a j = record {
  each = one_longer code codes ∙ ap suc a.each ∙ sym (one_longer name names);
  found = λ n x e. elim (got_before name names n x e) [
    | inl f ↦ elim (a.found n x f) [ inl there ↦ inl (got_stays codes (code ∷ []) n (code_of_list x) there) | inr at ↦ inr (j.others n at) ]
    | inr (same, one) ↦ inr (let (i, at) = j.here in (i, at ∙ ap (λ n. Some n) (sym same)))
  ];
  in_order = j.all;
}

pub same_long : {X Y : Type 0} (k : ℕ) (xs : List X) (ys : List Y) → length xs ≡ length ys → length (take k xs) ≡ length (take k ys)
same_long zero xs ys e = refl
same_long (suc k) [] [] e = refl
same_long (suc k) [] (y ∷ ys) e = absurd (omega arith)
same_long (suc k) (x ∷ xs) [] e = absurd (omega arith)
same_long (suc k) (x ∷ xs) (y ∷ ys) e = ap suc (same_long k xs ys (omega arith))

pub in_front : (k n : ℕ) (xs : List DocList) → n < length (take k xs) → n < k
in_front zero n xs lt = absurd (omega arith)
in_front (suc k) n [] lt = absurd (omega arith)
in_front (suc k) zero (x ∷ xs) lt = omega arith
in_front (suc k) (suc n) (x ∷ xs) lt = let less = in_front k n xs (omega arith) in omega arith

pub less_is : (m n : ℕ) → m < n → nat_lt m n ≡ true
less_is m n lt = grind (arith, tests)

pub coded_front : (names : List DocList) (codes crowd : List ℕ) (len : ℕ) → AreCoded names codes crowd →
    AreCoded (take len names) (take len codes) (filter (λ n. nat_lt n len) crowd)
coded_front names codes crowd len a = record {
  each = same_long len codes names a.each;
  found = λ n x e. let lt : n < len = in_front len n names (slice_get_within (take len names) n x e) in elim (a.found n x (got_in_front len names n x e)) [
    | inl there ↦ inl (front_has len codes n lt ∙ there)
    | inr at ↦ inr (passes_left (λ n. nat_lt n len) crowd n (less_is n len lt) at)
  ];
  in_order = shortened list_cmp names crowd len a.in_order;
}

-- ---- a name in the crowd

pub crowded_there : (names : List DocList) (name : DocList) (crowd : List ℕ) (result : Option ℕ) → IfSome result (IsTied list_cmp names crowd name) →
    IfSome result (λ n. slice_get names n ≡ Some name)
crowded_there names name crowd None is = tt
crowded_there names name crowd (Some n) is = is.there ∙ ap (λ l. Some l) (same_name is.list name is.tied)

-- where it is not there, and not found by its code, it is nowhere
pub crowded_none : (names : List DocList) (name : DocList) (codes crowd : List ℕ) (result : Option ℕ) → AreCoded names codes crowd → IfNone result ((n : ℕ) → IsTied list_cmp names crowd name n → ⊥) →
    ((n : ℕ) → slice_get codes n ≡ Some (code_of_list name) → slice_get names n ≢ Some name) → IfNone result ((n : ℕ) → slice_get names n ≢ Some name)
crowded_none names name codes crowd (Some n) a none by_code = tt
crowded_none names name codes crowd None a none by_code = λ n e. elim (a.found n name e) [
  | inl coded ↦ by_code n coded e
  | inr at ↦ none n (record { at = at; list = name; there = e; tied = tied_itself list_total name })
]
