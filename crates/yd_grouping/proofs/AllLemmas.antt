-- The operations of some updates, and of lists of updates.
use Rattle.std.proofs.Common.{◌≡◌, List, [], ◌∷◌, ◌++◌, ◌⊎◌, inl, inr, refl, sym, ap, subst}
use Rattle.yd_words.specs.Each.{Each}
use Rattle.yd_words.specs.Member.{IsIn}
use Rattle.yd_words.proofs.MemberLemmas.{in_left_part, in_parts, in_right_part}
use Rattle.yd_ops.specs.Operation.{Operation, operations_of}
use Rattle.yd_ops.specs.Valid.{IsValidUpdate}
use Rattle.yd_ops.specs.Value.{UpdateValue}
use Rattle.yd_ops.specs.Agreement.{operations_of_all}
use Rattle.yd_grouping.specs.Merged.{merge_of, merges_of, updates_of}

all-append : (one other : List UpdateValue) (o : Operation) → IsIn o (operations_of_all (one ++ other)) → IsIn o (operations_of_all one) ⊎ IsIn o (operations_of_all other)
all-append [] other o i = inr i
all-append (u ∷ one) other o i = elim (in_parts o (operations_of u) (operations_of_all (one ++ other)) i) [
  | inl j ↦ inl (in_left_part o (operations_of u) (operations_of_all one) j)
  | inr j ↦ elim (all-append one other o j) [ inl k ↦ inl (in_right_part o (operations_of u) (operations_of_all one) k) | inr k ↦ inr k ]
]

front_all : (one other : List UpdateValue) (o : Operation) → IsIn o (operations_of_all one) → IsIn o (operations_of_all (one ++ other))
front_all [] other o i = absurd i
front_all (u ∷ one) other o i = elim (in_parts o (operations_of u) (operations_of_all one) i) [
  | inl j ↦ in_left_part o (operations_of u) (operations_of_all (one ++ other)) j
  | inr j ↦ in_right_part o (operations_of u) (operations_of_all (one ++ other)) (front_all one other o j)
]

back_all : (one other : List UpdateValue) (o : Operation) → IsIn o (operations_of_all other) → IsIn o (operations_of_all (one ++ other))
back_all [] other o i = i
back_all (u ∷ one) other o i = in_right_part o (operations_of u) (operations_of_all (one ++ other)) (back_all one other o i)

pub part_all : (parts : List (List UpdateValue)) (us : List UpdateValue) → IsIn us parts → (o : Operation) → IsIn o (operations_of_all us) →
    IsIn o (operations_of_all (updates_of parts))
part_all [] us p o i = absurd p
part_all (part ∷ parts) us (inl e) o i = front_all part (updates_of parts) o (subst (λ vs. IsIn o (operations_of_all vs)) e i)
part_all (part ∷ parts) us (inr p) o i = back_all part (updates_of parts) o (part_all parts us p o i)

pub in_part : (parts : List (List UpdateValue)) (o : Operation) → IsIn o (operations_of_all (updates_of parts)) →
    (us : List UpdateValue) × IsIn us parts × IsIn o (operations_of_all us)
in_part [] o i = absurd i
in_part (part ∷ parts) o i = elim (all-append part (updates_of parts) o i) [
  | inl j ↦ (part, inl refl, j)
  | inr j ↦ let (us, p, k) = in_part parts o j in (us, inr p, k)
]

pub part_update : (parts : List (List UpdateValue)) (us : List UpdateValue) → IsIn us parts → (u : UpdateValue) → IsIn u us → IsIn u (updates_of parts)
part_update [] us p u i = absurd p
part_update (part ∷ parts) us (inl e) u i = in_left_part u part (updates_of parts) (subst (λ vs. IsIn u vs) e i)
part_update (part ∷ parts) us (inr p) u i = in_right_part u part (updates_of parts) (part_update parts us p u i)

-- the update that an operation is of
pub update_with : (us : List UpdateValue) (o : Operation) → IsIn o (operations_of_all us) → (u : UpdateValue) × IsIn u us × IsIn o (operations_of u)
update_with [] o i = absurd i
update_with (u ∷ us) o i = elim (in_parts o (operations_of u) (operations_of_all us) i) [
  | inl j ↦ (u, inl refl, j)
  | inr j ↦ let (v, k, l) = update_with us o j in (v, inr k, l)
]

pub of_all : (us : List UpdateValue) (u : UpdateValue) → IsIn u us → (o : Operation) → IsIn o (operations_of u) → IsIn o (operations_of_all us)
of_all [] u i o j = absurd i
of_all (v ∷ us) u (inl e) o j = in_left_part o (operations_of v) (operations_of_all us) (subst (λ w. IsIn o (operations_of w)) e j)
of_all (v ∷ us) u (inr i) o j = in_right_part o (operations_of v) (operations_of_all us) (of_all us u i o j)

pub update_valid : (us : List UpdateValue) → Each IsValidUpdate us → (u : UpdateValue) → IsIn u us → IsValidUpdate u
update_valid [] valid u i = absurd i
update_valid (v ∷ us) valid u (inl e) = subst (λ w. IsValidUpdate w) (sym e) valid.0
update_valid (v ∷ us) valid u (inr i) = update_valid us valid.1 u i

pub front_valid : (one other : List UpdateValue) → Each IsValidUpdate (one ++ other) → Each IsValidUpdate one × Each IsValidUpdate other
front_valid [] other valid = (tt, valid)
front_valid (u ∷ one) other valid = let (front, back) = front_valid one other valid.1 in ((valid.0, front), back)

pub part_valid : (parts : List (List UpdateValue)) → Each IsValidUpdate (updates_of parts) → (us : List UpdateValue) → IsIn us parts → Each IsValidUpdate us
part_valid [] valid us p = absurd p
part_valid (part ∷ parts) valid us (inl e) = subst (λ vs. Each IsValidUpdate vs) (sym e) (front_valid part (updates_of parts) valid).0
part_valid (part ∷ parts) valid us (inr p) = part_valid parts (front_valid part (updates_of parts) valid).1 us p

pub part_merge : (parts : List (List UpdateValue)) (u : UpdateValue) → IsIn u (merges_of parts) → (us : List UpdateValue) × IsIn us parts × (u ≡ merge_of us)
part_merge [] u i = absurd i
part_merge (part ∷ parts) u (inl e) = (part, inl refl, e)
part_merge (part ∷ parts) u (inr i) = let (us, p, e) = part_merge parts u i in (us, inr p, e)

pub merge_part : (parts : List (List UpdateValue)) (us : List UpdateValue) → IsIn us parts → IsIn (merge_of us) (merges_of parts)
merge_part [] us p = absurd p
merge_part (part ∷ parts) us (inl e) = inl (ap merge_of e)
merge_part (part ∷ parts) us (inr p) = inr (merge_part parts us p)
