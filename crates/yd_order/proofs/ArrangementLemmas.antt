-- For every table the origin order is one for all arrangements of its rows.
use Rattle.std.proofs.Common.{◌≡◌, ◌≢◌, ℕ, ◌+◌, ◌≤◌, ◌↔◌, Bool, ◌||◌, ◌&&◌, List, [], ◌∷◌, nat_lt, nat_eq, inl, inr, refl, sym, ap, ap₂, ◌∙◌, subst, arith}
use Rattle.std.specs.Prelude.{if◌then◌else◌}
use Rattle.yd_words.specs.Member.{IsIn, AreDistinct}
use Rattle.yd_words.specs.Test.{one_if}
use Rattle.yd_ids.specs.declared.id.Id.{Id}
use Rattle.yd_ids.specs.Ids.{is_same, is_smaller}
use Rattle.yd_ids.proofs.IdLemmas.{same_says}
use Rattle.yd_origins.specs.Table.{Row, OriginTable, ids_of, IsTable, IsPart}
use Rattle.yd_origins.specs.Before.{is_before}
use Rattle.yd_origins.specs.Sorted.{count_before, goes_first, origin_order}
use Rattle.yd_origins.proofs.LineLemmas.{in_order_alike}
use Rattle.yd_origins.proofs.PartLemmas.{part_member, part_order, table_is_part}
use Rattle.yd_origins.proofs.SortedLemmas.{in_origin_order, origin_order_in}
use Rattle.yd_order.specs.Counting.{count_in}
use Rattle.yd_order.proofs.SortedLemmas.{counts_line, sorted_in_order, in_order_is_order}

-- ---- counts

-- a list without the first that is one id
abbrev without : Id → List Id → List Id
without x [] = []
without x (y ∷ ys) = if is_same y x then ys else y ∷ without x ys

count_without : (f : Id → Id → Bool) (x : Id) (ys : List Id) (z : Id) → IsIn x ys → count_before f ys z ≡ one_if (f x z) + count_before f (without x ys) z
count_without f x [] z i = absurd i
count_without f x (y ∷ ys) z i = elim (same_says y x) [
  | inl e ↦ rw e.0 (ap (λ (w : Id). one_if (f w z) + count_before f ys z) e.1)
  | inr e ↦ rw e.0 (swapped (one_if (f y z)) (one_if (f x z)) (count_before f ys z) (count_before f (without x ys) z)
      (count_without f x ys z (elim i [ inl g ↦ absurd (e.1 (sym g)) | inr j ↦ j ])))
]
  where
    swapped : (a b c d : ℕ) → c ≡ b + d → a + c ≡ b + (a + d)
    swapped a b c d e = omega arith

in_without : (x w : Id) (ys : List Id) → IsIn w ys → w ≢ x → IsIn w (without x ys)
in_without x w [] i ne = i
in_without x w (y ∷ ys) i ne = elim (same_says y x) [
  | inl e ↦ rw e.0 (elim i [ inl g ↦ absurd (ne (g ∙ e.1)) | inr j ↦ j ])
  | inr e ↦ rw e.0 (elim i [ inl g ↦ inl g | inr j ↦ inr (in_without x w ys j ne) ])
]

-- where all of some distinct ids are among others, no more of them are before one
count_within : (f : Id → Id → Bool) (xs ys : List Id) (z : Id) → AreDistinct xs → ((w : Id) → IsIn w xs → IsIn w ys) → count_before f xs z ≤ count_before f ys z
count_within f [] ys z d within = omega arith
count_within f (x ∷ xs) ys z d within = omega (
  arith,
  count_without f x ys z (within x (inl refl)),
  count_within f xs (without x ys) z d.1 (λ w i. in_without x w ys (within w (inr i)) (λ e. d.0 (subst (λ (v : Id). IsIn v xs) e i))),
)

count_alike : (f g : Id → Id → Bool) (xs : List Id) (z : Id) → ((w : Id) → IsIn w xs → f w z ≡ g w z) → count_before f xs z ≡ count_before g xs z
count_alike f g [] z same = refl
count_alike f g (x ∷ xs) z same = ap₂ (λ (t : Bool) (n : ℕ). one_if t + n) (same x (inl refl)) (count_alike f g xs z (λ w i. same w (inr i)))

-- ---- two arrangements

module _ (table other : OriginTable) (t : IsTable table) (u : IsTable other) (same : (row : Row) → IsIn row table ↔ IsIn row other) where
  other_is_part : IsPart other table
  other_is_part = table_is_part other table u (λ row. (same row).1)

  whole_is_part : IsPart table other
  whole_is_part = table_is_part table other t (λ row. (same row).0)

  to_table : (x : Id) → IsIn x (ids_of other) → IsIn x (ids_of table)
  to_table = part_member other table t other_is_part

  to_other : (x : Id) → IsIn x (ids_of table) → IsIn x (ids_of other)
  to_other = part_member table other u whole_is_part

  same_count : (x : Id) → IsIn x (ids_of other) → count_in other x ≡ count_in table x
  same_count x i = count_alike (is_before other) (is_before table) (ids_of other) x (λ w j. part_order other table t other_is_part w x j i)
      ∙ omega (
        arith,
        count_within (is_before table) (ids_of other) (ids_of table) x u.distinct to_table,
        count_within (is_before table) (ids_of table) (ids_of other) x t.distinct to_other,
      )

  same_first : (a b : Id) → IsIn a (ids_of other) → IsIn b (ids_of other) → goes_first other a b ≡ goes_first table a b
  same_first a b i j = ap₂ (λ (m n : ℕ). nat_lt m n || (nat_eq m n && is_smaller a b)) (same_count a i) (same_count b j)

  -- the arrangement of the rows makes no difference to their order
  pub one_order : origin_order other ≡ origin_order table
  one_order = in_order_is_order table t.distinct (origin_order other)
      (in_order_alike (goes_first other) (goes_first table) (λ x. IsIn x (ids_of other)) same_first (origin_order other) (origin_order_in other)
      (sorted_in_order (goes_first other) (counts_line other) (ids_of other) u.distinct))
      (λ x. ((λ i. to_table x (origin_order_in other x i)), (λ i. in_origin_order other x (to_other x i))))
