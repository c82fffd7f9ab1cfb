-- An id that does not stand among the first so many of a list.
use Rattle.std.proofs.Common.{◌≡◌, ◌≢◌, ℕ, suc, ◌+◌, ◌<◌, ◌≤◌, false, inl, inr, List, [], ◌∷◌, Some, length, get_or, refl, sym, ◌∙◌, subst, arith}
use Rattle.std.specs.Prelude.{slice_get}
use Rattle.std.proofs.lemmas.Option.{slice_get-get_or}
use Rattle.yd_words.specs.Member.{IsIn}
use Rattle.yd_words.proofs.OptionLemmas.{some_is}
use Rattle.yd_words.proofs.TestLemmas.{same_or_other}
use Rattle.yd_ids.specs.declared.id.Id.{Id}
use Rattle.yd_ids.specs.Ids.{is_same}
use Rattle.yd_ids.proofs.IdLemmas.{differs}

-- the id stands at none of the first so many places
abbrev pub IsNotBefore : List Id → Id → ℕ → Type 0
IsNotBefore ids x count = (y : ℕ) → y < count → slice_get ids y ≢ Some x

pub not_before_none : (ids : List Id) (x : Id) → IsNotBefore ids x 0
not_before_none ids x y lt = absurd (omega (arith, lt))

pub not_before_more : (ids : List Id) (x : Id) (n : ℕ) (d : Id) → n < length ids → is_same (get_or ids n d) x ≡ false → IsNotBefore ids x n → IsNotBefore ids x (n + 1)
not_before_more ids x n d lt other before y less e = elim (same_or_other y n) [
  | inl one ↦ differs (get_or ids n d) x other (some_is (get_or ids n d) x (sym (slice_get-get_or ids n d lt) ∙ subst (λ m. slice_get ids m ≡ Some x) one e))
  | inr apart ↦ before y (omega (arith, less, apart)) e
]

pub place_in : (ids : List Id) (x : Id) → IsIn x ids → (y : ℕ) × (y < length ids) × (slice_get ids y ≡ Some x)
place_in [] x i = absurd i
place_in (y ∷ ys) x (inl e) = (0, omega arith, subst (λ z. Some y ≡ Some z) (sym e) refl)
place_in (y ∷ ys) x (inr i) = let (n, lt, e) = place_in ys x i in (suc n, omega (arith, lt), e)

pub not_before_all : (ids : List Id) (x : Id) (n : ℕ) → length ids ≤ n → IsNotBefore ids x n → IsIn x ids → ⊥
not_before_all ids x n le before i = let (y, lt, e) = place_in ids x i in before y (omega (arith, lt, le)) e
