-- Comparing with a cover: the extent that ends last stands for all before it.
use Rattle.std.proofs.Common.{◌≡◌, ◌↔◌, ℕ, List, ◌∷◌, inl, inr, refl, sym, ap, ◌∙◌, subst, arith}
use Rattle.yd_words.specs.Member.{IsIn}
use Rattle.yd_grouping.specs.Cover.{AgreeAt, Extent, HasClock, IsCover}

module _ (extents : List Extent) (cover next : Extent) (is : IsCover extents cover next) (clock : ℕ) (agree : AgreeAt extents clock) where
  -- where the next one and another have the clock, the cover has it
  covers : (s : Extent) → IsIn s extents → HasClock s clock → HasClock next clock → HasClock cover clock
  covers s i has also = let starts = is.starts cover is.there in let ends = is.ends s i in (omega (arith, starts, also.0), omega (arith, ends, has.1))

  with_one : (HasClock next clock → HasClock cover clock → next.at clock ≡ cover.at clock) → (s : Extent) → IsIn s extents → HasClock s clock →
      HasClock next clock → next.at clock ≡ s.at clock
  with_one same s i has also = let c = covers s i has also in same also c ∙ agree cover s is.there i c has

  of_next : (s : Extent) → s ≡ next → HasClock s clock → HasClock next clock
  of_next s e has = subst (λ t. HasClock t clock) e has

  all_agree : (HasClock next clock → HasClock cover clock → next.at clock ≡ cover.at clock) → AgreeAt (next ∷ extents) clock
  all_agree same s t (inl e) (inl f) has also = ap (λ (r : Extent). r.at clock) (e ∙ sym f)
  all_agree same s t (inl e) (inr j) has also = ap (λ (r : Extent). r.at clock) e ∙ with_one same t j also (of_next s e has)
  all_agree same s t (inr i) (inl f) has also = sym (with_one same s i has (of_next t f also)) ∙ ap (λ (r : Extent). r.at clock) (sym f)
  all_agree same s t (inr i) (inr j) has also = agree s t i j has also

  -- ---- lemmas for callers

  pub cover_is_enough : AgreeAt (next ∷ extents) clock ↔ (HasClock next clock → HasClock cover clock → next.at clock ≡ cover.at clock)
  cover_is_enough = ((λ all has also. all next cover (inl refl) (inr is.there) has also), all_agree)
