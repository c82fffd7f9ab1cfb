-- A list in three parts, of which the middle ends with a unit: what a filter keeps of it, and a unit put on each side of the middle.
use Rattle.std.proofs.Common.{append_assoc, ◌≡◌, ◌≢◌, Bool, true, List, [], ◌∷◌, ◌++◌, Some, None, inl, inr, refl, sym, ap, ◌∙◌, subst}
use Rattle.std.proofs.lemmas.List.Elements.{filter-append}
use Rattle.std.specs.Prelude.{filter, if◌then◌else◌}
use Rattle.yd_words.proofs.MemberLemmas.{in_right_part, in_parts}
use Rattle.yd_ops.specs.Operation.{Operation}
use Rattle.yd_editing.specs.Made.{units_up_to, units_behind, put_behind}
use Rattle.yd_editing.specs.TextEdit.{stands_before}
use Rattle.yd_editing.proofs.IndexLemmas.{AreApart}
use Rattle.yd_editing.proofs.DeleteLemmas.{apart_parts, apart_back, apart_kept}
use Rattle.yd_editing.proofs.AroundLemmas.{HasNot, up_to_unit, behind_unit, put_after, put_before}

module _ (front between behind : List Operation) (last : Operation) (units : List Operation) (parts : units ≡ front ++ (between ++ last ∷ behind)) (apart : AreApart units) where
  abbrev middle : List Operation
  middle = between ++ last ∷ []

  pub three_parts : units ≡ front ++ ((between ++ last ∷ []) ++ behind)
  three_parts = parts ∙ ap (λ os. front ++ os) (sym (append_assoc between (last ∷ []) behind))

  pub apart_three : AreApart (front ++ ((between ++ last ∷ []) ++ behind))
  apart_three = subst (λ os. AreApart os) three_parts apart

  apart_last : AreApart (front ++ (between ++ last ∷ behind))
  apart_last = subst (λ os. AreApart os) parts apart

  -- ---- what a filter keeps

  module _ (test : Operation → Bool) where
    pub kept_parts : filter test units ≡ filter test front ++ (filter test (between ++ last ∷ []) ++ filter test behind)
    kept_parts = ap (filter test) three_parts ∙ filter-append test front (middle ++ behind) ∙ ap (λ os. filter test front ++ os) (filter-append test middle behind)

    kept_apart : AreApart (filter test front ++ (filter test middle ++ filter test behind))
    kept_apart = subst (λ os. AreApart os) kept_parts (apart_kept test units apart)

    module _ (last_kept : test last ≡ true) where
      kept_ends : filter test middle ≡ filter test between ++ last ∷ []
      kept_ends = filter-append test between (last ∷ []) ∙ ap (λ t. filter test between ++ (if t then last ∷ [] else [])) last_kept

      pub kept_up_to : units_up_to (Some last.id) (filter test units) ≡ filter test front ++ filter test (between ++ last ∷ [])
      kept_up_to = ap (units_up_to (Some last.id)) (kept_parts ∙ shape)
          ∙ up_to_unit last (filter test front ++ filter test between) (filter test behind)
          (λ o i. apart_parts (filter test front ++ filter test between) (last ∷ filter test behind) (subst (λ os. AreApart os) shape kept_apart) o last i (inl refl))
          ∙ append_assoc (filter test front) (filter test between) (last ∷ []) ∙ ap (λ os. filter test front ++ os) (sym kept_ends)
        where
          shape : filter test front ++ (filter test middle ++ filter test behind) ≡ (filter test front ++ filter test between) ++ last ∷ filter test behind
          shape = ap (λ os. filter test front ++ (os ++ filter test behind)) kept_ends
              ∙ ap (λ os. filter test front ++ os) (append_assoc (filter test between) (last ∷ []) (filter test behind))
              ∙ sym (append_assoc (filter test front) (filter test between) (last ∷ filter test behind))

      -- behind the first unit of the middle
      module _ (first : Operation) (rest : List Operation) (starts : between ++ last ∷ [] ≡ first ∷ rest) (first_kept : test first ≡ true) where
        kept_starts : filter test middle ≡ first ∷ filter test rest
        kept_starts = ap (filter test) starts ∙ ap (λ t. if t then first ∷ filter test rest else filter test rest) first_kept

        pub kept_behind : units_behind (Some first.id) (units_up_to (Some last.id) (filter test units)) ≡ filter test rest
        kept_behind = ap (units_behind (Some first.id)) (kept_up_to ∙ ap (λ os. filter test front ++ os) kept_starts)
            ∙ behind_unit first (filter test front) (filter test rest) (λ o i. apart_parts (filter test front) (first ∷ filter test rest ++ filter test behind)
            (subst (λ os. AreApart (filter test front ++ (os ++ filter test behind))) kept_starts kept_apart) o first i (inl refl))

  -- ---- a unit on each side of the middle

  module _ (first : Operation) (rest : List Operation) (starts : between ++ last ∷ [] ≡ first ∷ rest) (one two : Operation) (differ : one.id ≢ last.id) where
    starts_so : units ≡ front ++ (first ∷ (rest ++ behind))
    starts_so = three_parts ∙ ap (λ os. front ++ (os ++ behind)) starts

    put_one : put_behind (stands_before first.id None units) (one ∷ []) units ≡ front ++ (one ∷ (first ∷ (rest ++ behind)))
    put_one = subst (λ us. put_behind (stands_before first.id None us) (one ∷ []) us ≡ front ++ (one ∷ (first ∷ (rest ++ behind)))) (sym starts_so)
        (put_before (one ∷ []) front first (rest ++ behind) (subst (λ os. AreApart os) starts_so apart))

    one_reshaped : front ++ (one ∷ (first ∷ (rest ++ behind))) ≡ (front ++ one ∷ between) ++ last ∷ behind
    one_reshaped = ap (λ os. front ++ (one ∷ (os ++ behind))) (sym starts) ∙ ap (λ os. front ++ (one ∷ os)) (append_assoc between (last ∷ []) behind)
        ∙ sym (append_assoc front (one ∷ between) (last ∷ behind))

    last_not_before : HasNot last.id (front ++ one ∷ between)
    last_not_before o i = elim (in_parts o front (one ∷ between) i) [
      | inl j ↦ apart_parts front (between ++ last ∷ behind) apart_last o last j (in_right_part last between (last ∷ behind) (inl refl))
      | inr (inl e) ↦ λ f. differ (sym (ap (λ (p : Operation). p.id) e) ∙ f)
      | inr (inr j) ↦ apart_parts between (last ∷ behind) (apart_back front (between ++ last ∷ behind) apart_last) o last j (inl refl)
    ]

    pub put_around : put_behind (Some last.id) (two ∷ []) (put_behind (stands_before first.id None units) (one ∷ []) units)
        ≡ front ++ (one ∷ ((between ++ last ∷ []) ++ (two ∷ behind)))
    put_around = ap (put_behind (Some last.id) (two ∷ [])) (put_one ∙ one_reshaped) ∙ put_after (two ∷ []) last (front ++ one ∷ between) behind last_not_before
        ∙ append_assoc front (one ∷ between) (last ∷ (two ∷ behind)) ∙ ap (λ os. front ++ (one ∷ os)) (sym (append_assoc between (last ∷ []) (two ∷ behind)))
