-- Scans look at no lefts and rights but those of the rows at hand.
use Rattle.std.proofs.Common.{◌≡◌, List, [], ◌∷◌, ◌++◌, inl, inr, Option, refl, sym, ap, ap₂, ◌∙◌, subst}
use Rattle.yd_words.specs.Member.{IsIn}
use Rattle.yd_ids.specs.declared.id.Id.{Id}
use Rattle.yd_origins.specs.Scan.{Verdict, stops, moves, stays, verdict, walk, after_scan, after_scans}
use Rattle.yd_origins.specs.Parts.{up_to, behind}
use Rattle.yd_origins.proofs.MemberLemmas.{in_behind}
use Rattle.yd_origins.proofs.WalkLemmas.{walk-stops, walk-moves, walk-stays}
use Rattle.yd_origins.proofs.GrowingLemmas.{scan_has}

module _ (left right other_left other_right : Id → Option Id) where
  -- both say the same of an id
  abbrev pub IsSameAt : Id → Type 0
  IsSameAt x = (left x ≡ other_left x) × (right x ≡ other_right x)

  verdict_alike : (new : Id) (passed conflicting : List Id) (x : Id) → IsSameAt new → IsSameAt x →
      verdict left right new passed conflicting x ≡ verdict other_left other_right new passed conflicting x
  verdict_alike new passed conflicting x a b = rw (verdict, a.0, a.1, b.0, b.1) refl

  walk_alike : (new : Id) (rest passed conflicting : List Id) → IsSameAt new → ((x : Id) → IsIn x rest → IsSameAt x) →
      walk left right new passed conflicting rest ≡ walk other_left other_right new passed conflicting rest
  walk_alike new [] passed conflicting a b = refl
  walk_alike new (x ∷ xs) passed conflicting a b = go (verdict left right new passed conflicting x) refl
      (λ ps cs. walk_alike new xs ps cs a (λ y i. b y (inr i)))
    where
      back : (v : Verdict) → verdict left right new passed conflicting x ≡ v → verdict other_left other_right new passed conflicting x ≡ v
      back v e = sym (verdict_alike new passed conflicting x a (b x (inl refl))) ∙ e

      go : (v : Verdict) → verdict left right new passed conflicting x ≡ v →
          ((ps cs : List Id) → walk left right new ps cs xs ≡ walk other_left other_right new ps cs xs) →
          walk left right new passed conflicting (x ∷ xs) ≡ walk other_left other_right new passed conflicting (x ∷ xs)
      go stops e f = walk-stops left right new passed conflicting xs x e ∙ sym (walk-stops other_left other_right new passed conflicting xs x (back stops e))
      go moves e f = walk-moves left right new passed conflicting xs x e ∙ f (passed ++ conflicting ++ x ∷ []) []
          ∙ sym (walk-moves other_left other_right new passed conflicting xs x (back moves e))
      go stays e f = walk-stays left right new passed conflicting xs x e ∙ f passed (conflicting ++ x ∷ [])
          ∙ sym (walk-stays other_left other_right new passed conflicting xs x (back stays e))

  scan_alike : (list : List Id) (new : Id) → IsSameAt new → ((x : Id) → IsIn x list → IsSameAt x) →
      after_scan left right list new ≡ after_scan other_left other_right list new
  scan_alike list new a b = ap₂ (λ z parts. (up_to z list ++ parts.0) ++ new ∷ parts.1) a.0
      (walk_alike new (behind (left new) list) [] [] a (λ x i. b x (in_behind (left new) list x i))
      ∙ ap (λ z. walk other_left other_right new [] [] (behind z list)) a.0)

  -- ---- lemmas for callers

  -- scans in turn give the same, where both say the same of the rows of the list and of the new ones
  pub scans_alike : (news list : List Id) → ((x : Id) → IsIn x news → IsSameAt x) → ((x : Id) → IsIn x list → IsSameAt x) →
      after_scans left right list news ≡ after_scans other_left other_right list news
  scans_alike [] list a b = refl
  scans_alike (n ∷ ns) list a b = ap (λ l. after_scans left right l ns) (scan_alike list n (a n (inl refl)) b)
      ∙ scans_alike ns (after_scan other_left other_right list n) (λ x i. a x (inr i)) (λ x i. elim (scan_has other_left other_right list n x i) [
        | inl e ↦ subst IsSameAt (sym e) (a n (inl refl))
        | inr j ↦ b x j
      ])
