-- A scanned run goes as its first unit goes, and a new run stands as one where its first unit goes.
use Rattle.std.proofs.Common.{◌≡◌, ◌≢◌, Bool, true, false, cond, List, [], ◌∷◌, ◌++◌, inl, inr, Some, None, Option, refl, sym, ap, ap₂, ◌∙◌, subst, append_assoc, append-nil}
use Rattle.yd_words.specs.Test.{is_some_and}
use Rattle.yd_words.specs.Member.{IsIn, AreDistinct}
use Rattle.yd_words.proofs.MemberLemmas.{in_left_part, in_right_part, in_parts, in_with_last}
use Rattle.yd_words.proofs.OptionLemmas.{some_is}
use Rattle.yd_ids.specs.declared.id.Id.{Id}
use Rattle.yd_ids.specs.Ids.{is_same, is_same_neighbour, has_id}
use Rattle.yd_ids.proofs.IdLemmas.{same_says, same_itself, other_id, has_says}
use Rattle.yd_origins.specs.Scan.{Verdict, stops, moves, stays, verdict, walk, scan_place, after_scan, after_scans}
use Rattle.yd_origins.specs.Growing.{IsRun, IsNotAmong, run_walk}
use Rattle.yd_origins.specs.Parts.{up_to, behind}
use Rattle.yd_origins.proofs.MemberLemmas.{in_behind}
use Rattle.yd_origins.proofs.WalkLemmas.{walk-stops, walk-moves, walk-stays}
use Rattle.yd_origins.proofs.PlacementLemmas.{scan_moves_none}
use Rattle.yd_origins.proofs.GrowingLemmas.{scan_has}

-- ---- the tests at a unit of a run

not_right : (z : Option Id) (x : Id) → z ≢ Some x → is_some_and (is_same x) z ≡ false
not_right None x ne = refl
not_right (Some y) x ne = elim (same_says x y) [ inl e ↦ absurd (ne (ap (λ v. Some v) (sym e.1))) | inr e ↦ e.0 ]

not_left : (z : Option Id) (x : Id) → z ≢ Some x → is_same_neighbour (Some x) z ≡ false
not_left None x ne = refl
not_left (Some y) x ne = elim (same_says x y) [ inl e ↦ absurd (ne (ap (λ v. Some v) (sym e.1))) | inr e ↦ e.0 ]

has_last : (xs : List Id) (x : Id) → has_id (xs ++ x ∷ []) x ≡ true
has_last xs x = elim (has_says (xs ++ x ∷ []) x) [ inl e ↦ e.0 | inr e ↦ absurd (e.1 (in_right_part x xs (x ∷ []) (inl refl))) ]

module _ (left right : Id → Option Id) (o : Id) where
  -- a unit whose left is conflicting stays
  stays_on : (passed conflicting : List Id) (x y : Id) → left y ≡ Some x → right o ≢ Some y → left o ≢ Some x →
      verdict left right o passed (conflicting ++ x ∷ []) y ≡ stays
  stays_on passed conflicting x y e nr nl = rw (verdict, not_right (right o) y nr, e, not_left (left o) x nl, has_last conflicting x) refl

  -- a unit whose left was passed just now is passed too
  moves_on : (passed : List Id) (x y : Id) → left y ≡ Some x → right o ≢ Some y → left o ≢ Some x → verdict left right o (passed ++ x ∷ []) [] y ≡ moves
  moves_on passed x y e nr nl = rw (verdict, not_right (right o) y nr, e, not_left (left o) x nl, has_last passed x) refl

  run_stays : (units : List Id) (x : Id) (passed conflicting rest : List Id) → IsRun left x units → IsNotAmong (right o) units →
      IsNotAmong (left o) (x ∷ units) →
      walk left right o passed (conflicting ++ x ∷ []) (units ++ rest) ≡ walk left right o passed ((conflicting ++ x ∷ []) ++ units) rest
  run_stays [] x passed conflicting rest c nr nl = rw append-nil refl
  run_stays (y ∷ ys) x passed conflicting rest c nr nl =
      walk-stays left right o passed (conflicting ++ x ∷ []) (ys ++ rest) y (stays_on passed conflicting x y c.0 nr.0 nl.0)
      ∙ run_stays ys y passed (conflicting ++ x ∷ []) rest c.1 nr.1 nl.1
      ∙ ap (λ zs. walk left right o passed zs rest) (append_assoc (conflicting ++ x ∷ []) (y ∷ []) ys)

  run_moves : (units : List Id) (x : Id) (passed rest : List Id) → IsRun left x units → IsNotAmong (right o) units → IsNotAmong (left o) (x ∷ units) →
      walk left right o (passed ++ x ∷ []) [] (units ++ rest) ≡ walk left right o ((passed ++ x ∷ []) ++ units) [] rest
  run_moves [] x passed rest c nr nl = rw append-nil refl
  run_moves (y ∷ ys) x passed rest c nr nl =
      walk-moves left right o (passed ++ x ∷ []) [] (ys ++ rest) y (moves_on passed x y c.0 nr.0 nl.0)
      ∙ ap (λ zs. walk left right o (zs ++ y ∷ []) [] (ys ++ rest)) (append-nil (passed ++ x ∷ []))
      ∙ run_moves ys y (passed ++ x ∷ []) rest c.1 nr.1 nl.1
      ∙ ap (λ zs. walk left right o zs [] rest) (append_assoc (passed ++ x ∷ []) (y ∷ []) ys)

  -- a run goes as its first unit goes
  pub run_whole : (x : Id) (units : List Id) (passed conflicting rest : List Id) → IsRun left x units → IsNotAmong (right o) units →
      IsNotAmong (left o) (x ∷ units) →
      walk left right o passed conflicting (x ∷ units ++ rest) ≡ run_walk left right o passed conflicting (x ∷ units) rest (verdict left right o passed conflicting x)
  run_whole x units passed conflicting rest c nr nl = go (verdict left right o passed conflicting x) refl
    where
      go : (v : Verdict) → verdict left right o passed conflicting x ≡ v →
          walk left right o passed conflicting (x ∷ units ++ rest) ≡ run_walk left right o passed conflicting (x ∷ units) rest v
      go stops e = walk-stops left right o passed conflicting (units ++ rest) x e ∙ ap (λ zs. (passed, zs)) (sym (append_assoc conflicting (x ∷ units) rest))
      go moves e = walk-moves left right o passed conflicting (units ++ rest) x e ∙ run_moves units x (passed ++ conflicting) rest c nr nl
          ∙ ap (λ zs. walk left right o zs [] rest) (append_assoc (passed ++ conflicting) (x ∷ []) units)
      go stays e = walk-stays left right o passed conflicting (units ++ rest) x e ∙ run_stays units x passed conflicting rest c nr nl
          ∙ ap (λ zs. walk left right o passed zs rest) (append_assoc conflicting (x ∷ []) units)

  -- a row whose left is not o's stops a scan that has met nothing yet
  stops_first : (p x : Id) → left o ≡ Some p → left x ≢ Some p → verdict left right o [] [] x ≡ stops
  stops_first p x e ne = rw (verdict, e, other_left (left x) p ne, has_nothing (left x)) (either (is_some_and (is_same x) (right o)))
    where
      other_left : (z : Option Id) (p : Id) → z ≢ Some p → is_same_neighbour z (Some p) ≡ false
      other_left None p ne = refl
      other_left (Some y) p ne = elim (same_says y p) [ inl g ↦ absurd (ne (ap (λ v. Some v) g.1)) | inr g ↦ g.0 ]

      has_nothing : (z : Option Id) → is_some_and (has_id []) z ≡ false
      has_nothing None = refl
      has_nothing (Some y) = refl

      either : (t : Bool) → cond t stops stops ≡ stops
      either true = refl
      either false = refl

  nothing_scanned : (p : Id) (m : List Id) → left o ≡ Some p → ((x : Id) → IsIn x m → left x ≢ Some p) → walk left right o [] [] m ≡ ([], m)
  nothing_scanned p [] e none = refl
  nothing_scanned p (x ∷ xs) e none = walk-stops left right o [] [] xs x (stops_first p x e (none x (inl refl)))

  -- where no row has o's left as its own, o stands directly behind it
  pub scan_next : (l : List Id) (p : Id) → left o ≡ Some p → ((x : Id) → IsIn x l → left x ≢ Some p) →
      after_scan left right l o ≡ up_to (Some p) l ++ o ∷ behind (Some p) l
  scan_next l p e none = ap (λ z. with_new z (walk left right o [] [] (behind z l))) e
      ∙ ap (with_new (Some p)) (nothing_scanned p (behind (Some p) l) e (λ x i. none x (in_behind (Some p) l x i)))
      ∙ ap (λ zs. zs ++ o ∷ behind (Some p) l) (append-nil (up_to (Some p) l))
    where
      with_new : Option Id → List Id × List Id → List Id
      with_new z parts = up_to z l ++ parts.0 ++ o ∷ parts.1

-- ---- a new run stays together

-- the list up to an id that stands there once, and what stands behind it
up_to_middle : (front back : List Id) (x : Id) → (IsIn x front → ⊥) → up_to (Some x) (front ++ x ∷ back) ≡ front ++ x ∷ []
up_to_middle [] back x once = rw (same_itself x) refl
up_to_middle (y ∷ ys) back x once = rw (other_id y x (λ e. once (inl (sym e)))) (ap (λ zs. y ∷ zs) (up_to_middle ys back x (λ i. once (inr i))))

behind_middle : (front back : List Id) (x : Id) → (IsIn x front → ⊥) → behind (Some x) (front ++ x ∷ back) ≡ back
behind_middle [] back x once = rw (same_itself x) refl
behind_middle (y ∷ ys) back x once = rw (other_id y x (λ e. once (inl (sym e)))) (behind_middle ys back x (λ i. once (inr i)))

not_among_tail : (z : Option Id) (x : Id) (xs : List Id) → (IsIn x xs → ⊥) → z ≡ Some x → IsNotAmong z xs
not_among_tail z x [] n e = tt
not_among_tail z x (y ∷ ys) n e = ((λ g. n (inl (some_is x y (sym e ∙ g)))), not_among_tail z x ys (λ i. n (inr i)) e)

module _ (left right : Id → Option Id) where
  -- the units behind one that was put in come to stand behind it, in turn
  units_follow : (units front back : List Id) (x : Id) → IsRun left x units → AreDistinct (x ∷ units) → ((y : Id) → IsIn y (x ∷ units) → IsIn y front → ⊥) →
      ((y : Id) → IsIn y (front ++ x ∷ back) → IsNotAmong (left y) (x ∷ units)) →
      after_scans left right (front ++ x ∷ back) units ≡ front ++ (x ∷ units ++ back)
  units_follow [] front back x run distinct new others = refl
  units_follow (y ∷ ys) front back x run distinct new others =
      ap (λ l. after_scans left right l ys) (scan_next left right y (front ++ x ∷ back) x run.0 (λ z i. (others z i).0)
      ∙ ap₂ (λ one two. one ++ y ∷ two) (up_to_middle front back x (new x (inl refl))) (behind_middle front back x (new x (inl refl))))
      ∙ units_follow ys (front ++ x ∷ []) back y run.1 distinct.1 new_to_more others_of_more
      ∙ append_assoc front (x ∷ []) (y ∷ ys ++ back)
    where
      new_to_more : (z : Id) → IsIn z (y ∷ ys) → IsIn z (front ++ x ∷ []) → ⊥
      new_to_more z i j = elim (in_with_last front x z j) [ inl k ↦ new z (inr i) k | inr e ↦ distinct.0 (subst (λ v. IsIn v (y ∷ ys)) e i) ]

      others_of_more : (z : Id) → IsIn z ((front ++ x ∷ []) ++ y ∷ back) → IsNotAmong (left z) (y ∷ ys)
      others_of_more z i = elim (in_parts z (front ++ x ∷ []) (y ∷ back) i) [
        | inl j ↦ elim (in_with_last front x z j) [
          | inl k ↦ (others z (in_left_part z front (x ∷ back) k)).1
          | inr e ↦ (others z (in_right_part z front (x ∷ back) (inl e))).1
        ]
        | inr (inl e) ↦ not_among_tail (left z) x (y ∷ ys) distinct.0 (ap left e ∙ run.0)
        | inr (inr j) ↦ (others z (in_right_part z front (x ∷ back) (inr j))).1
      ]

  -- a new run stands as one, where its first unit goes
  pub run_together : (l : List Id) (first : Id) (units : List Id) → IsRun left first units → AreDistinct (first ∷ units) →
      ((x : Id) → IsIn x (first ∷ units) → IsIn x l → ⊥) → ((x : Id) → IsIn x (first ∷ l) → IsNotAmong (left x) (first ∷ units)) →
      after_scans left right l (first ∷ units) ≡ (scan_place left right l first).0 ++ (first ∷ units ++ (scan_place left right l first).1)
  run_together l first units run distinct new others = units_follow units (scan_place left right l first).0 (scan_place left right l first).1 first run distinct
      (λ x i j. new x i (subst (λ zs. IsIn x zs) (scan_moves_none left right l first)
      (in_left_part x (scan_place left right l first).0 (scan_place left right l first).1 j)))
      (λ x i. others x (scan_has left right l first x i))
