-- What is found of pieces: one unit for each, and their last units.
use Rattle.std.proofs.Common.{◌≡◌, ℕ, zero, suc, ◌<◌, List, [], ◌∷◌, ◌++◌, ◌⊎◌, inl, inr, Option, Some, None, true, length, get_or, refl, sym, ap, ◌∙◌, subst, arith, true≢false}
use Rattle.std.specs.Prelude.{IfSome, is_some, slice_get}
use Rattle.std.proofs.lemmas.List.{length-append}
use Rattle.yd_words.specs.Each.{Each}
use Rattle.yd_words.specs.Member.{IsIn}
use Rattle.yd_words.proofs.OptionLemmas.{some_is}
use Rattle.yd_ids.specs.declared.id.Id.{Id}
use Rattle.yd_order.specs.Stretch.{EndsAtClock}
use Rattle.yd_order.specs.declared.stretch.Stretch.{Stretch}
use Rattle.yd_firsts.specs.Pieces.{HasUnits, last_of, StandsFor, StandFor, AreLasts, BeginsWith, IsFirstOf, EndsWith, IsPieceOf}

-- what stands at a place is in the list
pub at_in : {X : Type 0} (xs : List X) (n : ℕ) (x : X) → slice_get xs n ≡ Some x → IsIn x xs
at_in [] n x e = absurd cc
at_in (y ∷ ys) zero x e = inl (sym (some_is y x e))
at_in (y ∷ ys) (suc n) x e = inr (at_in ys n x e)

get_of : (xs : List Stretch) (n : ℕ) (x d : Stretch) → slice_get xs n ≡ Some x → get_or xs n d ≡ x
get_of [] n x d e = absurd cc
get_of (y ∷ ys) zero x d e = some_is y x e
get_of (y ∷ ys) (suc n) x d e = get_of ys n x d e

pub found_first : (pieces : List Stretch) (x : Id) (z : Option ℕ) → IfSome z (BeginsWith pieces x) → is_some z ≡ true → IsFirstOf pieces x
found_first pieces x None f e = absurd (true≢false (sym e))
found_first pieces x (Some at) (q, g, is) e = (q, at_in pieces at q g, is)

pub found_last : (pieces : List Stretch) (x : Id) (at : ℕ) (d : Stretch) → EndsWith pieces x at → IsPieceOf pieces (Some x) (Some (get_or pieces at d).id)
found_last pieces x at d (q, e, is) = (q, at_in pieces at q e, is, ap (λ (s : Stretch). s.id) (sym (get_of pieces at q d e)))

pub found_left : (pieces : List Stretch) (z : Option Id) (x : Id) (at : ℕ) (d : Stretch) → z ≡ Some x → EndsWith pieces x at → IsPieceOf pieces z (Some (get_or pieces at d).id)
found_left pieces z x at d e f = subst (λ w. IsPieceOf pieces w (Some (get_or pieces at d).id)) (sym e) (found_last pieces x at d f)

-- ---- one for each

pub stand_push : (all ss ds : List Stretch) (s d : Stretch) → StandFor all ss ds → StandsFor all s d → StandFor all (ss ++ s ∷ []) (ds ++ d ∷ [])
stand_push all [] [] s d f g = (g, tt)
stand_push all [] (e ∷ ds) s d f g = absurd f
stand_push all (p ∷ ss) [] s d f g = absurd f
stand_push all (p ∷ ss) (e ∷ ds) s d f g = (f.0, stand_push all ss ds s d f.1 g)

pub stand_more : (all seen more ds new : List Stretch) (s d : Stretch) → StandFor all seen ds → StandsFor all s d → more ≡ seen ++ s ∷ [] → new ≡ ds ++ d ∷ [] → StandFor all more new
stand_more all seen more ds new s d f g e h = subst (λ xs. StandFor all xs new) (sym e) (subst (λ ys. StandFor all (seen ++ s ∷ []) ys) (sym h) (stand_push all seen ds s d f g))

-- ---- the last units

at_pushed : (xs : List Id) (y : Id) (n : ℕ) (z : Id) → slice_get (xs ++ y ∷ []) n ≡ Some z → (slice_get xs n ≡ Some z) ⊎ ((n ≡ length xs) × (z ≡ y))
at_pushed [] y zero z e = inr (refl, sym (some_is y z e))
at_pushed [] y (suc n) z e = absurd cc
at_pushed (x ∷ xs) y zero z e = inl e
at_pushed (x ∷ xs) y (suc n) z e = elim (at_pushed xs y n z e) [ inl f ↦ inl f | inr f ↦ inr (ap suc f.0, f.1) ]

pub at_inside : (xs : List Id) (n : ℕ) (x : Id) → slice_get xs n ≡ Some x → n < length xs
at_inside [] n x e = absurd cc
at_inside (y ∷ ys) zero x e = omega arith
at_inside (y ∷ ys) (suc n) x e = omega (arith, at_inside ys n x e)

pub lasts_none : (pieces : List Stretch) → AreLasts pieces [] []
lasts_none pieces = record { as_many = refl; each = λ n x y e. absurd cc }

pub lasts_more : (pieces : List Stretch) (seen more lasts new : List Id) (x y : Id) (q : Stretch) → AreLasts pieces seen lasts → IsIn q pieces → q.id ≡ x → last_of q ≡ y →
    more ≡ seen ++ x ∷ [] → new ≡ lasts ++ y ∷ [] → AreLasts pieces more new
lasts_more pieces seen more lasts new x y q are i f l e g = subst (λ xs. AreLasts pieces xs new) (sym e) (subst (λ ys. AreLasts pieces (seen ++ x ∷ []) ys) (sym g) (record {
  as_many = omega (arith, are.as_many, length-append lasts (y ∷ []), length-append seen (x ∷ []));
  each = λ n v w a b. elim (at_pushed seen x n v a) [
    | inl c ↦ elim (at_pushed lasts y n w b) [
      | inl d ↦ are.each n v w c d
      | inr d ↦ absurd (omega (arith, d.0, at_inside seen n v c, are.as_many))
    ]
    | inr c ↦ elim (at_pushed lasts y n w b) [
      | inl d ↦ absurd (omega (arith, c.0, at_inside lasts n w d, are.as_many))
      | inr d ↦ (q, i, f ∙ sym c.1, l ∙ sym d.1)
    ]
  ];
}))

pub lasts_found : (pieces : List Stretch) (seen more lasts new : List Id) (x y : Id) (at : ℕ) (d : Stretch) → AreLasts pieces seen lasts → BeginsWith pieces x at →
    y ≡ last_of (get_or pieces at d) → more ≡ seen ++ x ∷ [] → new ≡ lasts ++ y ∷ [] → AreLasts pieces more new
lasts_found pieces seen more lasts new x y at d are (q, e, is) l f g = lasts_more pieces seen more lasts new x y q are (at_in pieces at q e) is
    (sym (ap last_of (get_of pieces at q d e)) ∙ sym l) f g

pub stand_clocks : (all ss ds : List Stretch) → StandFor all ss ds → Each EndsAtClock ss → Each HasUnits ss → Each EndsAtClock ds
stand_clocks all [] [] f c u = tt
stand_clocks all [] (d ∷ ds) f c u = absurd f
stand_clocks all (s ∷ ss) [] f c u = absurd f
stand_clocks all (s ∷ ss) (d ∷ ds) f c u = (omega (arith, c.0, u.0, f.0.single, ap (λ (x : Id). x.clock) f.0.id), stand_clocks all ss ds f.1 c.1 u.1)
