-- What is made again of units of a group holds what they held, but for halves that stand alone.
use Rattle.std.proofs.Common.{◌≡◌, ℕ, ◌<◌, ◌&&◌, ◌||◌, Bool, true, false, List, [], ◌∷◌, ◌++◌, map, inl, inr, refl, sym, ap, ◌∙◌, subst, arith, true≢false}
use Rattle.std.specs.Prelude.{if◌then◌else◌}
use Rattle.yd_words.specs.Each.{Each}
use Rattle.yd_ops.specs.Operation.{UnitContent, text_unit, any_unit, json_unit, bytes, embedded, mark, nested_type, deleted_unit, gone_unit, units_of_content, units_of_trees}
use Rattle.yd_ops.specs.Pairs.{is_high, is_low}
use Rattle.yd_copying.specs.Content.{can_be_made, kind_of, alone, whole_units, texts_in, trees_in, values_in, content_of}
use Rattle.yd_restoring.specs.Again.{plain, IsAgain, AreAgain}

-- ---- one by one

pub again_same : (us : List UnitContent) → AreAgain us us
again_same [] = tt
again_same (u ∷ us) = (inl refl, again_same us)

pub again_both : (us vs cs ds : List UnitContent) → AreAgain us vs → AreAgain cs ds → AreAgain (us ++ cs) (vs ++ ds)
again_both [] [] cs ds f g = g
again_both [] (v ∷ vs) cs ds f g = absurd f
again_both (u ∷ us) [] cs ds f g = absurd f
again_both (u ∷ us) (v ∷ vs) cs ds f g = (f.0, again_both us vs cs ds f.1 g)

alone_alone : (u : ℕ) → alone (alone u) ≡ alone u
alone_alone u = go (is_high u || is_low u) refl
  where
    go : (t : Bool) → (is_high u || is_low u) ≡ t → alone (if t then 0xFFFD else u) ≡ (if t then 0xFFFD else u)
    go true e = refl
    go false e = ap (λ t. if t then 0xFFFD else u) e

plain_plain : (u : UnitContent) → plain (plain u) ≡ plain u
plain_plain (text_unit unit) = ap text_unit (alone_alone unit)
plain_plain (any_unit value) = refl
plain_plain (json_unit value) = refl
plain_plain (bytes blob) = refl
plain_plain (embedded value) = refl
plain_plain (mark key value) = refl
plain_plain (nested_type kind) = refl
plain_plain deleted_unit = refl
plain_plain gone_unit = refl

one_then : (a b c : UnitContent) → IsAgain a b → IsAgain b c → IsAgain a c
one_then a b c (inl e) (inl f) = inl (e ∙ f)
one_then a b c (inl e) (inr f) = inr (e ∙ f)
one_then a b c (inr e) (inl f) = inr (e ∙ ap plain f)
one_then a b c (inr e) (inr f) = inr (e ∙ ap plain f ∙ plain_plain c)

pub again_then : (us vs ws : List UnitContent) → AreAgain us vs → AreAgain vs ws → AreAgain us ws
again_then [] [] [] f g = tt
again_then [] [] (w ∷ ws) f g = absurd g
again_then [] (v ∷ vs) ws f g = absurd f
again_then (u ∷ us) [] ws f g = absurd f
again_then (u ∷ us) (v ∷ vs) [] f g = absurd g
again_then (u ∷ us) (v ∷ vs) (w ∷ ws) f g = (one_then u v w f.0 g.0, again_then us vs ws f.1 g.1)

-- ---- texts

texts_again : (us : List ℕ) → AreAgain (map text_unit (whole_units us)) (map text_unit us)
texts_again [] = tt
texts_again (u ∷ []) = (inr refl, tt)
texts_again (u ∷ v ∷ us) = go (is_high u && is_low v) (texts_again us) (texts_again (v ∷ us))
  where
    go : (t : Bool) → AreAgain (map text_unit (whole_units us)) (map text_unit us) → AreAgain (map text_unit (whole_units (v ∷ us))) (map text_unit (v ∷ us)) →
        AreAgain (map text_unit (if t then u ∷ v ∷ whole_units us else alone u ∷ whole_units (v ∷ us))) (map text_unit (u ∷ v ∷ us))
    go true pair one = (inl refl, (inl refl, pair))
    go false pair one = (inr refl, one)

-- ---- units of one kind

-- a unit goes on a group of a kind
abbrev pub IsOf : ℕ → UnitContent → Type 0
IsOf kind u = (0 < kind) × (kind_of u ≡ kind)

texts_all : (us : List UnitContent) → Each (IsOf 1) us → map text_unit (texts_in us) ≡ us
texts_all [] each = refl
texts_all (text_unit unit ∷ us) each = ap (λ vs. text_unit unit ∷ vs) (texts_all us each.1)
texts_all (any_unit value ∷ us) each = absurd (omega (arith, each.0.1))
texts_all (json_unit value ∷ us) each = absurd (omega (arith, each.0.1))
texts_all (bytes blob ∷ us) each = absurd (omega (arith, each.0.1))
texts_all (embedded value ∷ us) each = absurd (omega (arith, each.0.1))
texts_all (mark key value ∷ us) each = absurd (omega (arith, each.0.1))
texts_all (nested_type kind ∷ us) each = absurd (omega (arith, each.0.1))
texts_all (deleted_unit ∷ us) each = absurd (omega (arith, each.0.1))
texts_all (gone_unit ∷ us) each = absurd (omega (arith, each.0.1))

trees_all : (us : List UnitContent) → Each (IsOf 2) us → units_of_trees (trees_in us) ≡ us
trees_all [] each = refl
trees_all (text_unit unit ∷ us) each = absurd (omega (arith, each.0.1))
trees_all (any_unit value ∷ us) each = ap (λ vs. any_unit value ∷ vs) (trees_all us each.1)
trees_all (json_unit value ∷ us) each = absurd (omega (arith, each.0.1))
trees_all (bytes blob ∷ us) each = absurd (omega (arith, each.0.1))
trees_all (embedded value ∷ us) each = absurd (omega (arith, each.0.1))
trees_all (mark key value ∷ us) each = absurd (omega (arith, each.0.1))
trees_all (nested_type kind ∷ us) each = absurd (omega (arith, each.0.1))
trees_all (deleted_unit ∷ us) each = absurd (omega (arith, each.0.1))
trees_all (gone_unit ∷ us) each = absurd (omega (arith, each.0.1))

values_all : (us : List UnitContent) → Each (IsOf 3) us → map json_unit (values_in us) ≡ us
values_all [] each = refl
values_all (text_unit unit ∷ us) each = absurd (omega (arith, each.0.1))
values_all (any_unit value ∷ us) each = absurd (omega (arith, each.0.1))
values_all (json_unit value ∷ us) each = ap (λ vs. json_unit value ∷ vs) (values_all us each.1)
values_all (bytes blob ∷ us) each = absurd (omega (arith, each.0.1))
values_all (embedded value ∷ us) each = absurd (omega (arith, each.0.1))
values_all (mark key value ∷ us) each = absurd (omega (arith, each.0.1))
values_all (nested_type kind ∷ us) each = absurd (omega (arith, each.0.1))
values_all (deleted_unit ∷ us) each = absurd (omega (arith, each.0.1))
values_all (gone_unit ∷ us) each = absurd (omega (arith, each.0.1))

-- what is of no kind that runs have several of stands alone
one_alone : (u : UnitContent) (us : List UnitContent) → Each (IsOf 0) us → AreAgain (u ∷ []) (u ∷ us)
one_alone u [] each = (inl refl, tt)
one_alone u (v ∷ us) each = absurd (omega (arith, each.0.0))

same_again : (us vs : List UnitContent) → us ≡ vs → AreAgain us vs
same_again us vs e = subst (λ ws. AreAgain us ws) e (again_same us)

-- ---- lemmas for callers

-- what is made of a group
pub content_again : (u : UnitContent) (us : List UnitContent) → can_be_made u ≡ true → Each (IsOf (kind_of u)) us → AreAgain (units_of_content (content_of (u ∷ us))) (u ∷ us)
content_again (text_unit unit) us e each = again_then (map text_unit (whole_units (unit ∷ texts_in us))) (map text_unit (unit ∷ texts_in us)) (text_unit unit ∷ us)
    (texts_again (unit ∷ texts_in us)) (same_again (text_unit unit ∷ map text_unit (texts_in us)) (text_unit unit ∷ us) (ap (λ vs. text_unit unit ∷ vs) (texts_all us each)))
content_again (any_unit value) us e each = same_again (any_unit value ∷ units_of_trees (trees_in us)) (any_unit value ∷ us) (ap (λ vs. any_unit value ∷ vs) (trees_all us each))
content_again (json_unit value) us e each = same_again (json_unit value ∷ map json_unit (values_in us)) (json_unit value ∷ us) (ap (λ vs. json_unit value ∷ vs) (values_all us each))
content_again (bytes blob) us e each = one_alone (bytes blob) us each
content_again (embedded value) us e each = one_alone (embedded value) us each
content_again (mark key value) us e each = one_alone (mark key value) us each
content_again (nested_type kind) us e each = absurd (true≢false (sym e))
content_again deleted_unit us e each = absurd (true≢false (sym e))
content_again gone_unit us e each = absurd (true≢false (sym e))
