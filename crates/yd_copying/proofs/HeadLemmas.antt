-- The first unit of pieces: it decides which content they become.
use Rattle.std.proofs.Common.{◌≡◌, ℕ, zero, suc, ◌+◌, ◌<◌, ◌≤◌, List, [], ◌∷◌, ◌++◌, map, take, drop, length, get_or, Option, refl, sym, subst, arith}
use Rattle.yd_words.specs.Each.{Each}
use Rattle.yd_any.specs.Tree.{AnyTree, AnyTrees, no_trees, tree}
use Rattle.yd_ops.specs.Operation.{UnitContent, text_unit, json_unit, units_of_trees, units_of_content}
use Rattle.yd_ops.specs.Value.{ContentValue, string, any, json, count_of, len_of}
use Rattle.yd_ops.specs.View.{content_value}
use Rattle.yd_copying.specs.Content.{content_of, whole_units, texts_in, trees_in, values_in}
use Rattle.yd_copying.specs.Piece.{IsPiece, pieces_units}
use Rattle.yd_copying.specs.declared.pieces.Piece.{Piece}

text_head : (o n : ℕ) (us : List ℕ) (rest : List UnitContent) → 0 < n → o + n ≤ length us →
    content_of (take n (drop o (map text_unit us)) ++ rest) ≡ string (whole_units (texts_in (take n (drop o (map text_unit us)) ++ rest)))
text_head o zero us rest some le = absurd (omega (arith, some))
text_head zero (suc n) [] rest some le = absurd (omega (arith, le))
text_head zero (suc n) (u ∷ us) rest some le = refl
text_head (suc o) (suc n) [] rest some le = absurd (omega (arith, le))
text_head (suc o) (suc n) (u ∷ us) rest some le = text_head o (suc n) us rest some (omega (arith, le))

tree_head : (o n : ℕ) (ts : AnyTrees) (rest : List UnitContent) → 0 < n → o + n ≤ count_of ts →
    content_of (take n (drop o (units_of_trees ts)) ++ rest) ≡ any (trees_in (take n (drop o (units_of_trees ts)) ++ rest))
tree_head o zero ts rest some le = absurd (omega (arith, some))
tree_head zero (suc n) no_trees rest some le = absurd (omega (arith, le))
tree_head zero (suc n) (tree t ts) rest some le = refl
tree_head (suc o) (suc n) no_trees rest some le = absurd (omega (arith, le))
tree_head (suc o) (suc n) (tree t ts) rest some le = tree_head o (suc n) ts rest some (omega (arith, le))

json_head : (o n : ℕ) (vs : List (Option AnyTree)) (rest : List UnitContent) → 0 < n → o + n ≤ length vs →
    content_of (take n (drop o (map json_unit vs)) ++ rest) ≡ json (values_in (take n (drop o (map json_unit vs)) ++ rest))
json_head o zero vs rest some le = absurd (omega (arith, some))
json_head zero (suc n) [] rest some le = absurd (omega (arith, le))
json_head zero (suc n) (v ∷ vs) rest some le = refl
json_head (suc o) (suc n) [] rest some le = absurd (omega (arith, le))
json_head (suc o) (suc n) (v ∷ vs) rest some le = json_head o (suc n) vs rest some (omega (arith, le))

-- ---- lemmas for callers

pub copied_text : (ps : List Piece) (p : Piece) (us : List ℕ) (k : ℕ) → 0 < length ps → p ≡ get_or ps 0 p → Each (IsPiece k) ps → content_value p.content.now ≡ string us →
    content_of (pieces_units ps) ≡ string (whole_units (texts_in (pieces_units ps)))
copied_text [] p us k some here each e = absurd (omega (arith, some))
copied_text (q ∷ ps) p us k some here each e =
    subst (λ (content : ContentValue). content_of (take q.len (drop q.offset (units_of_content content)) ++ pieces_units ps)
    ≡ string (whole_units (texts_in (take q.len (drop q.offset (units_of_content content)) ++ pieces_units ps)))) (sym same)
    (text_head q.offset q.len us (pieces_units ps) each.0.some (subst (λ (content : ContentValue). q.offset + q.len ≤ len_of content) same each.0.within))
  where
    same : content_value q.content.now ≡ string us
    same = subst (λ (r : Piece). content_value r.content.now ≡ string us) here e

pub copied_trees : (ps : List Piece) (p : Piece) (ts : AnyTrees) (k : ℕ) → 0 < length ps → p ≡ get_or ps 0 p → Each (IsPiece k) ps → content_value p.content.now ≡ any ts →
    content_of (pieces_units ps) ≡ any (trees_in (pieces_units ps))
copied_trees [] p ts k some here each e = absurd (omega (arith, some))
copied_trees (q ∷ ps) p ts k some here each e =
    subst (λ (content : ContentValue). content_of (take q.len (drop q.offset (units_of_content content)) ++ pieces_units ps)
    ≡ any (trees_in (take q.len (drop q.offset (units_of_content content)) ++ pieces_units ps))) (sym same)
    (tree_head q.offset q.len ts (pieces_units ps) each.0.some (subst (λ (content : ContentValue). q.offset + q.len ≤ len_of content) same each.0.within))
  where
    same : content_value q.content.now ≡ any ts
    same = subst (λ (r : Piece). content_value r.content.now ≡ any ts) here e

pub copied_json : (ps : List Piece) (p : Piece) (vs : List (Option AnyTree)) (k : ℕ) → 0 < length ps → p ≡ get_or ps 0 p → Each (IsPiece k) ps → content_value p.content.now ≡ json vs →
    content_of (pieces_units ps) ≡ json (values_in (pieces_units ps))
copied_json [] p vs k some here each e = absurd (omega (arith, some))
copied_json (q ∷ ps) p vs k some here each e =
    subst (λ (content : ContentValue). content_of (take q.len (drop q.offset (units_of_content content)) ++ pieces_units ps)
    ≡ json (values_in (take q.len (drop q.offset (units_of_content content)) ++ pieces_units ps))) (sym same)
    (json_head q.offset q.len vs (pieces_units ps) each.0.some (subst (λ (content : ContentValue). q.offset + q.len ≤ len_of content) same each.0.within))
  where
    same : content_value q.content.now ≡ json vs
    same = subst (λ (r : Piece). content_value r.content.now ≡ json vs) here e
