-- The texts, any-values and JSON units among units, and pieces one after another.
use Rattle.std.proofs.Common.{◌≡◌, ℕ, ◌+◌, ◌<◌, ◌≤◌, List, [], ◌∷◌, ◌++◌, map, take, drop, length, get_or, Option, refl, sym, ap, ◌∙◌, subst, append_assoc}
use Rattle.std.proofs.lemmas.List.{drop_more, drop_all, take-map, drop-map}
use Rattle.yd_words.specs.Each.{Each}
use Rattle.yd_any.specs.AnyView.{any_tree, items_trees}
use Rattle.yd_any.specs.declared.any_value.Any.{Any}
use Rattle.yd_any.specs.Rows.{first_trees, other_trees, trees_and}
use Rattle.yd_any.specs.Tree.{AnyTree, AnyTrees, no_trees, tree, with_last}
use Rattle.yd_ops.specs.Operation.{UnitContent, text_unit, any_unit, json_unit, bytes, embedded, mark, nested_type, deleted_unit, gone_unit, units_of_trees, units_of_content}
use Rattle.yd_ops.specs.Valid.{AreValidTrees, IsValidUnit}
use Rattle.yd_ops.specs.Value.{string, any, json, count_of}
use Rattle.yd_grouping.specs.Groupable.{IsValidUnitContent}
use Rattle.yd_merge.proofs.ContentLemmas.{part-units}
use Rattle.yd_copying.specs.Content.{texts_in, trees_in, values_in}
use Rattle.yd_copying.specs.Piece.{piece_units, pieces_units}
use Rattle.yd_copying.specs.declared.pieces.Piece.{Piece}

-- ---- one row behind another

pub texts_both : (us vs : List UnitContent) → texts_in (us ++ vs) ≡ texts_in us ++ texts_in vs
texts_both [] vs = refl
texts_both (text_unit unit ∷ us) vs = ap (λ ns. unit ∷ ns) (texts_both us vs)
texts_both (any_unit value ∷ us) vs = texts_both us vs
texts_both (json_unit value ∷ us) vs = texts_both us vs
texts_both (bytes blob ∷ us) vs = texts_both us vs
texts_both (embedded value ∷ us) vs = texts_both us vs
texts_both (mark key value ∷ us) vs = texts_both us vs
texts_both (nested_type kind ∷ us) vs = texts_both us vs
texts_both (deleted_unit ∷ us) vs = texts_both us vs
texts_both (gone_unit ∷ us) vs = texts_both us vs

pub trees_both : (us vs : List UnitContent) → trees_in (us ++ vs) ≡ trees_and (trees_in us) (trees_in vs)
trees_both [] vs = refl
trees_both (text_unit unit ∷ us) vs = trees_both us vs
trees_both (any_unit value ∷ us) vs = ap (tree value) (trees_both us vs)
trees_both (json_unit value ∷ us) vs = trees_both us vs
trees_both (bytes blob ∷ us) vs = trees_both us vs
trees_both (embedded value ∷ us) vs = trees_both us vs
trees_both (mark key value ∷ us) vs = trees_both us vs
trees_both (nested_type kind ∷ us) vs = trees_both us vs
trees_both (deleted_unit ∷ us) vs = trees_both us vs
trees_both (gone_unit ∷ us) vs = trees_both us vs

pub values_both : (us vs : List UnitContent) → values_in (us ++ vs) ≡ values_in us ++ values_in vs
values_both [] vs = refl
values_both (text_unit unit ∷ us) vs = values_both us vs
values_both (any_unit value ∷ us) vs = values_both us vs
values_both (json_unit value ∷ us) vs = ap (λ ns. value ∷ ns) (values_both us vs)
values_both (bytes blob ∷ us) vs = values_both us vs
values_both (embedded value ∷ us) vs = values_both us vs
values_both (mark key value ∷ us) vs = values_both us vs
values_both (nested_type kind ∷ us) vs = values_both us vs
values_both (deleted_unit ∷ us) vs = values_both us vs
values_both (gone_unit ∷ us) vs = values_both us vs

-- ---- of one kind

texts_all : (us : List ℕ) → texts_in (map text_unit us) ≡ us
texts_all [] = refl
texts_all (u ∷ us) = ap (λ ns. u ∷ ns) (texts_all us)

trees_all : (ts : AnyTrees) → trees_in (units_of_trees ts) ≡ ts
trees_all no_trees = refl
trees_all (tree t ts) = ap (tree t) (trees_all ts)

values_all : (vs : List (Option AnyTree)) → values_in (map json_unit vs) ≡ vs
values_all [] = refl
values_all (v ∷ vs) = ap (λ ns. v ∷ ns) (values_all vs)

trees_valid : (ts : AnyTrees) → Each IsValidUnitContent (units_of_trees ts) → AreValidTrees ts
trees_valid no_trees each = tt
trees_valid (tree t ts) each = (each.0, trees_valid ts each.1)

values_valid : (vs : List (Option AnyTree)) → Each IsValidUnitContent (map json_unit vs) → Each IsValidUnit vs
values_valid [] each = tt
values_valid (v ∷ vs) each = (each.0, values_valid vs each.1)

map_part : {X Y : Type 0} (f : X → Y) (o n : ℕ) (xs : List X) → take n (drop o (map f xs)) ≡ map f (take n (drop o xs))
map_part f o n xs = ap (take n) (drop-map f o xs) ∙ take-map f n (drop o xs)

-- ---- lemmas for callers: of a piece

pub text_part : (o n : ℕ) (us : List ℕ) → texts_in (take n (drop o (units_of_content (string us)))) ≡ take n (drop o us)
text_part o n us = ap texts_in (map_part text_unit o n us) ∙ texts_all (take n (drop o us))

pub trees_part : (o n : ℕ) (ts : AnyTrees) → 0 < n → o + n ≤ count_of ts → trees_in (take n (drop o (units_of_content (any ts)))) ≡ first_trees n (other_trees o ts)
trees_part o n ts some le = ap trees_in (sym (part-units o n (any ts) some le)) ∙ trees_all (first_trees n (other_trees o ts))

pub trees_part_valid : (o n : ℕ) (ts : AnyTrees) → 0 < n → o + n ≤ count_of ts → Each IsValidUnitContent (take n (drop o (units_of_content (any ts)))) →
    AreValidTrees (first_trees n (other_trees o ts))
trees_part_valid o n ts some le each = trees_valid (first_trees n (other_trees o ts)) (subst (Each IsValidUnitContent) (sym (part-units o n (any ts) some le)) each)

pub values_part : (o n : ℕ) (vs : List (Option AnyTree)) → values_in (take n (drop o (units_of_content (json vs)))) ≡ take n (drop o vs)
values_part o n vs = ap values_in (map_part json_unit o n vs) ∙ values_all (take n (drop o vs))

pub values_part_valid : (o n : ℕ) (vs : List (Option AnyTree)) → Each IsValidUnitContent (take n (drop o (units_of_content (json vs)))) → Each IsValidUnit (take n (drop o vs))
values_part_valid o n vs each = values_valid (take n (drop o vs)) (subst (Each IsValidUnitContent) (map_part json_unit o n vs) each)

-- ---- lemmas for callers: one more

pub trees_last : (ts : AnyTrees) (t : AnyTree) (rest : AnyTrees) → trees_and (with_last ts t) rest ≡ trees_and ts (tree t rest)
trees_last no_trees t rest = refl
trees_last (tree x ts) t rest = ap (tree x) (trees_last ts t rest)

pub trees_none : (ts : AnyTrees) → trees_and ts no_trees ≡ ts
trees_none no_trees = refl
trees_none (tree t ts) = ap (tree t) (trees_none ts)

pub trees_join : (a b c : AnyTrees) → trees_and (trees_and a b) c ≡ trees_and a (trees_and b c)
trees_join no_trees b c = refl
trees_join (tree t a) b c = ap (tree t) (trees_join a b c)

pub values_next : (vs : List Any) (i : ℕ) (v : Any) (old new : AnyTrees) (copy : AnyTree) → i < length vs → v ≡ get_or vs i v → copy ≡ any_tree v → new ≡ with_last old copy →
    trees_and new (items_trees (drop (i + 1) vs)) ≡ trees_and old (items_trees (drop i vs))
values_next vs i v old new copy lt here same e = ap (λ (ts : AnyTrees). trees_and ts (items_trees (drop (i + 1) vs))) (e ∙ ap (with_last old) same)
    ∙ trees_last old (any_tree v) (items_trees (drop (i + 1) vs))
    ∙ ap (λ us. trees_and old (items_trees us)) (ap (λ (u : Any). u ∷ drop (i + 1) vs) here ∙ sym (drop_more vs i v lt))

pub values_end : (vs : List Any) (i : ℕ) (all : AnyTrees) → length vs ≤ i → all ≡ trees_and all (items_trees (drop i vs))
values_end vs i all le = sym (trees_none all) ∙ ap (λ us. trees_and all (items_trees us)) (sym (drop_all i vs le))

-- one more piece
pub texts_next : (ps : List Piece) (i : ℕ) (p : Piece) (old new : List ℕ) → i < length ps → p ≡ get_or ps i p → new ≡ old ++ texts_in (piece_units p) →
    new ++ texts_in (pieces_units (drop (i + 1) ps)) ≡ old ++ texts_in (pieces_units (drop i ps))
texts_next ps i p old new lt here e = ap (λ ns. ns ++ texts_in (pieces_units (drop (i + 1) ps))) e
    ∙ append_assoc old (texts_in (piece_units p)) (texts_in (pieces_units (drop (i + 1) ps)))
    ∙ ap (λ ns. old ++ ns) (sym (texts_both (piece_units p) (pieces_units (drop (i + 1) ps))))
    ∙ ap (λ us. old ++ texts_in (pieces_units us)) (ap (λ (u : Piece). u ∷ drop (i + 1) ps) here ∙ sym (drop_more ps i p lt))

pub trees_next : (ps : List Piece) (i : ℕ) (p : Piece) (old new : AnyTrees) → i < length ps → p ≡ get_or ps i p → new ≡ trees_and old (trees_in (piece_units p)) →
    trees_and new (trees_in (pieces_units (drop (i + 1) ps))) ≡ trees_and old (trees_in (pieces_units (drop i ps)))
trees_next ps i p old new lt here e = ap (λ (ts : AnyTrees). trees_and ts (trees_in (pieces_units (drop (i + 1) ps)))) e
    ∙ trees_join old (trees_in (piece_units p)) (trees_in (pieces_units (drop (i + 1) ps)))
    ∙ ap (trees_and old) (sym (trees_both (piece_units p) (pieces_units (drop (i + 1) ps))))
    ∙ ap (λ us. trees_and old (trees_in (pieces_units us))) (ap (λ (u : Piece). u ∷ drop (i + 1) ps) here ∙ sym (drop_more ps i p lt))

pub trees_end : (ps : List Piece) (i : ℕ) (all : AnyTrees) → length ps ≤ i → all ≡ trees_and all (trees_in (pieces_units (drop i ps)))
trees_end ps i all le = sym (trees_none all) ∙ ap (λ us. trees_and all (trees_in (pieces_units us))) (sym (drop_all i ps le))

pub json_next : (ps : List Piece) (i : ℕ) (p : Piece) (old new : List (Option AnyTree)) → i < length ps → p ≡ get_or ps i p → new ≡ old ++ values_in (piece_units p) →
    new ++ values_in (pieces_units (drop (i + 1) ps)) ≡ old ++ values_in (pieces_units (drop i ps))
json_next ps i p old new lt here e = ap (λ ns. ns ++ values_in (pieces_units (drop (i + 1) ps))) e
    ∙ append_assoc old (values_in (piece_units p)) (values_in (pieces_units (drop (i + 1) ps)))
    ∙ ap (λ ns. old ++ ns) (sym (values_both (piece_units p) (pieces_units (drop (i + 1) ps))))
    ∙ ap (λ us. old ++ values_in (pieces_units us)) (ap (λ (u : Piece). u ∷ drop (i + 1) ps) here ∙ sym (drop_more ps i p lt))
