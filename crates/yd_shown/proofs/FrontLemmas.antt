-- Pieces that are built from the front: unit by unit they are those of their units, and neighbouring text differs.
use Rattle.std.proofs.Common.{◌≡◌, ◌<◌, ℕ, Bool, true, false, List, [], ◌∷◌, ◌++◌, length, refl, sym, ap, ◌∙◌, subst, arith, true≢false}
use Rattle.std.proofs.lemmas.List.{append_assoc, append-nil}
use Rattle.std.specs.Prelude.{if◌then◌else◌}
use Rattle.yd_any.specs.Tree.{AnyTree, AnyFields, no_fields}
use Rattle.yd_ops.specs.Operation.{UnitContent, text_unit, embedded, mark, nested_type, deleted_unit, gone_unit, Operation}
use Rattle.yd_any.specs.Same.{same_fields}
use Rattle.yd_shown.specs.Pieces.{Piece, text_piece, value_piece, attributes_after, delta_pieces, list_pieces}
use Rattle.yd_shown.specs.Cut.{delta_unit, delta_units, list_unit, list_units, each_unit, cut_pieces, BeginsApart, AreApart}
use Rattle.yd_shown.specs.Front.{unit_behind, value_behind, delta_behind, delta_from, list_behind, list_from}
use Rattle.yd_any.proofs.SameLemmas.{fields_is, fields_itself}
use Rattle.yd_shown.proofs.PieceLemmas.{delta_is, list_is}
use Rattle.yd_shown.proofs.AloneLemmas.{pieces_alone}

-- ---- unit by unit

each-behind : (us : List ℕ) (a : AnyFields) (ps qs : List Piece) → each_unit us a ps ++ qs ≡ each_unit us a (ps ++ qs)
each-behind [] a ps qs = refl
each-behind (u ∷ us) a ps qs = ap (λ rs. text_piece (u ∷ []) a ∷ rs) (each-behind us a ps qs)

each-last : (us : List ℕ) (u : ℕ) (a : AnyFields) (ps : List Piece) → each_unit (us ++ u ∷ []) a ps ≡ each_unit us a (text_piece (u ∷ []) a ∷ ps)
each-last [] u a ps = refl
each-last (v ∷ us) u a ps = ap (λ rs. text_piece (v ∷ []) a ∷ rs) (each-last us u a ps)

cut-append : (ps qs : List Piece) → cut_pieces (ps ++ qs) ≡ cut_pieces ps ++ cut_pieces qs
cut-append [] qs = refl
cut-append (text_piece us a ∷ ps) qs = ap (each_unit us a) (cut-append ps qs) ∙ sym (each-behind us a (cut_pieces ps) (cut_pieces qs))
cut-append (value_piece t a ∷ ps) qs = ap (λ rs. value_piece t a ∷ rs) (cut-append ps qs)

cut-unit : (ps : List Piece) (u : ℕ) (a : AnyFields) → cut_pieces (unit_behind ps u a) ≡ cut_pieces ps ++ text_piece (u ∷ []) a ∷ []
cut-unit [] u a = refl
cut-unit (text_piece us b ∷ []) u a = go (same_fields b a) refl
  where
    go : (t : Bool) → same_fields b a ≡ t → cut_pieces (if t then text_piece (us ++ u ∷ []) b ∷ [] else text_piece us b ∷ text_piece (u ∷ []) a ∷ [])
        ≡ each_unit us b [] ++ text_piece (u ∷ []) a ∷ []
    go true e = each-last us u b [] ∙ ap (λ c. each_unit us b (text_piece (u ∷ []) c ∷ [])) (fields_is b a e) ∙ sym (each-behind us b [] (text_piece (u ∷ []) a ∷ []))
    go false e = sym (each-behind us b [] (text_piece (u ∷ []) a ∷ []))
cut-unit (value_piece t b ∷ []) u a = refl
cut-unit (text_piece us b ∷ q ∷ ps) u a = ap (each_unit us b) (cut-unit (q ∷ ps) u a) ∙ sym (each-behind us b (cut_pieces (q ∷ ps)) (text_piece (u ∷ []) a ∷ []))
cut-unit (value_piece t b ∷ q ∷ ps) u a = ap (λ rs. value_piece t b ∷ rs) (cut-unit (q ∷ ps) u a)

-- ---- neighbours

-- what begins apart does so with a unit more behind
begins-unit : (b : AnyFields) (p : Piece) (ps : List Piece) (u : ℕ) (a : AnyFields) → BeginsApart b (p ∷ ps) → BeginsApart b (unit_behind (p ∷ ps) u a)
begins-unit b (text_piece us c) [] u a apart = go (same_fields c a)
  where
    go : (t : Bool) → BeginsApart b (if t then text_piece (us ++ u ∷ []) c ∷ [] else text_piece us c ∷ text_piece (u ∷ []) a ∷ [])
    go true = apart
    go false = apart
begins-unit b (value_piece t c) [] u a apart = tt
begins-unit b (text_piece us c) (q ∷ ps) u a apart = apart
begins-unit b (value_piece t c) (q ∷ ps) u a apart = tt

unit-apart : (ps : List Piece) (u : ℕ) (a : AnyFields) → AreApart ps → AreApart (unit_behind ps u a)
unit-apart [] u a apart = (omega arith, tt, tt)
unit-apart (text_piece us b ∷ []) u a apart = go (same_fields b a) refl
  where
    some : (vs : List ℕ) → 0 < length (vs ++ u ∷ [])
    some [] = omega arith
    some (v ∷ vs) = omega arith

    go : (t : Bool) → same_fields b a ≡ t → AreApart (if t then text_piece (us ++ u ∷ []) b ∷ [] else text_piece us b ∷ text_piece (u ∷ []) a ∷ [])
    go true e = (some us, tt, tt)
    go false e = (apart.0, (λ one. true≢false (sym (fields_itself a) ∙ subst (λ c. same_fields c a ≡ false) one e)), (omega arith, tt, tt))
unit-apart (value_piece t b ∷ []) u a apart = (omega arith, tt, tt)
unit-apart (text_piece us b ∷ q ∷ ps) u a apart = (apart.0, begins-unit b q ps u a apart.1, unit-apart (q ∷ ps) u a apart.2)
unit-apart (value_piece t b ∷ q ∷ ps) u a apart = unit-apart (q ∷ ps) u a apart

begins-value : (b : AnyFields) (ps : List Piece) (t : AnyTree) (a : AnyFields) → BeginsApart b ps → BeginsApart b (value_behind ps t a)
begins-value b [] t a apart = tt
begins-value b (text_piece us c ∷ ps) t a apart = apart
begins-value b (value_piece v c ∷ ps) t a apart = tt

value-apart : (ps : List Piece) (t : AnyTree) (a : AnyFields) → AreApart ps → AreApart (value_behind ps t a)
value-apart [] t a apart = tt
value-apart (text_piece us b ∷ ps) t a apart = (apart.0, begins-value b ps t a apart.1, value-apart ps t a apart.2)
value-apart (value_piece v b ∷ ps) t a apart = value-apart ps t a apart

-- ---- deltas

delta-one : (show : Operation → AnyTree) (ps : List Piece) (a : AnyFields) (o : Operation) (c : UnitContent) (rest : List Piece) →
    cut_pieces (delta_behind show ps a o c) ++ rest ≡ cut_pieces ps ++ delta_unit show a o c rest
delta-one show ps a o (text_unit u) rest = ap (λ rs. rs ++ rest) (cut-unit ps u a) ∙ append_assoc (cut_pieces ps) (text_piece (u ∷ []) a ∷ []) rest
delta-one show ps a o (embedded t) rest = ap (λ rs. rs ++ rest) (cut-append ps (value_piece (show o) a ∷ [])) ∙ append_assoc (cut_pieces ps) (value_piece (show o) a ∷ []) rest
delta-one show ps a o (nested_type kind) rest = ap (λ rs. rs ++ rest) (cut-append ps (value_piece (show o) a ∷ [])) ∙ append_assoc (cut_pieces ps) (value_piece (show o) a ∷ []) rest
delta-one show ps a o _ rest = refl

delta-cut : (show : Operation → AnyTree) (ps : List Piece) (a : AnyFields) (os : List Operation) →
    cut_pieces (delta_from show ps a os) ≡ cut_pieces ps ++ delta_units show a os
delta-cut show ps a [] = sym (append-nil (cut_pieces ps))
delta-cut show ps a (o ∷ os) = delta-cut show (delta_behind show ps a o o.content) (attributes_after a o.content) os
    ∙ delta-one show ps a o o.content (delta_units show (attributes_after a o.content) os)

delta-apart_one : (show : Operation → AnyTree) (ps : List Piece) (a : AnyFields) (o : Operation) (c : UnitContent) → AreApart ps → AreApart (delta_behind show ps a o c)
delta-apart_one show ps a o (text_unit u) apart = unit-apart ps u a apart
delta-apart_one show ps a o (embedded t) apart = value-apart ps (show o) a apart
delta-apart_one show ps a o (nested_type kind) apart = value-apart ps (show o) a apart
delta-apart_one show ps a o _ apart = apart

delta-apart : (show : Operation → AnyTree) (ps : List Piece) (a : AnyFields) (os : List Operation) → AreApart ps → AreApart (delta_from show ps a os)
delta-apart show ps a [] apart = apart
delta-apart show ps a (o ∷ os) apart =
    delta-apart show (delta_behind show ps a o o.content) (attributes_after a o.content) os (delta-apart_one show ps a o o.content apart)

-- ---- lists

list-one : (show : Operation → AnyTree) (ps : List Piece) (o : Operation) (c : UnitContent) (rest : List Piece) →
    cut_pieces (list_behind show ps o c) ++ rest ≡ cut_pieces ps ++ list_unit show o c rest
list-one show ps o (text_unit u) rest = ap (λ rs. rs ++ rest) (cut-unit ps u no_fields) ∙ append_assoc (cut_pieces ps) (text_piece (u ∷ []) no_fields ∷ []) rest
list-one show ps o (mark k t) rest = refl
list-one show ps o deleted_unit rest = refl
list-one show ps o gone_unit rest = refl
list-one show ps o _ rest = ap (λ rs. rs ++ rest) (cut-append ps (value_piece (show o) no_fields ∷ []))
    ∙ append_assoc (cut_pieces ps) (value_piece (show o) no_fields ∷ []) rest

list-cut : (show : Operation → AnyTree) (ps : List Piece) (os : List Operation) → cut_pieces (list_from show ps os) ≡ cut_pieces ps ++ list_units show os
list-cut show ps [] = sym (append-nil (cut_pieces ps))
list-cut show ps (o ∷ os) = list-cut show (list_behind show ps o o.content) os ∙ list-one show ps o o.content (list_units show os)

list-apart_one : (show : Operation → AnyTree) (ps : List Piece) (o : Operation) (c : UnitContent) → AreApart ps → AreApart (list_behind show ps o c)
list-apart_one show ps o (text_unit u) apart = unit-apart ps u no_fields apart
list-apart_one show ps o (mark k t) apart = apart
list-apart_one show ps o deleted_unit apart = apart
list-apart_one show ps o gone_unit apart = apart
list-apart_one show ps o _ apart = value-apart ps (show o) no_fields apart

list-apart : (show : Operation → AnyTree) (ps : List Piece) (os : List Operation) → AreApart ps → AreApart (list_from show ps os)
list-apart show ps [] apart = apart
list-apart show ps (o ∷ os) apart = list-apart show (list_behind show ps o o.content) os (list-apart_one show ps o o.content apart)

-- ---- lemmas for callers

pub delta_from_front : (show : Operation → AnyTree) (a : AnyFields) (os : List Operation) → delta_from show [] a os ≡ delta_pieces show a os
delta_from_front show a os = pieces_alone (delta_from show [] a os) (delta_pieces show a os) (delta-apart show [] a os tt) (delta_is show a os).apart
    (delta-cut show [] a os ∙ sym (delta_is show a os).cut)

pub list_from_front : (show : Operation → AnyTree) (os : List Operation) → list_from show [] os ≡ list_pieces show os
list_from_front show os = pieces_alone (list_from show [] os) (list_pieces show os) (list-apart show [] os tt) (list_is show os).apart
    (list-cut show [] os ∙ sym (list_is show os).cut)
