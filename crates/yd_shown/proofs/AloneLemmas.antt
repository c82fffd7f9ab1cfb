-- Pieces of which neighbouring text differs are joined from their units again, so they are the only ones with these units.
use Rattle.std.proofs.Common.{◌≡◌, ℕ, Bool, true, false, List, [], ◌∷◌, refl, sym, ap, ◌∙◌, arith}
use Rattle.std.specs.Prelude.{if◌then◌else◌}
use Rattle.yd_any.specs.Tree.{AnyFields}
use Rattle.yd_any.specs.Same.{same_fields}
use Rattle.yd_shown.specs.Pieces.{Piece, text_piece, value_piece, unit_before}
use Rattle.yd_shown.specs.Cut.{BeginsApart, AreApart, each_unit, cut_pieces}
use Rattle.yd_any.proofs.SameLemmas.{fields_is, fields_itself}

-- the first unit of a text in front of pieces
abbrev text_joined : List ℕ → AnyFields → List Piece → List Piece
text_joined [] a ps = ps
text_joined (u ∷ us) a ps = unit_before u a (text_joined us a ps)

-- pieces joined again
abbrev joined : List Piece → List Piece
joined [] = []
joined (text_piece us a ∷ ps) = text_joined us a (joined ps)
joined (value_piece t a ∷ ps) = value_piece t a ∷ joined ps

joined_each : (us : List ℕ) (a : AnyFields) (ps : List Piece) → joined (each_unit us a ps) ≡ text_joined us a (joined ps)
joined_each [] a ps = refl
joined_each (u ∷ us) a ps = ap (unit_before u a) (joined_each us a ps)

joined_cut : (ps : List Piece) → joined (cut_pieces ps) ≡ joined ps
joined_cut [] = refl
joined_cut (text_piece us a ∷ ps) = joined_each us a (cut_pieces ps) ∙ ap (text_joined us a) (joined_cut ps)
joined_cut (value_piece t a ∷ ps) = ap (λ qs. value_piece t a ∷ qs) (joined_cut ps)

-- a unit in front of pieces that begin apart
unit_first : (u : ℕ) (a : AnyFields) (ps : List Piece) → BeginsApart a ps → unit_before u a ps ≡ text_piece (u ∷ []) a ∷ ps
unit_first u a [] apart = refl
unit_first u a (value_piece t b ∷ ps) apart = refl
unit_first u a (text_piece us b ∷ ps) apart = go (same_fields a b) refl
  where
    go : (t : Bool) → same_fields a b ≡ t → (if t then text_piece (u ∷ us) b ∷ ps else text_piece (u ∷ []) a ∷ text_piece us b ∷ ps)
        ≡ text_piece (u ∷ []) a ∷ text_piece us b ∷ ps
    go true e = absurd (apart (fields_is a b e))
    go false e = refl

-- a text in front of pieces that begin apart
text_first : (u : ℕ) (us : List ℕ) (a : AnyFields) (ps : List Piece) → BeginsApart a ps → text_joined (u ∷ us) a ps ≡ text_piece (u ∷ us) a ∷ ps
text_first u [] a ps apart = unit_first u a ps apart
text_first u (v ∷ us) a ps apart = ap (unit_before u a) (text_first v us a ps apart) ∙ rw (fields_itself a) refl

joined_itself : (ps : List Piece) → AreApart ps → joined ps ≡ ps
joined_itself [] apart = refl
joined_itself (value_piece t a ∷ ps) apart = ap (λ qs. value_piece t a ∷ qs) (joined_itself ps apart)
joined_itself (text_piece [] a ∷ ps) apart = let some = apart.0 in absurd (omega (arith, some))
joined_itself (text_piece (u ∷ us) a ∷ ps) apart = ap (text_joined (u ∷ us) a) (joined_itself ps apart.2) ∙ text_first u us a ps apart.1

-- ---- lemmas for callers

pub pieces_alone : (ps qs : List Piece) → AreApart ps → AreApart qs → cut_pieces ps ≡ cut_pieces qs → ps ≡ qs
pieces_alone ps qs apart other e = sym (joined_itself ps apart) ∙ sym (joined_cut ps) ∙ ap joined e ∙ joined_cut qs ∙ joined_itself qs other
