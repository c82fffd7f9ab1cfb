-- What reading a text gives is valid: its units, and the value of a JSON text.
use Rattle.std.proofs.Common.{◌≡◌, ◌∙◌, ◌<◌, [], ◌∷◌, ℕ, Bool, true, false, List, length, Option, Some, None, Result, Ok, Err, IsTrue, IsUtf8, codes, nat_eq, if◌then◌else◌, refl, subst, sym, ap, arith}
use Rattle.std.specs.Str.{bytes_eq}
use Rattle.std.proofs.lemmas.Str.{utf16_chars-nil}
use Rattle.yd_any.specs.Outcome.{value_of_text}
use Rattle.yd_any.specs.Tree.{AnyTree}
use Rattle.yd_any.specs.Valid.{is_valid_json}
use Rattle.yd_any.specs.declared.fault.JsonFault.{JsonFault}
use Rattle.yd_any.proofs.TextValidLemmas.{value_of_text_valid}
use Rattle.yd_num.proofs.ReadingLemmas.{ok_value}
use Rattle.yd_units.specs.Text.{text_of, units_of}
use Rattle.yd_units.proofs.TextLemmas.{text_back, text_fits, text_whole}
use Rattle.yd_ops.specs.Value as ops
use Rattle.yd_ops.specs.Valid.{IsValidContent, IsValidUnit}
use Rattle.yd_fields.specs.JsonPlan.{made_at, unit_at, value_at}
use Rattle.yd_parts.specs.Plan.{and_then}
use Rattle.yd_parts.specs.declared.fault.Spot.{Spot}

-- the value that was made of a JSON text is valid
pub value_at_valid : (spot : Spot) (text : List ℕ) (t : AnyTree) → value_at spot text ≡ Ok t → IsTrue (is_valid_json t)
value_at_valid spot text t is = made (value_of_text text) refl is
  where
    made : (value : Result AnyTree JsonFault) → value_of_text text ≡ value → made_at spot value ≡ Ok t → IsTrue (is_valid_json t)
    made (Ok u) is_value at = value_of_text_valid text t (is_value ∙ at_value u at)
      where
        at_value : (u : AnyTree) → made_at spot (Ok u) ≡ Ok t → ◌≡◌ {A = Result AnyTree JsonFault} (Ok u) (Ok t)
        at_value u at = ap Ok (ok_value u t at)
    made (Err fault) is_value at = absurd cc

-- the unit of a text
pub unit_at_valid : (spot : Spot) (text : List ℕ) (u : Option AnyTree) → unit_at spot text ≡ Ok u → IsValidUnit u
unit_at_valid spot text u is = by_name (bytes_eq text (codes "undefined")) is
  where
    of_value : (made : Result AnyTree JsonFault) → ((t : AnyTree) → made ≡ Ok t → IsTrue (is_valid_json t)) → and_then (made_at spot made) (λ t. Ok (Some t)) ≡ Ok u → IsValidUnit u
    of_value (Ok t) valid same = subst IsValidUnit (ok_value (Some t) u same) (valid t refl)
    of_value (Err fault) valid same = absurd cc

    by_name : (name : Bool) → (if name then Ok None else and_then (value_at spot text) (λ t. Ok (Some t))) ≡ Ok u → IsValidUnit u
    by_name true same = subst IsValidUnit (ok_value None u same) tt
    by_name false same = of_value (value_of_text text) (value_of_text_valid text) same

-- the units of a text are the content of a string
pub text_units_valid : (text : List ℕ) → IsUtf8 text → IsValidContent (ops.string (units_of text))
text_units_valid text is = (text_fits text is, text_whole text is)

-- a text that is not empty has units
pub text_has_units : (text : List ℕ) → IsUtf8 text → nat_eq (length text) 0 ≡ false → 0 < length (units_of text)
unfolding text_of
text_has_units text is filled = by_units (units_of text) (text_back text is)
  where
    by_units : (units : List ℕ) → text_of units ≡ text → 0 < length units
    by_units (u ∷ us) same = omega arith
    by_units [] same =
        let empty : text ≡ [] = sym same ∙ rw utf16_chars-nil refl in
        let none : nat_eq (length text) 0 ≡ true = ap (λ t. nat_eq (length t) 0) empty in
        absurd cc
