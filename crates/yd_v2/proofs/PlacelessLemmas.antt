-- The parts that a field wants do not depend on where it stands.
use Rattle.std.proofs.Common.{◌≡◌, ◌+◌, ◌^◌, ℕ, suc, List, [], ◌∷◌, ◌++◌, Bool, true, false, Option, Some, None, Result, Ok, Err, map, nat_lt, if◌then◌else◌, refl, ap, sym, subst, ◌∙◌}
use Rattle.yd_any.specs.Outcome.{carried}
use Rattle.yd_any.specs.Tree.{AnyTree}
use Rattle.yd_any.specs.declared.fault.JsonFault.{JsonFault}
use Rattle.yd_fields.specs.Field.{FieldType, FieldValue}
use Rattle.yd_fields.specs.Field as field
use Rattle.yd_reading.specs.Judged.{flag_at, range_at}
use Rattle.yd_fields.specs.JsonPlan.{made_at}
use Rattle.yd_parts.proofs.AlikeLemmas.{AreAlike, alike_bind, alike_give, alike_refuse, alike_want}
use Rattle.yd_parts.specs.AnyPlan.{any_plan}
use Rattle.yd_parts.specs.Part.{PartPlan, PartValue}
use Rattle.yd_parts.specs.Plan.{Expects, Found, LeadsTo, give, refuse, want, of_made, things_in, ◌>>=◌}
use Rattle.yd_parts.specs.declared.fault.Cause.TheVariants.{BadParent, ClockTooLarge}
use Rattle.yd_parts.specs.declared.fault.Spot.{Spot}
use Rattle.yd_v2.proofs.AnyPartsLemmas.{any_alike}
use Rattle.yd_v2.proofs.WantLemmas.{in_file}
use Rattle.yd_v2.specs.Columns.{placeless}
use Rattle.yd_v2.specs.Part.{V2Plan, V2Value, rest}
use Rattle.yd_v2.specs.Plan.{any_field_plan, as_read, found_key, in_rest, json_field_plan, key_of_number, key_plan, range_plan, v2_plan}
use Rattle.yd_v2.specs.Standing.{RestThing, V2Thing}

-- ---- plans in the rest

-- a part that was found in the rest, among parts of a file
abbrev file_part : Found PartValue → Found V2Value
file_part found = record { type = rest found.type; value = found.value; spot = found.spot }

-- parts that lead a plan in the rest are parts of the rest that lead the plan
record LeadsInRest {X : Type 0} (plan : PartPlan X) (found : List (Found V2Value)) (x : X) : Type 0 where
  parts : List (Found PartValue)
  are : found ≡ map file_part parts
  leads : LeadsTo plan parts (give x)

leads_in_rest : {X : Type 0} (plan : PartPlan X) (found : List (Found V2Value)) (x : X) → LeadsTo (in_rest plan) found (give x) → LeadsInRest plan found x
unfolding in_rest
leads_in_rest (give y) [] x leads = let same : y ≡ x = cc in record { parts = []; are = refl; leads = ap give same }
leads_in_rest (give y) (thing ∷ found) x leads = absurd leads
leads_in_rest (refuse cause spot) [] x leads = absurd cc
leads_in_rest (refuse cause spot) (thing ∷ found) x leads = absurd leads
leads_in_rest (want t next) [] x leads = absurd cc
leads_in_rest (want t next) (thing ∷ found) x leads =
    let later = leads_in_rest (next leads.0 leads.1) found x leads.3 in
    record {
      parts = record { type = t; value = leads.0; spot = leads.1 } ∷ later.parts;
      are = ap (λ one. one ∷ found) leads.2 ∙ ap (λ fs. record { type = rest t; value = leads.0; spot = leads.1 } ∷ fs) later.are;
      leads = (leads.0, leads.1, refl, later.leads);
    }

-- what a plan expects, it expects in the rest
expects_in_rest : {X : Type 0} (plan : PartPlan X) (things : List RestThing) (x : X) → Expects plan things x → Expects (in_rest plan) (map in_file things) x
unfolding in_rest
expects_in_rest (give y) [] x is = is
expects_in_rest (give y) (thing ∷ things) x is = absurd is
expects_in_rest (refuse cause spot) things x is = absurd is
expects_in_rest (want t next) [] x is = absurd is
expects_in_rest (want t next) (thing ∷ things) x is = (is.0, ap in_file is.1, λ spot. expects_in_rest (next is.0 spot) things x (is.2 spot))

-- both ways of forgetting spots are the same
forget : (parts : List (Found PartValue)) → map in_file (things_in parts) ≡ things_in (map file_part parts)
forget [] = refl
forget (found ∷ parts) = ap (λ things. (rest found.type, found.value) ∷ things) (forget parts)

alike_in_rest : {X : Type 0} (plan : PartPlan X) → AreAlike plan plan → AreAlike (in_rest plan) (in_rest plan)
alike_in_rest {X} plan alike = record { expected = λ found x leads. expected found x (leads_in_rest plan found x leads) }
  where
    expected : (found : List (Found V2Value)) (x : X) → LeadsInRest plan found x → Expects (in_rest plan) (things_in found) x
    expected found x inner = subst (λ things. Expects (in_rest plan) things x) (forget inner.parts ∙ ap things_in (sym inner.are)) (expects_in_rest plan (things_in inner.parts) x (alike.expected inner.parts x inner.leads))

-- ---- three plans in a row

leads_apart : {X Y Z : Type 0} (plan : V2Plan X) (next : X → V2Plan Y) (last : Y → V2Plan Z) (found : List (Found V2Value)) (z : Z) → LeadsTo ((plan >>= next) >>= last) found (give z) → LeadsTo (plan >>= λ x. next x >>= last) found (give z)
unfolding ◌>>=◌
leads_apart (give x) next last found z leads = leads
leads_apart (refuse cause spot) next last found z leads = leads
leads_apart (want t go) next last [] z leads = absurd cc
leads_apart (want t go) next last (thing ∷ found) z leads = (leads.0, leads.1, leads.2, leads_apart (go leads.0 leads.1) next last found z leads.3)

expects_together : {X Y Z : Type 0} (plan : V2Plan X) (next : X → V2Plan Y) (last : Y → V2Plan Z) (things : List V2Thing) (z : Z) → Expects (plan >>= λ x. next x >>= last) things z → Expects ((plan >>= next) >>= last) things z
unfolding ◌>>=◌
expects_together (give x) next last things z is = is
expects_together (refuse cause spot) next last things z is = is
expects_together (want t go) next last [] z is = absurd is
expects_together (want t go) next last (thing ∷ things) z is = (is.0, is.1, λ spot. expects_together (go is.0 spot) next last things z (is.2 spot))

alike_apart : {X Y Z : Type 0} (plan : V2Plan X) (next other : X → V2Plan Y) (last : Y → V2Plan Z) → AreAlike plan plan → ((x : X) → AreAlike (next x >>= last) (other x >>= last)) → AreAlike ((plan >>= next) >>= last) ((plan >>= other) >>= last)
alike_apart plan next other last first later = record {
  expected = λ found z leads. expects_together plan other last (things_in found) z ((alike_bind first later).expected found z (leads_apart plan next last found z leads));
}

-- ---- fields

-- a flag
flag_alike : (v : ℕ) (known : List (List ℕ)) (spot place : Spot) → AreAlike ((of_made (flag_at spot v) >>= λ f. as_read known f spot) >>= placeless) ((of_made (flag_at place v) >>= λ f. as_read known f place) >>= placeless)
unfolding ◌>>=◌
flag_alike v known spot place = by_test (nat_lt v 2)
  where
    by_test : (test : Bool) → AreAlike ((of_made (if test then Ok v else Err (record { cause = BadParent; spot = spot })) >>= λ f. as_read known f spot) >>= placeless) ((of_made (if test then Ok v else Err (record { cause = BadParent; spot = place })) >>= λ f. as_read known f place) >>= placeless)
    by_test true = alike_give (v, known)
    by_test false = alike_refuse

-- a range
range_alike : (r : ℕ × ℕ) (known : List (List ℕ)) (spot place : Spot) → AreAlike ((of_made (range_at spot r.0 r.1) >>= λ s. as_read known s spot) >>= placeless) ((of_made (range_at place r.0 r.1) >>= λ s. as_read known s place) >>= placeless)
unfolding ◌>>=◌
range_alike r known spot place = by_test (nat_lt (r.0 + r.1) (2 ^ 53))
  where
    by_test : (test : Bool) → AreAlike ((of_made {X = ℕ × ℕ} (if test then Ok (r.0, r.1) else Err (record { cause = ClockTooLarge; spot = spot })) >>= λ s. as_read known s spot) >>= placeless)
        ((of_made {X = ℕ × ℕ} (if test then Ok (r.0, r.1) else Err (record { cause = ClockTooLarge; spot = place })) >>= λ s. as_read known s place) >>= placeless)
    by_test true = alike_give ((r.0, r.1), known)
    by_test false = alike_refuse

-- a JSON value
carried_alike : (made : Result AnyTree JsonFault) (known : List (List ℕ)) (spot place : Spot) → AreAlike ((of_made (made_at spot made) >>= λ j. as_read known j spot) >>= placeless) ((of_made (made_at place made) >>= λ j. as_read known j place) >>= placeless)
unfolding ◌>>=◌
carried_alike (Ok j) known spot place = alike_give (j, known)
carried_alike (Err fault) known spot place = alike_refuse

-- a key
key_alike : (key : Option (List ℕ)) (known : List (List ℕ)) (spot place : Spot) → AreAlike (found_key known spot key >>= placeless) (found_key known place key >>= placeless)
unfolding ◌>>=◌
key_alike (Some key) known spot place = alike_give (key, known)
key_alike None known spot place = alike_want (λ key at there. alike_give (key, known ++ key ∷ []))

pub field_alike : (t : FieldType) (known : List (List ℕ)) → AreAlike (v2_plan t known >>= placeless) (v2_plan t known >>= placeless)
unfolding ◌>>=◌ key_plan any_field_plan json_field_plan range_plan
field_alike field.info known = alike_want (λ v spot place. alike_give (v, known))
field_alike field.client known = alike_want (λ v spot place. alike_give (v, known))
field_alike field.left known = alike_want (λ c spot place. alike_want (λ clock at there. alike_give (record { client = record { 0 = c }; clock = clock }, known)))
field_alike field.right known = alike_want (λ c spot place. alike_want (λ clock at there. alike_give (record { client = record { 0 = c }; clock = clock }, known)))
field_alike field.flag known = alike_want (λ v spot place. flag_alike v known spot place)
field_alike field.string known = alike_want (λ v spot place. alike_give (v, known))
field_alike field.key known = alike_want (λ n spot place. key_alike (key_of_number known n) known spot place)
field_alike field.kind known = alike_want (λ v spot place. alike_give (v, known))
field_alike field.len known = alike_want (λ v spot place. alike_give (v, known))
field_alike field.any known = alike_want (λ none spot place. alike_apart (in_rest (any_plan 100)) (λ t. as_read known t spot) (λ t. as_read known t place) placeless (alike_in_rest (any_plan 100) (any_alike 100)) (λ t. alike_give (t, known)))
field_alike field.blob known = alike_want (λ v spot place. alike_give (v, known))
field_alike field.json known = alike_want (λ none spot place. alike_apart (in_rest (any_plan 100)) (λ t. of_made (made_at spot (carried t)) >>= λ j. as_read known j spot) (λ t. of_made (made_at place (carried t)) >>= λ j. as_read known j place) placeless
    (alike_in_rest (any_plan 100) (any_alike 100)) (λ t. carried_alike (carried t) known spot place))
field_alike field.number known = alike_want (λ v spot place. alike_give (v, known))
field_alike (field.range before) known = alike_want (λ far spot place. alike_want (λ less at there. range_alike (before + far, suc less) known spot place))
