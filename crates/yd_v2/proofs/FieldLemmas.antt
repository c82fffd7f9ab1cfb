-- Reading the fields of several parts, step by step.
use Rattle.std.proofs.Common.{◌≡◌, ◌∙◌, ◌+◌, ℕ, suc, List, [], ◌∷◌, ◌++◌, Option, Some, None, Result, Ok, Err, refl, ap}
use Rattle.yd_any.specs.Outcome.{carried}
use Rattle.yd_any.specs.Tree.{AnyTree}
use Rattle.yd_cols.specs.Reading.{BytesLeft, DiffsLeft, StringsLeft, next_byte, next_diff, next_string}
use Rattle.yd_cols.specs.declared.fault.ColFault.{ColFault}
use Rattle.yd_fields.specs.Field as field
use Rattle.yd_reading.specs.Judged.{flag_at, range_at}
use Rattle.yd_fields.specs.JsonPlan.{made_at}
use Rattle.yd_parts.proofs.PlanLemmas.{read_by_bind}
use Rattle.yd_parts.specs.AnyPlan.{any_plan}
use Rattle.yd_parts.specs.Fault.{Fault}
use Rattle.yd_parts.specs.Part.{Part, PartPlan, PartValue, Unread, here, last_spot, part_at}
use Rattle.yd_parts.specs.Part as part
use Rattle.yd_parts.specs.Plan.{give, refuse, want, of_made, and_then, read_by, ◌>>=◌}
use Rattle.yd_parts.specs.declared.fault.Column.TheVariants.{Keys, Parents, Strings}
use Rattle.yd_parts.specs.declared.fault.Spot.{Spot}
use Rattle.yd_v2.specs.Left.{V2Left, with_keys, with_parents, with_rest, with_strings}
use Rattle.yd_v2.specs.Part.{V2Plan, V2Turn, in_column, rest_turned, turned, v2_last, v2_part_at}
use Rattle.yd_v2.specs.Plan.{FieldRead, any_field_plan, as_read, found_key, in_rest, json_field_plan, key_of_number, key_plan, range_plan}
use Rattle.yd_v2.specs.Reading.{V2Now, v2_at}

-- what is left, with these keys, and the spot of the field
abbrev pub now_of : V2Left → List (List ℕ) → Spot → V2Now
now_of left known spot = record { left = left; known = known; spot = spot }

-- what a field gives, where its parts are read
abbrev pub field_of : {X : Type 0} → FieldRead X × V2Turn → Result (X × V2Now) Fault
field_of got = Ok (got.0.value, now_of got.1.left got.0.known got.0.spot)

-- ---- plans

-- what was made without reading goes on, or fails
read_made : {X Y : Type 0} (made : Result X Fault) (next : X → V2Plan Y) (s : V2Turn) →
    read_by v2_part_at v2_last (of_made made >>= next) s ≡ and_then made (λ x. read_by v2_part_at v2_last (next x) s)
unfolding read_by ◌>>=◌
read_made (Ok x) next s = refl
read_made (Err fault) next s = refl

-- a plan that is followed in the rest reads what it reads there, and moves nothing else
in_rest_read : {X Y : Type 0} (plan : PartPlan X) (s : V2Turn) (go : X → V2Left → Result Y Fault) →
    and_then (read_by v2_part_at v2_last (in_rest plan) s) (λ read. go read.0 read.1.left) ≡ and_then (read_by part_at last_spot plan s.left.rest) (λ read. go read.0 (with_rest s.left read.1))
unfolding read_by in_rest
in_rest_read (give x) s go = refl
in_rest_read (refuse cause spot) s go = refl
in_rest_read {X} {Y} (want t next) s go = by_part (part_at t s.left.rest) (λ v spot turn. in_rest_read (next v spot) turn go)
  where
    by_part : (first : Result (PartValue t × Unread) Fault) →
        ((v : PartValue t) (spot : Spot) (turn : V2Turn) → and_then (read_by v2_part_at v2_last (in_rest (next v spot)) turn) (λ read. go read.0 read.1.left) ≡ and_then (read_by part_at last_spot (next v spot) turn.left.rest) (λ read. go read.0 (with_rest turn.left read.1))) →
        and_then (and_then (rest_turned s.left first) (λ read. read_by v2_part_at v2_last (in_rest (next read.0 (v2_last read.1))) read.1)) (λ read. go read.0 read.1.left)
        ≡ and_then (and_then first (λ read. read_by part_at last_spot (next read.0 (last_spot read.1)) read.1)) (λ read. go read.0 (with_rest s.left read.1))
    by_part (Ok read) later = later read.0 (last_spot read.1) (record { left = with_rest s.left read.1; last = last_spot read.1 })
    by_part (Err fault) later = refl

-- two steps, and one behind them
then_then : {A B C E : Type 0} (first : Result A E) (second : A → Result B E) (third : B → Result C E) → and_then (and_then first second) third ≡ and_then first (λ x. and_then (second x) third)
then_then (Ok x) second third = refl
then_then (Err fault) second third = refl

-- ---- any-values and JSON values

pub any_at : (now : V2Now) →
    v2_at field.any now ≡ and_then (read_by part_at last_spot (any_plan 100) now.left.rest) (λ read. Ok (read.0, now_of (with_rest now.left read.1) now.known (here now.left.rest)))
unfolding v2_at any_field_plan read_by
any_at now =
    let spot = here now.left.rest in
    let turn : V2Turn = record { left = now.left; last = spot } in
    ap (λ read. and_then read field_of) (read_by_bind v2_part_at v2_last (in_rest (any_plan 100)) (λ t. as_read now.known t spot) turn)
    ∙ then_then (read_by v2_part_at v2_last (in_rest (any_plan 100)) turn) (λ read. Ok (record { value = read.0; spot = spot; known = now.known }, read.1)) field_of
    ∙ in_rest_read (any_plan 100) turn (λ t left. Ok (t, now_of left now.known spot))

-- the value of a JSON field
abbrev json_behind : V2Now → AnyTree → V2Left → Result (AnyTree × V2Now) Fault
json_behind now t left = and_then (made_at (here now.left.rest) (carried t)) (λ j. Ok (j, now_of left now.known (here now.left.rest)))

pub json_at : (now : V2Now) →
    v2_at field.json now ≡ and_then (read_by part_at last_spot (any_plan 100) now.left.rest)
    (λ read. and_then (made_at (here now.left.rest) (carried read.0)) (λ j. Ok (j, now_of (with_rest now.left read.1) now.known (here now.left.rest))))
unfolding v2_at json_field_plan read_by
json_at now =
    let spot = here now.left.rest in
    let turn : V2Turn = record { left = now.left; last = spot } in
    ap (λ read. and_then read field_of)
    (read_by_bind v2_part_at v2_last (in_rest (any_plan 100)) (λ t. of_made (made_at spot (carried t)) >>= λ j. as_read now.known j spot) turn)
    ∙ then_then (read_by v2_part_at v2_last (in_rest (any_plan 100)) turn) (λ read. read_by v2_part_at v2_last (of_made (made_at spot (carried read.0)) >>= λ j. as_read now.known j spot) read.1) field_of
    ∙ same_behind (read_by v2_part_at v2_last (in_rest (any_plan 100)) turn)
    ∙ in_rest_read (any_plan 100) turn (json_behind now)
  where
    by_value : (t : AnyTree) (turn : V2Turn) (made : Result AnyTree Fault) →
        and_then (read_by v2_part_at v2_last (of_made made >>= λ j. as_read now.known j (here now.left.rest)) turn) field_of ≡ and_then {B = AnyTree × V2Now} made (λ j. Ok (j, now_of turn.left now.known (here now.left.rest)))
    by_value t turn (Ok j) = ap (λ read. and_then read field_of) (read_made (Ok j) (λ j. as_read now.known j (here now.left.rest)) turn)
    by_value t turn (Err fault) = ap (λ read. and_then read field_of) (read_made (Err fault) (λ j. as_read now.known j (here now.left.rest)) turn)

    same_behind : (first : Result (AnyTree × V2Turn) Fault) →
        and_then first (λ read. and_then (read_by v2_part_at v2_last (of_made (made_at (here now.left.rest) (carried read.0)) >>= λ j. as_read now.known j (here now.left.rest)) read.1) field_of)
        ≡ and_then first (λ read. json_behind now read.0 read.1.left)
    same_behind (Ok read) = by_value read.0 read.1 (made_at (here now.left.rest) (carried read.0))
    same_behind (Err fault) = refl

-- ---- flags and ranges

pub flag_field_at : (now : V2Now) →
    v2_at field.flag now ≡ and_then (in_column Parents (next_byte now.left.parents))
    (λ read. and_then {B = ℕ × V2Now} (flag_at (record { column = Parents; at = read.1.runs.at }) read.0) (λ f. Ok (f, now_of (with_parents now.left read.1) now.known (record { column = Parents; at = read.1.runs.at }))))
unfolding v2_at read_by
flag_field_at now = by_byte (next_byte now.left.parents)
  where
    by_flag : (spot : Spot) (left : V2Left) (made : Result ℕ Fault) →
        and_then (read_by v2_part_at v2_last (of_made made >>= λ f. as_read now.known f spot) (record { left = left; last = spot })) field_of ≡ and_then {B = ℕ × V2Now} made (λ f. Ok (f, now_of left now.known spot))
    by_flag spot left (Ok f) = ap (λ read. and_then read field_of) (read_made (Ok f) (λ f. as_read now.known f spot) (record { left = left; last = spot }))
    by_flag spot left (Err fault) = ap (λ read. and_then read field_of) (read_made (Err fault) (λ f. as_read now.known f spot) (record { left = left; last = spot }))

    by_byte : (first : Result (ℕ × BytesLeft) ColFault) →
        and_then (and_then (turned (with_parents now.left) Parents (λ parents. parents.runs.at) first) (λ read. read_by v2_part_at v2_last (of_made (flag_at (v2_last read.1) read.0) >>= λ f. as_read now.known f (v2_last read.1)) read.1)) field_of
        ≡ and_then (in_column Parents first) (λ read. and_then {B = ℕ × V2Now} (flag_at (record { column = Parents; at = read.1.runs.at }) read.0) (λ f. Ok (f, now_of (with_parents now.left read.1) now.known (record { column = Parents; at = read.1.runs.at }))))
    by_byte (Ok read) = by_flag (record { column = Parents; at = read.1.runs.at }) (with_parents now.left read.1) (flag_at (record { column = Parents; at = read.1.runs.at }) read.0)
    by_byte (Err fault) = refl

pub range_field_at : (before : ℕ) (now : V2Now) →
    v2_at (field.range before) now ≡ and_then (part_at part.unsigned now.left.rest) (λ far. and_then (part_at part.unsigned far.1)
    (λ less. and_then (range_at (last_spot far.1) (before + far.0) (suc less.0)) (λ r. Ok (r, now_of (with_rest now.left less.1) now.known (last_spot far.1)))))
unfolding v2_at range_plan read_by
range_field_at before now = by_far (part_at part.unsigned now.left.rest)
  where
    by_range : (spot : Spot) (turn : V2Turn) (made : Result (ℕ × ℕ) Fault) →
        and_then (read_by v2_part_at v2_last (of_made made >>= λ r. as_read now.known r spot) turn) field_of ≡ and_then {B = (ℕ × ℕ) × V2Now} made (λ r. Ok (r, now_of turn.left now.known spot))
    by_range spot turn (Ok r) = ap (λ read. and_then read field_of) (read_made (Ok r) (λ r. as_read now.known r spot) turn)
    by_range spot turn (Err fault) = ap (λ read. and_then read field_of) (read_made (Err fault) (λ r. as_read now.known r spot) turn)

    by_less : (far : ℕ) (spot : Spot) (left : V2Left) (second : Result (ℕ × Unread) Fault) →
        and_then (and_then (rest_turned left second) (λ less. read_by v2_part_at v2_last (of_made (range_at spot (before + far) (suc less.0)) >>= λ r. as_read now.known r spot) less.1)) field_of
        ≡ and_then second (λ less. and_then {B = (ℕ × ℕ) × V2Now} (range_at spot (before + far) (suc less.0)) (λ r. Ok (r, now_of (with_rest left less.1) now.known spot)))
    by_less far spot left (Ok less) = by_range spot (record { left = with_rest left less.1; last = last_spot less.1 }) (range_at spot (before + far) (suc less.0))
    by_less far spot left (Err fault) = refl

    by_far : (first : Result (ℕ × Unread) Fault) →
        and_then (and_then (rest_turned now.left first) (λ far. and_then (rest_turned far.1.left (part_at part.unsigned far.1.left.rest))
        (λ less. read_by v2_part_at v2_last (of_made (range_at (v2_last far.1) (before + far.0) (suc less.0)) >>= λ r. as_read now.known r (v2_last far.1)) less.1))) field_of
        ≡ and_then first (λ far. and_then (part_at part.unsigned far.1) (λ less. and_then {B = (ℕ × ℕ) × V2Now} (range_at (last_spot far.1) (before + far.0) (suc less.0)) (λ r. Ok (r, now_of (with_rest now.left less.1) now.known (last_spot far.1)))))
    by_far (Ok far) = by_less far.0 (last_spot far.1) (with_rest now.left far.1) (part_at part.unsigned far.1)
    by_far (Err fault) = refl

-- ---- keys

-- a key that is known, or one that is new
abbrev pub key_found : V2Now → V2Left → Spot → Option (List ℕ) → Result (List ℕ × V2Now) Fault
key_found now left spot (Some key) = Ok (key, now_of left now.known spot)
key_found now left spot None = and_then (in_column Strings (next_string left.strings)) (λ read. Ok (read.0, now_of (with_strings left read.1) (now.known ++ read.0 ∷ []) spot))

pub key_at : (now : V2Now) →
    v2_at field.key now ≡ and_then (in_column Keys (next_diff now.left.keys)) (λ read. key_found now (with_keys now.left read.1) (record { column = Keys; at = read.1.runs.at }) (key_of_number now.known read.0))
unfolding v2_at key_plan read_by
key_at now = by_number (next_diff now.left.keys)
  where
    by_string : (left : V2Left) (spot : Spot) (first : Result (List ℕ × StringsLeft) ColFault) →
        and_then (and_then (turned (with_strings left) Strings (λ strings. strings.lengths.at) first) (λ read. read_by v2_part_at v2_last (as_read (now.known ++ read.0 ∷ []) read.0 spot) read.1)) field_of
        ≡ and_then {B = List ℕ × V2Now} (in_column Strings first) (λ read. Ok (read.0, now_of (with_strings left read.1) (now.known ++ read.0 ∷ []) spot))
    by_string left spot (Ok read) = refl
    by_string left spot (Err fault) = refl

    by_key : (left : V2Left) (spot : Spot) (key : Option (List ℕ)) →
        and_then (read_by v2_part_at v2_last (found_key now.known spot key) (record { left = left; last = spot })) field_of ≡ key_found now left spot key
    by_key left spot (Some key) = refl
    by_key left spot None = by_string left spot (next_string left.strings)

    by_number : (first : Result (ℕ × DiffsLeft) ColFault) →
        and_then (and_then (turned (with_keys now.left) Keys (λ keys. keys.runs.at) first) (λ read. read_by v2_part_at v2_last (found_key now.known (v2_last read.1) (key_of_number now.known read.0)) read.1)) field_of
        ≡ and_then (in_column Keys first) (λ read. key_found now (with_keys now.left read.1) (record { column = Keys; at = read.1.runs.at }) (key_of_number now.known read.0))
    by_number (Ok read) = by_key (with_keys now.left read.1) (record { column = Keys; at = read.1.runs.at }) (key_of_number now.known read.0)
    by_number (Err fault) = refl
