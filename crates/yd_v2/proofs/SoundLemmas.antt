-- What a reader that files lead to gives fits its type, and what is left is so again.
use Rattle.std.proofs.Common.{◌≡◌, ◌++◌, ◌<◌, ◌^◌, ℕ, zero, suc, List, [], ◌∷◌, Bool, true, false, Option, Some, None, Result, Ok, Err, IsTrue, IsUtf8, nat_le, if◌then◌else◌, inl, inr, refl, sym, subst, arith}
use Rattle.std.proofs.lemmas.Bool.Decides.{nat_tests}
use Rattle.yd_any.proofs.CarriedLemmas.{valid-settled}
use Rattle.yd_any.specs.Carried.{is_carried, settled}
use Rattle.yd_any.specs.Outcome.{carried}
use Rattle.yd_any.specs.Tree.{AnyTree, depth}
use Rattle.yd_any.specs.Valid.{is_valid_any, is_valid_json}
use Rattle.yd_any.specs.declared.fault.JsonFault.TheVariants.{NumberNotCarried}
use Rattle.yd_cols.proofs.DiffLemmas.{diff_taken}
use Rattle.yd_cols.proofs.StringColumnLemmas.{string_texts}
use Rattle.yd_cols.proofs.UintLemmas.{uint_exact}
use Rattle.yd_cols.specs.Column.{SpellsUintRun}
use Rattle.yd_cols.specs.Reading.{RunsLeft, next_byte, next_diff, next_string, next_uint}
use Rattle.yd_cols.specs.Taking.{TakesRun}
use Rattle.yd_fields.specs.Field.{FieldType, FieldValue, Fits, ReadsFit}
use Rattle.yd_fields.specs.Field as field
use Rattle.yd_fields.specs.JsonPlan.{made_at}
use Rattle.yd_words.specs.Each.{Each}
use Rattle.yd_num.proofs.ReadingLemmas.{ok_value}
use Rattle.yd_parts.proofs.AnyFitsLemmas.{IsWithin, any_plan_fits}
use Rattle.yd_parts.proofs.GivenLemmas.{GivesOnly, StaysSound, given, gives_only_bind, keeps}
use Rattle.yd_parts.proofs.PartFitLemmas.{FitsPart, part_fits}
use Rattle.yd_parts.specs.AnyPlan.{any_plan}
use Rattle.yd_parts.specs.Fault.{Fault}
use Rattle.yd_parts.specs.Part.{Part, PartPlan, PartValue, Unread, here, last_spot, part_at}
use Rattle.yd_parts.specs.Plan.{and_then, give, of_made, read_by, refuse, want, ◌>>=◌}
use Rattle.yd_parts.specs.declared.fault.Column.TheVariants.{Keys, Clients, Lefts, Rights, Infos, Strings, Parents, Kinds, Lengths}
use Rattle.yd_parts.specs.declared.fault.Spot.{Spot}
use Rattle.yd_reading.proofs.JudgedFitLemmas.{EndAtClock, flag_judged, range_judged}
use Rattle.yd_reading.specs.Judged.{flag_at, range_at}
use Rattle.yd_v2.proofs.FieldLemmas.{field_of}
use Rattle.yd_v2.proofs.TakenLemmas.{gave_next}
use Rattle.yd_v2.specs.Left.{with_clients, with_infos, with_keys, with_kinds, with_lefts, with_lengths, with_parents, with_rest, with_rights, with_strings}
use Rattle.yd_v2.specs.Part.{V2Part, V2Turn, V2Value, client, flag, info, key_number, kind, left_clock, len, mark, rest, rest_turned, right_clock, string, v2_last, v2_part_at}
use Rattle.yd_v2.specs.Plan.{FieldRead, any_field_plan, as_read, found_key, in_rest, json_field_plan, key_of_number, key_plan, range_plan, v2_plan}
use Rattle.yd_v2.specs.Reading.{V2Now, turn_of, v2_at}
use Rattle.yd_v2.specs.Sound.{IsSoundLeft, IsSoundV2}

-- ---- parts

-- a number that is taken is in range, and so is the one in hand behind it
uint_small : (left : RunsLeft ℕ) (v : ℕ) (next : RunsLeft ℕ) → left.value < 2 ^ 53 → next_uint left ≡ Ok (v, next) → (v < 2 ^ 53) × (next.value < 2 ^ 53)
uint_small left v next small read = by_taken ((uint_exact.values left v next).0 read)
  where
    by_taken : TakesRun SpellsUintRun left v next → (v < 2 ^ 53) × (next.value < 2 ^ 53)
    by_taken (inl hand) = (subst (λ x. x < 2 ^ 53) (sym hand.value) small, subst (λ n. n.value < 2 ^ 53) (sym hand.next_is) small)
    by_taken (inr opens) = (subst (λ x. x < 2 ^ 53) (sym opens.value) opens.spelled.in_range, subst (λ n. n.value < 2 ^ 53) (sym opens.next_is) opens.spelled.in_range)

-- what is read of a part: numbers are in range, and strings are UTF-8
abbrev FitsV2 : (t : V2Part) → V2Value t → Type 0
FitsV2 string v = IsUtf8 v
FitsV2 info v = Unit {0}
FitsV2 flag v = Unit {0}
FitsV2 (rest part) v = FitsPart part v
FitsV2 mark v = Unit {0}
FitsV2 key_number v = v < 2 ^ 53
FitsV2 client v = v < 2 ^ 53
FitsV2 left_clock v = v < 2 ^ 53
FitsV2 right_clock v = v < 2 ^ 53
FitsV2 kind v = v < 2 ^ 53
FitsV2 len v = v < 2 ^ 53

rest_sound : (part : Part) (now : V2Turn) (v : PartValue part) (next : V2Turn) (gives : Result (PartValue part × Unread) Fault) → part_at part now.left.rest ≡ gives → IsSoundLeft now.left → rest_turned now.left gives ≡ Ok (v, next) → FitsPart part v × IsSoundLeft next.left
rest_sound part now v next (Ok read) from sound is =
    subst (λ (pair : PartValue part × V2Turn). FitsPart part pair.0 × IsSoundLeft pair.1.left) (ok_value {E = Fault} (read.0, record { left = with_rest now.left read.1; last = last_spot read.1 }) (v, next) is)
    (part_fits part now.left.rest read.0 read.1 from, record { clients = sound.clients; kinds = sound.kinds; lengths = sound.lengths; text = sound.text })
rest_sound part now v next (Err fault) from sound is = absurd cc

-- what is read of parts fits, and leaves a sound file
v2_parts_sound : StaysSound v2_part_at FitsV2 (λ now. IsSoundLeft now.left)
v2_parts_sound key_number now v next sound is =
    let got = gave_next (with_keys now.left) Keys (λ keys. keys.runs.at) (next_diff now.left.keys) v next is in
    ((diff_taken now.left.keys v got.behind got.read).in_range, subst IsSoundLeft (sym got.left_is) (record { clients = sound.clients; kinds = sound.kinds; lengths = sound.lengths; text = sound.text }))
v2_parts_sound client now v next sound is =
    let got = gave_next (with_clients now.left) Clients (λ clients. clients.at) (next_uint now.left.clients) v next is in
    let small = uint_small now.left.clients v got.behind sound.clients got.read in
    (small.0, subst IsSoundLeft (sym got.left_is) (record { clients = small.1; kinds = sound.kinds; lengths = sound.lengths; text = sound.text }))
v2_parts_sound left_clock now v next sound is =
    let got = gave_next (with_lefts now.left) Lefts (λ lefts. lefts.runs.at) (next_diff now.left.lefts) v next is in
    ((diff_taken now.left.lefts v got.behind got.read).in_range, subst IsSoundLeft (sym got.left_is) (record { clients = sound.clients; kinds = sound.kinds; lengths = sound.lengths; text = sound.text }))
v2_parts_sound right_clock now v next sound is =
    let got = gave_next (with_rights now.left) Rights (λ rights. rights.runs.at) (next_diff now.left.rights) v next is in
    ((diff_taken now.left.rights v got.behind got.read).in_range, subst IsSoundLeft (sym got.left_is) (record { clients = sound.clients; kinds = sound.kinds; lengths = sound.lengths; text = sound.text }))
v2_parts_sound info now v next sound is =
    let got = gave_next (with_infos now.left) Infos (λ infos. infos.runs.at) (next_byte now.left.infos) v next is in
    (tt, subst IsSoundLeft (sym got.left_is) (record { clients = sound.clients; kinds = sound.kinds; lengths = sound.lengths; text = sound.text }))
v2_parts_sound string now v next sound is =
    let got = gave_next (with_strings now.left) Strings (λ strings. strings.lengths.at) (next_string now.left.strings) v next is in
    let texts = string_texts now.left.strings v got.behind sound.text got.read in
    (texts.0, subst IsSoundLeft (sym got.left_is) (record { clients = sound.clients; kinds = sound.kinds; lengths = sound.lengths; text = texts.1 }))
v2_parts_sound flag now v next sound is =
    let got = gave_next (with_parents now.left) Parents (λ parents. parents.runs.at) (next_byte now.left.parents) v next is in
    (tt, subst IsSoundLeft (sym got.left_is) (record { clients = sound.clients; kinds = sound.kinds; lengths = sound.lengths; text = sound.text }))
v2_parts_sound kind now v next sound is =
    let got = gave_next (with_kinds now.left) Kinds (λ kinds. kinds.at) (next_uint now.left.kinds) v next is in
    let small = uint_small now.left.kinds v got.behind sound.kinds got.read in
    (small.0, subst IsSoundLeft (sym got.left_is) (record { clients = sound.clients; kinds = small.1; lengths = sound.lengths; text = sound.text }))
v2_parts_sound len now v next sound is =
    let got = gave_next (with_lengths now.left) Lengths (λ lengths. lengths.at) (next_uint now.left.lengths) v next is in
    let small = uint_small now.left.lengths v got.behind sound.lengths got.read in
    (small.0, subst IsSoundLeft (sym got.left_is) (record { clients = sound.clients; kinds = sound.kinds; lengths = small.1; text = sound.text }))
v2_parts_sound (rest part) now v next sound is = rest_sound part now v next (part_at part now.left.rest) refl sound is
v2_parts_sound mark now v next sound is = (tt, subst (λ (pair : Unit {0} × V2Turn). IsSoundLeft pair.1.left) (ok_value {E = Fault} (tt, record { left = now.left; last = here now.left.rest }) (v, next) is) sound)

-- ---- fields

-- the value fits its type, and the keys that are known are texts
abbrev IsField : (t : FieldType) → FieldRead (FieldValue t) → Type 0
IsField t read = Fits t read.value × Each IsUtf8 read.known

-- a plan that gives only such values in the rest
rest_fits : {X : Type 0} (P : X → Type 0) (plan : PartPlan X) → GivesOnly (λ (t : Part) (v : PartValue t). Unit {0}) P plan → GivesOnly FitsV2 P (in_rest plan)
unfolding in_rest
rest_fits P (give x) only = only
rest_fits P (refuse cause spot) only = tt
rest_fits P (want t next) only = λ v spot fits. rest_fits P (next v spot) (only v spot tt)

-- a value that nests at most so deep is valid
within_valid : (t : AnyTree) → IsWithin 100 t → IsTrue (is_valid_any t)
within_valid t within = let shallow : nat_le (depth t) 100 ≡ true = grind (arith, nat_tests, within) in rw (shallow, within.1) refl

-- a JSON value that was made of a valid any-value
carried_fits : (spot : Spot) (t : AnyTree) → IsTrue (is_valid_any t) → GivesOnly FitsV2 (λ j. IsTrue (is_valid_json j)) (of_made (made_at spot (carried t)))
carried_fits spot t valid = by_test (is_carried t) refl
  where
    by_test : (test : Bool) → is_carried t ≡ test → GivesOnly FitsV2 (λ j. IsTrue (is_valid_json j)) (of_made (made_at spot (if test then Ok (settled t) else Err NumberNotCarried)))
    by_test true is = valid-settled t is (grind (arith, nat_tests, valid))
    by_test false is = tt

-- one more text
pub texts_with_last : (known : List (List ℕ)) (key : List ℕ) → Each IsUtf8 known → IsUtf8 key → Each IsUtf8 (known ++ key ∷ [])
texts_with_last [] key are is = (is, tt)
texts_with_last (text ∷ known) key are is = (are.0, texts_with_last known key are.1 is)

-- a key that is known is a text
known_text : (known : List (List ℕ)) (n : ℕ) (key : List ℕ) → Each IsUtf8 known → key_of_number known n ≡ Some key → IsUtf8 key
known_text [] n key are is = absurd cc
known_text (text ∷ known) zero key are is = let same : text ≡ key = cc in subst IsUtf8 same are.0
known_text (text ∷ known) (suc n) key are is = known_text known n key are.1 is

key_fits : (known : List (List ℕ)) (spot : Spot) (n : ℕ) (key : Option (List ℕ)) → Each IsUtf8 known → key_of_number known n ≡ key → GivesOnly FitsV2 (IsField field.key) (found_key known spot key)
key_fits known spot n (Some key) are is = (known_text known n key are is, are)
key_fits known spot n None are is = λ key at fits. (fits, texts_with_last known key are fits)

-- each field fits its type
field_fits : (t : FieldType) (known : List (List ℕ)) → Each IsUtf8 known → GivesOnly FitsV2 (IsField t) (v2_plan t known)
unfolding key_plan any_field_plan json_field_plan range_plan
field_fits field.info known are = λ v spot fits. (tt, are)
field_fits field.client known are = λ v spot fits. (fits, are)
field_fits field.left known are = λ c spot is_client k at is_clock. (record { client = is_client; clock = is_clock }, are)
field_fits field.right known are = λ c spot is_client k at is_clock. (record { client = is_client; clock = is_clock }, are)
field_fits field.flag known are = λ v spot fits. gives_only_bind FitsV2 (λ f. f < 2) (IsField field.flag) (of_made (flag_at spot v)) (λ f. as_read known f spot) (flag_judged FitsV2 spot v) (λ f small. (small, are))
field_fits field.string known are = λ v spot fits. (fits, are)
field_fits field.key known are = λ n spot fits. key_fits known spot n (key_of_number known n) are refl
field_fits field.kind known are = λ v spot fits. (fits, are)
field_fits field.len known are = λ v spot fits. (fits, are)
field_fits field.any known are = λ none spot fits.
    gives_only_bind FitsV2 (IsWithin 100) (IsField field.any) (in_rest (any_plan 100)) (λ t. as_read known t spot) (rest_fits (IsWithin 100) (any_plan 100) (any_plan_fits 100)) (λ t within. (within_valid t within, are))
field_fits field.blob known are = λ v spot fits. (tt, are)
field_fits field.json known are = λ none spot fits.
    gives_only_bind FitsV2 (IsWithin 100) (IsField field.json) (in_rest (any_plan 100)) (λ t. of_made (made_at spot (carried t)) >>= λ j. as_read known j spot) (rest_fits (IsWithin 100) (any_plan 100) (any_plan_fits 100))
    (λ t within. gives_only_bind FitsV2 (λ j. IsTrue (is_valid_json j)) (IsField field.json) (of_made (made_at spot (carried t))) (λ j. as_read known j spot) (carried_fits spot t (within_valid t within)) (λ j valid. (valid, are)))
field_fits field.number known are = λ v spot fits. (fits, are)
field_fits (field.range before) known are = λ far spot is_far less at is_less.
    gives_only_bind FitsV2 EndAtClock (IsField (field.range before)) (of_made (range_at spot _ _)) (λ r. as_read known r spot) (range_judged FitsV2 spot _ _) (λ r ends. (ends, are))

-- ---- lemmas for callers

-- what V2 reads fits its type, and leaves a sound reader
pub v2_fits : ReadsFit v2_at IsSoundV2
unfolding v2_at
v2_fits t now v next sound is = by_parts (read_by v2_part_at v2_last (v2_plan t now.known) (turn_of now)) refl is
  where
    by_parts : (read : Result (FieldRead (FieldValue t) × V2Turn) Fault) → read_by v2_part_at v2_last (v2_plan t now.known) (turn_of now) ≡ read → and_then {B = FieldValue t × V2Now} read field_of ≡ Ok (v, next) → Fits t v × IsSoundV2 next
    by_parts (Ok got) read gives =
        let has = given v2_part_at v2_last FitsV2 (λ (turn : V2Turn). IsSoundLeft turn.left) (IsField t) (v2_plan t now.known) (turn_of now) got.0 got.1 v2_parts_sound (field_fits t now.known sound.known) sound.left read in
        let kept = keeps v2_part_at v2_last FitsV2 (λ (turn : V2Turn). IsSoundLeft turn.left) (v2_plan t now.known) (turn_of now) got.0 got.1 v2_parts_sound sound.left read in
        subst (λ (pair : FieldValue t × V2Now). Fits t pair.0 × IsSoundV2 pair.1) (ok_value {E = Fault} (got.0.value, record { left = got.1.left; known = got.0.known; spot = got.0.spot }) (v, next) gives) (has.0, record { left = kept; known = has.1 })
    by_parts (Err fault) read gives = absurd cc
