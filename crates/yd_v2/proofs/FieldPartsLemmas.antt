-- Each field is written in the parts that reading it wants.
use Rattle.std.proofs.Common.{◌≡◌, ◌+◌, ◌-◌, ◌^◌, ◌<◌, [], ◌∷◌, ℕ, suc, List, None, append-nil, arith, length, length-append, map, refl, sym, ap}
use Rattle.std.proofs.lemmas.Bool.{and_parts, leb-true, lt-ltb}
use Rattle.std.specs.Prelude.{IsTrue, nat_le}
use Rattle.yd_any.proofs.StayLemmas.{carried-valid}
use Rattle.yd_any.specs.Outcome.{carried}
use Rattle.yd_any.specs.Tree.{AnyTree, depth}
use Rattle.yd_any.specs.Valid.{is_in_range, is_json, is_valid_json}
use Rattle.yd_fields.specs.Field.{Field, FieldType, FieldValue}
use Rattle.yd_fields.specs.Field as field
use Rattle.yd_fields.specs.JsonPlan.{made_at}
use Rattle.yd_reading.specs.Judged.{flag_at, range_at}
use Rattle.yd_ids.specs.declared.id.Id.{Id}
use Rattle.yd_num.proofs.ShortestLemmas.{unsigned_spells}
use Rattle.yd_num.proofs.WrittenLemmas.{blob_spells}
use Rattle.yd_num.specs.Writing.{shortest, shortest_blob}
use Rattle.yd_parts.specs.AnyPlan.{any_plan}
use Rattle.yd_parts.specs.Part as part
use Rattle.yd_parts.specs.Part.{Part, PartValue}
use Rattle.yd_parts.specs.PartGrammar.{SpellsPart}
use Rattle.yd_parts.specs.Plan.{of_made, ◌>>=◌}
use Rattle.yd_v2.proofs.AnyPartsLemmas.{AnyParts, any_parts}
use Rattle.yd_v2.proofs.PutLemmas.{PartsFit, PartsPut, columns_put, put_then, fit_then, rest_fit, rest_put}
use Rattle.yd_v2.proofs.WantLemmas.{Wants, in_file, made_wants, rest_wants}
use Rattle.yd_v2.specs.Part.{client, flag, info, key_number, kind, left_clock, len, mark, right_clock, string}
use Rattle.yd_v2.specs.Plan.{FieldRead, any_field_plan, as_read, json_field_plan, key_of_number, key_plan, range_plan, v2_plan}
use Rattle.yd_v2.specs.Spelled.{IsRangeBehind, V2Spells}
use Rattle.yd_v2.specs.Standing.{RestThing, SpellParts, V2Thing}
use Rattle.yd_v2.specs.Writing.{V2Written, bytes_of_range, v2_put}

-- the field is read, and so many keys are known then
pub record IsField (t : FieldType) (v : FieldValue t) (known : ℕ) (read : FieldRead (FieldValue t)) : Type 0 where
  pub value_is : read.value ≡ v
  pub known_is : length read.known ≡ known

-- reading the field wants these parts, where so many keys are known
abbrev pub WantsField : Field → ℕ → ℕ → List V2Thing → Type 0
WantsField f before behind things = (keys : List (List ℕ)) → length keys ≡ before → Wants (v2_plan f.0 keys) things (IsField f.0 f.1 behind)

-- the field is written in parts that reading it wants
pub record FieldParts (f : Field) (w : V2Written) : Type 0 where
  pub things : List V2Thing
  pub wanted : WantsField f w.known (v2_put f w).known things
  pub put : PartsPut things w (v2_put f w)
  pub fit : PartsFit things

-- ---- fields in columns

-- a key that is not known yet
new_key : (keys : List (List ℕ)) (known : ℕ) → length keys ≡ known → key_of_number keys known ≡ None
new_key [] known is = refl
new_key (key ∷ keys) known is = rw (sym is) (new_key keys (length keys) refl)

-- an info byte
info_parts : (v : ℕ) (w : V2Written) → FieldParts (field.info, v) w
info_parts v w = record {
  things = (info, v) ∷ [];
  wanted = λ keys known. (v, refl, λ spot. record { value_is = refl; known_is = known });
  put = columns_put ((info, v) ∷ []) w.known w refl;
  fit = record { keys = tt; clients = tt; lefts = tt; rights = tt; kinds = tt; lengths = tt; strings = tt };
}

-- a client
client_parts : (v : ℕ) (w : V2Written) → V2Spells (field.client, v) → FieldParts (field.client, v) w
client_parts v w spells = record {
  things = (client, v) ∷ [];
  wanted = λ keys known. (v, refl, λ spot. record { value_is = refl; known_is = known });
  put = columns_put ((client, v) ∷ []) w.known w refl;
  fit = record { keys = tt; clients = (spells, tt); lefts = tt; rights = tt; kinds = tt; lengths = tt; strings = tt };
}

-- a left origin
left_parts : (id : Id) (w : V2Written) → V2Spells (field.left, id) → FieldParts (field.left, id) w
left_parts id w spells = record {
  things = (client, id.client.0) ∷ (left_clock, id.clock) ∷ [];
  wanted = λ keys known. (id.client.0, refl, λ spot. (id.clock, refl, λ at. record { value_is = refl; known_is = known }));
  put = columns_put ((client, id.client.0) ∷ (left_clock, id.clock) ∷ []) w.known w refl;
  fit = record { keys = tt; clients = (spells.client, tt); lefts = (spells.clock, tt); rights = tt; kinds = tt; lengths = tt; strings = tt };
}

-- a right origin
right_parts : (id : Id) (w : V2Written) → V2Spells (field.right, id) → FieldParts (field.right, id) w
right_parts id w spells = record {
  things = (client, id.client.0) ∷ (right_clock, id.clock) ∷ [];
  wanted = λ keys known. (id.client.0, refl, λ spot. (id.clock, refl, λ at. record { value_is = refl; known_is = known }));
  put = columns_put ((client, id.client.0) ∷ (right_clock, id.clock) ∷ []) w.known w refl;
  fit = record { keys = tt; clients = (spells.client, tt); lefts = tt; rights = (spells.clock, tt); kinds = tt; lengths = tt; strings = tt };
}

-- a flag
flag_parts : (v : ℕ) (w : V2Written) → v < 2 → FieldParts (field.flag, v) w
flag_parts v w lt = record {
  things = (flag, v) ∷ [];
  wanted = λ keys known. (v, refl, λ spot. made_wants (flag_at spot v) (λ f. as_read keys f spot) v (IsField field.flag v w.known) (rw (lt-ltb v 2 lt) refl) (record { value_is = refl; known_is = known }));
  put = columns_put ((flag, v) ∷ []) w.known w refl;
  fit = record { keys = tt; clients = tt; lefts = tt; rights = tt; kinds = tt; lengths = tt; strings = tt };
}

-- a string
string_parts : (text : List ℕ) (w : V2Written) → V2Spells (field.string, text) → FieldParts (field.string, text) w
string_parts text w spells = record {
  things = (string, text) ∷ [];
  wanted = λ keys known. (text, refl, λ spot. record { value_is = refl; known_is = known });
  put = columns_put ((string, text) ∷ []) w.known w refl;
  fit = record { keys = tt; clients = tt; lefts = tt; rights = tt; kinds = tt; lengths = tt; strings = (spells, tt) };
}

-- a key
key_parts : (text : List ℕ) (w : V2Written) → V2Spells (field.key, text) → w.known < 2 ^ 53 → FieldParts (field.key, text) w
unfolding key_plan
key_parts text w utf8 lt = record {
  things = (key_number, w.known) ∷ (string, text) ∷ [];
  wanted = λ keys known. (w.known, refl, λ spot. rw (new_key keys w.known known) (text, refl, λ at. record { value_is = refl; known_is = omega (arith, length-append keys (text ∷ []), known) }));
  put = columns_put ((key_number, w.known) ∷ (string, text) ∷ []) (suc w.known) w refl;
  fit = record { keys = (lt, tt); clients = tt; lefts = tt; rights = tt; kinds = tt; lengths = tt; strings = (utf8, tt) };
}

-- the number of a type
kind_parts : (v : ℕ) (w : V2Written) → V2Spells (field.kind, v) → FieldParts (field.kind, v) w
kind_parts v w spells = record {
  things = (kind, v) ∷ [];
  wanted = λ keys known. (v, refl, λ spot. record { value_is = refl; known_is = known });
  put = columns_put ((kind, v) ∷ []) w.known w refl;
  fit = record { keys = tt; clients = tt; lefts = tt; rights = tt; kinds = (spells, tt); lengths = tt; strings = tt };
}

-- a length
length_parts : (v : ℕ) (w : V2Written) → V2Spells (field.len, v) → FieldParts (field.len, v) w
length_parts v w spells = record {
  things = (len, v) ∷ [];
  wanted = λ keys known. (v, refl, λ spot. record { value_is = refl; known_is = known });
  put = columns_put ((len, v) ∷ []) w.known w refl;
  fit = record { keys = tt; clients = tt; lefts = tt; rights = tt; kinds = tt; lengths = (spells, tt); strings = tt };
}

-- ---- fields in the rest

-- one part is spelled by its bytes
spell_one : (t : Part) (v : PartValue t) (bytes : List ℕ) → SpellsPart t v bytes → SpellParts ((t, v) ∷ []) bytes
spell_one t v bytes spells = record { front = bytes; back = []; is_front = spells; is_back = refl; joined = sym (append-nil bytes) }

-- a byte string
blob_parts : (bytes : List ℕ) (w : V2Written) → length bytes < 2 ^ 53 → FieldParts (field.blob, bytes) w
blob_parts bytes w lt =
    let parts : List RestThing = (part.blob, bytes) ∷ [] in
    record {
      things = map in_file parts;
      wanted = λ keys known. (bytes, refl, λ spot. record { value_is = refl; known_is = known });
      put = rest_put parts (shortest_blob bytes) w (spell_one part.blob bytes (shortest_blob bytes) (blob_spells bytes lt));
      fit = rest_fit parts;
    }

-- a number
number_parts : (v : ℕ) (w : V2Written) → v < 2 ^ 53 → FieldParts (field.number, v) w
number_parts v w lt =
    let parts : List RestThing = (part.unsigned, v) ∷ [] in
    record {
      things = map in_file parts;
      wanted = λ keys known. (v, refl, λ spot. record { value_is = refl; known_is = known });
      put = rest_put parts (shortest v) w (spell_one part.unsigned v (shortest v) (unsigned_spells v lt));
      fit = rest_fit parts;
    }

-- a range is made of its parts again
range_made : (before clock size : ℕ) → IsRangeBehind before clock size → (before + (clock - before) ≡ clock) × (suc (size - 1) ≡ size)
range_made before clock size is = (omega (arith, is.behind), omega (arith, is.some))

-- a range
range_parts : (before : ℕ) (r : ℕ × ℕ) (w : V2Written) → IsRangeBehind before r.0 r.1 → FieldParts (field.range before, r) w
unfolding range_plan
range_parts before r w is =
    let far = r.0 - before in
    let less = r.1 - 1 in
    let parts : List RestThing = (part.unsigned, far) ∷ (part.unsigned, less) ∷ [] in
    let again = range_made before r.0 r.1 is in
    record {
      things = map in_file parts;
      wanted = λ keys known. (
        far,
        refl,
        λ spot. (
          less,
          refl,
          λ at.
              rw (again.0, again.1)
              (made_wants (range_at spot r.0 r.1) (λ made. as_read keys made spot) r (IsField (field.range before) r w.known) (rw (lt-ltb (r.0 + r.1) (2 ^ 53) is.in_range) refl) (record { value_is = refl; known_is = known })),
        ),
      );
      put = rest_put parts (bytes_of_range before r) w (record {
        front = shortest far;
        back = shortest less;
        is_front = unsigned_spells far (omega (arith, is.in_range));
        is_back = spell_one part.unsigned less (shortest less) (unsigned_spells less (omega (arith, is.in_range)));
        joined = refl;
      });
      fit = rest_fit parts;
    }

-- the spot of a value is marked
mark_put : (w : V2Written) → PartsPut ((mark, tt) ∷ []) w w
mark_put w = columns_put ((mark, tt) ∷ []) w.known w refl

mark_fit : PartsFit ((mark, tt) ∷ [])
mark_fit = record { keys = tt; clients = tt; lefts = tt; rights = tt; kinds = tt; lengths = tt; strings = tt }

-- an any-value
value_parts : (t : AnyTree) (w : V2Written) → AnyParts t → FieldParts (field.any, t) w
unfolding any_field_plan
value_parts t w any = record {
  things = (mark, tt) ∷ map in_file any.parts;
  wanted = λ keys known. (tt, refl, λ spot. rest_wants (any_plan 100) (λ u. as_read keys u spot) any.parts t (IsField field.any t w.known) any.wanted (record { value_is = refl; known_is = known }));
  put = put_then ((mark, tt) ∷ []) (map in_file any.parts) (mark_put w) (rest_put any.parts _ w any.spelled);
  fit = fit_then ((mark, tt) ∷ []) (map in_file any.parts) mark_fit (rest_fit any.parts);
}

-- a JSON value, which is carried as itself
json_parts : (t : AnyTree) (w : V2Written) → IsTrue (is_valid_json t) → AnyParts t → FieldParts (field.json, t) w
unfolding json_field_plan
json_parts t w valid any = record {
  things = (mark, tt) ∷ map in_file any.parts;
  wanted = λ keys known. (
    tt,
    refl,
    λ spot.
        rest_wants (any_plan 100) (λ u. of_made (made_at spot (carried u)) >>= λ j. as_read keys j spot) any.parts t (IsField field.json t w.known) any.wanted
        (made_wants (made_at spot (carried t)) (λ j. as_read keys j spot) t (IsField field.json t w.known) (ap (made_at spot) (carried-valid t valid)) (record { value_is = refl; known_is = known })),
  );
  put = put_then ((mark, tt) ∷ []) (map in_file any.parts) (mark_put w) (rest_put any.parts _ w any.spelled);
  fit = fit_then ((mark, tt) ∷ []) (map in_file any.parts) mark_fit (rest_fit any.parts);
}

-- ---- lemmas for callers

-- a field that can be spelled is such parts, where its key has a number in range
pub field_parts : (t : FieldType) (v : FieldValue t) (w : V2Written) → V2Spells (t, v) → (v2_put (t, v) w).known < 2 ^ 53 → FieldParts (t, v) w
field_parts field.info v w spells lt = info_parts v w
field_parts field.client v w spells lt = client_parts v w spells
field_parts field.left id w spells lt = left_parts id w spells
field_parts field.right id w spells lt = right_parts id w spells
field_parts field.flag v w spells lt = flag_parts v w spells
field_parts field.string text w spells lt = string_parts text w spells
field_parts field.key text w spells lt = key_parts text w spells (omega (arith, lt))
field_parts field.kind v w spells lt = kind_parts v w spells
field_parts field.len v w spells lt = length_parts v w spells
field_parts field.any t w spells lt = value_parts t w (any_parts t (leb-true (depth t) 100 (and_parts (nat_le (depth t) 100) (is_in_range t) spells.0).0) spells.1)
field_parts field.blob bytes w spells lt = blob_parts bytes w spells
field_parts field.json t w spells lt = json_parts t w spells.0 (any_parts t (leb-true (depth t) 100 (and_parts (nat_le (depth t) 100) (is_json t) spells.0).0) spells.1)
field_parts field.number v w spells lt = number_parts v w spells
field_parts (field.range before) r w spells lt = range_parts before r w spells
