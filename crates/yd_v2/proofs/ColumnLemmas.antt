-- A file whose columns spell fields is read as what the fields make.
use Rattle.std.proofs.Common.{◌≡◌, ◌++◌, ℕ, List, [], ◌∷◌, Ok, IsUtf8, refl, ap, sym, subst}
use Rattle.yd_cols.proofs.StartLemmas.{bytes_start, diffs_start, uints_start}
use Rattle.yd_cols.proofs.StringColumnLemmas.{strings_start}
use Rattle.yd_cols.specs.Reading.{StringsLeft, strings_in}
use Rattle.yd_cols.specs.Standing.{StringsStand}
use Rattle.yd_fields.proofs.AgainLemmas.{file_read}
use Rattle.yd_fields.specs.Again.{AreRead}
use Rattle.yd_fields.specs.Field.{Field, FieldPlan}
use Rattle.yd_parts.proofs.ExactLemmas.{given_read}
use Rattle.yd_parts.proofs.PartExactLemmas.{parts_exact}
use Rattle.yd_parts.specs.Part.{all_of, last_spot, part_at}
use Rattle.yd_parts.specs.PartGrammar.{FailsPart, StandsPart}
use Rattle.yd_parts.specs.Plan.{Expects, give, refuse, want, ◌>>=◌}
use Rattle.yd_parts.specs.declared.fault.Column.TheVariants.{Head}
use Rattle.yd_v2.proofs.StandingLemmas.{nothing_ends}
use Rattle.yd_v2.proofs.WantLemmas.{Wants, wants_read}
use Rattle.yd_v2.specs.Columns.{AreInParts, IsInParts, SpellsFields, placeless}
use Rattle.yd_v2.specs.Part.{V2Plan}
use Rattle.yd_v2.specs.Plan.{FieldRead, v2_plan}
use Rattle.yd_v2.specs.Reading.{V2Now, head_plan, turn_of, v2_at, v2_begin, v2_files, v2_start, v2_whole}
use Rattle.yd_v2.specs.Standing.{PartsStand, V2Thing, among, clients_of, infos_of, keys_of, kinds_of, lefts_of, lengths_of, parents_of, rights_of, strings_of}

-- ---- fields

-- the field is read with this value, and these keys are known then
abbrev IsRead : {X : Type 0} → X → List (List ℕ) → FieldRead X → Type 0
IsRead v known read = (read.value ≡ v) × (read.known ≡ known)

-- a plan that wants parts for a value and keys, wherever the field stands, wants them for the field
wants_placed : {X : Type 0} (plan : V2Plan (FieldRead X)) (things : List V2Thing) (v : X) (known : List (List ℕ)) → Expects (plan >>= placeless) things (v, known) → Wants plan things (IsRead v known)
unfolding ◌>>=◌
wants_placed (give read) [] v known is = (ap (λ pair. pair.0) is, ap (λ pair. pair.1) is)
wants_placed (give read) (thing ∷ things) v known is = absurd is
wants_placed (refuse cause spot) things v known is = absurd is
wants_placed (want t next) [] v known is = absurd is
wants_placed (want t next) (thing ∷ things) v known is = (is.0, is.1, λ spot. wants_placed (next is.0 spot) things v known (is.2 spot))

-- a field whose parts are left is read, and the others are left behind it
record ReadsField (f : Field) (now : V2Now) (known : List (List ℕ)) (others : List V2Thing) : Type 0 where
  next : V2Now
  read : v2_at f.0 now ≡ Ok (f.1, next)
  known_is : next.known ≡ known
  stand : PartsStand next.left others

field_read : (f : Field) (things others : List V2Thing) (known : List (List ℕ)) (now : V2Now) → IsInParts f now.known things known → PartsStand now.left (things ++ others) → ReadsField f now known others
unfolding v2_at
field_read f things others known now parts stand =
    let got = wants_read (v2_plan f.0 now.known) things others (turn_of now) (IsRead f.1 known) (wants_placed (v2_plan f.0 now.known) things f.1 known parts) stand in
    let next : V2Now = record { left = got.end.left; known = got.value.known; spot = got.value.spot } in
    record { next = next; read = rw got.read (ap (λ v. Ok (v, next)) got.holds.0); known_is = got.holds.1; stand = got.stand }

-- fields whose parts are left are read, one after another, and there the file ends
fields_again : (fs : List Field) (things : List V2Thing) (now : V2Now) → AreInParts now.known fs things → PartsStand now.left things → AreRead v2_files fs now
fields_again [] things now parts stand = nothing_ends now (subst (PartsStand now.left) parts stand)
fields_again (f ∷ fs) things now parts stand =
    let got = field_read f parts.0 parts.1 parts.2 now parts.3 (subst (PartsStand now.left) parts.5 stand) in
    (got.next, got.read, fields_again fs parts.1 got.next (subst (λ known. AreInParts known fs parts.1) (sym got.known_is) parts.4) got.stand)

-- ---- files

-- what is left before the first field
parts_begin : (bytes : List ℕ) (fields : List Field) (spells : SpellsFields bytes fields) (strings : (left : StringsLeft) × (strings_in spells.columns.strings ≡ Ok left) × IsUtf8 left.text × StringsStand left (among strings_of spells.things)) →
    PartsStand (v2_begin spells.columns strings.0 spells.behind.bytes).left spells.things
parts_begin bytes fields spells strings = record {
  keys = (diffs_start spells.columns.keys (among keys_of spells.things)).1 spells.keys;
  clients = (uints_start spells.columns.clients (among clients_of spells.things)).1 spells.clients;
  lefts = (diffs_start spells.columns.lefts (among lefts_of spells.things)).1 spells.lefts;
  rights = (diffs_start spells.columns.rights (among rights_of spells.things)).1 spells.rights;
  infos = (bytes_start spells.columns.infos (among infos_of spells.things)).1 spells.infos;
  strings = strings.3;
  parents = (bytes_start spells.columns.parents (among parents_of spells.things)).1 spells.parents;
  kinds = (uints_start spells.columns.kinds (among kinds_of spells.things)).1 spells.kinds;
  lengths = (uints_start spells.columns.lengths (among lengths_of spells.things)).1 spells.lengths;
  rest = spells.rest;
  text = strings.2;
}

-- the file begins with its columns
start_read : (bytes : List ℕ) (fields : List Field) (spells : SpellsFields bytes fields) (strings : StringsLeft) → strings_in spells.columns.strings ≡ Ok strings → v2_start bytes ≡ Ok (v2_begin spells.columns strings spells.behind.bytes)
unfolding v2_start
start_read bytes fields spells strings read = rw (given_read part_at last_spot StandsPart FailsPart parts_exact head_plan (all_of Head bytes) spells.columns spells.behind spells.head, read) refl

pub spelled_read : {X : Type 0} (plan : FieldPlan X) (bytes : List ℕ) (fields : List Field) (x : X) → Expects plan fields x → SpellsFields bytes fields → v2_whole plan bytes ≡ Ok x
unfolding v2_whole
spelled_read plan bytes fields x expects spells =
    let strings = (strings_start spells.columns.strings (among strings_of spells.things)).0 spells.strings in
    let start = v2_begin spells.columns strings.0 spells.behind.bytes in
    file_read v2_files bytes fields plan x
    (record { begin = start; starts = start_read bytes fields spells strings.0 strings.1; read = fields_again fields spells.things start spells.parts (parts_begin bytes fields spells strings) }) expects
