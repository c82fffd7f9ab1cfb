-- What is written in V2 is read again: fields from their file, one after another.
use Rattle.std.proofs.Common.{◌≡◌, ◌∙◌, ◌++◌, ◌^◌, ◌<◌, ◌≤◌, [], ◌∷◌, ℕ, List, Ok, IsUtf8, append-nil, append_assoc, arith, length, refl, sym, ap, subst}
use Rattle.std.specs.List.{AllByRecursion, concat}
use Rattle.yd_cols.proofs.BackLemmas.{bytes_back, diffs_back, strings_back, uints_back}
use Rattle.yd_cols.proofs.StartLemmas.{bytes_start, diffs_start, uints_start}
use Rattle.yd_cols.proofs.StringColumnLemmas.{strings_start}
use Rattle.yd_cols.specs.Column.{SpellsBytes, SpellsDiffs, SpellsStrings, SpellsUints}
use Rattle.yd_cols.specs.Reading.{StringsLeft, bytes_in, diffs_in, strings_in, uints_in}
use Rattle.yd_cols.specs.Standing.{BytesStand, DiffsStand, StringsStand, UintsStand}
use Rattle.yd_cols.specs.Writing.{DiffsWritten, RunsWritten, StringsWritten, byte_column, diff_column, no_diffs, no_runs, no_strings, put_all, put_byte, put_diff, put_string, put_uint, string_column, uint_column}
use Rattle.yd_fields.proofs.AgainLemmas.{come_back}
use Rattle.yd_fields.specs.Again.{AreRead, AreReadAgain}
use Rattle.yd_fields.specs.Field.{Field, FieldType, FieldValue}
use Rattle.yd_fields.specs.Field as field
use Rattle.yd_fields.specs.Writes.{with_fields}
use Rattle.yd_words.specs.Each.{Each}
use Rattle.yd_v2.proofs.FieldPartsLemmas.{FieldParts, IsField, WantsField, field_parts}
use Rattle.yd_v2.proofs.FileLemmas.{files_read}
use Rattle.yd_v2.proofs.HeadLemmas.{file_begins}
use Rattle.yd_v2.proofs.PutLemmas.{PartsFit, PartsPut, fit_then, none_fit, none_put, put_then}
use Rattle.yd_v2.proofs.StandingLemmas.{nothing_ends}
use Rattle.yd_v2.proofs.WantLemmas.{wants_read}
use Rattle.yd_v2.specs.Law.{FieldsComeBackV2}
use Rattle.yd_v2.specs.Plan.{v2_plan}
use Rattle.yd_v2.specs.Reading.{V2Now, turn_of, v2_at, v2_begin, v2_files, v2_whole}
use Rattle.yd_v2.specs.Spelled.{V2Spells}
use Rattle.yd_v2.specs.Standing.{PartsStand, V2Thing, SpellParts, among, clients_of, infos_of, keys_of, kinds_of, lefts_of, lengths_of, parents_of, rest_of, rights_of, strings_of}
use Rattle.yd_v2.specs.Writing.{FitsFile, V2Written, columns_written, no_fields, v2_bytes, v2_put}

-- ---- columns

uints_written : (vs : List ℕ) (column : RunsWritten ℕ) → column ≡ put_all put_uint vs no_runs → AllByRecursion (λ v. v < 2 ^ 53) vs → UintsStand (uints_in (uint_column column)) vs
uints_written vs column is fits = (uints_start (uint_column column) vs).1 (subst (λ c. SpellsUints (uint_column c) vs) (sym is) (uints_back vs fits))

diffs_written : (vs : List ℕ) (column : DiffsWritten) → column ≡ put_all put_diff vs no_diffs → AllByRecursion (λ v. v < 2 ^ 53) vs → DiffsStand (diffs_in (diff_column column)) vs
diffs_written vs column is fits = (diffs_start (diff_column column) vs).1 (subst (λ c. SpellsDiffs (diff_column c) vs) (sym is) (diffs_back vs fits))

bytes_written : (vs : List ℕ) (column : RunsWritten ℕ) → column ≡ put_all put_byte vs no_runs → BytesStand (bytes_in (byte_column column)) vs
bytes_written vs column is = (bytes_start (byte_column column) vs).1 (subst (λ c. SpellsBytes (byte_column c) vs) (sym is) (bytes_back vs))

-- the text of strings that are put behind others
text_joined : (strings : List (List ℕ)) (column : StringsWritten) → (put_all put_string strings column).text ≡ column.text ++ concat strings
text_joined [] column = sym (append-nil column.text)
text_joined (s ∷ strings) column = text_joined strings (put_string s column) ∙ append_assoc column.text s (concat strings)

-- a column of strings that was written
record StringsAgain (column : StringsWritten) (strings : List (List ℕ)) : Type 0 where
  left : StringsLeft
  read : strings_in (string_column column) ≡ Ok left
  text : IsUtf8 left.text
  stand : StringsStand left strings

strings_written : (strings : List (List ℕ)) (column : StringsWritten) → column ≡ put_all put_string strings no_strings → AllByRecursion IsUtf8 strings → length column.text < 2 ^ 53 → StringsAgain column strings
strings_written strings column is texts fits =
    let joined : column.text ≡ concat strings = ap (λ (c : StringsWritten). c.text) is ∙ text_joined strings no_strings in
    let spelled = strings_back strings texts (subst (λ (text : List ℕ). length text < 2 ^ 53) joined fits) in
    let got = (strings_start (string_column column) strings).0 (subst (λ c. SpellsStrings (string_column c) strings) (sym is) spelled) in
    record { left = got.0; read = got.1; text = got.2; stand = got.3 }

-- ---- parts

-- parts that were written are left of the columns and the rest
parts_written : (things : List V2Thing) (w : V2Written) (strings : StringsAgain w.strings (among strings_of things)) → PartsPut things no_fields w → PartsFit things → PartsStand (v2_begin (columns_written w) strings.left w.rest).left things
parts_written things w strings put fit = record {
  keys = diffs_written (among keys_of things) w.keys put.keys fit.keys;
  clients = uints_written (among clients_of things) w.clients put.clients fit.clients;
  lefts = diffs_written (among lefts_of things) w.lefts put.lefts fit.lefts;
  rights = diffs_written (among rights_of things) w.rights put.rights fit.rights;
  infos = bytes_written (among infos_of things) w.infos put.infos;
  strings = strings.stand;
  parents = bytes_written (among parents_of things) w.parents put.parents;
  kinds = uints_written (among kinds_of things) w.kinds put.kinds fit.kinds;
  lengths = uints_written (among lengths_of things) w.lengths put.lengths fit.lengths;
  rest = subst (SpellParts (among rest_of things)) (sym put.rest) put.spelled;
  text = strings.text;
}

-- ---- fields

-- reading the fields one after another wants these parts, where so many keys are known
abbrev WantFields : List Field → V2Written → List V2Thing → Type 0
WantFields [] w things = things ≡ []
WantFields (f ∷ fs) w things = (parts : FieldParts f w) × (others : List V2Thing) × (things ≡ parts.things ++ others) × WantFields fs (v2_put f w) others

-- fields are written in parts that reading them wants
record FieldsParts (fs : List Field) (w : V2Written) : Type 0 where
  things : List V2Thing
  wanted : WantFields fs w things
  put : PartsPut things w (with_fields v2_put fs w)
  fit : PartsFit things

-- keys are never forgotten
known_put : (t : FieldType) (v : FieldValue t) (w : V2Written) → w.known ≤ (v2_put (t, v) w).known
known_put field.key v w = omega arith
known_put t v w = omega arith

known_all : (fs : List Field) (w : V2Written) → w.known ≤ (with_fields v2_put fs w).known
known_all [] w = omega arith
known_all (f ∷ fs) w = omega (arith, known_put f.0 f.1 w, known_all fs (v2_put f w))

-- fields that can be spelled are such parts
fields_parts : (fs : List Field) (w : V2Written) → Each V2Spells fs → (with_fields v2_put fs w).known < 2 ^ 53 → FieldsParts fs w
fields_parts [] w spelled lt = record { things = []; wanted = refl; put = none_put w; fit = none_fit }
fields_parts (f ∷ fs) w spelled lt =
    let first = field_parts f.0 f.1 w spelled.0 (omega (arith, lt, known_all fs (v2_put f w))) in
    let later = fields_parts fs (v2_put f w) spelled.1 lt in
    record {
      things = first.things ++ later.things;
      wanted = (first, later.things, refl, later.wanted);
      put = put_then first.things later.things first.put later.put;
      fit = fit_then first.things later.things first.fit later.fit;
    }

-- a field whose parts are left is read, and the others are left behind it
record ReadsField (f : Field) (now : V2Now) (known : ℕ) (others : List V2Thing) : Type 0 where
  next : V2Now
  read : v2_at f.0 now ≡ Ok (f.1, next)
  known_is : length next.known ≡ known
  stand : PartsStand next.left others

field_read : (f : Field) (before behind : ℕ) (things others : List V2Thing) (now : V2Now) → WantsField f before behind things → length now.known ≡ before → PartsStand now.left (things ++ others) → ReadsField f now behind others
unfolding v2_at
field_read f before behind things others now wanted known stand =
    let got = wants_read (v2_plan f.0 now.known) things others (turn_of now) (IsField f.0 f.1 behind) (wanted now.known known) stand in
    let next : V2Now = record { left = got.end.left; known = got.value.known; spot = got.value.spot } in
    record { next = next; read = rw got.read (ap (λ v. Ok (v, next)) got.holds.value_is); known_is = got.holds.known_is; stand = got.stand }

-- fields whose parts are left are read, one after another, and there the file ends
fields_again : (fs : List Field) (w : V2Written) (things : List V2Thing) (now : V2Now) → WantFields fs w things → length now.known ≡ w.known → PartsStand now.left things → AreRead v2_files fs now
fields_again [] w things now wanted known stand = nothing_ends now (subst (PartsStand now.left) wanted stand)
fields_again (f ∷ fs) w things now wanted known stand =
    let parts = wanted.0 in
    let got = field_read f w.known (v2_put f w).known parts.things wanted.1 now parts.wanted known (subst (PartsStand now.left) wanted.2 stand) in
    (got.next, got.read, fields_again fs (v2_put f w) wanted.1 got.next wanted.3 got.known_is got.stand)

-- ---- lemmas for callers

-- what V2 spells is read again, where its columns have lengths that are read
pub written_again : AreReadAgain v2_files v2_put V2Spells FitsFile v2_bytes no_fields
written_again = λ fs spelled fits.
    let w = with_fields v2_put fs no_fields in
    let parts = fields_parts fs no_fields spelled fits.known in
    let strings = strings_written (among strings_of parts.things) w.strings parts.put.strings parts.fit.strings fits.text in
    let start = v2_begin (columns_written w) strings.left w.rest in
    record {
      begin = start;
      starts = file_begins (columns_written w) w.rest strings.left fits.columns strings.read;
      read = fields_again fs no_fields parts.things start parts.wanted refl (parts_written parts.things w strings parts.put parts.fit);
    }

-- so what a plan makes of the fields stands in the file
pub written_come_back : {X : Type 0} → FieldsComeBackV2 X
unfolding v2_whole
written_come_back = λ fs plan x spelled fits expects. ((files_read plan).values _ x).0 (come_back v2_files v2_put V2Spells FitsFile v2_bytes no_fields written_again fs plan x spelled fits expects)
