-- A file that stands for an update spells fields that make it.
use Rattle.std.proofs.Common.{◌≡◌, ◌++◌, ℕ, List, [], ◌∷◌, Some, Ok, IsUtf8, refl, ap, sym, subst}
use Rattle.yd_cols.proofs.StartLemmas.{bytes_start, diffs_start, uints_start}
use Rattle.yd_cols.proofs.StringColumnLemmas.{start_text, string_texts, strings_exact, strings_start}
use Rattle.yd_cols.proofs.UintLemmas.{uint_exact}
use Rattle.yd_cols.specs.Reading.{next_string}
use Rattle.yd_fields.proofs.UpdateAlikeLemmas.{update_wants}
use Rattle.yd_fields.specs.Field.{Field, FieldValue}
use Rattle.yd_fields.specs.UpdatePlan.{update_plan}
use Rattle.yd_ops.specs.Value.{UpdateValue}
use Rattle.yd_parts.specs.Plan.{Expects, Found, LeadsTo, StandInTurn, give, refuse, want, things_in, ◌>>=◌}
use Rattle.yd_v2.proofs.ColumnLemmas.{spelled_read}
use Rattle.yd_v2.proofs.FileLemmas.{files_read}
use Rattle.yd_v2.proofs.PartExactLemmas.{v2_parts_exact}
use Rattle.yd_v2.proofs.PlacelessLemmas.{field_alike}
use Rattle.yd_v2.proofs.StartLemmas.{strings_read}
use Rattle.yd_v2.proofs.TakenLemmas.{ends_nothing, part_taken}
use Rattle.yd_v2.specs.Columns.{AreInParts, FilesAreColumns, SpellsFields, placeless}
use Rattle.yd_v2.specs.Grammar.{BeginsV2, StandsField, StandsForV2, StandsV2Part, TakesPart}
use Rattle.yd_v2.specs.Left.{V2Left}
use Rattle.yd_v2.specs.Part.{V2Part, V2Plan, V2Turn, V2Value, mark, string}
use Rattle.yd_v2.specs.Plan.{FieldRead, v2_plan}
use Rattle.yd_v2.specs.Reading.{V2Now, most_structs, turn_of}
use Rattle.yd_v2.specs.Standing.{PartsStand, V2Thing, among, clients_of, infos_of, keys_of, kinds_of, lefts_of, lengths_of, parents_of, rights_of, strings_of}

-- ---- the text of the strings

-- what is left is a text still, behind a part
text_behind : (t : V2Part) (left : V2Left) (v : V2Value t) (next : V2Turn) → IsUtf8 left.strings.text → TakesPart t left v next → IsUtf8 next.left.strings.text
text_behind string left v next text takes =
    let read : next_string left.strings ≡ Ok (v, takes.behind) = ((strings_exact uint_exact).values left.strings v takes.behind).1 takes.taken in
    subst (λ n. IsUtf8 n.left.strings.text) (sym takes.next_is) (string_texts left.strings v takes.behind text read).1
text_behind mark left v next text takes = subst (λ n. IsUtf8 n.left.strings.text) (sym takes) text
text_behind t left v next text takes = subst (λ n. IsUtf8 n.left.strings.text) (sym takes.next_is) text

-- and behind parts in a row
text_kept : (parts : List (Found V2Value)) (now end : V2Turn) → IsUtf8 now.left.strings.text → StandInTurn StandsV2Part now parts end → IsUtf8 end.left.strings.text
text_kept [] now end text stand = subst (λ n. IsUtf8 n.left.strings.text) stand text
text_kept (part ∷ parts) now end text stand = text_kept parts stand.0 end (text_behind part.type now.left part.value stand.0 text stand.1.taken) stand.2

-- ---- parts

-- parts that were read in a row were left, before the others
parts_taken : (parts : List (Found V2Value)) (others : List V2Thing) (now end : V2Turn) → IsUtf8 now.left.strings.text → StandInTurn StandsV2Part now parts end → PartsStand end.left others → PartsStand now.left (things_in parts ++ others)
parts_taken [] others now end text stand left = subst (λ n. PartsStand n.left others) (sym stand) left
parts_taken (part ∷ parts) others now end text stand left =
    let read = (v2_parts_exact.only part.type now part.value part.spot stand.0 stand.1).0 in
    part_taken part.type part.value (things_in parts ++ others) now stand.0 text read (parts_taken parts others stand.0 end (text_behind part.type now.left part.value stand.0 text stand.1.taken) stand.2 left)

-- what leads a plan to a field leads it to the field without its place
leads_placeless : {X : Type 0} (plan : V2Plan (FieldRead X)) (parts : List (Found V2Value)) (read : FieldRead X) → LeadsTo plan parts (give read) → LeadsTo (plan >>= placeless) parts (give (read.value, read.known))
unfolding ◌>>=◌
leads_placeless (give other) [] read leads = let same : other ≡ read = cc in ap (λ r. give (r.value, r.known)) same
leads_placeless (give other) (part ∷ parts) read leads = absurd leads
leads_placeless (refuse cause spot) [] read leads = absurd cc
leads_placeless (refuse cause spot) (part ∷ parts) read leads = absurd leads
leads_placeless (want t next) [] read leads = absurd cc
leads_placeless (want t next) (part ∷ parts) read leads = (leads.0, leads.1, leads.2, leads_placeless (next leads.0 leads.1) parts read leads.3)

-- ---- fields

-- fields that were read in a row are these parts, which were left
record FieldsTaken (fields : List (Found FieldValue)) (now : V2Now) : Type 0 where
  things : List V2Thing
  parts : AreInParts now.known (things_in fields) things
  stand : PartsStand now.left things

fields_taken : (fields : List (Found FieldValue)) (now end : V2Now) → IsUtf8 now.left.strings.text → StandInTurn StandsField now fields end → PartsStand end.left [] → FieldsTaken fields now
fields_taken [] now end text stand left = record { things = []; parts = refl; stand = subst (λ n. PartsStand n.left []) (sym stand) left }
fields_taken (field ∷ fields) now end text stand left =
    let one = stand.1 in
    let next = stand.0 in
    let later = fields_taken fields next end (subst (λ l. IsUtf8 l.strings.text) (sym one.left) (text_kept one.parts.things (turn_of now) one.end text one.parts.stand)) stand.2 left in
    let wanted = (field_alike field.type now.known).expected one.parts.things (field.value, next.known)
    (leads_placeless (v2_plan field.type now.known) one.parts.things (record { value = field.value; spot = next.spot; known = next.known }) one.parts.leads) in
    record {
      things = things_in one.parts.things ++ later.things;
      parts = (things_in one.parts.things, later.things, next.known, wanted, later.parts, refl);
      stand = parts_taken one.parts.things later.things (turn_of now) one.end text one.parts.stand (subst (λ l. PartsStand l later.things) one.left later.stand);
    }

-- ---- files

-- the columns of a file that begins so spell what is left of it
columns_spell : (bytes : List ℕ) (fields : List Field) (start : V2Now) (begins : BeginsV2 bytes start) (things : List V2Thing) → AreInParts [] fields things → PartsStand start.left things → IsUtf8 begins.strings.text → SpellsFields bytes fields
columns_spell bytes fields start begins things parts stand text =
    let s = subst (λ n. PartsStand n.left things) begins.start_is stand in
    record {
      columns = begins.columns;
      behind = begins.behind;
      head = begins.head;
      things = things;
      parts = parts;
      keys = (diffs_start begins.columns.keys (among keys_of things)).0 s.keys;
      clients = (uints_start begins.columns.clients (among clients_of things)).0 s.clients;
      lefts = (diffs_start begins.columns.lefts (among lefts_of things)).0 s.lefts;
      rights = (diffs_start begins.columns.rights (among rights_of things)).0 s.rights;
      infos = (bytes_start begins.columns.infos (among infos_of things)).0 s.infos;
      strings = (strings_start begins.columns.strings (among strings_of things)).1 (begins.strings, strings_read begins.columns.strings begins.strings begins.joined, text, s.strings);
      parents = (bytes_start begins.columns.parents (among parents_of things)).0 s.parents;
      kinds = (uints_start begins.columns.kinds (among kinds_of things)).0 s.kinds;
      lengths = (uints_start begins.columns.lengths (among lengths_of things)).0 s.lengths;
      rest = s.rest;
    }

-- the fields that a file spells make the update that it stands for
file_spells : (bytes : List ℕ) (u : UpdateValue) → StandsForV2 bytes u → (fields : List Field) × Expects (update_plan (Some most_structs)) fields u × SpellsFields bytes fields
file_spells bytes u stands =
    let begins = stands.begins in
    let text : IsUtf8 begins.strings.text = start_text begins.columns.strings begins.strings (strings_read begins.columns.strings begins.strings begins.joined) in
    let start_text_is : IsUtf8 stands.start.left.strings.text = subst (λ n. IsUtf8 n.left.strings.text) (sym begins.start_is) text in
    let taken = fields_taken stands.fields.things stands.start stands.end start_text_is stands.fields.stand (ends_nothing stands.end stands.ended) in (
      things_in stands.fields.things,
      update_wants (Some most_structs) stands.fields.things u stands.fields.leads,
      columns_spell bytes (things_in stands.fields.things) stands.start begins taken.things (subst (λ known. AreInParts known (things_in stands.fields.things) taken.things) (ap (λ n. n.known) begins.start_is) taken.parts) taken.stand text,
    )

-- ---- lemmas for callers

pub files_columns : FilesAreColumns
files_columns = λ bytes u. (file_spells bytes u, λ found. ((files_read (update_plan (Some most_structs))).values bytes u).0 (spelled_read (update_plan (Some most_structs)) bytes found.0 u found.1 found.2))
