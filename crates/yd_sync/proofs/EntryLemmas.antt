-- Entries: the fields of which are what their plan wants, and what is read of them is entries.
use Rattle.std.proofs.Common.{◌≡◌, ◌∙◌, ◌++◌, [], ◌∷◌, ℕ, suc, List, length, append_assoc, Option, Some, None, Ok, IfSome, Bool, true, false, cond, refl, sym, ap, subst}
use Rattle.std.specs.Prelude.{codes}
use Rattle.std.specs.Str.{bytes_eq}
use Rattle.std.proofs.lemmas.List.{append-nil}
use Rattle.yd_words.specs.Each.{Each}
use Rattle.yd_fields.specs.Field.{Field, Fits}
use Rattle.yd_fields.specs.Field as field
use Rattle.yd_fields.specs.Writes.{Writes, with_fields}
use Rattle.yd_parts.proofs.ExpectLemmas.{expects_none, expects_step}
use Rattle.yd_parts.proofs.GivenLemmas.{GivesOnly, given, gives_only_repeated}
use Rattle.yd_parts.specs.Plan.{Expects, read_by, repeated}
use Rattle.yd_reading.proofs.DeletesFitLemmas.{each-last}
use Rattle.yd_v1.proofs.FitLemmas.{v1_fits}
use Rattle.yd_v1.proofs.WrittenLemmas.{with_v1_bytes}
use Rattle.yd_v1.specs.Bytes.{V1Spells, v1_bytes, v1_bytes_of_all}
use Rattle.yd_v1.specs.Reading.{IsSoundV1, V1Left, v1_at, v1_spot}
use Rattle.yd_sync.specs.declared.entry.AwareEntry.{AwareEntry}
use Rattle.yd_sync.specs.Entry.{IsEntry, IsState, aware_plan, aware_step, fields_of_aware, fields_of_each, state_of, text_of_state}

-- ---- states

-- the text of a state tells it
pub state_back : (s : Option (List ℕ)) → IfSome s IsState → state_of (text_of_state s) ≡ s
state_back None is = refl
state_back (Some text) is = rw is refl

-- what a text tells is a state, or none
state_is : (text : List ℕ) → IfSome (state_of text) IsState
state_is text = go (bytes_eq text (codes "null")) refl
  where
    go : (test : Bool) → bytes_eq text (codes "null") ≡ test → IfSome (cond test None (Some text)) IsState
    go true e = tt
    go false e = e

-- ---- written

-- entries, one after another
entries_expect : (entries found : List AwareEntry) → Each IsEntry entries → Expects (repeated aware_step (length entries) found) (fields_of_each entries) (found ++ entries)
unfolding aware_step
entries_expect [] found are = expects_none aware_step found (found ++ []) (sym (append-nil found))
entries_expect (e ∷ entries) found are =
    subst (λ last. Expects (repeated aware_step (suc (length entries)) found) (fields_of_each (e ∷ entries)) last) (append_assoc found (e ∷ []) entries)
    (expects_step aware_step (length entries) found (found ++ e ∷ []) ((found ++ e ∷ []) ++ entries) (fields_of_each (e ∷ [])) (fields_of_each entries)
    (e.client.0, refl, λ spot. (e.clock, refl, λ at. (text_of_state e.state, refl, λ place. ap (λ state. found ++ record { client = e.client; clock = e.clock; state = state } ∷ []) (state_back e.state are.0.state))))
    (entries_expect entries (found ++ e ∷ []) are.1))

-- all entries
pub aware_expects : (entries : List AwareEntry) → Each IsEntry entries → Expects aware_plan (fields_of_aware entries) entries
unfolding aware_plan
aware_expects entries are = (length entries, refl, λ spot. entries_expect entries [] are)

-- the count and the entries that were written are the fields of all
pub aware_written : (entries : List AwareEntry) (count : ℕ) (start middle end : List ℕ) → count ≡ length entries → start ≡ [] →
    middle ≡ start ++ v1_bytes (field.number, count) → V1Spells (field.number, count) → Writes (λ f bytes. bytes ++ v1_bytes f) V1Spells (fields_of_each entries) middle end →
    (end ≡ v1_bytes_of_all (fields_of_aware entries)) × Each V1Spells (fields_of_aware entries)
aware_written entries count start middle end counted none first spelled writes =
    let put : Field → List ℕ → List ℕ = λ f bytes. bytes ++ v1_bytes f in
    let fields : (field.number, count) ∷ fields_of_each entries ≡ fields_of_aware entries = rw counted refl in
    let all : end ≡ v1_bytes_of_all ((field.number, count) ∷ fields_of_each entries) =
    writes.written ∙ ap (with_fields put (fields_of_each entries)) (first ∙ ap (λ bytes. bytes ++ v1_bytes (field.number, count)) none)
    ∙ with_v1_bytes ((field.number, count) ∷ fields_of_each entries) [] in
    (all ∙ ap v1_bytes_of_all fields, subst (Each V1Spells) fields (spelled, writes.spelled))

-- ---- read

-- one entry more
aware_step_fits : (found : List AwareEntry) → Each IsEntry found → GivesOnly Fits (Each IsEntry) (aware_step found)
unfolding aware_step
aware_step_fits found before = λ client spot is_client clock at is_clock text place is_text.
    each-last IsEntry found (record { client = record { 0 = client }; clock = clock; state = state_of text }) before (record { client = is_client; clock = is_clock; state = state_is text })

-- what was read of so many entries is entries
pub entries_read : (count : ℕ) (s : V1Left) (entries : List AwareEntry) (left : V1Left) → read_by v1_at v1_spot (repeated aware_step count []) s ≡ Ok (entries, left) → Each IsEntry entries
entries_read count s entries left read =
    given v1_at v1_spot Fits IsSoundV1 (Each IsEntry) (repeated aware_step count []) s entries left v1_fits (gives_only_repeated Fits (Each IsEntry) aware_step count [] tt aware_step_fits) tt read
