-- The head of a file in V2, and the text that joins its strings, are read exactly.
use Rattle.std.proofs.Common.{◌≡◌, ◌∙◌, ◌⊎◌, ◌+◌, ◌-◌, ℕ, inl, inr, List, length, Result, Ok, Err, refl, ap, subst, sym, arith}
use Rattle.yd_cols.specs.declared.fault.ColFault.{ColFault}
use Rattle.yd_cols.specs.Reading.{StringsLeft, of_number, runs_from, strings_in, strings_of}
use Rattle.yd_num.proofs.ReadingLemmas.{ok_value}
use Rattle.yd_num.specs.Reading.{Cause as NumCause, short_input, number_too_large, bad_utf8}
use Rattle.yd_num.specs.Text.{text_at}
use Rattle.yd_parts.proofs.ExactLemmas.{failed_read, given_read, plan_fails, plan_gives}
use Rattle.yd_parts.proofs.PartExactLemmas.{parts_exact}
use Rattle.yd_parts.specs.Fault.{Fault, of_number as part_cause}
use Rattle.yd_parts.specs.Part.{Unread, all_of, behind, here, last_spot, part_at, placed}
use Rattle.yd_parts.specs.Part as part
use Rattle.yd_parts.specs.PartGrammar.{FailsPart, StandsPart}
use Rattle.yd_parts.specs.Plan.{PlanGives, and_then, read_by}
use Rattle.yd_parts.specs.declared.fault.Column.TheVariants.{Head, Strings}
use Rattle.yd_v2.specs.Grammar.{BeginsV2, HeadFails, JoinsStrings, TextFails}
use Rattle.yd_v2.specs.Part.{fault_in, in_column}
use Rattle.yd_v2.specs.Reading.{Columns, V2Now, head_plan, v2_begin, v2_start}

-- a place that is counted from 0
no_place : (n m : ℕ) → (0 + n) - m ≡ n - m
no_place n m = omega arith

-- ---- the joined text

-- the text of the strings is a text at the front of the column
text_part : (bytes : List ℕ) (text : List ℕ) (rest : List ℕ) → text_at bytes ≡ Ok (text, rest) → StandsPart (all_of Strings bytes) (record { type = part.text; value = text; spot = here (all_of Strings bytes) }) (behind (all_of Strings bytes) rest)
text_part bytes text rest read =
    let stands = parts_exact.found part.text (all_of Strings bytes) text (behind (all_of Strings bytes) rest) (ap (placed (all_of Strings bytes)) read) in
    subst (λ spot. StandsPart (all_of Strings bytes) (record { type = part.text; value = text; spot = spot }) (behind (all_of Strings bytes) rest)) stands.spot stands

strings_join : (bytes : List ℕ) (strings : StringsLeft) → in_column Strings (strings_in bytes) ≡ Ok strings → JoinsStrings bytes strings
unfolding strings_in
strings_join bytes strings read = by_text (text_at bytes) refl read
  where
    by_text : (first : Result (List ℕ × List ℕ) NumCause) → text_at bytes ≡ first → in_column Strings (strings_of bytes first) ≡ Ok strings → JoinsStrings bytes strings
    by_text (Ok got) is e =
        let same = ok_value {E = Fault} (record { text = got.0; lengths = runs_from 0 (length bytes - length got.1) got.1 }) strings e in
        subst (JoinsStrings bytes) same (record { behind = behind (all_of Strings bytes) got.1; stands = text_part bytes got.0 got.1 is; lengths = ap (λ place. runs_from 0 place got.1) (sym (no_place (length bytes) (length got.1))) })
    by_text (Err cause) is e = absurd cc

-- what stands at the front of the column is read
joined_text : (bytes : List ℕ) (strings : StringsLeft) (joins : JoinsStrings bytes strings) → (rest : List ℕ) × (text_at bytes ≡ Ok (strings.text, rest)) × (joins.behind ≡ behind (all_of Strings bytes) rest)
joined_text bytes strings joins = by_text (text_at bytes) refl (parts_exact.only part.text (all_of Strings bytes) strings.text (here (all_of Strings bytes)) joins.behind joins.stands).0
  where
    by_text : (first : Result (List ℕ × List ℕ) NumCause) → text_at bytes ≡ first → placed (all_of Strings bytes) first ≡ Ok (strings.text, joins.behind) → (rest : List ℕ) × (text_at bytes ≡ Ok (strings.text, rest)) × (joins.behind ≡ behind (all_of Strings bytes) rest)
    by_text (Ok got) is e =
        let same = ok_value {E = Fault} (got.0, behind (all_of Strings bytes) got.1) (strings.text, joins.behind) e in
        (got.1, is ∙ ap (λ text. Ok (text, got.1)) (ap (λ pair. pair.0) same), sym (ap (λ pair. pair.1) same))
    by_text (Err cause) is e = absurd cc

pub joined_read : (bytes : List ℕ) (strings : StringsLeft) → JoinsStrings bytes strings → in_column Strings (strings_in bytes) ≡ Ok strings
unfolding strings_in
joined_read bytes strings joins =
    let text = joined_text bytes strings joins in
    let lengths : runs_from {V = ℕ} 0 (length bytes - length text.0) text.0 ≡ strings.lengths =
    sym (joins.lengths ∙ ap (λ (left : Unread). runs_from {V = ℕ} 0 left.place left.bytes) text.2 ∙ ap (λ place. runs_from {V = ℕ} 0 place text.0) (no_place (length bytes) (length text.0))) in
    ap (λ first. in_column Strings (strings_of bytes first)) text.1 ∙ ap (λ ls. Ok (record { text = strings.text; lengths = ls })) lengths

-- the same, in the column's own words
pub strings_read : (bytes : List ℕ) (strings : StringsLeft) → JoinsStrings bytes strings → strings_in bytes ≡ Ok strings
strings_read bytes strings joins = by_strings (strings_in bytes) (joined_read bytes strings joins)
  where
    by_strings : (first : Result StringsLeft ColFault) → in_column Strings first ≡ Ok strings → first ≡ Ok strings
    by_strings (Ok found) e = ap Ok (ok_value {E = Fault} found strings e)
    by_strings (Err fault) e = absurd cc

-- the fault of a text that is not there
abbrev text_fault : NumCause → Fault
text_fault cause = record { cause = part_cause cause; spot = record { column = Strings; at = 0 } }

-- both ways of saying the cause are the same
column_cause : (cause : NumCause) → fault_in Strings (record { cause = of_number cause; at = 0 }) ≡ text_fault cause
column_cause short_input = refl
column_cause number_too_large = refl
column_cause bad_utf8 = refl

text_fails : (bytes : List ℕ) (fault : Fault) → in_column Strings (strings_in bytes) ≡ Err fault → FailsPart part.text (all_of Strings bytes) fault
unfolding strings_in
text_fails bytes fault read = by_text (text_at bytes) refl read
  where
    by_text : (first : Result (List ℕ × List ℕ) NumCause) → text_at bytes ≡ first → in_column Strings (strings_of bytes first) ≡ Err fault → FailsPart part.text (all_of Strings bytes) fault
    by_text (Ok got) is e = absurd cc
    by_text (Err cause) is e =
        let same : fault_in Strings (record { cause = of_number cause; at = 0 }) ≡ fault = cc in
        parts_exact.fails part.text (all_of Strings bytes) fault (ap (placed (all_of Strings bytes)) is ∙ ap Err (sym (column_cause cause) ∙ same))

fails_text : (bytes : List ℕ) (fault : Fault) → FailsPart part.text (all_of Strings bytes) fault → in_column Strings (strings_in bytes) ≡ Err fault
unfolding strings_in
fails_text bytes fault fails = by_text (text_at bytes) refl (parts_exact.fails_only part.text (all_of Strings bytes) fault fails)
  where
    by_text : (first : Result (List ℕ × List ℕ) NumCause) → text_at bytes ≡ first → placed (all_of Strings bytes) first ≡ Err fault → in_column Strings (strings_of bytes (text_at bytes)) ≡ Err fault
    by_text (Ok got) is e = absurd cc
    by_text (Err cause) is e =
        let same : text_fault cause ≡ fault = cc in
        ap (λ first. in_column Strings (strings_of bytes first)) is ∙ ap Err (column_cause cause ∙ same)

-- ---- the start

-- what the head and the text give
abbrev start_of : Columns × Unread → Result V2Now Fault
start_of head = and_then (in_column Strings (strings_in head.0.strings)) (λ strings. Ok (v2_begin head.0 strings head.1.bytes))

pub start_begins : (bytes : List ℕ) (start : V2Now) → v2_start bytes ≡ Ok start → BeginsV2 bytes start
unfolding v2_start
start_begins bytes start read = by_head (read_by part_at last_spot head_plan (all_of Head bytes)) refl read
  where
    by_strings : (head : Columns × Unread) (strings : Result StringsLeft Fault) → PlanGives StandsPart head_plan (all_of Head bytes) head.0 head.1 → in_column Strings (strings_in head.0.strings) ≡ strings →
        and_then {B = V2Now} strings (λ found. Ok (v2_begin head.0 found head.1.bytes)) ≡ Ok start → BeginsV2 bytes start
    by_strings head (Ok strings) gives is e = record {
      columns = head.0;
      behind = head.1;
      strings = strings;
      head = gives;
      joined = strings_join head.0.strings strings is;
      start_is = sym (ok_value {E = Fault} (v2_begin head.0 strings head.1.bytes) start e);
    }
    by_strings head (Err fault) gives is e = absurd cc

    by_head : (head : Result (Columns × Unread) Fault) → read_by part_at last_spot head_plan (all_of Head bytes) ≡ head → and_then head start_of ≡ Ok start → BeginsV2 bytes start
    by_head (Ok head) is e = by_strings head (in_column Strings (strings_in head.0.strings)) (plan_gives part_at last_spot StandsPart FailsPart parts_exact head_plan (all_of Head bytes) head.0 head.1 is) refl e
    by_head (Err fault) is e = absurd cc

pub begins_start : (bytes : List ℕ) (start : V2Now) → BeginsV2 bytes start → v2_start bytes ≡ Ok start
unfolding v2_start
begins_start bytes start begins =
    let head = given_read part_at last_spot StandsPart FailsPart parts_exact head_plan (all_of Head bytes) begins.columns begins.behind begins.head in
    rw (head, joined_read begins.columns.strings begins.strings begins.joined) (ap Ok (sym begins.start_is))

-- ---- faults

-- behind the head, the file fails at its text
pub start_fails : (bytes : List ℕ) (fault : Fault) → v2_start bytes ≡ Err fault → HeadFails bytes fault ⊎ TextFails bytes fault
unfolding v2_start
start_fails bytes fault read = by_head (read_by part_at last_spot head_plan (all_of Head bytes)) refl read
  where
    by_strings : (head : Columns × Unread) (strings : Result StringsLeft Fault) → PlanGives StandsPart head_plan (all_of Head bytes) head.0 head.1 → in_column Strings (strings_in head.0.strings) ≡ strings →
        and_then {B = V2Now} strings (λ found. Ok (v2_begin head.0 found head.1.bytes)) ≡ Err fault → TextFails bytes fault
    by_strings head (Ok strings) gives is e = absurd cc
    by_strings head (Err other) gives is e =
        let same : other ≡ fault = cc in
        record { columns = head.0; behind = head.1; head = gives; fails = text_fails head.0.strings fault (is ∙ ap Err same) }

    by_head : (head : Result (Columns × Unread) Fault) → read_by part_at last_spot head_plan (all_of Head bytes) ≡ head → and_then head start_of ≡ Err fault → HeadFails bytes fault ⊎ TextFails bytes fault
    by_head (Ok head) is e = inr (by_strings head (in_column Strings (strings_in head.0.strings)) (plan_gives part_at last_spot StandsPart FailsPart parts_exact head_plan (all_of Head bytes) head.0 head.1 is) refl e)
    by_head (Err other) is e = let same : other ≡ fault = cc in inl (plan_fails part_at last_spot StandsPart FailsPart parts_exact head_plan (all_of Head bytes) fault (is ∙ ap Err same))

pub head_fails_start : (bytes : List ℕ) (fault : Fault) → HeadFails bytes fault → v2_start bytes ≡ Err fault
unfolding v2_start
head_fails_start bytes fault fails = rw (failed_read part_at last_spot StandsPart FailsPart parts_exact head_plan (all_of Head bytes) fault fails) refl

pub text_fails_start : (bytes : List ℕ) (fault : Fault) → TextFails bytes fault → v2_start bytes ≡ Err fault
unfolding v2_start
text_fails_start bytes fault fails =
    let head = given_read part_at last_spot StandsPart FailsPart parts_exact head_plan (all_of Head bytes) fails.columns fails.behind fails.head in
    rw (head, fails_text fails.columns.strings fault fails.fails) refl
