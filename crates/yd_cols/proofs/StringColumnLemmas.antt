-- Strings are read exactly, and a whole column of them is read as what it stands for.
use Rattle.std.proofs.Common.{◌≡◌, ◌↔◌, ℕ, ◌-◌, List, [], ◌∷◌, ◌++◌, length, map, Result, Ok, Err, IsUtf8, refl, sym, ap, subst, ◌∙◌, inl, inr, append_assoc}
use Rattle.std.specs.List.{AllByRecursion, concat}
use Rattle.yd_cols.specs.Column.{SpellsStrings, SpellsUintRun, SpellsUints, units_in}
use Rattle.yd_cols.specs.Law.{GivesAll, IsBefore, IsExact, IsReadWhole, StringsBefore}
use Rattle.yd_cols.specs.Reading.{RunsLeft, StringsLeft, and_then, end_of_runs, end_of_strings, end_of_uints, given_string, next_string, next_uint, runs_from, string_at, strings_in, strings_of, text_done}
use Rattle.yd_cols.specs.Standing.{StringsStand, UintsStand}
use Rattle.yd_cols.specs.Taking.{LacksString, LacksUint, TakesString, TakesUint, units_of_chars}
use Rattle.yd_cols.specs.declared.fault.ColCause.{ColCause}
use Rattle.yd_cols.specs.declared.fault.ColFault.{ColFault}
use Rattle.yd_cols.proofs.BackLemmas.{concat_text}
use Rattle.yd_cols.proofs.GivenLemmas.{uints_behind}
use Rattle.yd_cols.proofs.StringLemmas.{AreParts, IsCutAt, are_parts, string_failed, string_found, string_only, string_refused, text_cut}
use Rattle.yd_num.proofs.BlobLemmas.{text_found, text_only}
use Rattle.yd_num.proofs.ReadingLemmas.{ok_value}
use Rattle.yd_num.specs.Reading.{Cause}
use Rattle.yd_num.specs.Text.{SpellsText, text_at}

-- ---- one string

-- a string is given: its length is, and the text is cut so
record IsGiven (left : StringsLeft) (string : List ℕ) (next : StringsLeft) : Type 0 where
  units : ℕ
  taken : next_uint left.lengths ≡ Ok (units, next.lengths)
  cut : IsCutAt left.text string next.text units

given_parts : (lengths : RunsLeft ℕ) (read : Result (List ℕ × List ℕ) ColCause) (string : List ℕ) (next : StringsLeft) → given_string lengths read ≡ Ok (string, next)
    → (read ≡ Ok (string, next.text)) × (lengths ≡ next.lengths)
given_parts lengths (Ok parts) string next e =
    let is = ok_value {E = ColFault} (parts.0, record { text = parts.1; lengths = lengths }) (string, next) e in
    (ap (λ (p : List ℕ × StringsLeft). Ok (p.0, p.1.text)) is, ap (λ (p : List ℕ × StringsLeft). p.1.lengths) is)
given_parts lengths (Err cause) string next e = absurd cc

length_read : (text : List ℕ) (read : Result (ℕ × RunsLeft ℕ) ColFault) (string : List ℕ) (next : StringsLeft) → and_then read (λ length. given_string length.1 (string_at length.0 text)) ≡ Ok (string, next)
    → (units : ℕ) × (read ≡ Ok (units, next.lengths)) × (string_at units text ≡ Ok (string, next.text))
length_read text (Ok length) string next e =
    let parts = given_parts length.1 (string_at length.0 text) string next e in
    (length.0, ap (λ (l : RunsLeft ℕ). Ok (length.0, l)) parts.1, parts.0)
length_read text (Err fault) string next e = absurd cc

is_given : (left : StringsLeft) (string : List ℕ) (next : StringsLeft) → next_string left ≡ Ok (string, next) → IsGiven left string next
unfolding next_string
is_given left string next e =
    let read = length_read left.text (next_uint left.lengths) string next e in
    record { units = read.0; taken = read.1; cut = string_found read.0 left.text string next.text read.2 }

gives : (left : StringsLeft) (string : List ℕ) (next : StringsLeft) → IsGiven left string next → next_string left ≡ Ok (string, next)
unfolding next_string
gives left string next is = rw (is.taken, string_only is.units left.text string next.text is.cut) refl

-- ---- what is wrong

-- a string is refused: its length is, or the text cannot be cut so
failed_parts : (lengths : RunsLeft ℕ) (read : Result (List ℕ × List ℕ) ColCause) (fault : ColFault) → given_string lengths read ≡ Err fault → (read ≡ Err fault.cause) × (fault.at ≡ lengths.at)
failed_parts lengths (Ok parts) fault e = absurd cc
failed_parts lengths (Err cause) fault e =
    let is : record { cause = cause; at = lengths.at } ≡ fault = cc in
    (ap (λ (f : ColFault). Err f.cause) is, sym (ap (λ (f : ColFault). f.at) is))

module _ (uints : IsExact next_uint TakesUint LacksUint) where
  length_failed : (left : StringsLeft) (read : Result (ℕ × RunsLeft ℕ) ColFault) (fault : ColFault) → next_uint left.lengths ≡ read
      → and_then read (λ length. given_string length.1 (string_at length.0 left.text)) ≡ Err fault → LacksString left fault
  length_failed left (Ok length) fault is e =
      let parts = failed_parts length.1 (string_at length.0 left.text) fault e in
      inr (record {
        units = length.0;
        lengths = length.1;
        taken = (uints.values left.lengths length.0 length.1).0 is;
        cannot = string_failed length.0 left.text fault.cause parts.0;
        place = parts.1;
      })
  length_failed left (Err other) fault is e =
      let same : other ≡ fault = cc in
      inl ((uints.faults left.lengths fault).0 (is ∙ ap (λ (f : ColFault). Err f) same))

  refused : (left : StringsLeft) (fault : ColFault) → LacksString left fault → next_string left ≡ Err fault
  unfolding next_string
  refused left fault (inl lacks) = rw ((uints.faults left.lengths fault).1 lacks) refl
  refused left fault (inr cuts) =
      rw ((uints.values left.lengths cuts.units cuts.lengths).1 cuts.taken, string_refused cuts.units left.text fault.cause cuts.cannot)
      (ap (λ (at : ℕ). Err (record { cause = fault.cause; at = at })) (sym cuts.place))

  takes : (left : StringsLeft) (string : List ℕ) (next : StringsLeft) → IsGiven left string next → TakesString left string next
  takes left string next is = record {
    front = is.cut.front;
    back = is.cut.back;
    joined = is.cut.joined;
    taken = subst (λ (units : ℕ). TakesUint left.lengths units next.lengths) is.cut.counted ((uints.values left.lengths is.units next.lengths).0 is.taken);
    string_is = is.cut.string_is;
    text_is = is.cut.rest_is;
  }

  taken_so : (left : StringsLeft) (string : List ℕ) (next : StringsLeft) → TakesString left string next → IsGiven left string next
  taken_so left string next takes = record {
    units = units_of_chars takes.front;
    taken = (uints.values left.lengths (units_of_chars takes.front) next.lengths).1 takes.taken;
    cut = record { front = takes.front; back = takes.back; joined = takes.joined; counted = refl; string_is = takes.string_is; rest_is = takes.text_is };
  }

  failed : (left : StringsLeft) (fault : ColFault) → next_string left ≡ Err fault → LacksString left fault
  unfolding next_string
  failed left fault e = length_failed left (next_uint left.lengths) fault refl e

  -- ---- lemmas for callers

  -- each string is read exactly, where each number is
  pub strings_exact : IsExact next_string TakesString LacksString
  strings_exact = record {
    values = λ left string next. (λ e. takes left string next (is_given left string next e), λ is. gives left string next (taken_so left string next is));
    faults = λ left fault. (failed left fault, refused left fault);
  }

-- ---- whole columns

-- of a text, a string that is given stands at its front
given_text : (left : StringsLeft) (string : List ℕ) (next : StringsLeft) → IsUtf8 left.text → (is : IsGiven left string next) → AreParts left.text string next.text is.units
given_text left string next is_text is = are_parts left.text string next.text is.units is_text is.cut

module _ (uints : IsReadWhole (λ left. Unit {0}) next_uint end_of_uints UintsStand) where
  string_stands : (left : StringsLeft) (string : List ℕ) (strings : List (List ℕ)) → StringsStand left (string ∷ strings)
      → (next : StringsLeft) × (next_string left ≡ Ok (string, next)) × IsUtf8 next.text × StringsStand next strings
  string_stands left string strings stand =
      let lengths = uints.given left.lengths (units_in string) (map units_in strings) tt stand.lengths in
      let rest = concat_text strings stand.are_texts.1 in
      let cut = text_cut string (concat strings) stand.are_texts.0 rest in (
        record { text = concat strings; lengths = lengths.0 },
        gives left string _ (record { units = units_in string; taken = lengths.1; cut = subst (λ (text : List ℕ). IsCutAt text string (concat strings) (units_in string)) (sym stand.joined) cut }),
        rest,
        record { joined = refl; are_texts = stand.are_texts.1; lengths = lengths.3 },
      )

  string_taken : (left : StringsLeft) (string : List ℕ) (next : StringsLeft) (strings : List (List ℕ)) → IsUtf8 left.text → IsGiven left string next → StringsStand next strings → StringsStand left (string ∷ strings)
  string_taken left string next strings is_text is stand =
      let parts = given_text left string next is_text is in
      let taken = subst (λ (units : ℕ). next_uint left.lengths ≡ Ok (units, next.lengths)) parts.counted is.taken in
      record {
        joined = parts.joined ∙ ap (λ (l : List ℕ). string ++ l) stand.joined;
        are_texts = (parts.string_text, stand.are_texts);
        lengths = uints.taken left.lengths (units_in string) next.lengths (map units_in strings) tt taken stand.lengths;
      }

  at_end : (lengths : RunsLeft ℕ) (text : List ℕ) (done : Result (Unit {0}) ColFault) → and_then done (λ end. text_done lengths text) ≡ Ok tt → (done ≡ Ok tt) × (text ≡ [])
  at_end lengths [] (Ok end) e = (e, refl)
  at_end lengths (b ∷ text) (Ok end) e = absurd cc
  at_end lengths text (Err fault) e = absurd cc

  ended : (left : StringsLeft) → end_of_strings left ≡ Ok tt → StringsStand left []
  ended left e =
      let both = at_end left.lengths left.text (end_of_runs left.lengths) e in
      record { joined = both.1; are_texts = tt; lengths = (uints.end left.lengths).0 both.0 }

  ends : (left : StringsLeft) → StringsStand left [] → end_of_strings left ≡ Ok tt
  ends left stand = rw ((uints.end left.lengths).1 stand.lengths, stand.joined) refl

  -- strings are read whole, where numbers are
  pub strings_whole : IsReadWhole (λ left. IsUtf8 left.text) next_string end_of_strings StringsStand
  strings_whole = record {
    given = λ left string strings is_text stand. string_stands left string strings stand;
    taken = λ left string next strings is_text e stand. string_taken left string next strings is_text (is_given left string next e) stand;
    end = λ left. (ended left, ends left);
  }

-- ---- the start

text_read : (bytes : List ℕ) (read : Result (List ℕ × List ℕ) Cause) (left : StringsLeft) → strings_of bytes read ≡ Ok left
    → (rest : List ℕ) × (read ≡ Ok (left.text, rest)) × (left.lengths ≡ runs_from 0 (length bytes - length rest) rest)
text_read bytes (Ok parts) left e =
    let is = ok_value {E = ColFault} (record { text = parts.0; lengths = runs_from 0 (length bytes - length parts.1) parts.1 }) left e in
    (parts.1, ap (λ (l : StringsLeft). Ok (l.text, parts.1)) is, sym (ap (λ (l : StringsLeft). l.lengths) is))
text_read bytes (Err cause) left e = absurd cc

start_read : (bytes : List ℕ) (left : StringsLeft) → strings_in bytes ≡ Ok left
    → (rest : List ℕ) × (text_at bytes ≡ Ok (left.text, rest)) × (left.lengths ≡ runs_from 0 (length bytes - length rest) rest)
unfolding strings_in
start_read bytes left e = text_read bytes (text_at bytes) left e

starts_so : (front text back : List ℕ) → SpellsText front text → strings_in (front ++ back) ≡ Ok (record { text = text; lengths = runs_from 0 (length (front ++ back) - length back) back })
unfolding strings_in
starts_so front text back spells = rw (text_only front text back spells) refl

-- a column that spells strings begins with their text, and their lengths are left
start_of : (bytes : List ℕ) (strings : List (List ℕ)) → SpellsStrings bytes strings → (left : StringsLeft) × (strings_in bytes ≡ Ok left) × IsUtf8 left.text × StringsStand left strings
start_of bytes strings is =
    let parts = is.spelled in
    let lengths = runs_from 0 (length (parts.front ++ parts.back) - length parts.back) parts.back in (
      record { text = concat strings; lengths = lengths },
      ap strings_in parts.joined ∙ starts_so parts.front (concat strings) parts.back parts.is_front,
      concat_text strings is.are_texts,
      record { joined = refl; are_texts = is.are_texts; lengths = record { behind = map units_in strings; spelled = parts.is_back; all = refl } },
    )

-- what stands at the start is what the column spells
start_spells : (bytes : List ℕ) (strings : List (List ℕ)) (left : StringsLeft) → strings_in bytes ≡ Ok left → StringsStand left strings → SpellsStrings bytes strings
start_spells bytes strings left e stand =
    let read = start_read bytes left e in
    let text = text_found bytes left.text read.0 read.1 in
    let lengths = subst (λ (l : RunsLeft ℕ). UintsStand l (map units_in strings)) read.2 stand.lengths in
    record {
      spelled = record {
        front = text.front;
        back = read.0;
        is_front = subst (SpellsText text.front) stand.joined text.is_front;
        is_back = subst (SpellsUints read.0) (sym lengths.all) lengths.spelled;
        joined = text.joined ∙ ap (λ (l : List ℕ). text.front ++ l) text.is_back;
      };
      are_texts = stand.are_texts;
    }

-- ---- lemmas for callers

pub strings_start : (bytes : List ℕ) (strings : List (List ℕ)) → SpellsStrings bytes strings ↔ ((left : StringsLeft) × (strings_in bytes ≡ Ok left) × IsUtf8 left.text × StringsStand left strings)
strings_start bytes strings = (start_of bytes strings, λ found. start_spells bytes strings found.0 found.1 found.3)

-- where reading starts, the text is UTF-8
pub start_text : (bytes : List ℕ) (left : StringsLeft) → strings_in bytes ≡ Ok left → IsUtf8 left.text
start_text bytes left e = let read = start_read bytes left e in (text_found bytes left.text read.0 read.1).is_front.is_utf8

-- of a text, the next string is a text, and so is what is left
pub string_texts : (left : StringsLeft) (string : List ℕ) (next : StringsLeft) → IsUtf8 left.text → next_string left ≡ Ok (string, next) → IsUtf8 string × IsUtf8 next.text
string_texts left string next is_text read = let parts = given_text left string next is_text (is_given left string next read) in (parts.string_text, parts.rest_text)

-- ---- what was given

-- the lengths of strings that were given were given
lengths_given : (strings : List (List ℕ)) (start left : StringsLeft) → IsUtf8 start.text → GivesAll next_string start strings left → GivesAll next_uint start.lengths (map units_in strings) left.lengths
lengths_given [] start left is_text same = ap (λ (l : StringsLeft). l.lengths) same
lengths_given (string ∷ strings) start left is_text given =
    let is = is_given start string given.0 given.1 in
    let parts = given_text start string given.0 is_text is in
    (given.0.lengths, subst (λ (units : ℕ). next_uint start.lengths ≡ Ok (units, given.0.lengths)) parts.counted is.taken, lengths_given strings given.0 left parts.rest_text given.2)

-- strings that were given stand before what is left of the text
text_given : (strings : List (List ℕ)) (start left : StringsLeft) → IsUtf8 start.text → GivesAll next_string start strings left
    → (start.text ≡ concat strings ++ left.text) × AllByRecursion IsUtf8 strings
text_given [] start left is_text given = (ap (λ (l : StringsLeft). l.text) given, tt)
text_given (string ∷ strings) start left is_text given =
    let parts = given_text start string given.0 is_text (is_given start string given.0 given.1) in
    let later = text_given strings given.0 left parts.rest_text given.2 in
    (parts.joined ∙ ap (λ (l : List ℕ). string ++ l) later.0 ∙ sym (append_assoc string (concat strings) left.text), (parts.string_text, later.1))

pub strings_given : (bytes : List ℕ) (strings : List (List ℕ)) (start left : StringsLeft) → strings_in bytes ≡ Ok start → GivesAll next_string start strings left → StringsBefore strings start left
strings_given bytes strings start left e given =
    let is_text = start_text bytes start e in
    let read = start_read bytes start e in
    let place = length bytes - length read.0 in
    let texts = text_given strings start left is_text given in
    let lengths = subst (λ (l : RunsLeft ℕ). GivesAll next_uint l (map units_in strings) left.lengths) read.2 (lengths_given strings start left is_text given) in
    record {
      text = texts.0;
      are_texts = texts.1;
      lengths = subst (λ (l : RunsLeft ℕ). IsBefore SpellsUintRun l.place l.bytes (map units_in strings) left.lengths) (sym read.2) (uints_behind place read.0 (map units_in strings) left.lengths lengths);
    }
