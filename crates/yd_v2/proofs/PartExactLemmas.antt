-- The parts of V2 are read exactly.
use Rattle.std.proofs.Common.{◌≡◌, ◌∙◌, ℕ, Result, Ok, Err, refl, ap, sym, subst}
use Rattle.yd_cols.proofs.ByteTakenLemmas.{byte_exact}
use Rattle.yd_cols.proofs.DiffLemmas.{diff_exact}
use Rattle.yd_cols.proofs.StringColumnLemmas.{strings_exact}
use Rattle.yd_cols.proofs.UintLemmas.{uint_exact}
use Rattle.yd_cols.specs.Law.{IsExact}
use Rattle.yd_cols.specs.Reading.{next_byte, next_diff, next_string, next_uint}
use Rattle.yd_cols.specs.Taking.{LacksByte, LacksDiff, LacksString, LacksUint, TakesByte, TakesDiff, TakesString, TakesUint}
use Rattle.yd_cols.specs.declared.fault.ColFault.{ColFault}
use Rattle.yd_num.proofs.ReadingLemmas.{ok_value}
use Rattle.yd_parts.proofs.PartExactLemmas.{parts_exact}
use Rattle.yd_parts.specs.Exact.{ReadsExactly}
use Rattle.yd_parts.specs.Fault.{Fault}
use Rattle.yd_parts.specs.Part.{Part, PartValue, Unread, here, last_spot, part_at}
use Rattle.yd_parts.specs.PartGrammar.{FailsPart, StandsPart}
use Rattle.yd_parts.specs.declared.fault.Column.{Column}
use Rattle.yd_parts.specs.declared.fault.Column.TheVariants.{Keys, Clients, Lefts, Rights, Infos, Strings, Parents, Kinds, Lengths}
use Rattle.yd_v2.specs.Grammar.{FailsV2Part, LacksIn, StandsV2Part, TakesIn, TakesPart, TakesRest}
use Rattle.yd_v2.specs.Left.{V2Left, with_clients, with_infos, with_keys, with_kinds, with_lefts, with_lengths, with_parents, with_rest, with_rights, with_strings}
use Rattle.yd_v2.specs.Part.{V2Part, V2Turn, V2Value, client, fault_in, flag, info, key_number, kind, left_clock, len, mark, rest, rest_turned, right_clock, string, turned, v2_last, v2_part_at}

-- ---- columns

in_found : {X L : Type 0} (next_at : L → Result (X × L) ColFault) (Takes : L → X → L → Type 0) (Lacks : L → ColFault → Type 0) → IsExact next_at Takes Lacks →
    (with_next : L → V2Left) (column : Column) (place : L → ℕ) (before : L) (v : X) (next : V2Turn) → turned with_next column place (next_at before) ≡ Ok (v, next) → TakesIn Takes with_next column place before v next
in_found {X} {L} next_at Takes Lacks exact with_next column place before v next read = by_value (next_at before) refl read
  where
    by_value : (first : Result (X × L) ColFault) → next_at before ≡ first → turned with_next column place first ≡ Ok (v, next) → TakesIn Takes with_next column place before v next
    by_value (Ok got) is e =
        let same = ok_value {E = Fault} (got.0, record { left = with_next got.1; last = record { column = column; at = place got.1 } }) (v, next) e in
        record {
          behind = got.1;
          taken = subst (λ x. Takes before x got.1) (ap (λ pair. pair.0) same) ((exact.values before got.0 got.1).0 is);
          next_is = sym (ap (λ pair. pair.1) same);
        }
    by_value (Err fault) is e = absurd cc

in_only : {X L : Type 0} (next_at : L → Result (X × L) ColFault) (Takes : L → X → L → Type 0) (Lacks : L → ColFault → Type 0) → IsExact next_at Takes Lacks →
    (with_next : L → V2Left) (column : Column) (place : L → ℕ) (before : L) (v : X) (next : V2Turn) → TakesIn Takes with_next column place before v next → turned with_next column place (next_at before) ≡ Ok (v, next)
in_only next_at Takes Lacks exact with_next column place before v next takes =
    ap (turned with_next column place) ((exact.values before v takes.behind).1 takes.taken) ∙ ap (λ n. Ok (v, n)) (sym takes.next_is)

in_fails : {X L : Type 0} (next_at : L → Result (X × L) ColFault) (Takes : L → X → L → Type 0) (Lacks : L → ColFault → Type 0) → IsExact next_at Takes Lacks →
    (with_next : L → V2Left) (column : Column) (place : L → ℕ) (before : L) (fault : Fault) → turned with_next column place (next_at before) ≡ Err fault → LacksIn Lacks column before fault
in_fails {X} {L} next_at Takes Lacks exact with_next column place before fault read = by_value (next_at before) refl read
  where
    by_value : (first : Result (X × L) ColFault) → next_at before ≡ first → turned with_next column place first ≡ Err fault → LacksIn Lacks column before fault
    by_value (Ok got) is e = absurd cc
    by_value (Err why) is e = let same : fault_in column why ≡ fault = cc in (why, (exact.faults before why).0 is, sym same)

in_fails_only : {X L : Type 0} (next_at : L → Result (X × L) ColFault) (Takes : L → X → L → Type 0) (Lacks : L → ColFault → Type 0) → IsExact next_at Takes Lacks →
    (with_next : L → V2Left) (column : Column) (place : L → ℕ) (before : L) (fault : Fault) → LacksIn Lacks column before fault → turned with_next column place (next_at before) ≡ Err fault
in_fails_only next_at Takes Lacks exact with_next column place before fault lacks =
    ap (turned with_next column place) ((exact.faults before lacks.0).1 lacks.1) ∙ ap Err (sym lacks.2)

-- ---- the rest

rest_found : (t : Part) (left : V2Left) (v : PartValue t) (next : V2Turn) → rest_turned left (part_at t left.rest) ≡ Ok (v, next) → TakesRest (record { type = t; value = v; spot = here left.rest }) left next
rest_found t left v next read = by_value (part_at t left.rest) refl read
  where
    by_value : (first : Result (PartValue t × Unread) Fault) → part_at t left.rest ≡ first → rest_turned left first ≡ Ok (v, next) → TakesRest (record { type = t; value = v; spot = here left.rest }) left next
    by_value (Ok got) is e =
        let same = ok_value {E = Fault} (got.0, record { left = with_rest left got.1; last = last_spot got.1 }) (v, next) e in
        let stands = parts_exact.found t left.rest got.0 got.1 is in
        let placed : StandsPart left.rest (record { type = t; value = got.0; spot = here left.rest }) got.1 = subst (λ spot. StandsPart left.rest (record { type = t; value = got.0; spot = spot }) got.1) stands.spot stands in
        record {
          behind = got.1;
          stands = subst (λ x. StandsPart left.rest (record { type = t; value = x; spot = here left.rest }) got.1) (ap (λ pair. pair.0) same) placed;
          next_is = sym (ap (λ pair. pair.1) same);
        }
    by_value (Err fault) is e = absurd cc

rest_only : (t : Part) (left : V2Left) (v : PartValue t) (next : V2Turn) → TakesRest (record { type = t; value = v; spot = here left.rest }) left next → rest_turned left (part_at t left.rest) ≡ Ok (v, next)
rest_only t left v next takes =
    ap (rest_turned left) (parts_exact.only t left.rest v (here left.rest) takes.behind takes.stands).0 ∙ ap (λ n. Ok (v, n)) (sym takes.next_is)

rest_fails : (t : Part) (left : V2Left) (fault : Fault) → rest_turned left (part_at t left.rest) ≡ Err fault → FailsPart t left.rest fault
rest_fails t left fault read = by_value (part_at t left.rest) refl read
  where
    by_value : (first : Result (PartValue t × Unread) Fault) → part_at t left.rest ≡ first → rest_turned left first ≡ Err fault → FailsPart t left.rest fault
    by_value (Ok got) is e = absurd cc
    by_value (Err why) is e = let same : why ≡ fault = cc in parts_exact.fails t left.rest fault (is ∙ ap Err same)

rest_fails_only : (t : Part) (left : V2Left) (fault : Fault) → FailsPart t left.rest fault → rest_turned left (part_at t left.rest) ≡ Err fault
rest_fails_only t left fault fails = ap (rest_turned left) (parts_exact.fails_only t left.rest fault fails)

-- ---- all parts

part_found : (t : V2Part) (now : V2Turn) (v : V2Value t) (next : V2Turn) → v2_part_at t now ≡ Ok (v, next) → TakesPart t now.left v next
part_found key_number now v next read = in_found next_diff TakesDiff LacksDiff diff_exact (with_keys now.left) Keys (λ keys. keys.runs.at) now.left.keys v next read
part_found client now v next read = in_found next_uint TakesUint LacksUint uint_exact (with_clients now.left) Clients (λ clients. clients.at) now.left.clients v next read
part_found left_clock now v next read = in_found next_diff TakesDiff LacksDiff diff_exact (with_lefts now.left) Lefts (λ lefts. lefts.runs.at) now.left.lefts v next read
part_found right_clock now v next read = in_found next_diff TakesDiff LacksDiff diff_exact (with_rights now.left) Rights (λ rights. rights.runs.at) now.left.rights v next read
part_found info now v next read = in_found next_byte TakesByte LacksByte byte_exact (with_infos now.left) Infos (λ infos. infos.runs.at) now.left.infos v next read
part_found string now v next read = in_found next_string TakesString LacksString (strings_exact uint_exact) (with_strings now.left) Strings (λ strings. strings.lengths.at) now.left.strings v next read
part_found flag now v next read = in_found next_byte TakesByte LacksByte byte_exact (with_parents now.left) Parents (λ parents. parents.runs.at) now.left.parents v next read
part_found kind now v next read = in_found next_uint TakesUint LacksUint uint_exact (with_kinds now.left) Kinds (λ kinds. kinds.at) now.left.kinds v next read
part_found len now v next read = in_found next_uint TakesUint LacksUint uint_exact (with_lengths now.left) Lengths (λ lengths. lengths.at) now.left.lengths v next read
part_found (rest t) now v next read = rest_found t now.left v next read
part_found mark now v next read = sym (ap (λ pair. pair.1) (ok_value {E = Fault} (tt, record { left = now.left; last = here now.left.rest }) (v, next) read))

part_only : (t : V2Part) (now : V2Turn) (v : V2Value t) (next : V2Turn) → TakesPart t now.left v next → v2_part_at t now ≡ Ok (v, next)
part_only key_number now v next takes = in_only next_diff TakesDiff LacksDiff diff_exact (with_keys now.left) Keys (λ keys. keys.runs.at) now.left.keys v next takes
part_only client now v next takes = in_only next_uint TakesUint LacksUint uint_exact (with_clients now.left) Clients (λ clients. clients.at) now.left.clients v next takes
part_only left_clock now v next takes = in_only next_diff TakesDiff LacksDiff diff_exact (with_lefts now.left) Lefts (λ lefts. lefts.runs.at) now.left.lefts v next takes
part_only right_clock now v next takes = in_only next_diff TakesDiff LacksDiff diff_exact (with_rights now.left) Rights (λ rights. rights.runs.at) now.left.rights v next takes
part_only info now v next takes = in_only next_byte TakesByte LacksByte byte_exact (with_infos now.left) Infos (λ infos. infos.runs.at) now.left.infos v next takes
part_only string now v next takes = in_only next_string TakesString LacksString (strings_exact uint_exact) (with_strings now.left) Strings (λ strings. strings.lengths.at) now.left.strings v next takes
part_only flag now v next takes = in_only next_byte TakesByte LacksByte byte_exact (with_parents now.left) Parents (λ parents. parents.runs.at) now.left.parents v next takes
part_only kind now v next takes = in_only next_uint TakesUint LacksUint uint_exact (with_kinds now.left) Kinds (λ kinds. kinds.at) now.left.kinds v next takes
part_only len now v next takes = in_only next_uint TakesUint LacksUint uint_exact (with_lengths now.left) Lengths (λ lengths. lengths.at) now.left.lengths v next takes
part_only (rest t) now v next takes = rest_only t now.left v next takes
part_only mark now v next takes = ap (λ n. Ok (tt, n)) (sym takes)

part_fails : (t : V2Part) (now : V2Turn) (fault : Fault) → v2_part_at t now ≡ Err fault → FailsV2Part t now fault
part_fails key_number now fault read = in_fails next_diff TakesDiff LacksDiff diff_exact (with_keys now.left) Keys (λ keys. keys.runs.at) now.left.keys fault read
part_fails client now fault read = in_fails next_uint TakesUint LacksUint uint_exact (with_clients now.left) Clients (λ clients. clients.at) now.left.clients fault read
part_fails left_clock now fault read = in_fails next_diff TakesDiff LacksDiff diff_exact (with_lefts now.left) Lefts (λ lefts. lefts.runs.at) now.left.lefts fault read
part_fails right_clock now fault read = in_fails next_diff TakesDiff LacksDiff diff_exact (with_rights now.left) Rights (λ rights. rights.runs.at) now.left.rights fault read
part_fails info now fault read = in_fails next_byte TakesByte LacksByte byte_exact (with_infos now.left) Infos (λ infos. infos.runs.at) now.left.infos fault read
part_fails string now fault read = in_fails next_string TakesString LacksString (strings_exact uint_exact) (with_strings now.left) Strings (λ strings. strings.lengths.at) now.left.strings fault read
part_fails flag now fault read = in_fails next_byte TakesByte LacksByte byte_exact (with_parents now.left) Parents (λ parents. parents.runs.at) now.left.parents fault read
part_fails kind now fault read = in_fails next_uint TakesUint LacksUint uint_exact (with_kinds now.left) Kinds (λ kinds. kinds.at) now.left.kinds fault read
part_fails len now fault read = in_fails next_uint TakesUint LacksUint uint_exact (with_lengths now.left) Lengths (λ lengths. lengths.at) now.left.lengths fault read
part_fails (rest t) now fault read = rest_fails t now.left fault read
part_fails mark now fault read = absurd cc

part_fails_only : (t : V2Part) (now : V2Turn) (fault : Fault) → FailsV2Part t now fault → v2_part_at t now ≡ Err fault
part_fails_only key_number now fault lacks = in_fails_only next_diff TakesDiff LacksDiff diff_exact (with_keys now.left) Keys (λ keys. keys.runs.at) now.left.keys fault lacks
part_fails_only client now fault lacks = in_fails_only next_uint TakesUint LacksUint uint_exact (with_clients now.left) Clients (λ clients. clients.at) now.left.clients fault lacks
part_fails_only left_clock now fault lacks = in_fails_only next_diff TakesDiff LacksDiff diff_exact (with_lefts now.left) Lefts (λ lefts. lefts.runs.at) now.left.lefts fault lacks
part_fails_only right_clock now fault lacks = in_fails_only next_diff TakesDiff LacksDiff diff_exact (with_rights now.left) Rights (λ rights. rights.runs.at) now.left.rights fault lacks
part_fails_only info now fault lacks = in_fails_only next_byte TakesByte LacksByte byte_exact (with_infos now.left) Infos (λ infos. infos.runs.at) now.left.infos fault lacks
part_fails_only string now fault lacks = in_fails_only next_string TakesString LacksString (strings_exact uint_exact) (with_strings now.left) Strings (λ strings. strings.lengths.at) now.left.strings fault lacks
part_fails_only flag now fault lacks = in_fails_only next_byte TakesByte LacksByte byte_exact (with_parents now.left) Parents (λ parents. parents.runs.at) now.left.parents fault lacks
part_fails_only kind now fault lacks = in_fails_only next_uint TakesUint LacksUint uint_exact (with_kinds now.left) Kinds (λ kinds. kinds.at) now.left.kinds fault lacks
part_fails_only len now fault lacks = in_fails_only next_uint TakesUint LacksUint uint_exact (with_lengths now.left) Lengths (λ lengths. lengths.at) now.left.lengths fault lacks
part_fails_only (rest t) now fault lacks = rest_fails_only t now.left fault lacks
part_fails_only mark now fault lacks = absurd lacks

-- ---- lemmas for callers

pub v2_parts_exact : ReadsExactly v2_part_at v2_last StandsV2Part FailsV2Part
v2_parts_exact = record {
  found = λ t s v next read. record { taken = part_found t s v next read; spot = refl };
  only = λ t s v spot next stands. (part_only t s v next stands.taken, stands.spot);
  fails = part_fails;
  fails_only = part_fails_only;
}
