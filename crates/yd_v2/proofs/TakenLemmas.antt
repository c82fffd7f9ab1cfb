-- Parts that are read were left of the file, and nothing is left where it ends.
use Rattle.std.proofs.Common.{◌≡◌, ◌∙◌, [], ◌∷◌, ℕ, List, Result, Ok, Err, IsUtf8, refl, sym, ap, subst}
use Rattle.std.proofs.lemmas.Str.{IsUtf8-nil}
use Rattle.yd_cols.proofs.ByteLemmas.{byte_whole}
use Rattle.yd_cols.proofs.DiffLemmas.{diff_whole}
use Rattle.yd_cols.proofs.StringColumnLemmas.{strings_whole}
use Rattle.yd_cols.proofs.UintLemmas.{uint_whole}
use Rattle.yd_cols.specs.Reading.{end_of_bytes, end_of_diffs, end_of_strings, end_of_uints, next_byte, next_diff, next_string, next_uint}
use Rattle.yd_cols.specs.declared.fault.ColFault.{ColFault}
use Rattle.yd_num.proofs.ReadingLemmas.{ok_value}
use Rattle.yd_parts.proofs.PartExactLemmas.{parts_exact}
use Rattle.yd_parts.specs.Fault.{Fault}
use Rattle.yd_parts.specs.Part.{Part, PartValue, Unread, here, last_spot, part_at}
use Rattle.yd_parts.specs.declared.fault.Column.{Column}
use Rattle.yd_parts.specs.declared.fault.Column.TheVariants.{Keys, Clients, Lefts, Rights, Infos, Strings, Parents, Kinds, Lengths}
use Rattle.yd_parts.specs.declared.fault.Spot.{Spot}
use Rattle.yd_v2.specs.Left.{V2Left, with_clients, with_infos, with_keys, with_kinds, with_lefts, with_lengths, with_parents, with_rest, with_rights, with_strings}
use Rattle.yd_v2.specs.Part.{V2Part, V2Turn, V2Value, client, flag, in_column, info, key_number, kind, left_clock, len, mark, rest, rest_turned, right_clock, string, turned, v2_part_at}
use Rattle.yd_v2.specs.Reading.{V2Now, rest_done, v2_end, ◌>>◌}
use Rattle.yd_v2.specs.Standing.{PartsStand, SpellParts, V2Thing, among, clients_of, infos_of, keys_of, kinds_of, lefts_of, lengths_of, parents_of, rest_of, rights_of, strings_of}

-- ---- the next part

-- what a column gave
pub record GaveNext {X L : Type 0} (with_next : L → V2Left) (gives : Result (X × L) ColFault) (v : X) (next : V2Turn) : Type 0 where
  pub behind : L
  pub read : gives ≡ Ok (v, behind)
  pub left_is : next.left ≡ with_next behind

pub gave_next : {X L : Type 0} (with_next : L → V2Left) (column : Column) (place : L → ℕ) (gives : Result (X × L) ColFault) (v : X) (next : V2Turn) → turned with_next column place gives ≡ Ok (v, next) → GaveNext with_next gives v next
gave_next with_next column place (Ok read) v next is =
    let same = ok_value (read.0, record { left = with_next read.1; last = record { column = column; at = place read.1 } }) (v, next) is in
    record { behind = read.1; read = ap (λ pair. Ok (pair.0, read.1)) same; left_is = sym (ap (λ pair. pair.1.left) same) }
gave_next with_next column place (Err fault) v next is = absurd cc

-- what the rest gave
record GaveRest (left : V2Left) (part : Part) (v : PartValue part) (next : V2Turn) : Type 0 where
  behind : Unread
  read : part_at part left.rest ≡ Ok (v, behind)
  left_is : next.left ≡ with_rest left behind

gave_rest : (left : V2Left) (part : Part) (gives : Result (PartValue part × Unread) Fault) (v : PartValue part) (next : V2Turn) → part_at part left.rest ≡ gives → rest_turned left gives ≡ Ok (v, next) → GaveRest left part v next
gave_rest left part (Ok read) v next from is =
    let same = ok_value (read.0, record { left = with_rest left read.1; last = last_spot read.1 }) (v, next) is in
    record { behind = read.1; read = from ∙ ap (λ pair. Ok (pair.0, read.1)) same; left_is = sym (ap (λ pair. pair.1.left) same) }
gave_rest left part (Err fault) v next from is = absurd cc

-- a part of the rest
rest_taken : (part : Part) (v : PartValue part) (things : List V2Thing) (now next : V2Turn) → IsUtf8 now.left.strings.text → v2_part_at (rest part) now ≡ Ok (v, next) → PartsStand next.left things → PartsStand now.left ((rest part, v) ∷ things)
rest_taken part v things now next text is stands =
    let got = gave_rest now.left part (part_at part now.left.rest) v next refl is in
    let there = subst (λ left. PartsStand left things) got.left_is stands in
    let front = parts_exact.found part now.left.rest v got.behind got.read in
    let spelled = subst (λ (u : Unread). SpellParts (among rest_of things) u.bytes) front.next_is there.rest in
    record { keys = there.keys; clients = there.clients; lefts = there.lefts; rights = there.rights; infos = there.infos; strings = there.strings; parents = there.parents; kinds = there.kinds; lengths = there.lengths; rest = record { front = front.front; back = front.rest; is_front = front.spells; is_back = spelled; joined = front.joined }; text = text }

-- a part that is read was the first of those that were left
pub part_taken : (t : V2Part) (v : V2Value t) (things : List V2Thing) (now next : V2Turn) → IsUtf8 now.left.strings.text → v2_part_at t now ≡ Ok (v, next) → PartsStand next.left things → PartsStand now.left ((t, v) ∷ things)
part_taken key_number v things now next text is stands =
    let got = gave_next (with_keys now.left) Keys (λ keys. keys.runs.at) (next_diff now.left.keys) v next is in
    let there = subst (λ left. PartsStand left things) got.left_is stands in
    record { keys = diff_whole.taken now.left.keys v got.behind (among keys_of things) tt got.read there.keys; clients = there.clients; lefts = there.lefts; rights = there.rights; infos = there.infos; strings = there.strings; parents = there.parents; kinds = there.kinds; lengths = there.lengths; rest = there.rest; text = text }
part_taken client v things now next text is stands =
    let got = gave_next (with_clients now.left) Clients (λ clients. clients.at) (next_uint now.left.clients) v next is in
    let there = subst (λ left. PartsStand left things) got.left_is stands in
    record { keys = there.keys; clients = uint_whole.taken now.left.clients v got.behind (among clients_of things) tt got.read there.clients; lefts = there.lefts; rights = there.rights; infos = there.infos; strings = there.strings; parents = there.parents; kinds = there.kinds; lengths = there.lengths; rest = there.rest; text = text }
part_taken left_clock v things now next text is stands =
    let got = gave_next (with_lefts now.left) Lefts (λ lefts. lefts.runs.at) (next_diff now.left.lefts) v next is in
    let there = subst (λ left. PartsStand left things) got.left_is stands in
    record { keys = there.keys; clients = there.clients; lefts = diff_whole.taken now.left.lefts v got.behind (among lefts_of things) tt got.read there.lefts; rights = there.rights; infos = there.infos; strings = there.strings; parents = there.parents; kinds = there.kinds; lengths = there.lengths; rest = there.rest; text = text }
part_taken right_clock v things now next text is stands =
    let got = gave_next (with_rights now.left) Rights (λ rights. rights.runs.at) (next_diff now.left.rights) v next is in
    let there = subst (λ left. PartsStand left things) got.left_is stands in
    record { keys = there.keys; clients = there.clients; lefts = there.lefts; rights = diff_whole.taken now.left.rights v got.behind (among rights_of things) tt got.read there.rights; infos = there.infos; strings = there.strings; parents = there.parents; kinds = there.kinds; lengths = there.lengths; rest = there.rest; text = text }
part_taken info v things now next text is stands =
    let got = gave_next (with_infos now.left) Infos (λ infos. infos.runs.at) (next_byte now.left.infos) v next is in
    let there = subst (λ left. PartsStand left things) got.left_is stands in
    record { keys = there.keys; clients = there.clients; lefts = there.lefts; rights = there.rights; infos = byte_whole.taken now.left.infos v got.behind (among infos_of things) tt got.read there.infos; strings = there.strings; parents = there.parents; kinds = there.kinds; lengths = there.lengths; rest = there.rest; text = text }
part_taken string v things now next text is stands =
    let got = gave_next (with_strings now.left) Strings (λ strings. strings.lengths.at) (next_string now.left.strings) v next is in
    let there = subst (λ left. PartsStand left things) got.left_is stands in
    record { keys = there.keys; clients = there.clients; lefts = there.lefts; rights = there.rights; infos = there.infos; strings = (strings_whole uint_whole).taken now.left.strings v got.behind (among strings_of things) text got.read there.strings; parents = there.parents; kinds = there.kinds; lengths = there.lengths; rest = there.rest; text = text }
part_taken flag v things now next text is stands =
    let got = gave_next (with_parents now.left) Parents (λ parents. parents.runs.at) (next_byte now.left.parents) v next is in
    let there = subst (λ left. PartsStand left things) got.left_is stands in
    record { keys = there.keys; clients = there.clients; lefts = there.lefts; rights = there.rights; infos = there.infos; strings = there.strings; parents = byte_whole.taken now.left.parents v got.behind (among parents_of things) tt got.read there.parents; kinds = there.kinds; lengths = there.lengths; rest = there.rest; text = text }
part_taken kind v things now next text is stands =
    let got = gave_next (with_kinds now.left) Kinds (λ kinds. kinds.at) (next_uint now.left.kinds) v next is in
    let there = subst (λ left. PartsStand left things) got.left_is stands in
    record { keys = there.keys; clients = there.clients; lefts = there.lefts; rights = there.rights; infos = there.infos; strings = there.strings; parents = there.parents; kinds = uint_whole.taken now.left.kinds v got.behind (among kinds_of things) tt got.read there.kinds; lengths = there.lengths; rest = there.rest; text = text }
part_taken len v things now next text is stands =
    let got = gave_next (with_lengths now.left) Lengths (λ lengths. lengths.at) (next_uint now.left.lengths) v next is in
    let there = subst (λ left. PartsStand left things) got.left_is stands in
    record { keys = there.keys; clients = there.clients; lefts = there.lefts; rights = there.rights; infos = there.infos; strings = there.strings; parents = there.parents; kinds = there.kinds; lengths = uint_whole.taken now.left.lengths v got.behind (among lengths_of things) tt got.read there.lengths; rest = there.rest; text = text }
part_taken (rest part) v things now next text is stands = rest_taken part v things now next text is stands
part_taken mark v things now next text is stands =
    let same : record { left = now.left; last = here now.left.rest } ≡ next = ap (λ pair. pair.1) (ok_value (v, record { left = now.left; last = here now.left.rest }) (v, next) is) in
    let there = subst (λ (turn : V2Turn). PartsStand turn.left things) (sym same) stands in
    record { keys = there.keys; clients = there.clients; lefts = there.lefts; rights = there.rights; infos = there.infos; strings = there.strings; parents = there.parents; kinds = there.kinds; lengths = there.lengths; rest = there.rest; text = text }

-- ---- the end

-- two ends in a row
both_ended : (first next : Result (Unit {0}) Fault) → (first >> next) ≡ Ok tt → (first ≡ Ok tt) × (next ≡ Ok tt)
both_ended (Ok done) next is = (refl, is)
both_ended (Err fault) next is = absurd cc

-- the end of a column
column_ended : (column : Column) (end : Result (Unit {0}) ColFault) → in_column column end ≡ Ok tt → end ≡ Ok tt
column_ended column (Ok done) is = refl
column_ended column (Err fault) is = absurd cc

-- the end of the rest
rest_ended : (spot : Spot) (bytes : List ℕ) → rest_done spot bytes ≡ Ok tt → bytes ≡ []
rest_ended spot [] is = refl
rest_ended spot (b ∷ bytes) is = absurd cc

-- where a file ends, nothing is left
pub ends_nothing : (now : V2Now) → v2_end now ≡ Ok tt → PartsStand now.left []
unfolding v2_end
ends_nothing now is =
    let left = now.left in
    let to_rest = rest_done (here left.rest) left.rest.bytes in
    let to_keys = to_rest >> in_column Keys (end_of_diffs left.keys) in
    let to_clients = to_keys >> in_column Clients (end_of_uints left.clients) in
    let to_lefts = to_clients >> in_column Lefts (end_of_diffs left.lefts) in
    let to_rights = to_lefts >> in_column Rights (end_of_diffs left.rights) in
    let to_infos = to_rights >> in_column Infos (end_of_bytes left.infos) in
    let to_strings = to_infos >> in_column Strings (end_of_strings left.strings) in
    let to_parents = to_strings >> in_column Parents (end_of_bytes left.parents) in
    let to_kinds = to_parents >> in_column Kinds (end_of_uints left.kinds) in
    let lengths = both_ended to_kinds (in_column Lengths (end_of_uints left.lengths)) is in
    let kinds = both_ended to_parents (in_column Kinds (end_of_uints left.kinds)) lengths.0 in
    let parents = both_ended to_strings (in_column Parents (end_of_bytes left.parents)) kinds.0 in
    let strings = both_ended to_infos (in_column Strings (end_of_strings left.strings)) parents.0 in
    let infos = both_ended to_rights (in_column Infos (end_of_bytes left.infos)) strings.0 in
    let rights = both_ended to_lefts (in_column Rights (end_of_diffs left.rights)) infos.0 in
    let lefts = both_ended to_clients (in_column Lefts (end_of_diffs left.lefts)) rights.0 in
    let clients = both_ended to_keys (in_column Clients (end_of_uints left.clients)) lefts.0 in
    let keys = both_ended to_rest (in_column Keys (end_of_diffs left.keys)) clients.0 in
    let none = (strings_whole uint_whole).end left.strings in
    let texts = none.0 (column_ended Strings (end_of_strings left.strings) strings.1) in
    record {
      keys = (diff_whole.end left.keys).0 (column_ended Keys (end_of_diffs left.keys) keys.1);
      clients = (uint_whole.end left.clients).0 (column_ended Clients (end_of_uints left.clients) clients.1);
      lefts = (diff_whole.end left.lefts).0 (column_ended Lefts (end_of_diffs left.lefts) lefts.1);
      rights = (diff_whole.end left.rights).0 (column_ended Rights (end_of_diffs left.rights) rights.1);
      infos = (byte_whole.end left.infos).0 (column_ended Infos (end_of_bytes left.infos) infos.1);
      strings = texts;
      parents = (byte_whole.end left.parents).0 (column_ended Parents (end_of_bytes left.parents) parents.1);
      kinds = (uint_whole.end left.kinds).0 (column_ended Kinds (end_of_uints left.kinds) kinds.1);
      lengths = (uint_whole.end left.lengths).0 (column_ended Lengths (end_of_uints left.lengths) lengths.1);
      rest = rest_ended (here left.rest) left.rest.bytes keys.0;
      text = subst IsUtf8 (sym texts.joined) IsUtf8-nil;
    }
