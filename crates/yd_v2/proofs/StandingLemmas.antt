-- Parts that are left of a file are read, one after another, and what is read was left.
use Rattle.std.proofs.Common.{◌≡◌, [], ◌∷◌, List, Result, Ok, Err, refl, ap}
use Rattle.yd_cols.proofs.ByteLemmas.{byte_whole}
use Rattle.yd_cols.proofs.DiffLemmas.{diff_whole}
use Rattle.yd_cols.proofs.StringColumnLemmas.{strings_whole}
use Rattle.yd_cols.proofs.UintLemmas.{uint_whole}
use Rattle.yd_cols.specs.Reading.{end_of_bytes, end_of_diffs, end_of_strings, end_of_uints}
use Rattle.yd_parts.proofs.PartExactLemmas.{parts_exact}
use Rattle.yd_parts.specs.Fault.{Fault}
use Rattle.yd_parts.specs.Part.{Part, PartValue, behind, here, last_spot}
use Rattle.yd_parts.specs.PartGrammar.{StandsPart}
use Rattle.yd_parts.specs.declared.fault.Column.TheVariants.{Keys, Clients, Lefts, Rights, Infos, Strings, Parents, Kinds, Lengths}
use Rattle.yd_v2.specs.Left.{with_clients, with_infos, with_keys, with_kinds, with_lefts, with_lengths, with_parents, with_rest, with_rights, with_strings}
use Rattle.yd_v2.specs.Part.{V2Part, V2Turn, V2Value, client, flag, in_column, info, key_number, kind, left_clock, len, mark, rest, rest_turned, right_clock, string, turned, v2_part_at}
use Rattle.yd_v2.specs.Reading.{V2Now, rest_done, v2_end, ◌>>◌}
use Rattle.yd_v2.specs.Standing.{PartsStand, V2Thing, among, clients_of, infos_of, keys_of, kinds_of, lefts_of, lengths_of, parents_of, rights_of, strings_of}

-- ---- the next part

-- the part is read, and the others are left behind it
pub record GivesPart (now : V2Turn) (thing : V2Thing) (things : List V2Thing) : Type 0 where
  pub next : V2Turn
  pub read : v2_part_at thing.0 now ≡ Ok (thing.1, next)
  pub stand : PartsStand next.left things

-- a part of the rest
rest_given : (part : Part) (v : PartValue part) (things : List V2Thing) (now : V2Turn) → PartsStand now.left ((rest part, v) ∷ things) → GivesPart now (rest part, v) things
rest_given part v things now stands =
    let left = now.left.rest in
    let next = behind left stands.rest.back in
    let front : StandsPart left (record { type = part; value = v; spot = here left }) next = record { front = stands.rest.front; rest = stands.rest.back; spells = stands.rest.is_front; joined = stands.rest.joined; spot = refl; next_is = refl } in
    record {
      next = record { left = with_rest now.left next; last = last_spot next };
      read = ap (rest_turned now.left) (parts_exact.only part left v (here left) next front).0;
      stand = record { keys = stands.keys; clients = stands.clients; lefts = stands.lefts; rights = stands.rights; infos = stands.infos; strings = stands.strings; parents = stands.parents; kinds = stands.kinds; lengths = stands.lengths; rest = stands.rest.is_back; text = stands.text };
    }

-- the number of a key
key_given : (v : V2Value key_number) (things : List V2Thing) (now : V2Turn) → PartsStand now.left ((key_number, v) ∷ things) → GivesPart now (key_number, v) things
key_given v things now stands =
    let got = diff_whole.given now.left.keys v (among keys_of things) tt stands.keys in
    record {
      next = record { left = with_keys now.left got.0; last = record { column = Keys; at = got.0.runs.at } };
      read = ap (turned (with_keys now.left) Keys (λ keys. keys.runs.at)) got.1;
      stand = record { keys = got.3; clients = stands.clients; lefts = stands.lefts; rights = stands.rights; infos = stands.infos; strings = stands.strings; parents = stands.parents; kinds = stands.kinds; lengths = stands.lengths; rest = stands.rest; text = stands.text };
    }

-- a client
client_given : (v : V2Value client) (things : List V2Thing) (now : V2Turn) → PartsStand now.left ((client, v) ∷ things) → GivesPart now (client, v) things
client_given v things now stands =
    let got = uint_whole.given now.left.clients v (among clients_of things) tt stands.clients in
    record {
      next = record { left = with_clients now.left got.0; last = record { column = Clients; at = got.0.at } };
      read = ap (turned (with_clients now.left) Clients (λ clients. clients.at)) got.1;
      stand = record { keys = stands.keys; clients = got.3; lefts = stands.lefts; rights = stands.rights; infos = stands.infos; strings = stands.strings; parents = stands.parents; kinds = stands.kinds; lengths = stands.lengths; rest = stands.rest; text = stands.text };
    }

-- the clock of a left origin
left_given : (v : V2Value left_clock) (things : List V2Thing) (now : V2Turn) → PartsStand now.left ((left_clock, v) ∷ things) → GivesPart now (left_clock, v) things
left_given v things now stands =
    let got = diff_whole.given now.left.lefts v (among lefts_of things) tt stands.lefts in
    record {
      next = record { left = with_lefts now.left got.0; last = record { column = Lefts; at = got.0.runs.at } };
      read = ap (turned (with_lefts now.left) Lefts (λ lefts. lefts.runs.at)) got.1;
      stand = record { keys = stands.keys; clients = stands.clients; lefts = got.3; rights = stands.rights; infos = stands.infos; strings = stands.strings; parents = stands.parents; kinds = stands.kinds; lengths = stands.lengths; rest = stands.rest; text = stands.text };
    }

-- the clock of a right origin
right_given : (v : V2Value right_clock) (things : List V2Thing) (now : V2Turn) → PartsStand now.left ((right_clock, v) ∷ things) → GivesPart now (right_clock, v) things
right_given v things now stands =
    let got = diff_whole.given now.left.rights v (among rights_of things) tt stands.rights in
    record {
      next = record { left = with_rights now.left got.0; last = record { column = Rights; at = got.0.runs.at } };
      read = ap (turned (with_rights now.left) Rights (λ rights. rights.runs.at)) got.1;
      stand = record { keys = stands.keys; clients = stands.clients; lefts = stands.lefts; rights = got.3; infos = stands.infos; strings = stands.strings; parents = stands.parents; kinds = stands.kinds; lengths = stands.lengths; rest = stands.rest; text = stands.text };
    }

-- an info byte
info_given : (v : V2Value info) (things : List V2Thing) (now : V2Turn) → PartsStand now.left ((info, v) ∷ things) → GivesPart now (info, v) things
info_given v things now stands =
    let got = byte_whole.given now.left.infos v (among infos_of things) tt stands.infos in
    record {
      next = record { left = with_infos now.left got.0; last = record { column = Infos; at = got.0.runs.at } };
      read = ap (turned (with_infos now.left) Infos (λ infos. infos.runs.at)) got.1;
      stand = record { keys = stands.keys; clients = stands.clients; lefts = stands.lefts; rights = stands.rights; infos = got.3; strings = stands.strings; parents = stands.parents; kinds = stands.kinds; lengths = stands.lengths; rest = stands.rest; text = stands.text };
    }

-- a string
string_given : (v : V2Value string) (things : List V2Thing) (now : V2Turn) → PartsStand now.left ((string, v) ∷ things) → GivesPart now (string, v) things
string_given v things now stands =
    let got = (strings_whole uint_whole).given now.left.strings v (among strings_of things) stands.text stands.strings in
    record {
      next = record { left = with_strings now.left got.0; last = record { column = Strings; at = got.0.lengths.at } };
      read = ap (turned (with_strings now.left) Strings (λ strings. strings.lengths.at)) got.1;
      stand = record { keys = stands.keys; clients = stands.clients; lefts = stands.lefts; rights = stands.rights; infos = stands.infos; strings = got.3; parents = stands.parents; kinds = stands.kinds; lengths = stands.lengths; rest = stands.rest; text = got.2 };
    }

-- the flag of a parent
flag_given : (v : V2Value flag) (things : List V2Thing) (now : V2Turn) → PartsStand now.left ((flag, v) ∷ things) → GivesPart now (flag, v) things
flag_given v things now stands =
    let got = byte_whole.given now.left.parents v (among parents_of things) tt stands.parents in
    record {
      next = record { left = with_parents now.left got.0; last = record { column = Parents; at = got.0.runs.at } };
      read = ap (turned (with_parents now.left) Parents (λ parents. parents.runs.at)) got.1;
      stand = record { keys = stands.keys; clients = stands.clients; lefts = stands.lefts; rights = stands.rights; infos = stands.infos; strings = stands.strings; parents = got.3; kinds = stands.kinds; lengths = stands.lengths; rest = stands.rest; text = stands.text };
    }

-- the number of a type
kind_given : (v : V2Value kind) (things : List V2Thing) (now : V2Turn) → PartsStand now.left ((kind, v) ∷ things) → GivesPart now (kind, v) things
kind_given v things now stands =
    let got = uint_whole.given now.left.kinds v (among kinds_of things) tt stands.kinds in
    record {
      next = record { left = with_kinds now.left got.0; last = record { column = Kinds; at = got.0.at } };
      read = ap (turned (with_kinds now.left) Kinds (λ kinds. kinds.at)) got.1;
      stand = record { keys = stands.keys; clients = stands.clients; lefts = stands.lefts; rights = stands.rights; infos = stands.infos; strings = stands.strings; parents = stands.parents; kinds = got.3; lengths = stands.lengths; rest = stands.rest; text = stands.text };
    }

-- a length
len_given : (v : V2Value len) (things : List V2Thing) (now : V2Turn) → PartsStand now.left ((len, v) ∷ things) → GivesPart now (len, v) things
len_given v things now stands =
    let got = uint_whole.given now.left.lengths v (among lengths_of things) tt stands.lengths in
    record {
      next = record { left = with_lengths now.left got.0; last = record { column = Lengths; at = got.0.at } };
      read = ap (turned (with_lengths now.left) Lengths (λ lengths. lengths.at)) got.1;
      stand = record { keys = stands.keys; clients = stands.clients; lefts = stands.lefts; rights = stands.rights; infos = stands.infos; strings = stands.strings; parents = stands.parents; kinds = stands.kinds; lengths = got.3; rest = stands.rest; text = stands.text };
    }

-- the first part that is left is read
pub part_given : (t : V2Part) (v : V2Value t) (things : List V2Thing) (now : V2Turn) → PartsStand now.left ((t, v) ∷ things) → GivesPart now (t, v) things
part_given key_number v things now stands = key_given v things now stands
part_given client v things now stands = client_given v things now stands
part_given left_clock v things now stands = left_given v things now stands
part_given right_clock v things now stands = right_given v things now stands
part_given info v things now stands = info_given v things now stands
part_given string v things now stands = string_given v things now stands
part_given flag v things now stands = flag_given v things now stands
part_given kind v things now stands = kind_given v things now stands
part_given len v things now stands = len_given v things now stands
part_given (rest part) v things now stands = rest_given part v things now stands
part_given mark v things now stands = record { next = record { left = now.left; last = here now.left.rest }; read = refl; stand = record { keys = stands.keys; clients = stands.clients; lefts = stands.lefts; rights = stands.rights; infos = stands.infos; strings = stands.strings; parents = stands.parents; kinds = stands.kinds; lengths = stands.lengths; rest = stands.rest; text = stands.text } }

-- ---- the end

-- one end behind another
both_end : (first next : Result (Unit {0}) Fault) → first ≡ Ok tt → next ≡ Ok tt → (first >> next) ≡ Ok tt
both_end (Ok done) next is later = later
both_end (Err fault) next is later = absurd cc

-- where nothing is left, the file ends
pub nothing_ends : (now : V2Now) → PartsStand now.left [] → v2_end now ≡ Ok tt
unfolding v2_end
nothing_ends now stands =
    let left = now.left in
    let ended = ap (λ bytes. rest_done (here left.rest) bytes) stands.rest in
    let ended = both_end _ (in_column Keys (end_of_diffs left.keys)) ended (ap (in_column Keys) ((diff_whole.end left.keys).1 stands.keys)) in
    let ended = both_end _ (in_column Clients (end_of_uints left.clients)) ended (ap (in_column Clients) ((uint_whole.end left.clients).1 stands.clients)) in
    let ended = both_end _ (in_column Lefts (end_of_diffs left.lefts)) ended (ap (in_column Lefts) ((diff_whole.end left.lefts).1 stands.lefts)) in
    let ended = both_end _ (in_column Rights (end_of_diffs left.rights)) ended (ap (in_column Rights) ((diff_whole.end left.rights).1 stands.rights)) in
    let ended = both_end _ (in_column Infos (end_of_bytes left.infos)) ended (ap (in_column Infos) ((byte_whole.end left.infos).1 stands.infos)) in
    let ended = both_end _ (in_column Strings (end_of_strings left.strings)) ended (ap (in_column Strings) (((strings_whole uint_whole).end left.strings).1 stands.strings)) in
    let ended = both_end _ (in_column Parents (end_of_bytes left.parents)) ended (ap (in_column Parents) ((byte_whole.end left.parents).1 stands.parents)) in
    let ended = both_end _ (in_column Kinds (end_of_uints left.kinds)) ended (ap (in_column Kinds) ((uint_whole.end left.kinds).1 stands.kinds)) in
    let ended = both_end _ (in_column Lengths (end_of_uints left.lengths)) ended (ap (in_column Lengths) ((uint_whole.end left.lengths).1 stands.lengths)) in
    ended
