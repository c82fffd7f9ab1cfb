-- What writing parts does: each goes behind those of its column, and the parts of the rest are spelled there.
use Rattle.std.proofs.Common.{◌≡◌, ◌∙◌, ◌++◌, ◌^◌, ◌<◌, [], ◌∷◌, ℕ, List, append-nil, append_assoc, map, refl, sym, ap, subst}
use Rattle.std.specs.List.{AllByRecursion}
use Rattle.std.specs.Prelude.{IsUtf8}
use Rattle.yd_cols.specs.Writing.{put_all, put_byte, put_diff, put_string, put_uint}
use Rattle.yd_parts.specs.Part.{Part, PartValue}
use Rattle.yd_v2.proofs.WantLemmas.{in_file}
use Rattle.yd_v2.specs.Part.{V2Part, V2Value, rest}
use Rattle.yd_v2.specs.Standing.{RestThing, SpellParts, V2Thing, among, clients_of, infos_of, keys_of, kinds_of, lefts_of, lengths_of, parents_of, rest_of, rights_of, strings_of}
use Rattle.yd_v2.specs.Writing.{V2Written, more_rest}

-- these parts are written, and nothing else
pub record PartsPut (things : List V2Thing) (old new : V2Written) : Type 0 where
  pub keys : new.keys ≡ put_all put_diff (among keys_of things) old.keys
  pub clients : new.clients ≡ put_all put_uint (among clients_of things) old.clients
  pub lefts : new.lefts ≡ put_all put_diff (among lefts_of things) old.lefts
  pub rights : new.rights ≡ put_all put_diff (among rights_of things) old.rights
  pub infos : new.infos ≡ put_all put_byte (among infos_of things) old.infos
  pub strings : new.strings ≡ put_all put_string (among strings_of things) old.strings
  pub parents : new.parents ≡ put_all put_byte (among parents_of things) old.parents
  pub kinds : new.kinds ≡ put_all put_uint (among kinds_of things) old.kinds
  pub lengths : new.lengths ≡ put_all put_uint (among lengths_of things) old.lengths
  pub more : List ℕ
  pub rest : new.rest ≡ old.rest ++ more
  pub spelled : SpellParts (among rest_of things) more

-- the numbers of columns are below 2^53, and the strings are texts
pub record PartsFit (things : List V2Thing) : Type 0 where
  pub keys : AllByRecursion (λ v. v < 2 ^ 53) (among keys_of things)
  pub clients : AllByRecursion (λ v. v < 2 ^ 53) (among clients_of things)
  pub lefts : AllByRecursion (λ v. v < 2 ^ 53) (among lefts_of things)
  pub rights : AllByRecursion (λ v. v < 2 ^ 53) (among rights_of things)
  pub kinds : AllByRecursion (λ v. v < 2 ^ 53) (among kinds_of things)
  pub lengths : AllByRecursion (λ v. v < 2 ^ 53) (among lengths_of things)
  pub strings : AllByRecursion IsUtf8 (among strings_of things)

-- ---- parts behind parts

-- values behind values
put_all_append : {V W : Type 0} (put : V → W → W) (vs us : List V) (w : W) → put_all put (vs ++ us) w ≡ put_all put us (put_all put vs w)
put_all_append put [] us w = refl
put_all_append put (v ∷ vs) us w = put_all_append put vs us (put v w)

all_append : {V : Type 0} (Holds : V → Type 0) (vs us : List V) → AllByRecursion Holds vs → AllByRecursion Holds us → AllByRecursion Holds (vs ++ us)
all_append Holds [] us first later = later
all_append Holds (v ∷ vs) us first later = (first.0, all_append Holds vs us first.1 later)

-- those of a column among parts behind parts
among_append : {V : Type 0} (of_part : (t : V2Part) → V2Value t → List V) (things others : List V2Thing) → among of_part (things ++ others) ≡ among of_part things ++ among of_part others
among_append of_part [] others = refl
among_append of_part (thing ∷ things) others =
    ap (λ later. of_part thing.0 thing.1 ++ later) (among_append of_part things others) ∙ sym (append_assoc (of_part thing.0 thing.1) (among of_part things) (among of_part others))

-- a column of parts behind parts
column_then : {V W : Type 0} (of_part : (t : V2Part) → V2Value t → List V) (put : V → W → W) (things others : List V2Thing) (old mid new : W) →
    mid ≡ put_all put (among of_part things) old → new ≡ put_all put (among of_part others) mid → new ≡ put_all put (among of_part (things ++ others)) old
column_then of_part put things others old mid new first later =
    later ∙ ap (put_all put (among of_part others)) first ∙ sym (put_all_append put (among of_part things) (among of_part others) old)
    ∙ ap (λ vs. put_all put vs old) (sym (among_append of_part things others))

fits_then : {V : Type 0} (of_part : (t : V2Part) → V2Value t → List V) (Holds : V → Type 0) (things others : List V2Thing) → AllByRecursion Holds (among of_part things) → AllByRecursion Holds (among of_part others) → AllByRecursion Holds (among of_part (things ++ others))
fits_then of_part Holds things others first later =
    subst (AllByRecursion Holds) (sym (among_append of_part things others)) (all_append Holds (among of_part things) (among of_part others) first later)

-- spellings behind spellings
spell_then : (things others : List RestThing) (bytes more : List ℕ) → SpellParts things bytes → SpellParts others more → SpellParts (things ++ others) (bytes ++ more)
spell_then [] others bytes more first later = subst (λ (front : List ℕ). SpellParts others (front ++ more)) (sym first) later
spell_then (thing ∷ things) others bytes more first later = record {
  front = first.front;
  back = first.back ++ more;
  is_front = first.is_front;
  is_back = spell_then things others first.back more first.is_back later;
  joined = ap (λ (all : List ℕ). all ++ more) first.joined ∙ append_assoc first.front first.back more;
}

-- ---- lemmas for callers

pub put_then : {old mid new : V2Written} (things others : List V2Thing) → PartsPut things old mid → PartsPut others mid new → PartsPut (things ++ others) old new
put_then {old} {mid} {new} things others first later = record {
  keys = column_then keys_of put_diff things others old.keys mid.keys new.keys first.keys later.keys;
  clients = column_then clients_of put_uint things others old.clients mid.clients new.clients first.clients later.clients;
  lefts = column_then lefts_of put_diff things others old.lefts mid.lefts new.lefts first.lefts later.lefts;
  rights = column_then rights_of put_diff things others old.rights mid.rights new.rights first.rights later.rights;
  infos = column_then infos_of put_byte things others old.infos mid.infos new.infos first.infos later.infos;
  strings = column_then strings_of put_string things others old.strings mid.strings new.strings first.strings later.strings;
  parents = column_then parents_of put_byte things others old.parents mid.parents new.parents first.parents later.parents;
  kinds = column_then kinds_of put_uint things others old.kinds mid.kinds new.kinds first.kinds later.kinds;
  lengths = column_then lengths_of put_uint things others old.lengths mid.lengths new.lengths first.lengths later.lengths;
  more = first.more ++ later.more;
  rest = later.rest ∙ ap (λ (bytes : List ℕ). bytes ++ later.more) first.rest ∙ append_assoc old.rest first.more later.more;
  spelled = subst (λ parts. SpellParts parts (first.more ++ later.more)) (sym (among_append rest_of things others)) (spell_then (among rest_of things) (among rest_of others) first.more later.more first.spelled later.spelled);
}

pub fit_then : (things others : List V2Thing) → PartsFit things → PartsFit others → PartsFit (things ++ others)
fit_then things others first later = record {
  keys = fits_then keys_of (λ v. v < 2 ^ 53) things others first.keys later.keys;
  clients = fits_then clients_of (λ v. v < 2 ^ 53) things others first.clients later.clients;
  lefts = fits_then lefts_of (λ v. v < 2 ^ 53) things others first.lefts later.lefts;
  rights = fits_then rights_of (λ v. v < 2 ^ 53) things others first.rights later.rights;
  kinds = fits_then kinds_of (λ v. v < 2 ^ 53) things others first.kinds later.kinds;
  lengths = fits_then lengths_of (λ v. v < 2 ^ 53) things others first.lengths later.lengths;
  strings = fits_then strings_of IsUtf8 things others first.strings later.strings;
}

-- these parts are in their columns behind what is written, and so many keys are known
abbrev pub in_columns : List V2Thing → ℕ → V2Written → V2Written
in_columns things known w = record {
  keys = put_all put_diff (among keys_of things) w.keys;
  clients = put_all put_uint (among clients_of things) w.clients;
  lefts = put_all put_diff (among lefts_of things) w.lefts;
  rights = put_all put_diff (among rights_of things) w.rights;
  infos = put_all put_byte (among infos_of things) w.infos;
  strings = put_all put_string (among strings_of things) w.strings;
  parents = put_all put_byte (among parents_of things) w.parents;
  kinds = put_all put_uint (among kinds_of things) w.kinds;
  lengths = put_all put_uint (among lengths_of things) w.lengths;
  rest = w.rest;
  known = known;
}

-- parts of columns alone
pub columns_put : (things : List V2Thing) (known : ℕ) (w : V2Written) → among rest_of things ≡ [] → PartsPut things w (in_columns things known w)
columns_put things known w none = record {
  keys = refl;
  clients = refl;
  lefts = refl;
  rights = refl;
  infos = refl;
  strings = refl;
  parents = refl;
  kinds = refl;
  lengths = refl;
  more = [];
  rest = sym (append-nil w.rest);
  spelled = subst (λ (parts : List RestThing). SpellParts parts []) (sym none) refl;
}

-- no part
pub none_put : (w : V2Written) → PartsPut [] w w
none_put w = columns_put [] w.known w refl

pub none_fit : PartsFit []
none_fit = record { keys = tt; clients = tt; lefts = tt; rights = tt; kinds = tt; lengths = tt; strings = tt }

-- ---- parts of the rest alone

-- none of them goes into a column
among_rest : {V : Type 0} (of_part : (t : V2Part) → V2Value t → List V) → ((t : Part) (v : PartValue t) → of_part (rest t) v ≡ []) → (parts : List RestThing) → among of_part (map in_file parts) ≡ []
among_rest of_part none [] = refl
among_rest of_part none (part ∷ parts) = rw (none part.0 part.1) (among_rest of_part none parts)

-- they all go into the rest
among_all : (parts : List RestThing) → among rest_of (map in_file parts) ≡ parts
among_all [] = refl
among_all (part ∷ parts) = ap (λ later. part ∷ later) (among_all parts)

column_rest : {V W : Type 0} (of_part : (t : V2Part) → V2Value t → List V) (put : V → W → W) → ((t : Part) (v : PartValue t) → of_part (rest t) v ≡ []) → (parts : List RestThing) (w : W) → w ≡ put_all put (among of_part (map in_file parts)) w
column_rest of_part put none parts w = ap (λ vs. put_all put vs w) (sym (among_rest of_part none parts))

pub rest_put : (parts : List RestThing) (bytes : List ℕ) (w : V2Written) → SpellParts parts bytes → PartsPut (map in_file parts) w (more_rest bytes w)
rest_put parts bytes w spelled = record {
  keys = column_rest keys_of put_diff (λ t v. refl) parts w.keys;
  clients = column_rest clients_of put_uint (λ t v. refl) parts w.clients;
  lefts = column_rest lefts_of put_diff (λ t v. refl) parts w.lefts;
  rights = column_rest rights_of put_diff (λ t v. refl) parts w.rights;
  infos = column_rest infos_of put_byte (λ t v. refl) parts w.infos;
  strings = column_rest strings_of put_string (λ t v. refl) parts w.strings;
  parents = column_rest parents_of put_byte (λ t v. refl) parts w.parents;
  kinds = column_rest kinds_of put_uint (λ t v. refl) parts w.kinds;
  lengths = column_rest lengths_of put_uint (λ t v. refl) parts w.lengths;
  more = bytes;
  rest = refl;
  spelled = subst (λ all. SpellParts all bytes) (sym (among_all parts)) spelled;
}

fits_rest : {V : Type 0} (of_part : (t : V2Part) → V2Value t → List V) (Holds : V → Type 0) → ((t : Part) (v : PartValue t) → of_part (rest t) v ≡ []) → (parts : List RestThing) → AllByRecursion Holds (among of_part (map in_file parts))
fits_rest of_part Holds none parts = rw (among_rest of_part none parts) tt

pub rest_fit : (parts : List RestThing) → PartsFit (map in_file parts)
rest_fit parts = record {
  keys = fits_rest keys_of (λ v. v < 2 ^ 53) (λ t v. refl) parts;
  clients = fits_rest clients_of (λ v. v < 2 ^ 53) (λ t v. refl) parts;
  lefts = fits_rest lefts_of (λ v. v < 2 ^ 53) (λ t v. refl) parts;
  rights = fits_rest rights_of (λ v. v < 2 ^ 53) (λ t v. refl) parts;
  kinds = fits_rest kinds_of (λ v. v < 2 ^ 53) (λ t v. refl) parts;
  lengths = fits_rest lengths_of (λ v. v < 2 ^ 53) (λ t v. refl) parts;
  strings = fits_rest strings_of IsUtf8 (λ t v. refl) parts;
}
