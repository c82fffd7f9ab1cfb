-- The table of commands: what each row reads, and that a command's words are read as that command.
use Rattle.std.proofs.Common.{◌≡◌, ◌⊎◌, ◌∙◌, ◌<◌, ◌≤◌, ◌^◌, ◌&&◌, ℕ, nat_lt, Result, Ok, Err, List, [], ◌∷◌, ◌++◌, Bool, true, false, Option, Some, None, inl, inr, refl, sym, ap, ap₂, subst, arith, tests}
use Rattle.std.proofs.lemmas.Slice.Eq.{bytes_eq-Decides}
use Rattle.std.proofs.lemmas.Fmt.{decimal_is_IsNumeral, parse-decimal}
use Rattle.std.specs.Prelude.{codes, decimal}
use Rattle.std.specs.Str.Parse.{ParsesUnsigned, digits_value}
use Rattle.yd_ids.specs.Id.{IsClient}
use Rattle.std.specs.Str.{bytes_eq}
use Rattle.yd_asking.specs.Command.{Command, HasRange, arguments_of, check, convert, cut, edit, generate, merge, name_of, pack, serve, show, sync, vector, word_of, word_of_mode, words_of}
use Rattle.yd_asking.specs.Table.{Begun, Row, check_in, command_in, convert_in, convert_to, cut_in, edit_by, edit_in, either, format_in, generate_for, generate_in, merge_in, merge_to, mode_in, number_in, number_with, pack_in, row_in, serve_for, serve_in, show_in, show_to, sync_for, sync_in, table, vector_in}
use Rattle.yd_asking.specs.declared.format.Format.{Format}
use Rattle.yd_asking.specs.declared.format.Format.TheVariants.{V1, V2}
use Rattle.yd_modes.specs.declared.mode.Mode.{Mode}
use Rattle.yd_modes.specs.declared.mode.Mode.TheVariants.{Text, Delta, Array, Map, Tree}

-- ---- what is read are the command's words

-- the row reads words of its own command alone
IsSound : Row → Type 0
IsSound row = (words : List (List ℕ)) (command : Command) (names : List (List ℕ)) → row.arguments words ≡ Some (command, names) → (row.name ≡ name_of command) × (words ≡ arguments_of command ++ names)

-- two things that were read are one
read_same : (found other : Command × List (List ℕ)) → Some found ≡ Some other → found ≡ other
read_same found other e = cc

pub read_one : (command other : Command) (names others : List (List ℕ)) (found : Begun) → found ≡ Some (command, names) → found ≡ Some (other, others) → (command ≡ other) × (names ≡ others)
read_one command other names others found is also =
    let same : (command, names) ≡ (other, others) = read_same (command, names) (other, others) (sym is ∙ also) in
    (ap (λ (f : Command × List (List ℕ)). f.0) same, ap (λ (f : Command × List (List ℕ)). f.1) same)

-- what was found where the test holds
either_found : (test : Bool) (first second : Begun) (found : Command × List (List ℕ)) → either test first second ≡ Some found → ((test ≡ true) × (first ≡ Some found)) ⊎ ((test ≡ false) × (second ≡ Some found))
either_found true first second found is = inl (refl, is)
either_found false first second found is = inr (refl, is)

-- the format that is read of a word is the one that it names
format_found : (word : List ℕ) (form : Format) → format_in word ≡ Some form → word ≡ word_of form
format_found word form is = by_first (bytes_eq word (codes "v1")) refl is
  where
    by_second : (test : Bool) → bytes_eq word (codes "v2") ≡ test → either test (Some V2) None ≡ Some form → word ≡ word_of form
    by_second true same found = let form_is : V2 ≡ form = cc in subst (λ (f : Format). word ≡ word_of f) form_is ((bytes_eq-Decides word (codes "v2")).0 same)
    by_second false other found = absurd cc

    by_first : (test : Bool) → bytes_eq word (codes "v1") ≡ test → either test (Some V1) (either (bytes_eq word (codes "v2")) (Some V2) None) ≡ Some form → word ≡ word_of form
    by_first true same found = let form_is : V1 ≡ form = cc in subst (λ (f : Format). word ≡ word_of f) form_is ((bytes_eq-Decides word (codes "v1")).0 same)
    by_first false other found = by_second (bytes_eq word (codes "v2")) refl found

-- a mode that is read of a word is the one that it names, where the words behind are so too
mode_read : (word other : List ℕ) (mode this : Mode) (rest : Option Mode) → word_of_mode this ≡ other → either (bytes_eq word other) (Some this) rest ≡ Some mode → (word ≡ word_of_mode mode) ⊎ (rest ≡ Some mode)
mode_read word other mode this rest named is = by_test (bytes_eq word other) refl is
  where
    by_test : (test : Bool) → bytes_eq word other ≡ test → either test (Some this) rest ≡ Some mode → (word ≡ word_of_mode mode) ⊎ (rest ≡ Some mode)
    by_test true same found = let mode_is : this ≡ mode = cc in inl ((bytes_eq-Decides word other).0 same ∙ sym named ∙ ap word_of_mode mode_is)
    by_test false same found = inr found

mode_or : (word : List ℕ) (mode : Mode) (rest : Option Mode) → (word ≡ word_of_mode mode) ⊎ (rest ≡ Some mode) → (rest ≡ Some mode → word ≡ word_of_mode mode) → word ≡ word_of_mode mode
mode_or word mode rest (inl is) more = is
mode_or word mode rest (inr found) more = more found

mode_found : (word : List ℕ) (mode : Mode) → mode_in word ≡ Some mode → word ≡ word_of_mode mode
mode_found word mode is =
    mode_or word mode _ (mode_read word (codes "--text") mode Text _ refl is) (λ is.
    mode_or word mode _ (mode_read word (codes "--delta") mode Delta _ refl is) (λ is.
    mode_or word mode _ (mode_read word (codes "--array") mode Array _ refl is) (λ is.
    mode_or word mode _ (mode_read word (codes "--map") mode Map _ refl is) (λ is.
    mode_or word mode _ (mode_read word (codes "--tree") mode Tree None refl is) (λ is. absurd cc)))))

show_sound : IsSound (record { name = codes "show"; arguments = show_in })
unfolding IsSound
show_sound [] command names is = absurd cc
show_sound (word ∷ []) command names is = absurd cc
show_sound (word ∷ root ∷ rest) command names is = by_mode (mode_in word) refl is
  where
    by_mode : (read : Option Mode) → mode_in word ≡ read → show_to read root rest ≡ Some (command, names) → (codes "show" ≡ name_of command) × (word ∷ root ∷ rest ≡ arguments_of command ++ names)
    by_mode (Some mode) named found =
        let one = read_one (show mode root) command rest names (Some (show mode root, rest)) refl found in
        subst (λ (c : Command). (codes "show" ≡ name_of c) × (word ∷ root ∷ rest ≡ arguments_of c ++ names)) one.0
        (refl, subst (λ (ns : List (List ℕ)). word ∷ root ∷ rest ≡ word_of_mode mode ∷ root ∷ ns) one.1 (ap (λ (w : List ℕ). w ∷ root ∷ rest) (mode_found word mode named)))
    by_mode None named found = absurd cc

convert_sound : IsSound (record { name = codes "convert"; arguments = convert_in })
unfolding IsSound
convert_sound [] command names is = absurd cc
convert_sound (word ∷ rest) command names is = by_form (format_in word) refl is
  where
    by_form : (read : Option Format) → format_in word ≡ read → convert_to read rest ≡ Some (command, names) → (codes "convert" ≡ name_of command) × (word ∷ rest ≡ arguments_of command ++ names)
    by_form (Some form) named found =
        let one = read_one (convert form) command rest names (Some (convert form, rest)) refl found in
        subst (λ (c : Command). (codes "convert" ≡ name_of c) × (word ∷ rest ≡ arguments_of c ++ names)) one.0
        (refl, subst (λ (ns : List (List ℕ)). word ∷ rest ≡ word_of form ∷ ns) one.1 (ap (λ (w : List ℕ). w ∷ rest) (format_found word form named)))
    by_form None named found = absurd cc

pack_sound : IsSound (record { name = codes "pack"; arguments = pack_in })
unfolding IsSound
pack_sound words command names is =
    let one = read_one pack command words names (Some (pack, words)) refl is in
    subst (λ (c : Command). (codes "pack" ≡ name_of c) × (words ≡ arguments_of c ++ names)) one.0 (refl, one.1)

merge_sound : IsSound (record { name = codes "merge"; arguments = merge_in })
unfolding IsSound
merge_sound [] command names is = absurd cc
merge_sound (word ∷ rest) command names is = by_form (format_in word) refl is
  where
    by_form : (read : Option Format) → format_in word ≡ read → merge_to read rest ≡ Some (command, names) → (codes "merge" ≡ name_of command) × (word ∷ rest ≡ arguments_of command ++ names)
    by_form (Some form) named found =
        let one = read_one (merge form) command rest names (Some (merge form, rest)) refl found in
        subst (λ (c : Command). (codes "merge" ≡ name_of c) × (word ∷ rest ≡ arguments_of c ++ names)) one.0
        (refl, subst (λ (ns : List (List ℕ)). word ∷ rest ≡ word_of form ∷ ns) one.1 (ap (λ (w : List ℕ). w ∷ rest) (format_found word form named)))
    by_form None named found = absurd cc

vector_sound : IsSound (record { name = codes "vector"; arguments = vector_in })
unfolding IsSound
vector_sound words command names is =
    let one = read_one vector command words names (Some (vector, words)) refl is in
    subst (λ (c : Command). (codes "vector" ≡ name_of c) × (words ≡ arguments_of c ++ names)) one.0 (refl, one.1)

cut_sound : IsSound (record { name = codes "cut"; arguments = cut_in })
unfolding IsSound
cut_sound [] command names is = absurd cc
cut_sound (word ∷ rest) command names is =
    let one = read_one (cut word) command rest names (Some (cut word, rest)) refl is in
    subst (λ (c : Command). (codes "cut" ≡ name_of c) × (word ∷ rest ≡ arguments_of c ++ names)) one.0 (refl, ap (λ (ns : List (List ℕ)). word ∷ ns) one.1)

-- the word writes the number that is read of it, which is in range
number_tested : (end : ℕ) (word : List ℕ) (number found : ℕ) → number_with end word number ≡ Some found → (word ≡ decimal found) × (found < end)
number_tested end word number found is = by_range (nat_lt number end) refl is
  where
    by_word : (test : Bool) → bytes_eq word (decimal number) ≡ test → number < end → either test (Some number) None ≡ Some found → (word ≡ decimal found) × (found < end)
    by_word true same few read = let one : number ≡ found = cc in
        subst (λ n. (word ≡ decimal n) × (n < end)) one ((bytes_eq-Decides word (decimal number)).0 same, few)
    by_word false other few read = absurd cc

    by_range : (test : Bool) → nat_lt number end ≡ test → either (test && bytes_eq word (decimal number)) (Some number) None ≡ Some found → (word ≡ decimal found) × (found < end)
    by_range true few read = by_word (bytes_eq word (decimal number)) refl (grind (arith, tests)) read
    by_range false many read = absurd cc

pub number_named : (end : ℕ) (word : List ℕ) (found : ℕ) → number_in end word ≡ Some found → (word ≡ decimal found) × (found < end)
number_named end word found is = number_tested end word (digits_value 10 word) found is

-- what the word writes in range
pub number_some : (end : ℕ) (word : List ℕ) (number : ℕ) → number < end → bytes_eq word (decimal number) ≡ true → number_with end word number ≡ Some number
number_some end word number few same = ap₂ (λ s t. either (s && t) (Some number) None) within same
  where
    within : nat_lt number end ≡ true
    within = grind (arith, tests)

-- and what is so written is read as the number
pub number_read : (end number : ℕ) → end ≤ 2 ^ 64 → number < end → number_in end (decimal number) ≡ Some number
number_read end number fits few = ap (number_with end (decimal number)) ((decimal_is_IsNumeral number (omega (arith, few, fits))).1)
    ∙ number_some end (decimal number) number few ((bytes_eq-Decides (decimal number) (decimal number)).1 refl)

-- ---- lemmas for callers: a number among the words

-- a number past the range is none, and so is one that the word does not write so
pub number_past : (end : ℕ) (word : List ℕ) (number : ℕ) → end ≤ number → number_with end word number ≡ None
number_past end word number many = ap (λ s. either (s && bytes_eq word (decimal number)) (Some number) None) past
  where
    past : nat_lt number end ≡ false
    past = grind (arith, tests)

pub number_other : (end : ℕ) (word : List ℕ) (number : ℕ) → bytes_eq word (decimal number) ≡ false → number_with end word number ≡ None
number_other end word number other = ap (λ t. either {X = Option ℕ} (nat_lt number end && t) (Some number) None) other ∙ go (nat_lt number end)
  where
    go : (s : Bool) → either {X = Option ℕ} (s && false) (Some number) None ≡ None
    go true = refl
    go false = refl

-- a word that is no number writes none
pub number_unparsed : (E : Type 0) (end : ℕ) (word : List ℕ) (error : E) → end ≤ 2 ^ 64 → ParsesUnsigned 64 10 word (Err error) → number_in end word ≡ None
number_unparsed E end word error fits parses = go (number_in end word) refl
  where
    go : (found : Option ℕ) → number_in end word ≡ found → found ≡ None
    go None is = refl
    go (Some number) is = let named = number_named end word number is in
        let parsed : ◌≡◌ {A = Result ℕ E} (Err error) (Ok number) = parse-decimal 64 number word (Err error) (omega (arith, named.1, fits)) (omega (arith, named.1, fits)) named.0 parses in absurd cc

-- of another its number decides
pub number_parsed : (E : Type 0) (end : ℕ) (word : List ℕ) (number : ℕ) → end ≤ 2 ^ 64 → ParsesUnsigned {E = E} 64 10 word (Ok number) → number_with end word number ≡ number_in end word
number_parsed E end word number fits parses = go (number_in end word) refl (number_with end word number) refl
  where
    go : (found : Option ℕ) → number_in end word ≡ found → (other : Option ℕ) → number_with end word number ≡ other → other ≡ found
    go None is None also = refl
    go None is (Some n) also = let named = number_tested end word number n also in
        let read : number_in end word ≡ Some n = ap (number_in end) named.0 ∙ number_read end n fits named.1 in absurd (none n (sym read ∙ is))
      where
        none : (n : ℕ) → Some n ≡ None → ⊥
        none n e = cc
    go (Some n) is other also = let named = number_named end word n is in
        let parsed : ◌≡◌ {A = Result ℕ E} (Ok number) (Ok n) = parse-decimal 64 n word (Ok number) (omega (arith, named.1, fits)) (omega (arith, named.1, fits)) named.0 parses in
        let same : number ≡ n = cc in
        sym also ∙ ap (number_with end word) same
        ∙ number_some end word n named.1 ((bytes_eq-Decides word (decimal n)).1 named.0)

edit_sound : IsSound (record { name = codes "edit"; arguments = edit_in })
unfolding IsSound
edit_sound [] command names is = absurd cc
edit_sound (word ∷ []) command names is = absurd cc
edit_sound (word ∷ name ∷ rest) command names is = by_number (number_in (2 ^ 53) word) refl is
  where
    by_number : (read : Option ℕ) → number_in (2 ^ 53) word ≡ read → edit_by read name rest ≡ Some (command, names) → (codes "edit" ≡ name_of command) × (word ∷ name ∷ rest ≡ arguments_of command ++ names)
    by_number (Some client) named found =
        let one = read_one (edit (record { 0 = client }) name) command rest names (Some (edit (record { 0 = client }) name, rest)) refl found in
        subst (λ (c : Command). (codes "edit" ≡ name_of c) × (word ∷ name ∷ rest ≡ arguments_of c ++ names)) one.0
        (refl, subst (λ (ns : List (List ℕ)). word ∷ name ∷ rest ≡ decimal client ∷ name ∷ ns) one.1 (ap (λ (w : List ℕ). w ∷ name ∷ rest) (number_named (2 ^ 53) word client named).0))
    by_number None named found = absurd cc

serve_sound : IsSound (record { name = codes "serve"; arguments = serve_in })
unfolding IsSound
serve_sound [] command names is = absurd cc
serve_sound (address ∷ []) command names is = absurd cc
serve_sound (address ∷ word ∷ rest) command names is = by_number (number_in (2 ^ 32) word) refl is
  where
    by_number : (read : Option ℕ) → number_in (2 ^ 32) word ≡ read → serve_for read address rest ≡ Some (command, names) → (codes "serve" ≡ name_of command) × (address ∷ word ∷ rest ≡ arguments_of command ++ names)
    by_number (Some turns) named found =
        let one = read_one (serve address turns) command rest names (Some (serve address turns, rest)) refl found in
        subst (λ (c : Command). (codes "serve" ≡ name_of c) × (address ∷ word ∷ rest ≡ arguments_of c ++ names)) one.0
        (refl, subst (λ (ns : List (List ℕ)). address ∷ word ∷ rest ≡ address ∷ decimal turns ∷ ns) one.1 (ap (λ (w : List ℕ). address ∷ w ∷ rest) (number_named (2 ^ 32) word turns named).0))
    by_number None named found = absurd cc

sync_sound : IsSound (record { name = codes "sync"; arguments = sync_in })
unfolding IsSound
sync_sound [] command names is = absurd cc
sync_sound (address ∷ []) command names is = absurd cc
sync_sound (address ∷ word ∷ rest) command names is = by_number (number_in (2 ^ 32) word) refl is
  where
    by_number : (read : Option ℕ) → number_in (2 ^ 32) word ≡ read → sync_for read address rest ≡ Some (command, names) → (codes "sync" ≡ name_of command) × (address ∷ word ∷ rest ≡ arguments_of command ++ names)
    by_number (Some turns) named found =
        let one = read_one (sync address turns) command rest names (Some (sync address turns, rest)) refl found in
        subst (λ (c : Command). (codes "sync" ≡ name_of c) × (address ∷ word ∷ rest ≡ arguments_of c ++ names)) one.0
        (refl, subst (λ (ns : List (List ℕ)). address ∷ word ∷ rest ≡ address ∷ decimal turns ∷ ns) one.1 (ap (λ (w : List ℕ). address ∷ w ∷ rest) (number_named (2 ^ 32) word turns named).0))
    by_number None named found = absurd cc

generate_sound : IsSound (record { name = codes "generate"; arguments = generate_in })
unfolding IsSound
generate_sound [] command names is = absurd cc
generate_sound (word ∷ rest) command names is = by_number (number_in 1000001 word) refl is
  where
    by_number : (read : Option ℕ) → number_in 1000001 word ≡ read → generate_for read rest ≡ Some (command, names) → (codes "generate" ≡ name_of command) × (word ∷ rest ≡ arguments_of command ++ names)
    by_number (Some steps) named found =
        let one = read_one (generate steps) command rest names (Some (generate steps, rest)) refl found in
        subst (λ (c : Command). (codes "generate" ≡ name_of c) × (word ∷ rest ≡ arguments_of c ++ names)) one.0
        (refl, subst (λ (ns : List (List ℕ)). word ∷ rest ≡ decimal steps ∷ ns) one.1 (ap (λ (w : List ℕ). w ∷ rest) (number_named 1000001 word steps named).0))
    by_number None named found = absurd cc

check_sound : IsSound (record { name = codes "check"; arguments = check_in })
unfolding IsSound
check_sound words command names is =
    let one = read_one check command words names (Some (check, words)) refl is in
    subst (λ (c : Command). (codes "check" ≡ name_of c) × (words ≡ arguments_of c ++ names)) one.0 (refl, one.1)

-- all rows are so
AreSound : List Row → Type 0
AreSound [] = Unit {0}
AreSound (row ∷ rows) = IsSound row × AreSound rows

table_sound : AreSound table
unfolding AreSound
table_sound = (show_sound, (convert_sound, (pack_sound, (merge_sound, (vector_sound, (cut_sound, (edit_sound, (check_sound, (serve_sound, (sync_sound, (generate_sound, tt)))))))))))

row_found : (rows : List Row) → AreSound rows → (name : List ℕ) (words : List (List ℕ)) (command : Command) (names : List (List ℕ)) → row_in rows name words ≡ Some (command, names) → name ∷ words ≡ words_of command names
unfolding AreSound IsSound
row_found [] sound name words command names is = absurd cc
row_found (row ∷ rows) sound name words command names is =
    by_name (row_found rows sound.1 name words command names) (either_found (bytes_eq name row.name) (row.arguments words) (row_in rows name words) (command, names) is)
  where
    by_name : (row_in rows name words ≡ Some (command, names) → name ∷ words ≡ words_of command names)
        → ((bytes_eq name row.name ≡ true) × (row.arguments words ≡ Some (command, names))) ⊎ ((bytes_eq name row.name ≡ false) × (row_in rows name words ≡ Some (command, names))) → name ∷ words ≡ words_of command names
    by_name more (inl found) =
        let named = sound.0 words command names found.1 in
        ap (λ (n : List ℕ). n ∷ words) ((bytes_eq-Decides name row.name).0 found.0 ∙ named.0) ∙ ap (λ (ws : List (List ℕ)). name_of command ∷ ws) named.1
    by_name more (inr found) = more found.1

-- ---- lemmas for callers

-- what words are read as is what they are
pub command_found : (words : List (List ℕ)) (command : Command) (names : List (List ℕ)) → command_in words ≡ Some (command, names) → words ≡ words_of command names
command_found [] command names is = absurd cc
command_found (name ∷ words) command names is = row_found table table_sound name words command names is

-- a command's words are read as that command
pub command_read : (command : Command) (names : List (List ℕ)) → HasRange command → command_in (words_of command names) ≡ Some (command, names)
command_read (show Text root) names range = refl
command_read (show Delta root) names range = refl
command_read (show Array root) names range = refl
command_read (show Map root) names range = refl
command_read (show Tree root) names range = refl
command_read (convert V1) names range = refl
command_read (convert V2) names range = refl
command_read pack names range = refl
command_read (merge V1) names range = refl
command_read (merge V2) names range = refl
command_read vector names range = refl
command_read (cut name) names range = refl
command_read (edit client name) names range = ap (λ (found : Option ℕ). edit_by found name names) (number_read (2 ^ 53) client.0 (omega arith) range)
command_read check names range = refl
command_read (serve address turns) names range = ap (λ (found : Option ℕ). serve_for found address names) (number_read (2 ^ 32) turns (omega arith) range)
command_read (sync address turns) names range = ap (λ (found : Option ℕ). sync_for found address names) (number_read (2 ^ 32) turns (omega arith) range)
command_read (generate steps) names range = ap (λ (found : Option ℕ). generate_for found names) (number_read 1000001 steps (omega arith) (omega (arith, range)))

-- what words are read as has its numbers in range
pub range_found : (words : List (List ℕ)) (command : Command) (names : List (List ℕ)) → command_in words ≡ Some (command, names) → HasRange command
range_found words (edit client name) names is =
    by_number (number_in (2 ^ 53) (decimal client.0)) refl (subst (λ (ws : List (List ℕ)). command_in ws ≡ Some (edit client name, names)) (command_found words (edit client name) names is) is)
  where
    by_number : (read : Option ℕ) → number_in (2 ^ 53) (decimal client.0) ≡ read → edit_by read name names ≡ Some (edit client name, names) → IsClient client
    by_number None named found = absurd cc
    by_number (Some other) named found =
        let same : edit (record { 0 = other }) name ≡ edit client name = (read_one (edit (record { 0 = other }) name) (edit client name) names names (Some (edit (record { 0 = other }) name, names)) refl found).0 in
        let one : record { 0 = other } ≡ client = cc in subst IsClient one (number_named (2 ^ 53) (decimal client.0) other named).1
range_found words (serve address turns) names is =
    by_number (number_in (2 ^ 32) (decimal turns)) refl (subst (λ (ws : List (List ℕ)). command_in ws ≡ Some (serve address turns, names)) (command_found words (serve address turns) names is) is)
  where
    by_number : (read : Option ℕ) → number_in (2 ^ 32) (decimal turns) ≡ read → serve_for read address names ≡ Some (serve address turns, names) → turns < 2 ^ 32
    by_number None named found = absurd cc
    by_number (Some other) named found =
        let same : serve address other ≡ serve address turns = (read_one (serve address other) (serve address turns) names names (Some (serve address other, names)) refl found).0 in
        let one : other ≡ turns = cc in subst (λ n. n < 2 ^ 32) one (number_named (2 ^ 32) (decimal turns) other named).1
range_found words (sync address turns) names is =
    by_number (number_in (2 ^ 32) (decimal turns)) refl (subst (λ (ws : List (List ℕ)). command_in ws ≡ Some (sync address turns, names)) (command_found words (sync address turns) names is) is)
  where
    by_number : (read : Option ℕ) → number_in (2 ^ 32) (decimal turns) ≡ read → sync_for read address names ≡ Some (sync address turns, names) → turns < 2 ^ 32
    by_number None named found = absurd cc
    by_number (Some other) named found =
        let same : sync address other ≡ sync address turns = (read_one (sync address other) (sync address turns) names names (Some (sync address other, names)) refl found).0 in
        let one : other ≡ turns = cc in subst (λ n. n < 2 ^ 32) one (number_named (2 ^ 32) (decimal turns) other named).1
range_found words (generate steps) names is =
    by_number (number_in 1000001 (decimal steps)) refl (subst (λ (ws : List (List ℕ)). command_in ws ≡ Some (generate steps, names)) (command_found words (generate steps) names is) is)
  where
    by_number : (read : Option ℕ) → number_in 1000001 (decimal steps) ≡ read → generate_for read names ≡ Some (generate steps, names) → steps ≤ 1000000
    by_number None named found = absurd cc
    by_number (Some other) named found =
        let same : generate other ≡ generate steps = (read_one (generate other) (generate steps) names names (Some (generate other, names)) refl found).0 in
        let one : other ≡ steps = cc in subst (λ n. n ≤ 1000000) one (omega (arith, (number_named 1000001 (decimal steps) other named).1))
range_found words command names is = tt
