-- The keys of a parent: those of the lists that have units are those of the document.
use Rattle.std.proofs.Common.{◌≡◌, ℕ, zero, suc, Bool, true, false, ◌&&◌, ◌||◌, ◌⊎◌, List, [], ◌∷◌, Option, Some, None, Less, Greater, Ordering, nat_cmp, inl, inr, map, refl, sym, ap, ◌∙◌, subst, true≢false, String, Global, string_bytes, string_cmp}
use Rattle.std.specs.Prelude.{◌↔◌, slice_get, if◌then◌else◌}
use Rattle.std.specs.BTreeSet.{insert_key}
use Rattle.std.specs.Ordering.{match_ordering, is_eq, ordering_reverse}
use Rattle.std.specs.declared.cmp.Ordering.TheVariants.{Equal}
use Rattle.std.specs.Cmp.Lexicographic.{slice_cmp}
use Rattle.std.proofs.lemmas.Bool.{or_left, or_right}
use Rattle.std.proofs.lemmas.Cmp.{nat_list_cmp_total}
use Rattle.yd_words.specs.Member.{IsIn}
use Rattle.yd_any.specs.Keys.{is_same}
use Rattle.yd_ops.specs.declared.lists.List.{List as DocList}
use Rattle.yd_ops.specs.declared.lists.Parent.{Parent}
use Rattle.yd_ops.specs.Operation.{Operation}
use Rattle.yd_meaning.specs.Names.{same_parent}
use Rattle.yd_meaning.specs.ListNames.{same_parent_itself, same_parent_is, one_list}
use Rattle.yd_meaning.specs.Document.{Document, with_key, with_key_of}
use Rattle.yd_shown.specs.Law.{is_among, KeysAbove, KeysAscend, HasKeysOfUnits}
use Rattle.yd_shown.specs.Shown.{key_list}
use Rattle.yd_shown.proofs.KeyLemmas.{one_text, same_key_itself}
use Rattle.yd_doc.specs.Keys.{has_some, is_used, with_name, with_names}

-- ---- ascending keys

above_through : (k l : List ℕ) (ls : List (List ℕ)) → slice_cmp nat_cmp k l ≡ Less → KeysAbove l ls → KeysAbove k ls
above_through k l [] e a = tt
above_through k l (m ∷ ls) e a = (nat_list_cmp_total.trans k l m e a.0, above_through k l ls e a.1)

key_above : (m k : List ℕ) (ls : List (List ℕ)) → slice_cmp nat_cmp m k ≡ Less → KeysAbove m ls → KeysAbove m (with_key k ls)
key_above m k [] e a = (e, tt)
key_above m k (l ∷ ls) e a = go (slice_cmp nat_cmp k l) (key_above m k ls e a.1)
  where
    go : (o : Ordering) → KeysAbove m (with_key k ls) → KeysAbove m (match_ordering o (k ∷ l ∷ ls) (l ∷ ls) (l ∷ with_key k ls))
    go Less deep = (e, a)
    go Equal deep = a
    go Greater deep = (a.0, deep)

key_ascends : (k : List ℕ) (ls : List (List ℕ)) → KeysAscend ls → KeysAscend (with_key k ls)
key_ascends k [] a = (tt, tt)
key_ascends k (l ∷ ls) a = go (slice_cmp nat_cmp k l) refl (key_ascends k ls a.1)
  where
    go : (o : Ordering) → slice_cmp nat_cmp k l ≡ o → KeysAscend (with_key k ls) → KeysAscend (match_ordering o (k ∷ l ∷ ls) (l ∷ ls) (l ∷ with_key k ls))
    go Less e deep = ((e, above_through k l ls e a.0), a)
    go Equal e deep = a
    go Greater e deep = (key_above l k ls (nat_list_cmp_total.antisymm l k ∙ ap ordering_reverse e) a.0, deep)

names_ascend : (d : Document) (p : Parent) (names : List DocList) (ks : List (List ℕ)) → KeysAscend ks → KeysAscend (with_names d p names ks)
names_ascend d p [] ks a = a
names_ascend d p (name ∷ names) ks a = go (is_used d p name) name.key (with_names d p names ks) (names_ascend d p names ks a)
  where
    go : (t : Bool) (key : Option (List ℕ)) (ls : List (List ℕ)) → KeysAscend ls → KeysAscend (if t then with_key_of key ls else ls)
    go false key ls b = b
    go true None ls b = b
    go true (Some k) ls b = key_ascends k ls b

-- a key is not among keys above it
not_above : (k : List ℕ) (ls : List (List ℕ)) → KeysAbove k ls → is_among k ls ≡ false
not_above k [] a = refl
not_above k (l ∷ ls) a = ap (λ o. is_eq o || is_among k ls) a.0 ∙ not_above k ls a.1

-- two rows that ascend and have the same keys are one
AreAlike : List (List ℕ) → List (List ℕ) → Type 0
AreAlike ks ls = (k : List ℕ) → (is_among k ks ≡ true) ↔ (is_among k ls ≡ true)

-- a key that is among those above another is above it
all_above : (k m : List ℕ) (ks : List (List ℕ)) → KeysAbove k ks → is_among m ks ≡ true → slice_cmp nat_cmp k m ≡ Less
all_above k m [] a e = absurd (true≢false (sym e))
all_above k m (l ∷ ls) a e = go (is_same m l) refl (λ f. all_above k m ls a.1 f) e
  where
    go : (t : Bool) → is_same m l ≡ t → (is_among m ls ≡ true → slice_cmp nat_cmp k m ≡ Less) → t || is_among m ls ≡ true → slice_cmp nat_cmp k m ≡ Less
    go true same deep f = subst (λ x. slice_cmp nat_cmp k x ≡ Less) (sym (one_text m l same)) a.0
    go false same deep f = deep f

-- the first of a row that ascends is no greater than any key of it
first_least : (k m : List ℕ) (ks : List (List ℕ)) → KeysAbove k ks → is_among m (k ∷ ks) ≡ true → (m ≡ k) ⊎ (slice_cmp nat_cmp k m ≡ Less)
first_least k m ks a e = go (is_same m k) refl e
  where
    go : (t : Bool) → is_same m k ≡ t → t || is_among m ks ≡ true → (m ≡ k) ⊎ (slice_cmp nat_cmp k m ≡ Less)
    go true same f = inl (one_text m k same)
    go false same f = inr (all_above k m ks a f)

first_there : (k : List ℕ) (ks : List (List ℕ)) → is_among k (k ∷ ks) ≡ true
first_there k ks = or_left (is_same k k) (is_among k ks) (same_key_itself k)

-- neither of two keys is below the other, so they are one
not_both : (k l : List ℕ) → slice_cmp nat_cmp k l ≡ Less → slice_cmp nat_cmp l k ≡ Less → ⊥
not_both k l e f = never (sym (nat_list_cmp_total.antisymm l k ∙ ap ordering_reverse e) ∙ f)
  where
    never : Greater ≡ Less → ⊥
    never g = cc

one_row : (ks ls : List (List ℕ)) → KeysAscend ks → KeysAscend ls → AreAlike ks ls → ks ≡ ls
unfolding AreAlike
one_row [] [] a b alike = refl
one_row [] (l ∷ ls) a b alike = absurd (true≢false (sym ((alike l).1 (first_there l ls))))
one_row (k ∷ ks) [] a b alike = absurd (true≢false (sym ((alike k).0 (first_there k ks))))
one_row (k ∷ ks) (l ∷ ls) a b alike = ap (λ (m : List ℕ). m ∷ ks) same ∙ ap (λ (ms : List (List ℕ)). l ∷ ms) (one_row ks ls a.1 b.1 rest)
  where
    same : k ≡ l
    same = go (first_least k l ks a.0 ((alike l).1 (first_there l ls))) (first_least l k ls b.0 ((alike k).0 (first_there k ks)))
      where
        go : (l ≡ k) ⊎ (slice_cmp nat_cmp k l ≡ Less) → (k ≡ l) ⊎ (slice_cmp nat_cmp l k ≡ Less) → k ≡ l
        go (inl e) other = sym e
        go (inr less) (inl e) = e
        go (inr less) (inr more) = absurd (not_both k l less more)

    -- a key behind the first is another one
    behind : (m : List ℕ) (ms : List (List ℕ)) → KeysAbove k ms → is_among m ms ≡ true → is_same m k ≡ false
    behind m ms above e = go (is_same m k) refl
      where
        go : (t : Bool) → is_same m k ≡ t → is_same m k ≡ false
        go false f = f
        go true f = absurd (true≢false (sym (subst (λ x. is_among x ms ≡ true) (one_text m k f) e) ∙ not_above k ms above))

    from_row : (x y : List ℕ) (ms : List (List ℕ)) → is_same y x ≡ false → is_among y (x ∷ ms) ≡ true → is_among y ms ≡ true
    from_row x y ms other e = sym (ap (λ t. t || is_among y ms) other) ∙ e

    into_row : (x y : List ℕ) (ms : List (List ℕ)) → is_among y ms ≡ true → is_among y (x ∷ ms) ≡ true
    into_row x y ms e = or_right (is_same y x) (is_among y ms) e

    rest : AreAlike ks ls
    rest m = (
      λ e. from_row l m ls (subst (λ x. is_same m x ≡ false) same (behind m ks a.0 e)) ((alike m).0 (into_row k m ks e)),
      λ e. from_row k m ks (behind m ls (subst (λ x. KeysAbove x ls) (sym same) b.0) e) ((alike m).1 (into_row l m ls e)),
    )

-- ---- keys of names

key_there : (k : List ℕ) (ls : List (List ℕ)) → is_among k (with_key k ls) ≡ true
key_there k [] = or_left (is_same k k) false (same_key_itself k)
key_there k (l ∷ ls) = go (slice_cmp nat_cmp k l) refl (key_there k ls)
  where
    go : (o : Ordering) → slice_cmp nat_cmp k l ≡ o → is_among k (with_key k ls) ≡ true → is_among k (match_ordering o (k ∷ l ∷ ls) (l ∷ ls) (l ∷ with_key k ls)) ≡ true
    go Less e deep = or_left (is_same k k) (is_among k (l ∷ ls)) (same_key_itself k)
    go Equal e deep = or_left (is_same k l) (is_among k ls) (ap is_eq e)
    go Greater e deep = or_right (is_same k l) (is_among k (with_key k ls)) deep

key_stays : (m k : List ℕ) (ls : List (List ℕ)) → is_among m ls ≡ true → is_among m (with_key k ls) ≡ true
key_stays m k [] e = absurd (true≢false (sym e))
key_stays m k (l ∷ ls) e = go (slice_cmp nat_cmp k l) (deep (is_same m l) (λ f. key_stays m k ls f) e)
  where
    deep : (t : Bool) → (is_among m ls ≡ true → is_among m (with_key k ls) ≡ true) → t || is_among m ls ≡ true → t || is_among m (with_key k ls) ≡ true
    deep true stays f = refl
    deep false stays f = stays f

    go : (o : Ordering) → is_same m l || is_among m (with_key k ls) ≡ true → is_among m (match_ordering o (k ∷ l ∷ ls) (l ∷ ls) (l ∷ with_key k ls)) ≡ true
    go Less f = or_right (is_same m k) (is_among m (l ∷ ls)) e
    go Equal f = e
    go Greater f = f

key_from : (m k : List ℕ) (ls : List (List ℕ)) → is_among m (with_key k ls) ≡ true → (m ≡ k) ⊎ (is_among m ls ≡ true)
key_from m k [] e = inl (one_text m k (either (is_same m k) e))
  where
    either : (t : Bool) → t || false ≡ true → t ≡ true
    either true f = refl
    either false f = f
key_from m k (l ∷ ls) e = go (slice_cmp nat_cmp k l) (λ f. key_from m k ls f) e
  where
    split_or : (t u : Bool) → t || u ≡ true → (t ≡ true) ⊎ (u ≡ true)
    split_or true u f = inl refl
    split_or false u f = inr f

    go : (o : Ordering) → (is_among m (with_key k ls) ≡ true → (m ≡ k) ⊎ (is_among m ls ≡ true)) →
        is_among m (match_ordering o (k ∷ l ∷ ls) (l ∷ ls) (l ∷ with_key k ls)) ≡ true → (m ≡ k) ⊎ (is_among m (l ∷ ls) ≡ true)
    go Less deep f = elim (split_or (is_same m k) (is_among m (l ∷ ls)) f) [ inl g ↦ inl (one_text m k g) | inr g ↦ inr g ]
    go Equal deep f = inr f
    go Greater deep f = elim (split_or (is_same m l) (is_among m (with_key k ls)) f) [
      | inl g ↦ inr (or_left (is_same m l) (is_among m ls) g)
      | inr g ↦ elim (deep g) [ inl h ↦ inl h | inr h ↦ inr (or_right (is_same m l) (is_among m ls) h) ]
    ]

-- the keys so far stay
name_stays : (d : Document) (p : Parent) (m : List ℕ) (name : DocList) (ks : List (List ℕ)) → is_among m ks ≡ true → is_among m (with_name d p name ks) ≡ true
name_stays d p m name ks e = go (is_used d p name) name.key
  where
    go : (t : Bool) (key : Option (List ℕ)) → is_among m (if t then with_key_of key ks else ks) ≡ true
    go false key = e
    go true None = e
    go true (Some k) = key_stays m k ks e

-- the key of a list that has a unit is there
names_there : (d : Document) (p : Parent) (k : List ℕ) (o : Operation) → IsIn o (d.units (key_list p k)) → (names : List DocList) (n : ℕ) → slice_get names n ≡ Some (key_list p k) → (ks : List (List ℕ)) →
    is_among k (with_names d p names ks) ≡ true
names_there d p k o i [] n e ks = absurd cc
names_there d p k o i (name ∷ names) zero e ks = subst (λ l. is_among k (with_name d p l (with_names d p names ks)) ≡ true) (sym same)
    (used (d.units (key_list p k)) i (same_parent p p) (same_parent_itself p) (with_names d p names ks))
  where
    one : Some name ≡ Some (key_list p k) → name ≡ key_list p k
    one f = cc

    same : name ≡ key_list p k
    same = one e

    used : (os : List Operation) → IsIn o os → (t : Bool) → t ≡ true → (ls : List (List ℕ)) → is_among k (if t && has_some os then with_key k ls else ls) ≡ true
    used [] i t e ls = absurd i
    used (q ∷ os) i true e ls = key_there k ls
    used (q ∷ os) i false e ls = absurd (true≢false (sym e))
names_there d p k o i (name ∷ names) (suc n) e ks = name_stays d p k name (with_names d p names ks) (names_there d p k o i names n e ks)

-- a key that is there was there, or is that of a list that has a unit
names_from : (d : Document) (p : Parent) (k : List ℕ) (names : List DocList) (ks : List (List ℕ)) → is_among k (with_names d p names ks) ≡ true →
    (is_among k ks ≡ true) ⊎ ((o : Operation) × IsIn o (d.units (key_list p k)))
names_from d p k [] ks e = inl e
names_from d p k (name ∷ names) ks e = elim (go (with_names d p names ks) (same_parent name.parent p) refl (d.units name) refl name.key refl e) [
  | inl f ↦ names_from d p k names ks f
  | inr unit ↦ inr unit
]
  where
    go : (ls : List (List ℕ)) (t : Bool) → same_parent name.parent p ≡ t → (os : List Operation) → d.units name ≡ os → (key : Option (List ℕ)) → name.key ≡ key →
        is_among k (if t && has_some os then with_key_of key ls else ls) ≡ true → (is_among k ls ≡ true) ⊎ ((o : Operation) × IsIn o (d.units (key_list p k)))
    go ls false e os f key g h = inl h
    go ls true e [] f key g h = inl h
    go ls true e (q ∷ os) f None g h = inl h
    go ls true e (q ∷ os) f (Some l) g h = elim (key_from k l ls h) [
      | inl same ↦ inr (q, subst (λ n. IsIn q (d.units n)) (one_list name (key_list p k) (same_parent_is name.parent p e) (g ∙ ap (λ m. Some m) (sym same))) (subst (IsIn q) (sym f) (inl refl)))
      | inr there ↦ inl there
    ]

-- ---- lemmas for callers

-- a key that is added to a set, as a text
pub texts_with : (ks : List (String Global)) (k : String Global) → map string_bytes (insert_key string_cmp ks k) ≡ with_key (string_bytes k) (map string_bytes ks)
texts_with [] k = refl
texts_with (x ∷ xs) k = go (string_cmp k x) (texts_with xs k)
  where
    go : (o : Ordering) → map string_bytes (insert_key string_cmp xs k) ≡ with_key (string_bytes k) (map string_bytes xs) →
        map string_bytes (match_ordering o (k ∷ x ∷ xs) (x ∷ xs) (x ∷ insert_key string_cmp xs k))
        ≡ match_ordering o (string_bytes k ∷ string_bytes x ∷ map string_bytes xs) (string_bytes x ∷ map string_bytes xs) (string_bytes x ∷ with_key (string_bytes k) (map string_bytes xs))
    go Less deep = refl
    go Equal deep = refl
    go Greater deep = ap (λ (ls : List (List ℕ)). string_bytes x ∷ ls) deep

-- where each list with a unit is named, the keys of the names are those of the document
pub names_keys : (d : Document) → HasKeysOfUnits d → (names : List DocList) →
    ((list : DocList) (o : Operation) → IsIn o (d.units list) → (n : ℕ) × (slice_get names n ≡ Some list)) → (p : Parent) → with_names d p names [] ≡ d.keys p
unfolding AreAlike
names_keys d has names all p = one_row (with_names d p names []) (d.keys p) (names_ascend d p names [] tt) (has.ascend p) (λ k. (
  λ e. elim (names_from d p k names [] e) [
    | inl f ↦ absurd (true≢false (sym f))
    | inr unit ↦ (has.units p k).1 unit
  ],
  λ e. let (o, i) = (has.units p k).0 e in let (n, at) = all (key_list p k) o i in names_there d p k o i names n at [],
))
