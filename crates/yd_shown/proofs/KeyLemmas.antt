-- The keys of a parent: those of the lists of which some operation is.
use Rattle.std.proofs.Common.{◌≡◌, ℕ, Bool, true, false, ◌||◌, ◌⊎◌, List, [], ◌∷◌, Option, Some, None, Less, Greater, Ordering, nat_cmp, inl, inr, refl, sym, ap, ◌∙◌, subst, true≢false}
use Rattle.std.specs.Prelude.{if◌then◌else◌}
use Rattle.std.specs.Ordering.{match_ordering, is_eq}
use Rattle.std.specs.declared.cmp.Ordering.TheVariants.{Equal}
use Rattle.std.specs.Cmp.Lexicographic.{slice_cmp, texts_ties, bytes_decides}
use Rattle.std.proofs.lemmas.Bool.{or_left, or_right}
use Rattle.yd_words.specs.Member.{IsIn}
use Rattle.yd_any.specs.Keys.{is_same}
use Rattle.yd_ops.specs.declared.lists.List.{List as DocList}
use Rattle.yd_ops.specs.declared.lists.Parent.{Parent}
use Rattle.yd_ops.specs.Operation.{Operation}
use Rattle.yd_meaning.specs.Names.{same_parent}
use Rattle.yd_meaning.specs.ListNames.{same_parent_itself, same_parent_is, one_list}
use Rattle.yd_meaning.specs.Order.{list_of}
use Rattle.yd_meaning.specs.Document.{with_key, with_key_of, keys_of}
use Rattle.yd_shown.specs.Law.{is_among}
use Rattle.yd_shown.specs.Shown.{key_list}

-- the keys, with the one of a list of the parent
abbrev keys_beside : Parent → DocList → List (List ℕ) → List (List ℕ)
keys_beside p list keys = if same_parent list.parent p then with_key_of list.key keys else keys

-- texts that compare as equal are one
pub one_text : (k l : List ℕ) → is_same k l ≡ true → k ≡ l
one_text k l e = (bytes_decides k l).0 (texts_ties k l ∙ e)

pub same_key_itself : (k : List ℕ) → is_same k k ≡ true
same_key_itself k = sym (texts_ties k k) ∙ (bytes_decides k k).1 refl

-- a key that was added is there
name_there : (k : List ℕ) (ls : List (List ℕ)) → is_among k (with_key k ls) ≡ true
name_there k [] = or_left (is_same k k) false (same_key_itself k)
name_there k (l ∷ ls) = go (slice_cmp nat_cmp k l) refl (name_there k ls)
  where
    go : (o : Ordering) → slice_cmp nat_cmp k l ≡ o → is_among k (with_key k ls) ≡ true → is_among k (match_ordering o (k ∷ l ∷ ls) (l ∷ ls) (l ∷ with_key k ls)) ≡ true
    go Less e deep = or_left (is_same k k) (is_among k (l ∷ ls)) (same_key_itself k)
    go Equal e deep = or_left (is_same k l) (is_among k ls) (ap is_eq e)
    go Greater e deep = or_right (is_same k l) (is_among k (with_key k ls)) deep

-- and the others stay
name_stays : (m k : List ℕ) (ls : List (List ℕ)) → is_among m ls ≡ true → is_among m (with_key k ls) ≡ true
name_stays m k [] e = absurd (true≢false (sym e))
name_stays m k (l ∷ ls) e = go (slice_cmp nat_cmp k l) (deep (is_same m l) (λ f. name_stays m k ls f) e)
  where
    deep : (t : Bool) → (is_among m ls ≡ true → is_among m (with_key k ls) ≡ true) → t || is_among m ls ≡ true → t || is_among m (with_key k ls) ≡ true
    deep true stays f = refl
    deep false stays f = stays f

    go : (o : Ordering) → is_same m l || is_among m (with_key k ls) ≡ true → is_among m (match_ordering o (k ∷ l ∷ ls) (l ∷ ls) (l ∷ with_key k ls)) ≡ true
    go Less f = or_right (is_same m k) (is_among m (l ∷ ls)) e
    go Equal f = e
    go Greater f = f

-- the key of a list of which there is an operation is there
key_there : (held os : List Operation) (p : Parent) (k : List ℕ) (o : Operation) → IsIn o os → list_of held o.id ≡ key_list p k →
    is_among k (keys_of held os p) ≡ true
key_there held [] p k o i e = absurd i
key_there held (q ∷ os) p k o (inl same) e =
    subst (λ list. is_among k (keys_beside p list (keys_of held os p)) ≡ true) (sym e ∙ ap (λ (r : Operation). list_of held r.id) same)
    (added (same_parent p p) (same_parent_itself p))
  where
    added : (t : Bool) → t ≡ true → is_among k (if t then with_key k (keys_of held os p) else keys_of held os p) ≡ true
    added true f = name_there k (keys_of held os p)
    added false f = absurd (true≢false (sym f))
key_there held (q ∷ os) p k o (inr i) e = stays (list_of held q.id) (key_there held os p k o i e)
  where
    with_one : (key : Option (List ℕ)) → is_among k (keys_of held os p) ≡ true → is_among k (with_key_of key (keys_of held os p)) ≡ true
    with_one None f = f
    with_one (Some l) f = name_stays k l (keys_of held os p) f

    stays : (list : DocList) → is_among k (keys_of held os p) ≡ true → is_among k (keys_beside p list (keys_of held os p)) ≡ true
    stays list f = go (same_parent list.parent p)
      where
        go : (t : Bool) → is_among k (if t then with_key_of list.key (keys_of held os p) else keys_of held os p) ≡ true
        go true = with_one list.key f
        go false = f

-- a name is that which was added, or was there
name_from : (m k : List ℕ) (ls : List (List ℕ)) → is_among m (with_key k ls) ≡ true → (is_same m k ≡ true) ⊎ (is_among m ls ≡ true)
name_from m k [] e = inl (either (is_same m k) e)
  where
    either : (t : Bool) → t || false ≡ true → t ≡ true
    either true f = refl
    either false f = f
name_from m k (l ∷ ls) e = go (slice_cmp nat_cmp k l) (λ f. name_from m k ls f) e
  where
    split_or : (t u : Bool) → t || u ≡ true → (t ≡ true) ⊎ (u ≡ true)
    split_or true u f = inl refl
    split_or false u f = inr f

    go : (o : Ordering) → (is_among m (with_key k ls) ≡ true → (is_same m k ≡ true) ⊎ (is_among m ls ≡ true)) →
        is_among m (match_ordering o (k ∷ l ∷ ls) (l ∷ ls) (l ∷ with_key k ls)) ≡ true → (is_same m k ≡ true) ⊎ (is_among m (l ∷ ls) ≡ true)
    go Less deep f = split_or (is_same m k) (is_among m (l ∷ ls)) f
    go Equal deep f = inr f
    go Greater deep f = elim (split_or (is_same m l) (is_among m (with_key k ls)) f) [
      | inl g ↦ inr (or_left (is_same m l) (is_among m ls) g)
      | inr g ↦ elim (deep g) [ inl h ↦ inl h | inr h ↦ inr (or_right (is_same m l) (is_among m ls) h) ]
    ]

-- a key that is there is that of a list of which there is an operation
pub key_from : (held os : List Operation) (p : Parent) (k : List ℕ) → is_among k (keys_of held os p) ≡ true →
    (o : Operation) × IsIn o os × (list_of held o.id ≡ key_list p k)
key_from held [] p k e = absurd (true≢false (sym e))
key_from held (o ∷ os) p k e =
    go (same_parent (list_of held o.id).parent p) refl (list_of held o.id).key refl (λ f. let (q, i, of_list) = key_from held os p k f in (q, inr i, of_list)) e
  where
    go : (t : Bool) → same_parent (list_of held o.id).parent p ≡ t → (key : Option (List ℕ)) → (list_of held o.id).key ≡ key →
        (is_among k (keys_of held os p) ≡ true → (q : Operation) × IsIn q (o ∷ os) × (list_of held q.id ≡ key_list p k)) →
        is_among k (if t then with_key_of key (keys_of held os p) else keys_of held os p) ≡ true → (q : Operation) × IsIn q (o ∷ os) × (list_of held q.id ≡ key_list p k)
    go false f key g deep h = deep h
    go true f None g deep h = deep h
    go true f (Some l) g deep h = elim (name_from k l (keys_of held os p) h) [
      | inl same ↦ (o, inl refl, one_list (list_of held o.id) (key_list p k) (same_parent_is (list_of held o.id).parent p f) (g ∙ ap (λ m. Some m) (sym (one_text k l same))))
      | inr there ↦ deep there
    ]

-- ---- lemmas for callers

pub has_key_there : (held : List Operation) (p : Parent) (k : List ℕ) (o : Operation) → IsIn o held → list_of held o.id ≡ key_list p k →
    is_among k (keys_of held held p) ≡ true
has_key_there held p k o i e = key_there held held p k o i e
