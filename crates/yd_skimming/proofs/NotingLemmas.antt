-- Ids that are noted: a span that grows has those of both, and what was noted before stays.
use Rattle.std.proofs.Common.{◌≡◌, ℕ, zero, suc, ◌+◌, ◌<◌, ◌⊎◌, List, [], ◌∷◌, ◌++◌, length, get_or, set, drop, map, inl, inr, refl, sym, ap, ◌∙◌, subst, append_assoc, arith}
use Rattle.std.proofs.lemmas.Bool.{cases_lt}
use Rattle.std.proofs.lemmas.List.{at_drop_more, drop_more, get_or_default}
use Rattle.yd_ids.specs.declared.id.Client.{Client}
use Rattle.yd_ids.specs.declared.id.Id.{Id}
use Rattle.yd_ids.specs.declared.id.Span.{Span}
use Rattle.yd_ids.specs.Set.{HasId, HaveSameIds}
use Rattle.yd_ids.specs.Span.{InSpan}
use Rattle.yd_ids.proofs.SetLemmas.{has_either, has_front, same_through}
use Rattle.yd_ops.specs.Valid.{AreStructsFrom}
use Rattle.yd_ops.specs.Value.{clocks_of}
use Rattle.yd_ops.specs.View.{struct_value}
use Rattle.yd_ops.specs.declared.updates.Struct.{Struct}
use Rattle.yd_grouping.specs.Groups.{Group}
use Rattle.yd_merge.specs.Reaching.{span_of, spans_of}
use Rattle.yd_skimming.specs.Noting.{IsBehind, NotesGroups, grown, span_from}

-- ---- one span more

grown_back : (span : Span) (id : Id) (len : ℕ) (x : Id) → IsBehind span id → InSpan span x ⊎ InSpan (span_from id len) x → InSpan (grown span len) x
grown_back span id len x (client, ends) (inl i) = (i.0, i.1, omega (arith, i.2))
grown_back span id len x (client, ends) (inr i) = (client ∙ i.0, omega (arith, ends, i.1), omega (arith, ends, i.2))

grown_there : (span : Span) (id : Id) (len : ℕ) (x : Id) → IsBehind span id → InSpan (grown span len) x → InSpan span x ⊎ InSpan (span_from id len) x
grown_there span id len x (client, ends) (same, low, high) = elim (cases_lt x.clock id.clock) [
  | inl lt ↦ inl (same, low, omega (arith, lt, ends))
  | inr le ↦ inr (sym client ∙ same, le, omega (arith, ends, high))
]

grown_one : (span : Span) (id : Id) (len : ℕ) → IsBehind span id → HaveSameIds (grown span len ∷ []) (span ∷ span_from id len ∷ [])
grown_one span id len behind x = (there, back)
  where
    there : HasId (grown span len ∷ []) x → HasId (span ∷ span_from id len ∷ []) x
    there (inl i) = elim (grown_there span id len x behind i) [ inl a ↦ inl a | inr b ↦ inr (inl b) ]
    there (inr h) = absurd h

    back : HasId (span ∷ span_from id len ∷ []) x → HasId (grown span len ∷ []) x
    back (inl i) = inl (grown_back span id len x behind (inl i))
    back (inr (inl i)) = inl (grown_back span id len x behind (inr i))
    back (inr (inr h)) = absurd h

same_behind : (span : Span) (xs ys : List Span) → HaveSameIds xs ys → HaveSameIds (span ∷ xs) (span ∷ ys)
same_behind span xs ys same x = (
  (λ h. elim h [ inl i ↦ inl i | inr k ↦ inr ((same x).0 k) ]),
  (λ h. elim h [ inl i ↦ inl i | inr k ↦ inr ((same x).1 k) ]),
)

grown_last : (xs : List Span) (n : ℕ) (d : Span) (id : Id) (len : ℕ) → n + 1 ≡ length xs → IsBehind (get_or xs n d) id →
    HaveSameIds (set xs n (grown (get_or xs n d) len)) (xs ++ span_from id len ∷ [])
grown_last [] n d id len e behind = absurd (omega arith)
grown_last (x ∷ []) zero d id len e behind = grown_one x id len behind
grown_last (x ∷ []) (suc n) d id len e behind = absurd (omega arith)
grown_last (x ∷ y ∷ xs) zero d id len e behind = absurd (omega arith)
grown_last (x ∷ y ∷ xs) (suc n) d id len e behind = same_behind x (set (y ∷ xs) n (grown (get_or (y ∷ xs) n d) len)) ((y ∷ xs) ++ span_from id len ∷ [])
    (grown_last (y ∷ xs) n d id len (omega arith) behind)

-- ---- groups behind others

pub same_front : (xs ys zs : List Span) → HaveSameIds xs ys → HaveSameIds (xs ++ zs) (ys ++ zs)
same_front xs ys zs same x = (
  (λ h. has_either ys zs x (elim (has_front xs zs x h) [ inl i ↦ inl ((same x).0 i) | inr k ↦ inr k ])),
  (λ h. has_either xs zs x (elim (has_front ys zs x h) [ inl i ↦ inl ((same x).1 i) | inr k ↦ inr k ])),
)

pub spans_of-append : (groups more : List Group) → spans_of (groups ++ more) ≡ spans_of groups ++ spans_of more
spans_of-append [] more = refl
spans_of-append (group ∷ groups) more = ap (λ spans. span_of group ∷ spans) (spans_of-append groups more)

-- ---- lemmas for callers

-- behind a struct the others begin at its end
pub structs_behind : (client : Client) (clock len : ℕ) (structs : List Struct) (i : ℕ) (s : Struct) → len ≡ clocks_of (struct_value s) → i < length structs → s ≡ get_or structs i s →
    AreStructsFrom client clock (map struct_value (drop i structs)) → AreStructsFrom client (clock + len) (map struct_value (drop (i + 1) structs))
structs_behind client clock len structs i s e lt here from = subst (λ n. AreStructsFrom client (clock + n) (map struct_value (drop (i + 1) structs))) (sym e)
    (subst (λ ss. AreStructsFrom client clock (map struct_value ss)) (drop_more structs i s lt ∙ ap (λ (t : Struct). t ∷ drop (i + 1) structs) (sym here)) from).2

-- the last span, as the code reads it
pub grown_ids : (xs : List Span) (n : ℕ) (a b : Span) (id : Id) (len : ℕ) → n + 1 ≡ length xs → a ≡ get_or xs n a → b ≡ get_or xs n b → IsBehind a id →
    HaveSameIds (set xs n (grown b len)) (xs ++ span_from id len ∷ [])
grown_ids xs n a b id len e p q behind = subst (λ (z : Span). HaveSameIds (set xs n (grown z len)) (xs ++ span_from id len ∷ [])) (sym q)
    (grown_last xs n b id len e (subst (λ (z : Span). IsBehind z id) (p ∙ get_or_default xs n a b (omega arith)) behind))

-- of groups the first were noted, and the others are left
pub noted_more : (now new all : List Span) (more others : List Group) → NotesGroups now new more → HaveSameIds (now ++ spans_of (more ++ others)) all → HaveSameIds (new ++ spans_of others) all
noted_more now new all more others notes left = same_through (new ++ spans_of others) (now ++ spans_of (more ++ others)) all
    (subst (HaveSameIds (new ++ spans_of others)) same (same_front new (now ++ spans_of more) (spans_of others) notes)) left
  where
    same : (now ++ spans_of more) ++ spans_of others ≡ now ++ spans_of (more ++ others)
    same = append_assoc now (spans_of more) (spans_of others) ∙ ap (λ spans. now ++ spans) (sym (spans_of-append more others))

-- the next of a list was noted
pub noted_next : {X : Type 0} (groups left : List X → List Group) (more : List Group) (xs : List X) (i : ℕ) (x : X) (now new all : List Span) →
    ((rest : List X) → groups (x ∷ rest) ≡ more ++ left rest) → i < length xs → x ≡ get_or xs i x → NotesGroups now new more →
    HaveSameIds (now ++ spans_of (groups (drop i xs))) all → HaveSameIds (new ++ spans_of (left (drop (i + 1) xs))) all
noted_next {X} groups left more xs i x now new all step lt here notes before = noted_more now new all more (left (drop (i + 1) xs)) notes
    (subst (λ gs. HaveSameIds (now ++ spans_of gs) all) (at_drop_more groups xs i x lt ∙ ap (λ (y : X). groups (y ∷ drop (i + 1) xs)) (sym here) ∙ step (drop (i + 1) xs)) before)
