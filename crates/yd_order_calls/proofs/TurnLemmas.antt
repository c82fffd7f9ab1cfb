-- Rows in turn are a table.
use Rattle.std.proofs.Common.{◌≡◌, ◌<◌, Bool, true, ◌&&◌, not, List, [], ◌∷◌, Option, Some, None, inl, inr, nat_lt, sym, ◌∙◌, subst, true≢false, arith, tests}
use Rattle.std.specs.Prelude.{IfSome}
use Rattle.std.proofs.lemmas.Bool.{and_parts}
use Rattle.yd_words.specs.Member.{IsIn, AreDistinct}
use Rattle.yd_words.proofs.OptionLemmas.{if_some_map}
use Rattle.yd_ids.specs.declared.id.Id.{Id}
use Rattle.yd_ids.specs.Ids.{has_id}
use Rattle.yd_ids.proofs.IdLemmas.{has_says, has_is}
use Rattle.yd_origins.specs.Table.{OriginTable, ids_of, left_of, right_of, IsTable}
use Rattle.yd_order_calls.specs.Turns.{place_in, is_earlier, are_distinct, all_pass, are_in_turn}

-- ---- what the tests say

not_there : (ids : List Id) (y : Id) → not (has_id ids y) ≡ true → IsIn y ids → ⊥
not_there ids y e i = elim (has_says ids y) [ inl f ↦ true≢false (sym (subst (λ t. not t ≡ true) f.0 e)) | inr f ↦ f.1 i ]

all_there : (ids : List Id) → are_distinct ids ≡ true → AreDistinct ids
all_there [] e = tt
all_there (x ∷ xs) e = let parts = and_parts (not (has_id xs x)) (are_distinct xs) e in (not_there xs x parts.0, all_there xs parts.1)

passes : (test : Id → Bool) (ids : List Id) (x : Id) → all_pass test ids ≡ true → IsIn x ids → test x ≡ true
passes test [] x e i = absurd i
passes test (y ∷ ys) x e (inl i) = rw i (and_parts (test y) (all_pass test ys) e).0
passes test (y ∷ ys) x e (inr i) = passes test ys x (and_parts (test y) (all_pass test ys) e).1 i

earlier : (ids : List Id) (x : Id) (z : Option Id) → is_earlier ids x z ≡ true → IfSome z (λ y. IsIn y ids × (place_in ids y < place_in ids x))
earlier ids x None e = tt
earlier ids x (Some y) e = let parts = and_parts (has_id ids y) (nat_lt (place_in ids y) (place_in ids x)) e in
    (has_is ids y parts.0, grind (arith, tests, parts.1))

module _ (table : OriginTable) (e : are_in_turn table ≡ true) where
  abbrev ids : List Id
  ids = ids_of table

  abbrev IsEarlier : Id → Id → Type 0
  IsEarlier x y = IsIn y ids × (place_in ids y < place_in ids x)

  abbrev lefts : Id → Bool
  lefts x = is_earlier ids x (left_of table x)

  abbrev rights : Id → Bool
  rights x = is_earlier ids x (right_of table x)

  both : (are_distinct ids ≡ true) × (all_pass lefts ids ≡ true) × (all_pass rights ids ≡ true)
  both = let parts = and_parts (are_distinct ids && all_pass lefts ids) (all_pass rights ids) e in
      let first = and_parts (are_distinct ids) (all_pass lefts ids) parts.0 in (first.0, first.1, parts.1)

  left_earlier : (x : Id) → IsIn x ids → IfSome (left_of table x) (IsEarlier x)
  left_earlier x i = earlier ids x (left_of table x) (passes lefts ids x both.1 i)

  right_earlier : (x : Id) → IsIn x ids → IfSome (right_of table x) (IsEarlier x)
  right_earlier x i = earlier ids x (right_of table x) (passes rights ids x both.2 i)

  -- rows in turn are a table
  pub turns_are_table : IsTable table
  turns_are_table = record {
    distinct = all_there ids both.0;
    has_left = λ x i. if_some_map (IsEarlier x) (λ y. IsIn y ids) (left_of table x) (λ y w. w.0) (left_earlier x i);
    has_right = λ x i. if_some_map (IsEarlier x) (λ y. IsIn y ids) (right_of table x) (λ y w. w.0) (right_earlier x i);
    ends = record {
      height = place_in ids;
      falls_left = λ x i. if_some_map (IsEarlier x) (λ y. place_in ids y < place_in ids x) (left_of table x) (λ y w. w.1) (left_earlier x i);
      falls_right = λ x i. if_some_map (IsEarlier x) (λ y. place_in ids y < place_in ids x) (right_of table x) (λ y w. w.1) (right_earlier x i);
    };
  }
