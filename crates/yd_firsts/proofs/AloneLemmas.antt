-- Where each unit is a piece.
use Rattle.std.proofs.Common.{◌≡◌, ℕ, Bool, true, false, nat_lt, List, Some, length, refl, sym, ◌∙◌, subst, arith, tests, true≢false}
use Rattle.std.specs.Prelude.{IfSome, slice_get}
use Rattle.yd_words.specs.Member.{IsIn}
use Rattle.yd_ids.specs.declared.id.Id.{Id}
use Rattle.yd_ops.proofs.OperationLemmas.{later_none}
use Rattle.yd_origins.specs.Before.{is_before}
use Rattle.yd_origins.specs.Table.{OriginTable, ids_of, right_of, IsTable}
use Rattle.yd_origins.proofs.ListLemmas.{rights_ids}
use Rattle.yd_order.specs.Comparing.{Compares, is_told_before}
use Rattle.yd_order.specs.Stretch.{rows_of_stretches, right_among, among_rows}
use Rattle.yd_order.specs.declared.stretch.Stretch.{Stretch}
use Rattle.yd_firsts.specs.Firsts.{ComparesFirsts, HaveStarts}
use Rattle.yd_firsts.proofs.PieceLemmas.{unit_there}
use Rattle.yd_firsts.proofs.PieceOrderLemmas.{place_in}

pub alone : (table : OriginTable) → IsTable table → (ids : List Id) (is_strict : Bool) (cells : List Bool) → Compares table ids is_strict cells →
    ComparesFirsts table ids ids is_strict cells
alone table t ids is_strict cells are = record {
  size = are.size;
  as_many = refl;
  member = λ x i. (are.members x).0 i;
  before = are.before;
  behind = are.before;
  left = λ x p i e. (are.members p).1 (subst (λ z. IfSome z (λ y. IsIn y (ids_of table))) e (t.has_left x ((are.members x).0 i)));
  right = λ x q i e. (are.members q).1 (subst (λ z. IfSome z (λ y. IsIn y (ids_of table))) e (t.has_right x ((are.members x).0 i)));
  first = λ y i. record { first = y; there = (are.members y).1 i; client = refl; clock = omega arith; behind = λ p j e. e; ahead = λ q j e. e };
  one_way = λ strict x y i j e. way strict x y (place_in ids x ((are.members x).1 i)) (place_in ids y ((are.members y).1 j)) e;
  single = λ off x i. (are.members x).1 i;
}
  where
    flip : (s : Bool) (m a b : ℕ) → s ≡ true → is_told_before s cells m a b ≡ true → is_told_before s cells m b a ≡ false
    flip true m a b e f = back a b f
      where
        back : (a b : ℕ) → nat_lt a b ≡ true → nat_lt b a ≡ false
        back a b f = grind (arith, tests)
    flip false m a b e f = absurd (true≢false (sym e))

    way : is_strict ≡ true → (x y : Id) → (n : ℕ) × (slice_get ids n ≡ Some x) → (m : ℕ) × (slice_get ids m ≡ Some y) → is_before table x y ≡ true → is_before table y x ≡ false
    way strict x y (a, f) (b, g) e = are.before b a y x g f ∙ flip is_strict (length ids) a b strict (sym (are.before a b x y f g) ∙ e)

pub alone_starts : (stretches : List Stretch) (ids : List Id) (is_strict : Bool) (cells : List Bool) → Compares (among_rows (rows_of_stretches stretches)) ids is_strict cells →
    HaveStarts stretches ids
alone_starts stretches ids is_strict cells are s i some = (are.members s.id).1 (subst (λ (xs : List Id). IsIn s.id xs)
    (sym (rights_ids (λ x. right_among (ids_of (rows_of_stretches stretches)) (right_of (rows_of_stretches stretches) x)) (rows_of_stretches stretches)))
    (subst (λ (x : Id). IsIn x (ids_of (rows_of_stretches stretches))) (later_none s.id) (unit_there stretches s i 0 some)))
