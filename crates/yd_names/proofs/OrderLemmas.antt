-- The orders of names tell parents and names apart.
use Rattle.std.proofs.Common.{◌≡◌, ◌∙◌, ℕ, List, [], ◌∷◌, Option, Some, None, Less, Greater, Ordering, nat_cmp, refl, sym, ap, arith}
use Rattle.std.specs.Ordering.{ordering_then}
use Rattle.std.specs.declared.cmp.Ordering.TheVariants.{Equal}
use Rattle.std.specs.Cmp.Lexicographic.{slice_cmp}
use Rattle.std.proofs.lemmas.Cmp.{ranked}
use Rattle.yd_ids.proofs.IdLemmas.{same_numbers}
use Rattle.yd_ops.specs.declared.lists.List.{List as DocList}
use Rattle.yd_ops.specs.declared.lists.Parent.{Parent}
use Rattle.yd_ops.specs.declared.lists.Parent.TheVariants.{Root, Item}
use Rattle.yd_meaning.specs.ListNames.{one_list}
use Rattle.yd_names.specs.Order.{parent_numbers, parent_cmp, key_cmp, own_cmp, list_cmp}

both_equal : (o p : Ordering) → ordering_then o p ≡ Equal → (o ≡ Equal) × (p ≡ Equal)
both_equal Less p e = absurd cc
both_equal Equal p e = (refl, e)
both_equal Greater p e = absurd cc

one_number : (m n : ℕ) → nat_cmp m n ≡ Equal → m ≡ n
one_number m n e = ranked m n Equal (sym e)

one_row : (xs ys : List ℕ) → slice_cmp nat_cmp xs ys ≡ Equal → xs ≡ ys
one_row [] [] e = refl
one_row [] (y ∷ ys) e = absurd cc
one_row (x ∷ xs) [] e = absurd cc
one_row (x ∷ xs) (y ∷ ys) e =
    let both = both_equal (nat_cmp x y) (slice_cmp nat_cmp xs ys) e in
    ap (λ n. n ∷ xs) (one_number x y both.0) ∙ ap (λ l. y ∷ l) (one_row xs ys both.1)

abbrev first_of : List ℕ → ℕ
first_of [] = 0
first_of (x ∷ xs) = x

abbrev behind_first : List ℕ → List ℕ
behind_first [] = []
behind_first (x ∷ xs) = xs

one_parent : (a b : Parent) → parent_cmp a b ≡ Equal → a ≡ b
one_parent (Root a) (Root b) e = ap (λ name. Root name) (ap behind_first (one_row (0 ∷ a) (0 ∷ b) e))
one_parent (Root a) (Item y) e = absurd (let w : 0 ≡ 1 = ap first_of (one_row (parent_numbers (Root a)) (parent_numbers (Item y)) e) in omega arith)
one_parent (Item x) (Root b) e = absurd (let w : 1 ≡ 0 = ap first_of (one_row (parent_numbers (Item x)) (parent_numbers (Root b)) e) in omega arith)
one_parent (Item x) (Item y) e =
    let rest = ap behind_first (one_row (parent_numbers (Item x)) (parent_numbers (Item y)) e) in
    ap (λ id. Item id) (same_numbers x y (ap first_of rest) (ap (λ l. first_of (behind_first l)) rest))

one_key : (a b : Option (List ℕ)) → key_cmp a b ≡ Equal → a ≡ b
one_key None None e = refl
one_key None (Some b) e = absurd cc
one_key (Some a) None e = absurd cc
one_key (Some a) (Some b) e = ap (λ key. Some key) (ap behind_first (one_row (0 ∷ a) (0 ∷ b) e))

-- ---- lemmas for callers

pub same_own : (a b : DocList) → own_cmp a b ≡ Equal → a.parent ≡ b.parent
same_own a b e = one_parent a.parent b.parent e

pub same_name : (a b : DocList) → list_cmp a b ≡ Equal → a ≡ b
same_name a b e =
    let both = both_equal (own_cmp a b) (key_cmp a.key b.key) e in
    one_list a b (one_parent a.parent b.parent both.0) (one_key a.key b.key both.1)
