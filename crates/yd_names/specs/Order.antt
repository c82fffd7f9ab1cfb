-- The order of names, in which a bisection finds them (own).
use Rattle.std.specs.Prelude.{ℕ, List, [], ◌∷◌, Option, Some, None}
use Rattle.std.specs.declared.cmp.Ordering.{Ordering}
use Rattle.std.specs.Cmp.{IsTotalOrder}
use Rattle.std.specs.Ordering.{nat_cmp, on, then_cmp}
use Rattle.std.specs.Cmp.Lexicographic.{slice_cmp}
use Rattle.std.proofs.lemmas.Cmp.{nat_list_cmp_total, on_total, then_total}
use Rattle.yd_ops.specs.declared.lists.List.{List as DocList}
use Rattle.yd_ops.specs.declared.lists.Parent.{Parent}
use Rattle.yd_ops.specs.declared.lists.Parent.TheVariants.{Root, Item}

-- a parent in numbers: roots by their names, and behind them items by their ids
abbrev pub parent_numbers : Parent → List ℕ
parent_numbers (Root name) = 0 ∷ name
parent_numbers (Item id) = 1 ∷ id.client.0 ∷ id.clock ∷ []

-- a key in numbers: none is the first
abbrev pub key_numbers : Option (List ℕ) → List ℕ
key_numbers None = []
key_numbers (Some key) = 0 ∷ key

-- which of two parents is the first, and which of two keys
abbrev pub parent_cmp : Parent → Parent → Ordering
parent_cmp = on parent_numbers (slice_cmp nat_cmp)

abbrev pub key_cmp : Option (List ℕ) → Option (List ℕ) → Ordering
key_cmp = on key_numbers (slice_cmp nat_cmp)

-- which of two lists is the first by their parents alone
abbrev pub own_cmp : DocList → DocList → Ordering
own_cmp = on (λ (list : DocList). list.parent) parent_cmp

-- the list of a parent without a key, which stands for the parent in that order
abbrev pub list_of : Parent → DocList
list_of parent = record { parent = parent; key = None }

-- and by their parents and keys
abbrev pub list_cmp : DocList → DocList → Ordering
list_cmp = then_cmp own_cmp (on (λ (list : DocList). list.key) key_cmp)

-- both are orders: one of two lists is the first, or they are tied
pub own_total : IsTotalOrder own_cmp
own_total = on_total (λ (list : DocList). list.parent) (on_total parent_numbers nat_list_cmp_total)

pub list_total : IsTotalOrder list_cmp
list_total = then_total own_total (on_total (λ (list : DocList). list.key) (on_total key_numbers nat_list_cmp_total))
