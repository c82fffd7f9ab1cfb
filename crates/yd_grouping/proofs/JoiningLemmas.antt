-- The rule of grouping as an algebra: what joins, and that joining may be done in any order.
use Rattle.std.specs.Prelude.{nat_eq, nat_lt}
use Rattle.std.proofs.Common.{◌≡◌, ℕ, ◌+◌, true, ◌&&◌, refl, sym, ap, ◌∙◌, arith, true≢false, append_assoc}
use Rattle.yd_any.specs.Rows.{trees_and}
use Rattle.yd_any.specs.Tree.{AnyTrees, no_trees, tree}
use Rattle.yd_ids.specs.Ids.{is_same, is_same_neighbour}
use Rattle.yd_ids.proofs.IdLemmas.{same_is}
use Rattle.yd_ops.specs.Joining.{are_of_one_kind, count_in, join_kind, joined_content, joined_run, run_joins, stands_behind, trees_in, units_in, values_in}
use Rattle.yd_ops.specs.Operation.{later_id}
use Rattle.yd_ops.specs.Value.{ContentValue, RunValue, any, deleted, json, len_of, string}
use Rattle.yd_ops.proofs.JoinLemmas.{Joins, joined-len, joins_says, neighbours-same, of_one_kind}
use Rattle.yd_ops.proofs.OperationLemmas.{later_later}
use Rattle.yd_grouping.specs.Groups.{Group, group_joins, joined_group, of_gone, of_run}

-- ---- contents of one kind

trees-assoc : (ts us vs : AnyTrees) → trees_and (trees_and ts us) vs ≡ trees_and ts (trees_and us vs)
trees-assoc no_trees us vs = refl
trees-assoc (tree t ts) us vs = ap (λ r. tree t r) (trees-assoc ts us vs)

plus-assoc : (m n k : ℕ) → (m + n) + k ≡ m + (n + k)
plus-assoc m n k = omega arith

-- both as one are of the kind of both
joined-kind : (content next : ContentValue) → are_of_one_kind content next ≡ true → join_kind (joined_content content next) ≡ join_kind content
joined-kind = of_one_kind (λ c d. join_kind (joined_content c d) ≡ join_kind c) (λ us vs. refl) (λ ts us. refl) (λ us vs. refl) (λ m n. refl)

next-kind : (content next : ContentValue) → are_of_one_kind content next ≡ true → join_kind (joined_content content next) ≡ join_kind next
next-kind = of_one_kind (λ c d. join_kind (joined_content c d) ≡ join_kind d) (λ us vs. refl) (λ ts us. refl) (λ us vs. refl) (λ m n. refl)

same-kind : (content next : ContentValue) → are_of_one_kind content next ≡ true → join_kind content ≡ join_kind next
same-kind = of_one_kind (λ c d. join_kind c ≡ join_kind d) (λ us vs. refl) (λ ts us. refl) (λ us vs. refl) (λ m n. refl)

joined-assoc : (content next : ContentValue) → are_of_one_kind content next ≡ true → (third : ContentValue) → are_of_one_kind next third ≡ true →
    joined_content (joined_content content next) third ≡ joined_content content (joined_content next third)
joined-assoc = of_one_kind (λ c d. (e : ContentValue) → are_of_one_kind d e ≡ true → joined_content (joined_content c d) e ≡ joined_content c (joined_content d e))
    (λ us vs e k. ap string (append_assoc us vs (units_in e))) (λ ts us e k. ap any (trees-assoc ts us (trees_in e)))
    (λ us vs e k. ap json (append_assoc us vs (values_in e))) (λ m n e k. ap deleted (plus-assoc m n (count_in e)))

-- ---- runs

-- what is in front of a run goes on with it as with both as one
front-joins : (first run next : RunValue) → run_joins run next ≡ true → run_joins first (joined_run run next) ≡ run_joins first run
front-joins first run next e = let j = joins_says run next e in
    ap (λ k. is_same run.id (later_id first.id (len_of first.content)) && stands_behind run.left run.id && is_same_neighbour first.right run.right
    && (nat_lt 0 (join_kind first.content) && nat_eq (join_kind first.content) k)) (joined-kind run.content next.content j.kind)

-- and so with what is behind
back-joins : (first run next : RunValue) → run_joins first run ≡ true → run_joins (joined_run first run) next ≡ run_joins run next
back-joins first run next e = let j = joins_says first run e in
    λ i. is_same next.id (ends j i) && stands_behind next.left next.id && is_same_neighbour (neighbours-same first.right run.right j.right i) next.right
    && (nat_lt 0 (next-kind first.content run.content j.kind i) && nat_eq (next-kind first.content run.content j.kind i) (join_kind next.content))
  where
    ends : Joins first run → later_id first.id (len_of (joined_content first.content run.content)) ≡ later_id run.id (len_of run.content)
    ends j = ap (later_id first.id) (joined-len first.content run.content j.kind) ∙ sym (later_later first.id (len_of first.content) (len_of run.content))
        ∙ ap (λ x. later_id x (len_of run.content)) (sym j.begins)

runs-assoc : (first run next : RunValue) → run_joins first run ≡ true → run_joins run next ≡ true → joined_run (joined_run first run) next ≡ joined_run first (joined_run run next)
runs-assoc first run next e f = let j = joins_says first run e in let k = joins_says run next f in
    ap (λ c. record { id = first.id; left = first.left; right = first.right; list = first.list; content = c }) (joined-assoc first.content run.content j.kind next.content k.kind)

-- ---- groups

pub group-front : (first group next : Group) → group_joins group next ≡ true → group_joins first (joined_group group next) ≡ group_joins first group
group-front (of_run first) (of_run run) (of_run next) e = front-joins first run next e
group-front (of_run first) (of_run run) (of_gone id n) e = absurd (true≢false (sym e))
group-front (of_run first) (of_gone id n) (of_run next) e = absurd (true≢false (sym e))
group-front (of_run first) (of_gone id n) (of_gone next m) e = refl
group-front (of_gone x k) (of_run run) (of_run next) e = refl
group-front (of_gone x k) (of_run run) (of_gone id n) e = absurd (true≢false (sym e))
group-front (of_gone x k) (of_gone id n) (of_run next) e = absurd (true≢false (sym e))
group-front (of_gone x k) (of_gone id n) (of_gone next m) e = refl

pub group-back : (first group next : Group) → group_joins first group ≡ true → group_joins (joined_group first group) next ≡ group_joins group next
group-back (of_run first) (of_run run) (of_run next) e = back-joins first run next e
group-back (of_run first) (of_run run) (of_gone id n) e = refl
group-back (of_run first) (of_gone id n) next e = absurd (true≢false (sym e))
group-back (of_gone x k) (of_run run) next e = absurd (true≢false (sym e))
group-back (of_gone x k) (of_gone id n) (of_run next) e = refl
group-back (of_gone x k) (of_gone id n) (of_gone next m) e =
    ap (is_same next) (sym (later_later x k n) ∙ ap (λ y. later_id y n) (sym (same_is id (later_id x k) e)))

pub group-assoc : (first group next : Group) → group_joins first group ≡ true → group_joins group next ≡ true →
    joined_group (joined_group first group) next ≡ joined_group first (joined_group group next)
group-assoc (of_run first) (of_run run) (of_run next) e f = ap of_run (runs-assoc first run next e f)
group-assoc (of_run first) (of_run run) (of_gone id n) e f = absurd (true≢false (sym f))
group-assoc (of_run first) (of_gone id n) next e f = absurd (true≢false (sym e))
group-assoc (of_gone x k) (of_run run) next e f = absurd (true≢false (sym e))
group-assoc (of_gone x k) (of_gone id n) (of_run next) e f = absurd (true≢false (sym f))
group-assoc (of_gone x k) (of_gone id n) (of_gone next m) e f = ap (of_gone x) (plus-assoc k n m)
