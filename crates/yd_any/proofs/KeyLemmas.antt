-- Of equal keys the last one stands where fields are settled.
use Rattle.std.proofs.Common.{◌≡◌, ℕ, Bool, true, false, List, Option, Some, None, option_map, Less, Greater, Ordering, nat_cmp, refl, sym, ap, ◌∙◌}
use Rattle.std.specs.Prelude.{if◌then◌else◌}
use Rattle.std.specs.Option.{option_or}
use Rattle.std.specs.Ordering.{match_ordering, is_eq, ordering_reverse}
use Rattle.std.specs.declared.cmp.Ordering.TheVariants.{Equal}
use Rattle.std.specs.Cmp.Lexicographic.{slice_cmp}
use Rattle.std.proofs.lemmas.Cmp.{nat_list_cmp_total}
use Rattle.yd_any.specs.Tree.{AnyTree, AnyFields, no_fields, field}
use Rattle.yd_any.specs.Carried.{put, settled, settled_fields}
use Rattle.yd_any.specs.Keys.{is_same, first_at, last_at}

equal : (o : Ordering) → is_eq o ≡ true → o ≡ Equal
equal Less h = absurd cc
equal Equal h = refl
equal Greater h = absurd cc

-- a key compares to equal keys alike
same_right : (k l m : List ℕ) → slice_cmp nat_cmp l m ≡ Equal → slice_cmp nat_cmp k m ≡ slice_cmp nat_cmp k l
same_right k l m e = nat_list_cmp_total.antisymm k m ∙ ap ordering_reverse (sym (nat_list_cmp_total.congr l m k e)) ∙ sym (nat_list_cmp_total.antisymm k l)

first-put_at : (o : Ordering) (b : Bool) (k l : List ℕ) (t : AnyTree) (m : List ℕ) (u : AnyTree) (fs later : AnyFields)
    → slice_cmp nat_cmp l m ≡ o → is_same k l ≡ b → first_at k later ≡ (if b then Some t else first_at k fs)
    → first_at k (match_ordering o (field l t (field m u fs)) (field m t fs) (field m u later)) ≡ (if b then Some t else first_at k (field m u fs))
first-put_at Less true k l t m u fs later e same deep = rw same refl
first-put_at Less false k l t m u fs later e same deep = rw same refl
first-put_at Equal true k l t m u fs later e same deep = rw (same_right k l m e, same) refl
first-put_at Equal false k l t m u fs later e same deep = rw (same_right k l m e, same) refl
first-put_at Greater true k l t m u fs later e same deep =
    let apart : slice_cmp nat_cmp k m ≡ Greater = nat_list_cmp_total.congr k l m (equal (slice_cmp nat_cmp k l) same) ∙ e in
    rw apart deep
first-put_at Greater false k l t m u fs later e same deep = ap (λ r. if is_same k m then Some u else r) deep

-- what was put is found at its key, and the other keys keep what they have
first-put : (b : Bool) (k l : List ℕ) (t : AnyTree) (fs : AnyFields) → is_same k l ≡ b → first_at k (put l t fs) ≡ (if b then Some t else first_at k fs)
first-put true k l t no_fields same = rw same refl
first-put false k l t no_fields same = rw same refl
first-put b k l t (field m u fs) same = first-put_at (slice_cmp nat_cmp l m) b k l t m u fs (put l t fs) refl same (first-put b k l t fs same)

-- what comes later goes first
later_first : (b : Bool) (later : Option AnyTree) (t : AnyTree) (before : Option AnyTree)
    → option_or (option_map settled later) (if b then Some (settled t) else before) ≡ option_or (option_map settled (option_or later (if b then Some t else None))) before
later_first b (Some u) t before = refl
later_first true None t before = refl
later_first false None t before = refl

first-settled : (k : List ℕ) (found fs : AnyFields) → first_at k (settled_fields found fs) ≡ option_or (option_map settled (last_at k fs)) (first_at k found)
first-settled k found no_fields = refl
first-settled k found (field l t fs) =
    first-settled k (put l (settled t) found) fs ∙ ap (option_or (option_map settled (last_at k fs))) (first-put (is_same k l) k l (settled t) found refl) ∙ later_first (is_same k l) (last_at k fs) t (first_at k found)

or-none : (o : Option AnyTree) → option_or o None ≡ o
or-none None = refl
or-none (Some t) = refl

pub last_stands : (k : List ℕ) (fs : AnyFields) → first_at k (settled_fields no_fields fs) ≡ option_map settled (last_at k fs)
last_stands k fs = first-settled k no_fields fs ∙ or-none (option_map settled (last_at k fs))
