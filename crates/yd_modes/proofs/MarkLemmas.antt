-- Attributes in force: where a key is put, and which mark is removed.
use Rattle.std.proofs.Common.{◌≡◌, ◌<◌, ◌≤◌, ℕ, zero, suc, Bool, true, false, ◌&&◌, List, [], ◌∷◌, length, drop, get_or, nat_cmp, Ordering, Less, Greater, refl, sym, ap, ◌∙◌, subst, arith}
use Rattle.std.specs.Prelude.{if◌then◌else◌}
use Rattle.std.specs.List.{insert, remove}
use Rattle.std.proofs.Math.ListN.{set}
use Rattle.std.specs.Ordering.{match_ordering, is_eq}
use Rattle.std.specs.declared.cmp.Ordering.TheVariants.{Equal}
use Rattle.std.specs.Cmp.Lexicographic.{slice_cmp}
use Rattle.yd_any.specs.Tree.{AnyTree, AnyFields, no_fields, field, with_last_field}
use Rattle.yd_any.specs.Carried.{put}
use Rattle.yd_any.specs.Keys.{is_same}
use Rattle.yd_any.specs.JsonView.{json_tree}
use Rattle.std.specs.Str.{bytes_eq}
use Rattle.yd_any.specs.Same.{same_tree, same_fields}
use Rattle.yd_shown.specs.Pieces.{without_key}
use Rattle.yd_shown.proofs.KeyLemmas.{one_text}
use Rattle.yd_modes.specs.declared.marks.Mark.{Mark}
use Rattle.yd_modes.specs.declared.marks.Place.TheVariants.{At, Before}
use Rattle.yd_modes.specs.Marks.{marks_fields, IsPlace}
use Rattle.yd_modes.specs.Roles.{joined_fields}

-- ---- putting

-- the key is above each of the first marks
abbrev pub AreBelow : List ℕ → ℕ → List Mark → Type 0
AreBelow key zero marks = Unit {0}
AreBelow key (suc n) [] = ⊥
AreBelow key (suc n) (m ∷ ms) = (slice_cmp nat_cmp key m.key.now ≡ Greater) × AreBelow key n ms

-- one mark more
pub below_next : (key : List ℕ) (n : ℕ) (marks : List Mark) (d : Mark) → n < length marks → AreBelow key n marks →
    slice_cmp nat_cmp key (get_or marks n d).key.now ≡ Greater → AreBelow key (suc n) marks
below_next key n [] d less below greater = absurd (omega arith)
below_next key zero (m ∷ ms) d less below greater = (greater, tt)
below_next key (suc n) (m ∷ ms) d less below greater = (below.0, below_next key n ms d (omega arith) below.1 greater)

put_at : (key : List ℕ) (n : ℕ) (marks : List Mark) (d : Mark) → n < length marks → AreBelow key n marks → slice_cmp nat_cmp key (get_or marks n d).key.now ≡ Equal →
    (m : Mark) → m.key.now ≡ key → marks_fields (set marks n m) ≡ put key (json_tree m.value.now) (marks_fields marks)
put_at key n [] d less below same m e = absurd (omega arith)
put_at key zero (x ∷ ms) d less below same m e =
    ap (λ k. field k (json_tree m.value.now) (marks_fields ms)) (e ∙ one_text key x.key.now (ap is_eq same))
    ∙ sym (ap (λ o. match_ordering o (field key (json_tree m.value.now) (marks_fields (x ∷ ms))) (field x.key.now (json_tree m.value.now) (marks_fields ms))
    (field x.key.now (json_tree x.value.now) (put key (json_tree m.value.now) (marks_fields ms)))) same)
put_at key (suc n) (x ∷ ms) d less below same m e =
    ap (field x.key.now (json_tree x.value.now)) (put_at key n ms d (omega arith) below.1 same m e)
    ∙ sym (ap (λ o. match_ordering o (field key (json_tree m.value.now) (marks_fields (x ∷ ms))) (field x.key.now (json_tree m.value.now) (marks_fields ms))
    (field x.key.now (json_tree x.value.now) (put key (json_tree m.value.now) (marks_fields ms)))) below.0)

put_before : (key : List ℕ) (n : ℕ) (marks : List Mark) (d : Mark) → n < length marks → AreBelow key n marks → slice_cmp nat_cmp key (get_or marks n d).key.now ≡ Less →
    (m : Mark) → m.key.now ≡ key → marks_fields (insert marks n m) ≡ put key (json_tree m.value.now) (marks_fields marks)
put_before key n [] d less below same m e = absurd (omega arith)
put_before key zero (x ∷ ms) d less below same m e =
    ap (λ k. field k (json_tree m.value.now) (marks_fields (x ∷ ms))) e
    ∙ sym (ap (λ o. match_ordering o (field key (json_tree m.value.now) (marks_fields (x ∷ ms))) (field x.key.now (json_tree m.value.now) (marks_fields ms))
    (field x.key.now (json_tree x.value.now) (put key (json_tree m.value.now) (marks_fields ms)))) same)
put_before key (suc n) (x ∷ ms) d less below same m e =
    ap (field x.key.now (json_tree x.value.now)) (put_before key n ms d (omega arith) below.1 same m e)
    ∙ sym (ap (λ o. match_ordering o (field key (json_tree m.value.now) (marks_fields (x ∷ ms))) (field x.key.now (json_tree m.value.now) (marks_fields ms))
    (field x.key.now (json_tree x.value.now) (put key (json_tree m.value.now) (marks_fields ms)))) below.0)

put_behind : (key : List ℕ) (marks : List Mark) → AreBelow key (length marks) marks →
    (m : Mark) → m.key.now ≡ key → marks_fields (insert marks (length marks) m) ≡ put key (json_tree m.value.now) (marks_fields marks)
put_behind key [] below m e = ap (λ k. field k (json_tree m.value.now) no_fields) e
put_behind key (x ∷ ms) below m e =
    ap (field x.key.now (json_tree x.value.now)) (put_behind key ms below.1 m e)
    ∙ sym (ap (λ o. match_ordering o (field key (json_tree m.value.now) (marks_fields (x ∷ ms))) (field x.key.now (json_tree m.value.now) (marks_fields ms))
    (field x.key.now (json_tree x.value.now) (put key (json_tree m.value.now) (marks_fields ms)))) below.0)

-- ---- removing

-- the key is none of the first marks'
abbrev pub AreOther : List ℕ → ℕ → List Mark → Type 0
AreOther key zero marks = Unit {0}
AreOther key (suc n) [] = ⊥
AreOther key (suc n) (m ∷ ms) = (is_same key m.key.now ≡ false) × AreOther key n ms

pub other_next : (key : List ℕ) (n : ℕ) (marks : List Mark) (d : Mark) → n < length marks → AreOther key n marks →
    is_same key (get_or marks n d).key.now ≡ false → AreOther key (suc n) marks
other_next key n [] d less other differs = absurd (omega arith)
other_next key zero (m ∷ ms) d less other differs = (differs, tt)
other_next key (suc n) (m ∷ ms) d less other differs = (other.0, other_next key n ms d (omega arith) other.1 differs)

pub removed_at : (key : List ℕ) (n : ℕ) (marks : List Mark) (d : Mark) → n < length marks → AreOther key n marks → is_same key (get_or marks n d).key.now ≡ true →
    marks_fields (remove marks n) ≡ without_key key (marks_fields marks)
removed_at key n [] d less other same = absurd (omega arith)
removed_at key zero (x ∷ ms) d less other same =
    sym (ap (λ t. if t then marks_fields ms else field x.key.now (json_tree x.value.now) (without_key key (marks_fields ms))) same)
removed_at key (suc n) (x ∷ ms) d less other same =
    ap (field x.key.now (json_tree x.value.now)) (removed_at key n ms d (omega arith) other.1 same)
    ∙ sym (ap (λ t. if t then marks_fields ms else field x.key.now (json_tree x.value.now) (without_key key (marks_fields ms))) other.0)

pub none_removed : (key : List ℕ) (marks : List Mark) → AreOther key (length marks) marks → marks_fields marks ≡ without_key key (marks_fields marks)
none_removed key [] other = refl
none_removed key (x ∷ ms) other =
    ap (field x.key.now (json_tree x.value.now)) (none_removed key ms other.1)
    ∙ sym (ap (λ t. if t then marks_fields ms else field x.key.now (json_tree x.value.now) (without_key key (marks_fields ms))) other.0)

-- ---- fields of marks

-- one more is made
pub joined_last : (fs : AnyFields) (k : List ℕ) (t : AnyTree) (gs : AnyFields) → joined_fields (with_last_field fs k t) gs ≡ joined_fields fs (field k t gs)
joined_last no_fields k t gs = refl
joined_last (field l u fs) k t gs = ap (field l u) (joined_last fs k t gs)

pub joined_none : (fs : AnyFields) → joined_fields fs no_fields ≡ fs
joined_none no_fields = refl
joined_none (field k t fs) = ap (field k t) (joined_none fs)

-- ---- lemmas for callers

-- what was compared
pub cmp_is : (key k l other : List ℕ) (result o : Ordering) → k ≡ key → l ≡ other → result ≡ slice_cmp nat_cmp k l → result ≡ o → slice_cmp nat_cmp key other ≡ o
cmp_is key k l other result o e f g h = sym (ap (λ x. slice_cmp nat_cmp x l) e ∙ ap (slice_cmp nat_cmp key) f) ∙ sym g ∙ h

neither : (t u : Bool) → u ≡ false → t && u ≡ false
neither true u e = e
neither false u e = refl

-- marks of two numbers have two rows of fields
pub other_marks : (xs ys : List Mark) → (length xs ≡ length ys → ⊥) → same_fields (marks_fields xs) (marks_fields ys) ≡ false
other_marks [] [] differ = absurd (differ refl)
other_marks [] (b ∷ ys) differ = refl
other_marks (a ∷ xs) [] differ = refl
other_marks (a ∷ xs) (b ∷ ys) differ =
    neither (bytes_eq a.key.now b.key.now && same_tree (json_tree a.value.now) (json_tree b.value.now)) (same_fields (marks_fields xs) (marks_fields ys)) (other_marks xs ys (λ e. differ (ap suc e)))

pub place_at : (key : List ℕ) (n : ℕ) (marks : List Mark) (d : Mark) → n < length marks → AreBelow key n marks → slice_cmp nat_cmp key (get_or marks n d).key.now ≡ Equal →
    IsPlace key marks (At n)
place_at key n marks d less below same = (less, put_at key n marks d less below same)

pub place_before : (key : List ℕ) (n : ℕ) (marks : List Mark) (d : Mark) → n < length marks → AreBelow key n marks → slice_cmp nat_cmp key (get_or marks n d).key.now ≡ Less →
    IsPlace key marks (Before n)
place_before key n marks d less below same = (omega (arith, less), put_before key n marks d less below same)

pub place_behind : (key : List ℕ) (n : ℕ) (marks : List Mark) → n ≡ length marks → AreBelow key n marks → IsPlace key marks (Before n)
place_behind key n marks e below = subst (λ k. IsPlace key marks (Before k)) (sym e) (omega arith, put_behind key marks (subst (λ k. AreBelow key k marks) e below))

-- behind all marks no field is left
pub none_left : (n : ℕ) (marks : List Mark) → length marks ≤ n → marks_fields (drop n marks) ≡ no_fields
none_left n [] le = none n
  where
    none : (m : ℕ) → marks_fields (drop m []) ≡ no_fields
    none zero = refl
    none (suc m) = refl
none_left zero (x ∷ marks) le = absurd (omega (arith, le))
none_left (suc n) (x ∷ marks) le = none_left n marks (omega (arith, le))
