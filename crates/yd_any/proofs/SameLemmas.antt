-- The tests tell exactly which values are one.
use Rattle.std.specs.Bool.{beq}
use Rattle.std.specs.Ordering.{int_eq}
use Rattle.std.specs.Prelude.{Decides}
use Rattle.std.specs.Str.{bytes_eq}
use Rattle.std.specs.Cmp.{booleans_Decides}
use Rattle.std.proofs.Common.{◌≡◌, true, false, Bool, ◌&&◌, refl, sym, ap, ap₂, true≢false}
use Rattle.std.proofs.lemmas.Bool.Decides.{Decides-and, Decides-like, Decides-int_eq}
use Rattle.std.proofs.lemmas.Slice.Eq.{bytes_eq-Decides}
use Rattle.yd_any.specs.Tree.{AnyTree, AnyTrees, AnyFields, undefined, null, flag, whole, raw4, raw8, big, str, list, pairs, blob, no_trees, tree, no_fields, field}
use Rattle.yd_any.specs.Same.{same_tree, same_trees, same_fields}

pub never_true : {P : Type 0} → false ≡ true → P
never_true e = absurd (true≢false (sym e))

-- what is made of a part is the same where the part is
pub one_part : {X Y : Type 0} (f : X → Y) {a b : X} → (f a ≡ f b → a ≡ b) → (s : Bool) → Decides s (a ≡ b) → Decides s (f a ≡ f b)
one_part f {a = a} {b} back s d = ((λ e. ap f (d.0 e)), (λ e. d.1 (back e)))

pub two_parts : {X Y Z : Type 0} (f : X → Y → Z) {a b : X} {c d : Y} → (f a c ≡ f b d → a ≡ b) → (f a c ≡ f b d → c ≡ d) → (s t : Bool) → Decides s (a ≡ b) →
    Decides t (c ≡ d) → Decides (s && t) (f a c ≡ f b d)
two_parts f {a = a} {b} {c} {d} first second s t p q = Decides-like (s && t) (λ e. ap₂ f e.0 e.1) (λ e. (first e, second e)) (Decides-and s t p q)

pub three_parts : {X Y Z W : Type 0} (f : X → Y → Z → W) {a b : X} {c d : Y} {g h : Z} → (f a c g ≡ f b d h → a ≡ b) → (f a c g ≡ f b d h → c ≡ d) → (f a c g ≡ f b d h → g ≡ h) →
    (s t u : Bool) → Decides s (a ≡ b) → Decides t (c ≡ d) → Decides u (g ≡ h) → Decides (s && t && u) (f a c g ≡ f b d h)
three_parts f {a = a} {b} {c} {d} {g} {h} first second third s t u p q r =
    Decides-like (s && t && u) (λ e. λ i. f (e.0.0 i) (e.0.1 i) (e.1 i)) (λ e. ((first e, second e), third e)) (Decides-and (s && t) u (Decides-and s t p q) r)

mutual
  pub tree_decides : (a b : AnyTree) → Decides (same_tree a b) (a ≡ b)
  tree_decides undefined undefined = ((λ e. refl), (λ e. refl))
  tree_decides null null = ((λ e. refl), (λ e. refl))
  tree_decides (flag a) (flag b) = one_part flag (λ e. cc) (beq a b) (booleans_Decides a b)
  tree_decides (whole m) (whole n) = one_part whole (λ e. cc) (int_eq m n) (Decides-int_eq m n)
  tree_decides (raw4 a) (raw4 b) = one_part raw4 (λ e. cc) (bytes_eq a b) (bytes_eq-Decides a b)
  tree_decides (raw8 a) (raw8 b) = one_part raw8 (λ e. cc) (bytes_eq a b) (bytes_eq-Decides a b)
  tree_decides (big m) (big n) = one_part big (λ e. cc) (int_eq m n) (Decides-int_eq m n)
  tree_decides (str a) (str b) = one_part str (λ e. cc) (bytes_eq a b) (bytes_eq-Decides a b)
  tree_decides (list a) (list b) = one_part list (λ e. cc) (same_trees a b) (trees_decide a b)
  tree_decides (pairs a) (pairs b) = one_part pairs (λ e. cc) (same_fields a b) (fields_decide a b)
  tree_decides (blob a) (blob b) = one_part blob (λ e. cc) (bytes_eq a b) (bytes_eq-Decides a b)
  tree_decides a b = (never_true, λ e. absurd cc)

  pub trees_decide : (a b : AnyTrees) → Decides (same_trees a b) (a ≡ b)
  trees_decide no_trees no_trees = ((λ e. refl), (λ e. refl))
  trees_decide (tree a us) (tree b vs) = two_parts tree (λ e. cc) (λ e. cc) (same_tree a b) (same_trees us vs) (tree_decides a b) (trees_decide us vs)
  trees_decide a b = (never_true, λ e. absurd cc)

  pub fields_decide : (a b : AnyFields) → Decides (same_fields a b) (a ≡ b)
  fields_decide no_fields no_fields = ((λ e. refl), (λ e. refl))
  fields_decide (field k a us) (field l b vs) = three_parts field (λ e. cc) (λ e. cc) (λ e. cc) (bytes_eq k l) (same_tree a b) (same_fields us vs)
      (bytes_eq-Decides k l) (tree_decides a b) (fields_decide us vs)
  fields_decide a b = (never_true, λ e. absurd cc)

-- ---- lemmas for callers

pub fields_is : (a b : AnyFields) → same_fields a b ≡ true → a ≡ b
fields_is a b e = (fields_decide a b).0 e

pub fields_itself : (a : AnyFields) → same_fields a a ≡ true
fields_itself a = (fields_decide a a).1 refl
