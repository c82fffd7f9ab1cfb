-- Trees and fields in a row.
use Rattle.std.proofs.Common.{◌≡◌, ℕ, List, [], ◌∷◌, ◌++◌, refl, ap, sym, ◌∙◌, map, append_assoc, append-nil}
use Rattle.yd_any.specs.Tree.{AnyTree, tree, field, trees_of, fields_of, with_last, with_last_field}

pub trees_of-last : (ts : List AnyTree) (t : AnyTree) → trees_of (ts ++ t ∷ []) ≡ with_last (trees_of ts) t
trees_of-last [] t = refl
trees_of-last (x ∷ ts) t = ap (tree x) (trees_of-last ts t)

pub fields_of-last : (fs : List (List ℕ × AnyTree)) (f : List ℕ × AnyTree) → fields_of (fs ++ f ∷ []) ≡ with_last_field (fields_of fs) f.0 f.1
fields_of-last [] f = refl
fields_of-last (x ∷ fs) f = ap (field x.0 x.1) (fields_of-last fs f)

pub map-last : {A B : Type 0} (f : A → B) (vs : List A) (v : A) → map f (vs ++ v ∷ []) ≡ map f vs ++ f v ∷ []
map-last f [] v = refl
map-last f (x ∷ vs) v = ap (λ ts. f x ∷ ts) (map-last f vs v)

-- one more is done, and one less is left
pub moved : {A B C : Type 0} (f : A → C) (g : B → C) (xs : List A) (x : A) (y : B) (ys zs : List B) (all : List C) → f x ≡ g y → zs ≡ y ∷ ys → map f xs ++ map g zs ≡ all → map f (xs ++ x ∷ []) ++ map g ys ≡ all
moved f g xs x y ys zs all same first done =
    ap (λ l. l ++ map g ys) (map-last f xs x) ∙ append_assoc (map f xs) (f x ∷ []) (map g ys) ∙ ap (λ c. map f xs ++ c ∷ map g ys) same ∙ ap (λ l. map f xs ++ map g l) (sym first) ∙ done

-- all is done where nothing is left
pub all_moved : {A B C : Type 0} (f : A → C) (g : B → C) (xs : List A) (zs : List B) (all : List C) → zs ≡ [] → map f xs ++ map g zs ≡ all → map f xs ≡ all
all_moved f g xs zs all none done = sym (append-nil (map f xs)) ∙ ap (λ l. map f xs ++ map g l) (sym none) ∙ done
