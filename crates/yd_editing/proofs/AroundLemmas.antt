-- Units around given ones: a list split at a unit, and new units put before it or behind it.
use Rattle.std.proofs.Common.{append_assoc, ◌≡◌, ◌≢◌, ◌+◌, ℕ, zero, suc, List, [], ◌∷◌, ◌++◌, map, length, Option, Some, None, ◌⊎◌, inl, inr, refl, sym, ap, ap₂, ◌∙◌, subst, arith}
use Rattle.yd_words.specs.Member.{IsIn}
use Rattle.yd_ids.specs.declared.id.Id.{Id}
use Rattle.yd_ids.proofs.IdLemmas.{same_itself, other_id}
use Rattle.yd_ops.specs.Operation.{Operation}
use Rattle.yd_editing.specs.Made.{units_up_to, units_behind, put_behind}
use Rattle.yd_editing.specs.TextEdit.{unit_at, stands_before}
use Rattle.yd_editing.proofs.IndexLemmas.{AreApart}
use Rattle.yd_editing.proofs.DeleteLemmas.{apart_parts}
use Rattle.yd_editing.proofs.RefusalLemmas.{id_in_map}

-- no unit has the id
abbrev pub HasNot : Id → List Operation → Type 0
HasNot x os = (o : Operation) → IsIn o os → o.id ≢ x

-- ---- up to a unit, and behind it

pub up_to_unit : (l : Operation) (front back : List Operation) → HasNot l.id front → units_up_to (Some l.id) (front ++ l ∷ back) ≡ front ++ l ∷ []
up_to_unit l [] back f = rw (same_itself l.id) refl
up_to_unit l (o ∷ os) back f = rw (other_id o.id l.id (f o (inl refl))) (ap (λ ps. o ∷ ps) (up_to_unit l os back (λ p i. f p (inr i))))

pub behind_unit : (l : Operation) (front back : List Operation) → HasNot l.id front → units_behind (Some l.id) (front ++ l ∷ back) ≡ back
behind_unit l [] back f = rw (same_itself l.id) refl
behind_unit l (o ∷ os) back f = rw (other_id o.id l.id (f o (inl refl))) (behind_unit l os back (λ p i. f p (inr i)))

-- new units directly behind a unit
pub put_after : (news : List Operation) (l : Operation) (front back : List Operation) → HasNot l.id front →
    put_behind (Some l.id) news (front ++ l ∷ back) ≡ front ++ (l ∷ (news ++ back))
put_after news l front back f = ap₂ (λ xs ys. xs ++ (news ++ ys)) (up_to_unit l front back f) (behind_unit l front back f) ∙ append_assoc front (l ∷ []) (news ++ back)

-- ---- directly before a unit

-- what stands last, or nothing does
pub last_view : (os : List Operation) → (os ≡ []) ⊎ ((front : List Operation) × (l : Operation) × (os ≡ front ++ l ∷ []))
last_view [] = inl refl
last_view (o ∷ os) = elim (last_view os) [
  | inl e ↦ inr ([], o, ap (λ ps. o ∷ ps) e)
  | inr (front, l, e) ↦ inr (o ∷ front, l, ap (λ ps. o ∷ ps) e)
]

before_first : (f : Operation) (before : Option Id) (back : List Operation) → stands_before f.id before (f ∷ back) ≡ before
before_first f before back = rw (same_itself f.id) refl

before_unit : (f l : Operation) (before : Option Id) (front back : List Operation) → HasNot f.id (front ++ l ∷ []) →
    stands_before f.id before ((front ++ l ∷ []) ++ f ∷ back) ≡ Some l.id
before_unit f l before [] back n = rw (other_id l.id f.id (n l (inl refl))) (before_first f (Some l.id) back)
before_unit f l before (o ∷ os) back n = rw (other_id o.id f.id (n o (inl refl))) (before_unit f l (Some o.id) os back (λ p i. n p (inr i)))

pub put_before : (news front : List Operation) (f : Operation) (back : List Operation) → AreApart (front ++ f ∷ back) →
    put_behind (stands_before f.id None (front ++ f ∷ back)) news (front ++ f ∷ back) ≡ front ++ (news ++ f ∷ back)
put_before news front f back apart = elim (last_view front) [
  | inl e ↦ subst (λ os. put_behind (stands_before f.id None (os ++ f ∷ back)) news (os ++ f ∷ back) ≡ os ++ (news ++ f ∷ back)) (sym e)
      (ap (λ p. put_behind p news (f ∷ back)) (before_first f None back))
  | inr (os, l, e) ↦ subst (λ ps. AreApart (ps ++ f ∷ back) → put_behind (stands_before f.id None (ps ++ f ∷ back)) news (ps ++ f ∷ back) ≡ ps ++ (news ++ f ∷ back))
      (sym e) (at os l) apart
]
  where
    at : (os : List Operation) (l : Operation) → AreApart ((os ++ l ∷ []) ++ f ∷ back) →
        put_behind (stands_before f.id None ((os ++ l ∷ []) ++ f ∷ back)) news ((os ++ l ∷ []) ++ f ∷ back) ≡ (os ++ l ∷ []) ++ (news ++ f ∷ back)
    at os l a = ap (λ p. put_behind p news ((os ++ l ∷ []) ++ f ∷ back)) (before_unit f l None os back (λ o i. apart_parts (os ++ l ∷ []) (f ∷ back) a o f i (inl refl)))
        ∙ ap (put_behind (Some l.id) news) (append_assoc os (l ∷ []) (f ∷ back))
        ∙ put_after news l os (f ∷ back) (λ o i. apart_parts os (l ∷ f ∷ back) (subst (λ ps. AreApart ps) (append_assoc os (l ∷ []) (f ∷ back)) a) o l i (inl refl))
        ∙ sym (append_assoc os (l ∷ []) (news ++ f ∷ back))

-- ---- a list split at a unit

pub record SplitAt (os : List Operation) (x : Id) : Type 0 where
  pub front : List Operation
  pub unit : Operation
  pub back : List Operation
  pub parts : os ≡ front ++ unit ∷ back
  pub is : unit.id ≡ x

pub split_at : (os : List Operation) (x : Id) → IsIn x (map (λ (o : Operation). o.id) os) → SplitAt os x
split_at [] x i = absurd i
split_at (o ∷ os) x (inl e) = record { front = []; unit = o; back = os; parts = refl; is = sym e }
split_at (o ∷ os) x (inr i) = let s = split_at os x i in record { front = o ∷ s.front; unit = s.unit; back = s.back; parts = ap (λ ps. o ∷ ps) s.parts; is = s.is }

-- the index of a unit is the number of those before it
pub index_is : (front : List Operation) (f : Operation) (back : List Operation) (index : ℕ) → AreApart (front ++ f ∷ back) → unit_at (front ++ f ∷ back) index ≡ Some f.id →
    length front ≡ index
index_is [] f back zero a e = refl
index_is [] f back (suc index) a e = absurd (a.0 (id_at back index f.id e))
  where
    id_at : (os : List Operation) (n : ℕ) (x : Id) → unit_at os n ≡ Some x → IsIn x (map (λ (o : Operation). o.id) os)
    id_at [] n x g = absurd cc
    id_at (o ∷ os) zero x g = inl cc
    id_at (o ∷ os) (suc n) x g = inr (id_at os n x g)
index_is (o ∷ os) f back zero a e = absurd (a.0 (subst (λ x. IsIn x (map (λ (p : Operation). p.id) (os ++ f ∷ back))) (sym same) (there os)))
  where
    same : o.id ≡ f.id
    same = cc

    there : (ps : List Operation) → IsIn f.id (map (λ (p : Operation). p.id) (ps ++ f ∷ back))
    there [] = inl refl
    there (p ∷ ps) = inr (there ps)
index_is (o ∷ os) f back (suc index) a e = ap suc (index_is os f back index a.1 e)

-- the unit at an index from a unit on
pub unit_behind : (front back : List Operation) (n : ℕ) → unit_at (front ++ back) (length front + n) ≡ unit_at back n
unit_behind [] back n = ap (unit_at back) (none_more n)
  where
    none_more : (m : ℕ) → 0 + m ≡ m
    none_more m = omega arith
unit_behind (o ∷ os) back n = ap (unit_at (o ∷ os ++ back)) (one_more (length os) n) ∙ unit_behind os back n
  where
    one_more : (m k : ℕ) → suc m + k ≡ suc (m + k)
    one_more m k = omega arith

-- an id has one unit
pub apart_one : (os : List Operation) → AreApart os → (o p : Operation) → IsIn o os → IsIn p os → o.id ≡ p.id → o ≡ p
apart_one [] a o p i j e = absurd i
apart_one (q ∷ qs) a o p (inl f) (inl g) e = f ∙ sym g
apart_one (q ∷ qs) a o p (inl f) (inr j) e = absurd (a.0 (subst (λ x. IsIn x (map (λ (r : Operation). r.id) qs)) (sym e ∙ ap (λ (r : Operation). r.id) f) (id_in_map qs p j)))
apart_one (q ∷ qs) a o p (inr i) (inl g) e = absurd (a.0 (subst (λ x. IsIn x (map (λ (r : Operation). r.id) qs)) (e ∙ ap (λ (r : Operation). r.id) g) (id_in_map qs o i)))
apart_one (q ∷ qs) a o p (inr i) (inr j) e = apart_one qs a.1 o p i j e

-- the rest of a list that begins with a unit, up to another
pub starts_with : (first : Operation) (back between : List Operation) (last : Operation) (behind : List Operation) → first ∷ back ≡ between ++ last ∷ behind →
    (rest : List Operation) × (between ++ last ∷ [] ≡ first ∷ rest)
starts_with first back [] last behind e = let same : first ≡ last = cc in ([], ap (λ o. o ∷ []) (sym same))
starts_with first back (b ∷ bs) last behind e = let same : first ≡ b = cc in (bs ++ last ∷ [], ap (λ o. o ∷ (bs ++ last ∷ [])) (sym same))
