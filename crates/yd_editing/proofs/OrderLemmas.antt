-- Lists of ids and of units around one of them.
use Rattle.std.proofs.Common.{◌≡◌, Bool, true, false, List, [], ◌∷◌, ◌++◌, map, Option, Some, None, inl, inr, refl, sym, ap, ap₂, ◌∙◌}
use Rattle.std.specs.Prelude.{if◌then◌else◌}
use Rattle.std.proofs.lemmas.List.{map-append}
use Rattle.yd_words.specs.Member.{IsIn, AreDistinct}
use Rattle.yd_ids.specs.declared.id.Id.{Id}
use Rattle.yd_ids.specs.Ids.{is_same}
use Rattle.yd_origins.specs.Parts.{behind, first_of, up_to}
use Rattle.yd_ids.proofs.IdLemmas.{same_itself, other_id}
use Rattle.yd_ops.specs.Operation.{Operation}
use Rattle.yd_origins.specs.Table.{ids_of}
use Rattle.yd_meaning.specs.Order.{rows_of}
use Rattle.yd_meaning.proofs.RowLemmas.{one_operation}
use Rattle.yd_editing.specs.Made.{units_up_to, units_behind, id_of_first, put_behind}

-- ---- an id in the middle

pub behind_parts : (u : Id) (xs ys : List Id) → (IsIn u xs → ⊥) → behind (Some u) (xs ++ u ∷ ys) ≡ ys
behind_parts u [] ys f = rw (same_itself u) refl
behind_parts u (x ∷ xs) ys f = rw (other_id x u (λ e. f (inl (sym e)))) (behind_parts u xs ys (λ i. f (inr i)))

pub up_to_parts : (u : Id) (xs ys : List Id) → (IsIn u xs → ⊥) → up_to (Some u) (xs ++ u ∷ ys) ≡ xs ++ u ∷ []
up_to_parts u [] ys f = rw (same_itself u) refl
up_to_parts u (x ∷ xs) ys f = rw (other_id x u (λ e. f (inl (sym e)))) (ap (λ zs. x ∷ zs) (up_to_parts u xs ys (λ i. f (inr i))))

-- ---- units and their ids

pub map_up_to : (p : Option Id) (os : List Operation) → map (λ (o : Operation). o.id) (units_up_to p os) ≡ up_to p (map (λ (o : Operation). o.id) os)
map_up_to None os = refl
map_up_to (Some p) [] = refl
map_up_to (Some p) (o ∷ os) = go (is_same o.id p) (map_up_to (Some p) os)
  where
    go : (t : Bool) → map (λ (o : Operation). o.id) (units_up_to (Some p) os) ≡ up_to (Some p) (map (λ (o : Operation). o.id) os) →
        map (λ (o : Operation). o.id) (o ∷ (if t then [] else units_up_to (Some p) os)) ≡ o.id ∷ (if t then [] else up_to (Some p) (map (λ (o : Operation). o.id) os))
    go true e = refl
    go false e = ap (λ ids. o.id ∷ ids) e

pub map_behind : (p : Option Id) (os : List Operation) → map (λ (o : Operation). o.id) (units_behind p os) ≡ behind p (map (λ (o : Operation). o.id) os)
map_behind None os = refl
map_behind (Some p) [] = refl
map_behind (Some p) (o ∷ os) = go (is_same o.id p) (map_behind (Some p) os)
  where
    go : (t : Bool) → map (λ (o : Operation). o.id) (units_behind (Some p) os) ≡ behind (Some p) (map (λ (o : Operation). o.id) os) →
        map (λ (o : Operation). o.id) (if t then os else units_behind (Some p) os)
        ≡ (if t then map (λ (o : Operation). o.id) os else behind (Some p) (map (λ (o : Operation). o.id) os))
    go true e = refl
    go false e = e

pub first_is : (os : List Operation) → id_of_first os ≡ first_of (map (λ (o : Operation). o.id) os)
first_is [] = refl
first_is (o ∷ os) = refl

pub map_put : (p : Option Id) (news os : List Operation) → map (λ (o : Operation). o.id) (put_behind p news os)
    ≡ up_to p (map (λ (o : Operation). o.id) os) ++ (map (λ (o : Operation). o.id) news ++ behind p (map (λ (o : Operation). o.id) os))
map_put p news os = map-append (λ (o : Operation). o.id) (units_up_to p os) (news ++ units_behind p os)
    ∙ ap₂ (λ xs ys. xs ++ ys) (map_up_to p os) (map-append (λ (o : Operation). o.id) news (units_behind p os)
    ∙ ap (λ ys. map (λ (o : Operation). o.id) news ++ ys) (map_behind p os))

-- the units around one are those of the list
pub up_to_in : (p : Option Id) (os : List Operation) (o : Operation) → IsIn o (units_up_to p os) → IsIn o os
up_to_in None os o i = absurd i
up_to_in (Some p) [] o i = absurd i
up_to_in (Some p) (q ∷ qs) o (inl e) = inl e
up_to_in (Some p) (q ∷ qs) o (inr i) = inr (go (is_same q.id p) i (λ j. up_to_in (Some p) qs o j))
  where
    go : (t : Bool) → IsIn o (if t then [] else units_up_to (Some p) qs) → (IsIn o (units_up_to (Some p) qs) → IsIn o qs) → IsIn o qs
    go true i f = absurd i
    go false i f = f i

pub behind_in : (p : Option Id) (os : List Operation) (o : Operation) → IsIn o (units_behind p os) → IsIn o os
behind_in None os o i = i
behind_in (Some p) [] o i = absurd i
behind_in (Some p) (q ∷ qs) o i = inr (go (is_same q.id p) i (λ j. behind_in (Some p) qs o j))
  where
    go : (t : Bool) → IsIn o (if t then qs else units_behind (Some p) qs) → (IsIn o (units_behind (Some p) qs) → IsIn o qs) → IsIn o qs
    go true i f = i
    go false i f = f i

pub units_parts : (p : Option Id) (os : List Operation) → units_up_to p os ++ units_behind p os ≡ os
units_parts None os = refl
units_parts (Some p) [] = refl
units_parts (Some p) (o ∷ os) = go (is_same o.id p) (units_parts (Some p) os)
  where
    go : (t : Bool) → units_up_to (Some p) os ++ units_behind (Some p) os ≡ os →
        (o ∷ (if t then [] else units_up_to (Some p) os)) ++ (if t then os else units_behind (Some p) os) ≡ o ∷ os
    go true e = refl
    go false e = ap (λ ps. o ∷ ps) e

-- ---- units of one set

-- two lists of operations of a set with the same ids are one
pub same_units : (held : List Operation) → AreDistinct (ids_of (rows_of held)) → (os ps : List Operation) → ((o : Operation) → IsIn o os → IsIn o held) →
    ((o : Operation) → IsIn o ps → IsIn o held) → map (λ (o : Operation). o.id) os ≡ map (λ (o : Operation). o.id) ps → os ≡ ps
same_units held distinct [] [] f g e = refl
same_units held distinct [] (p ∷ ps) f g e = absurd cc
same_units held distinct (o ∷ os) [] f g e = absurd cc
same_units held distinct (o ∷ os) (p ∷ ps) f g e =
    let heads : o.id ≡ p.id = cc in let tails : map (λ (q : Operation). q.id) os ≡ map (λ (q : Operation). q.id) ps = cc in
    ap₂ (λ q qs. q ∷ qs) (one_operation held distinct o p (f o (inl refl)) (g p (inl refl)) heads)
    (same_units held distinct os ps (λ q i. f q (inr i)) (λ q i. g q (inr i)) tails)
