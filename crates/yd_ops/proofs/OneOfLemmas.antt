-- Operations in a list, and the ids that they have.
use Rattle.std.proofs.Common.{◌≡◌, ◌≢◌, Bool, true, false, ◌||◌, List, [], ◌∷◌, inl, inr, refl, sym, ap, ◌∙◌, subst, true≢false}
use Rattle.std.proofs.lemmas.Bool.{or_left, or_right, false_from_ne_true}
use Rattle.yd_words.specs.Member.{IsIn}
use Rattle.yd_ids.specs.declared.id.Id.{Id}
use Rattle.yd_ids.specs.Ids.{is_same}
use Rattle.yd_ids.proofs.IdLemmas.{same_says, same_itself}
use Rattle.yd_ops.specs.Operation.{Operation}
use Rattle.yd_ops.specs.Received.{has_operation}

-- an id that is there is that of an operation
pub operation_with : (os : List Operation) (x : Id) → has_operation os x ≡ true → (o : Operation) × IsIn o os × (o.id ≡ x)
operation_with [] x e = absurd (true≢false (sym e))
operation_with (o ∷ os) x e = elim (same_says o.id x) [
  | inl same ↦ (o, inl refl, same.1)
  | inr other ↦ let (p, i, f) = operation_with os x (sym (ap (λ t. t || has_operation os x) other.0) ∙ e) in (p, inr i, f)
]

-- the id of each operation is there
pub id_is_there : (os : List Operation) (o : Operation) → IsIn o os → has_operation os o.id ≡ true
id_is_there [] o i = absurd i
id_is_there (p ∷ ps) o (inl e) = or_left (is_same p.id o.id) (has_operation ps o.id) (subst (λ q. is_same p.id q.id ≡ true) (sym e) (same_itself p.id))
id_is_there (p ∷ ps) o (inr i) = or_right (is_same p.id o.id) (has_operation ps o.id) (id_is_there ps o i)

-- the id of an operation that is there, where it is known as another's
pub id_there : (os : List Operation) (o : Operation) (x : Id) → IsIn o os → o.id ≡ x → has_operation os x ≡ true
id_there os o x i e = subst (λ y. has_operation os y ≡ true) e (id_is_there os o i)

-- an id that is not there is no operation's
pub id_not_there : (os : List Operation) (x : Id) → has_operation os x ≡ false → (o : Operation) → IsIn o os → o.id ≢ x
id_not_there os x none o i e = true≢false (sym (id_there os o x i e) ∙ none)

-- an id that no operation has is not there
pub none_has : (os : List Operation) (x : Id) → ((o : Operation) → IsIn o os → o.id ≢ x) → has_operation os x ≡ false
none_has os x none = false_from_ne_true (has_operation os x) (λ e. let (o, i, same) = operation_with os x e in none o i same)

-- a list with the operations of another has its ids
pub ids_stay : (os ps : List Operation) (x : Id) → ((o : Operation) → IsIn o os → IsIn o ps) → has_operation os x ≡ true → has_operation ps x ≡ true
ids_stay os ps x all e = let (o, i, same) = operation_with os x e in id_there ps o x (all o i) same

-- what ids the rest of a list has, the list has
pub has_behind : (o : Operation) (os : List Operation) (x : Id) → has_operation os x ≡ true → has_operation (o ∷ os) x ≡ true
has_behind o os x e = rw e (or_true (is_same o.id x))
  where
    or_true : (t : Bool) → (t || true) ≡ true
    or_true true = refl
    or_true false = refl
