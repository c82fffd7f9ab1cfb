-- A list of units with others directly before some of them.
use Rattle.std.proofs.Common.{◌≡◌, ◌≢◌, ◌⊎◌, List, [], ◌∷◌, ◌++◌, Option, Some, None, inl, inr, refl, sym, ap, ap₂, ◌∙◌, subst, append_assoc}
use Rattle.std.specs.Prelude.{if◌then◌else◌}
use Rattle.yd_words.specs.Member.{IsIn}
use Rattle.yd_words.proofs.MemberLemmas.{in_right_part, in_parts}
use Rattle.yd_ids.specs.declared.id.Id.{Id}
use Rattle.yd_ids.specs.Ids.{is_same}
use Rattle.yd_ids.proofs.IdLemmas.{other_id}
use Rattle.yd_ops.specs.Operation.{Operation}
use Rattle.yd_editing.specs.Made.{put_behind}
use Rattle.yd_editing.proofs.AroundLemmas.{HasNot, put_after, last_view}

-- each unit with others before it
abbrev pub with_before : (Id → List Operation) → List Operation → List Operation
with_before f [] = []
with_before f (o ∷ os) = f o.id ++ (o ∷ with_before f os)

-- the same, with these before one unit
abbrev pub and_before : (Id → List Operation) → Id → List Operation → Id → List Operation
and_before f x news y = if is_same y x then news else f y

-- the last unit's id
abbrev pub last_id : List Operation → Option Id
last_id [] = None
last_id (o ∷ []) = Some o.id
last_id (o ∷ p ∷ os) = last_id (p ∷ os)

pub last_is : (os : List Operation) (l : Operation) → last_id (os ++ l ∷ []) ≡ Some l.id
last_is [] l = refl
last_is (o ∷ []) l = refl
last_is (o ∷ p ∷ os) l = last_is (p ∷ os) l

pub before_parts : (f : Id → List Operation) (xs ys : List Operation) → with_before f (xs ++ ys) ≡ with_before f xs ++ with_before f ys
before_parts f [] ys = refl
before_parts f (x ∷ xs) ys = ap (λ os. f x.id ++ (x ∷ os)) (before_parts f xs ys) ∙ sym (append_assoc (f x.id) (x ∷ with_before f xs) (with_before f ys))

-- where nothing is before any of them
pub before_none : (f : Id → List Operation) (xs : List Operation) → ((o : Operation) → IsIn o xs → f o.id ≡ []) → with_before f xs ≡ xs
before_none f [] none = refl
before_none f (x ∷ xs) none = ap₂ (λ us vs. us ++ (x ∷ vs)) (none x (inl refl)) (before_none f xs (λ o i. none o (inr i)))

-- what is there is of the list, or was put before a unit of it
pub in_before : (f : Id → List Operation) (xs : List Operation) (o : Operation) → IsIn o (with_before f xs) → IsIn o xs ⊎ ((y : Id) × IsIn o (f y))
in_before f [] o i = absurd i
in_before f (x ∷ xs) o i = elim (in_parts o (f x.id) (x ∷ with_before f xs) i) [
  | inl a ↦ inr (x.id, a)
  | inr b ↦ elim b [
    | inl e ↦ inl (inl e)
    | inr j ↦ elim (in_before f xs o j) [ inl k ↦ inl (inr k) | inr k ↦ inr k ]
  ]
]

-- others before a unit that is not among these
pub before_other : (f : Id → List Operation) (x : Id) (news xs : List Operation) → HasNot x xs → with_before (and_before f x news) xs ≡ with_before f xs
before_other f x news [] n = refl
before_other f x news (o ∷ os) n = rw (other_id o.id x (n o (inl refl))) (ap (λ ps. f o.id ++ (o ∷ ps)) (before_other f x news os (λ p i. n p (inr i))))

-- new units directly behind the last of a front: they are before the unit that follows
pub put_between : (f : Id → List Operation) (news front back : List Operation) → ((o p : Operation) → IsIn o front → (y : Id) → IsIn p (f y) → o.id ≢ p.id) →
    ((o p : Operation) (fore : List Operation) → front ≡ fore ++ o ∷ [] → IsIn p fore → p.id ≢ o.id) →
    put_behind (last_id front) news (with_before f front ++ back) ≡ with_before f front ++ (news ++ back)
put_between f news front back fresh apart = elim (last_view front) [
  | inl e ↦ subst (λ os. put_behind (last_id os) news (with_before f os ++ back) ≡ with_before f os ++ (news ++ back)) (sym e) refl
  | inr (fore, l, e) ↦ subst (λ os. put_behind (last_id os) news (with_before f os ++ back) ≡ with_before f os ++ (news ++ back)) (sym e)
      (at fore l (λ p i. elim (in_parts p (with_before f fore) (f l.id) i) [
        | inl j ↦ elim (in_before f fore p j) [
          | inl k ↦ apart l p fore e k
          | inr k ↦ (λ g. fresh l p (subst (λ os. IsIn l os) (sym e) (in_right_part l fore (l ∷ []) (inl refl))) k.0 k.1 (sym g))
        ]
        | inr j ↦ (λ g. fresh l p (subst (λ os. IsIn l os) (sym e) (in_right_part l fore (l ∷ []) (inl refl))) l.id j (sym g))
      ]))
]
  where
    at : (fore : List Operation) (l : Operation) → HasNot l.id (with_before f fore ++ f l.id) →
        put_behind (last_id (fore ++ l ∷ [])) news (with_before f (fore ++ l ∷ []) ++ back) ≡ with_before f (fore ++ l ∷ []) ++ (news ++ back)
    at fore l n = (λ i. put_behind (last_is fore l i) news (whole back i))
        ∙ put_after news l (with_before f fore ++ f l.id) back n
        ∙ sym (whole (news ++ back))
      where
        whole : (rest : List Operation) → with_before f (fore ++ l ∷ []) ++ rest ≡ (with_before f fore ++ f l.id) ++ (l ∷ rest)
        whole rest = ap (λ os. os ++ rest) (before_parts f fore (l ∷ []) ∙ sym (append_assoc (with_before f fore) (f l.id) (l ∷ [])))
            ∙ append_assoc (with_before f fore ++ f l.id) (l ∷ []) rest
