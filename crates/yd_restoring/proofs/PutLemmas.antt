-- One group is made: what counts as shown before, the made units show now.
use Rattle.std.proofs.Common.{◌≡◌, ◌≢◌, ◌⊎◌, ℕ, ◌<◌, ◌≤◌, ◌&&◌, ◌||◌, Bool, true, false, List, [], ◌∷◌, ◌++◌, inl, inr, refl, sym, ap, ap₂, ◌∙◌, subst, append_assoc, arith, true≢false}
use Rattle.std.proofs.lemmas.List.{map-append}
use Rattle.std.proofs.lemmas.List.Elements.{filter-append}
use Rattle.std.specs.Prelude.{filter, if◌then◌else◌}
use Rattle.yd_words.specs.Member.{IsIn}
use Rattle.yd_words.proofs.FilterLemmas.{filter_alike, filter-all}
use Rattle.yd_words.proofs.MemberLemmas.{in_left_part, in_right_part}
use Rattle.yd_ids.specs.declared.id.Client.{Client}
use Rattle.yd_ids.specs.declared.id.Id.{Id}
use Rattle.yd_ids.specs.Ids.{is_same}
use Rattle.yd_ids.proofs.IdLemmas.{same_itself, other_id}
use Rattle.yd_ops.specs.Operation.{UnitContent, Operation}
use Rattle.yd_copying.specs.Content.{can_be_made}
use Rattle.yd_editing.specs.Made.{put_behind}
use Rattle.yd_editing.proofs.AroundLemmas.{HasNot}
use Rattle.yd_editing.proofs.DeleteLemmas.{apart_parts}
use Rattle.yd_editing.proofs.IndexLemmas.{AreApart}
use Rattle.yd_restoring.specs.Again.{contents, AreAgain}
use Rattle.yd_restoring.proofs.AgainLemmas.{again_same, again_both}
use Rattle.yd_restoring.proofs.BeforeLemmas.{with_before, and_before, last_id, before_parts, before_none, in_before, before_other, put_between}

-- what no unit passes keeps none
filter_none : (test : Operation → Bool) (os : List Operation) → ((o : Operation) → IsIn o os → test o ≡ false) → filter test os ≡ []
filter_none test [] f = refl
filter_none test (o ∷ os) f = rw (f o (inl refl)) (filter_none test os (λ p i. f p (inr i)))

-- ---- what counts as shown

-- a unit counts: it is live, or is left to be made again
abbrev pub counts : (Id → Bool) → (Id → Bool) → Operation → Bool
counts live left o = live o.id || (left o.id && can_be_made o.content)

abbrev pub counted : (Id → Bool) → (Id → Bool) → List Operation → List UnitContent
counted live left os = contents (filter (counts live left) os)

counted_parts : (live left : Id → Bool) (xs ys : List Operation) → counted live left (xs ++ ys) ≡ counted live left xs ++ counted live left ys
counted_parts live left xs ys = ap contents (filter-append (counts live left) xs ys) ∙ map-append (λ (o : Operation). o.content) (filter (counts live left) xs) (filter (counts live left) ys)

pub counted_alike : (live left other : Id → Bool) (os : List Operation) → ((o : Operation) → IsIn o os → counts live left o ≡ counts live other o) →
    counted live left os ≡ counted live other os
counted_alike live left other os same = ap contents (filter_alike (counts live left) (counts live other) os same)

-- ---- the list as it has become

-- units of a client from a clock on are before the units of a list, and none is before one that is left
pub record Grown (client : Client) (start : ℕ) (left : Id → Bool) (units list : List Operation) : Type 0 where
  pub before : Id → List Operation
  pub is : list ≡ with_before before units
  pub none : (x : Id) → left x ≡ true → before x ≡ []
  pub new : (x : Id) (o : Operation) → IsIn o (before x) → (o.id.client ≡ client) × (start ≤ o.id.clock)

-- where less is left
pub grown_less : (client : Client) (start : ℕ) (left less : Id → Bool) (units list : List Operation) → ((x : Id) → less x ≡ true → left x ≡ true) →
    Grown client start left units list → Grown client start less units list
grown_less client start left less units list f g = record { before = g.before; is = g.is; none = λ x e. g.none x (f x e); new = g.new }

-- at the start
pub grown_first : (client : Client) (start : ℕ) (left : Id → Bool) (units : List Operation) → Grown client start left units units
grown_first client start left units = record { before = λ x. []; is = sym (before_none (λ x. []) units (λ o i. refl)); none = λ x e. refl; new = λ x o i. absurd i }

module _ (client : Client) (start : ℕ) (live : Id → Bool) (fresh : (x : Id) → x.client ≡ client → start ≤ x.clock → live x ≡ true) where
  -- what is there is of the units, or new
  pub one_of : (left : Id → Bool) (units list : List Operation) → Grown client start left units list → (o : Operation) → IsIn o list →
      IsIn o units ⊎ ((o.id.client ≡ client) × (start ≤ o.id.clock))
  one_of left units list g o i = elim (in_before g.before units o (subst (λ os. IsIn o os) g.is i)) [ inl a ↦ inl a | inr b ↦ inr (g.new b.0 o b.1) ]

  module _ (left less : Id → Bool) (front group back news list : List Operation) (first : Operation) (rest : List Operation) (starts : group ≡ first ∷ rest)
      (apart : AreApart (front ++ (group ++ back)))
      (older : (o : Operation) → IsIn o (front ++ (group ++ back)) → o.id.client ≡ client → o.id.clock < start)
      (are_left : (o : Operation) → IsIn o group → (left o.id ≡ true) × (can_be_made o.content ≡ true) × (live o.id ≡ false) × (less o.id ≡ false))
      (others : (y : Id) → ((o : Operation) → IsIn o group → o.id ≢ y) → less y ≡ left y)
      (are_new : (o : Operation) → IsIn o news → (o.id.client ≡ client) × (start ≤ o.id.clock))
      (again : AreAgain (contents news) (contents group))
      (g : Grown client start left (front ++ (group ++ back)) list) where
    abbrev f : Id → List Operation
    f = g.before

    abbrev x : Id
    x = first.id

    in_group : (o : Operation) → IsIn o group → IsIn o (front ++ (group ++ back))
    in_group o i = in_right_part o front (group ++ back) (in_left_part o group back i)

    first_in : IsIn first group
    first_in = subst (λ os. IsIn first os) (sym starts) (inl refl)

    -- what is new is no unit of the list
    new_differs : (o p : Operation) → IsIn o (front ++ (group ++ back)) → (p.id.client ≡ client) × (start ≤ p.id.clock) → o.id ≢ p.id
    new_differs o p i n e = absurd (omega (arith, older o i (ap (λ (y : Id). y.client) e ∙ n.0), ap (λ (y : Id). y.clock) e, n.1))

    group_bare : with_before f group ≡ group
    group_bare = before_none f group (λ o i. g.none o.id (are_left o i).0)

    list_parts : list ≡ with_before f front ++ (group ++ with_before f back)
    list_parts = g.is ∙ before_parts f front (group ++ back) ∙ ap (λ os. with_before f front ++ os) (before_parts f group back ∙ ap (λ os. os ++ with_before f back) group_bare)

    put_parts : put_behind (last_id front) news list ≡ with_before f front ++ (news ++ (group ++ with_before f back))
    put_parts = ap (put_behind (last_id front) news) list_parts ∙ put_between f news front (group ++ with_before f back)
        (λ o p i y j. new_differs o p (in_left_part o front (group ++ back) i) (g.new y p j))
        (λ o p fore e i. apart_parts fore (o ∷ (group ++ back))
        (subst (λ os. AreApart os) (ap (λ os. os ++ (group ++ back)) e ∙ append_assoc fore (o ∷ []) (group ++ back)) apart) p o i (inl refl))

    -- no unit of the front or of the back has the id of one of the group
    front_differs : (o p : Operation) → IsIn o front → IsIn p group → o.id ≢ p.id
    front_differs o p i j = apart_parts front (group ++ back) apart o p i (in_left_part p group back j)

    back_differs : (o p : Operation) → IsIn o back → IsIn p group → o.id ≢ p.id
    back_differs o p i j e = apart_parts group back (apart_of front (group ++ back) apart) p o j i (sym e)
      where
        apart_of : (xs ys : List Operation) → AreApart (xs ++ ys) → AreApart ys
        apart_of [] ys a = a
        apart_of (z ∷ xs) ys a = apart_of xs ys a.1

    -- ---- the list with the new units

    abbrev now : Id → List Operation
    now = and_before f x news

    rest_differs : HasNot x rest
    rest_differs o i e = apart_parts (front ++ first ∷ []) (rest ++ back) (subst (λ os. AreApart os) whole apart) first o
        (in_right_part first front (first ∷ []) (inl refl)) (in_left_part o rest back i) (sym e)
      where
        whole : front ++ (group ++ back) ≡ (front ++ first ∷ []) ++ (rest ++ back)
        whole = ap (λ os. front ++ (os ++ back)) starts ∙ sym (append_assoc front (first ∷ []) (rest ++ back))

    group_now : with_before now group ≡ news ++ group
    group_now = ap (with_before now) starts
        ∙ ap₂ (λ us vs. us ++ (first ∷ vs)) (ap (λ t. if t then news else f x) (same_itself x)) (before_other f x news rest rest_differs ∙ rest_bare)
        ∙ ap (λ os. news ++ os) (sym starts)
      where
        rest_bare : with_before f rest ≡ rest
        rest_bare = before_none f rest (λ o i. g.none o.id (are_left o (subst (λ os. IsIn o os) (sym starts) (inr i))).0)

    put_is : put_behind (last_id front) news list ≡ with_before now (front ++ (group ++ back))
    put_is = put_parts
        ∙ sym (before_parts now front (group ++ back)
        ∙ ap₂ (λ us vs. us ++ vs) (before_other f x news front (λ o i. front_differs o first i first_in))
        (before_parts now group back ∙ ap₂ (λ us vs. us ++ vs) group_now (before_other f x news back (λ o i. back_differs o first i first_in))
        ∙ append_assoc news group (with_before f back)))

    not_of_group : (y : Id) → less y ≡ true → (o : Operation) → IsIn o group → o.id ≢ y
    not_of_group y e o i same = true≢false (sym e ∙ ap less (sym same) ∙ (are_left o i).3)

    pub grown : Grown client start less (front ++ (group ++ back)) (put_behind (last_id front) news list)
    grown = record {
      before = now;
      is = put_is;
      none = λ y e. ap (λ t. if t then news else f y) (other_id y x (λ same. not_of_group y e first first_in (sym same))) ∙ g.none y (sym (others y (not_of_group y e)) ∙ e);
      new = λ y o i. elim (in_either (is_same y x) y o i) [ inl a ↦ are_new o a | inr b ↦ g.new y o b ];
    }
      where
        in_either : (t : Bool) (y : Id) (o : Operation) → IsIn o (if t then news else f y) → IsIn o news ⊎ IsIn o (f y)
        in_either true y o i = inl i
        in_either false y o i = inr i

    -- ---- what counts

    same_test : (o : Operation) → ((p : Operation) → IsIn p group → p.id ≢ o.id) → counts live less o ≡ counts live left o
    same_test o n = ap (λ t. live o.id || (t && can_be_made o.content)) (others o.id n)

    front_same : counted live less (with_before f front) ≡ counted live left (with_before f front)
    front_same = counted_alike live less left (with_before f front) (λ o i. same_test o (λ p j. elim (in_before f front o i) [
      | inl a ↦ (λ e. front_differs o p a j (sym e))
      | inr b ↦ new_differs p o (in_group p j) (g.new b.0 o b.1)
    ]))

    back_same : counted live less (with_before f back) ≡ counted live left (with_before f back)
    back_same = counted_alike live less left (with_before f back) (λ o i. same_test o (λ p j. elim (in_before f back o i) [
      | inl a ↦ (λ e. back_differs o p a j (sym e))
      | inr b ↦ new_differs p o (in_group p j) (g.new b.0 o b.1)
    ]))

    group_counts : counted live left group ≡ contents group
    group_counts = ap contents (filter-all (counts live left) group (λ o i. passes o (are_left o i)))
      where
        passes : (o : Operation) → (left o.id ≡ true) × (can_be_made o.content ≡ true) × (live o.id ≡ false) × (less o.id ≡ false) → counts live left o ≡ true
        passes o (a, b, c, d) = rw (a, b, c) refl

    group_gone : counted live less group ≡ []
    group_gone = ap contents (filter_none (counts live less) group (λ o i. fails o (are_left o i)))
      where
        fails : (o : Operation) → (left o.id ≡ true) × (can_be_made o.content ≡ true) × (live o.id ≡ false) × (less o.id ≡ false) → counts live less o ≡ false
        fails o (a, b, c, d) = rw (c, d) refl

    news_count : counted live less news ≡ contents news
    news_count = ap contents (filter-all (counts live less) news (λ o i. ap (λ t. t || (less o.id && can_be_made o.content)) (fresh o.id (are_new o i).0 (are_new o i).1)))

    pub count_again : AreAgain (counted live less (put_behind (last_id front) news list)) (counted live left list)
    count_again = subst (λ us. AreAgain us (counted live left list)) (sym after)
        (subst (λ us. AreAgain (counted live left (with_before f front) ++ (contents news ++ counted live left (with_before f back))) us) (sym before)
        (again_both (counted live left (with_before f front)) (counted live left (with_before f front))
        (contents news ++ counted live left (with_before f back)) (contents group ++ counted live left (with_before f back))
        (again_same (counted live left (with_before f front)))
        (again_both (contents news) (contents group) (counted live left (with_before f back)) (counted live left (with_before f back)) again
        (again_same (counted live left (with_before f back))))))
      where
        before : counted live left list ≡ counted live left (with_before f front) ++ (contents group ++ counted live left (with_before f back))
        before = ap (counted live left) list_parts ∙ counted_parts live left (with_before f front) (group ++ with_before f back)
            ∙ ap (λ us. counted live left (with_before f front) ++ us)
            (counted_parts live left group (with_before f back) ∙ ap (λ us. us ++ counted live left (with_before f back)) group_counts)

        after : counted live less (put_behind (last_id front) news list)
            ≡ counted live left (with_before f front) ++ (contents news ++ counted live left (with_before f back))
        after = ap (counted live less) put_parts ∙ counted_parts live less (with_before f front) (news ++ (group ++ with_before f back))
            ∙ ap₂ (λ us vs. us ++ vs) front_same
            (counted_parts live less news (group ++ with_before f back)
            ∙ ap₂ (λ us vs. us ++ vs) news_count
            (counted_parts live less group (with_before f back) ∙ ap₂ (λ us vs. us ++ vs) group_gone back_same))
