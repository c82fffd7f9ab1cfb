-- What is received of updates that are alike or agree: neither order nor repeats nor merges matter.
use Rattle.std.proofs.Common.{ℕ, ◌≡◌, ◌↔◌, List, [], ◌∷◌, ◌++◌, ◌⊎◌, inl, inr, refl, sym, ap, ◌∙◌, subst, arith}
use Rattle.yd_words.specs.Each.{Each}
use Rattle.yd_words.specs.Member.{IsIn}
use Rattle.yd_words.proofs.EachLemmas.{each_append}
use Rattle.yd_words.proofs.MemberLemmas.{in_left_part, in_right_part, in_parts}
use Rattle.yd_ids.specs.declared.id.Id.{Id}
use Rattle.yd_ids.specs.Set.{HasId, AreMaximal, union_of}
use Rattle.yd_ids.proofs.UnionLemmas.{sets_same, union_maximal, union_ids}
use Rattle.yd_ops.specs.Operation.{Operation, operations_of, level_of, as_level}
use Rattle.yd_ops.specs.Value.{UpdateValue}
use Rattle.yd_ops.specs.Valid.{IsValidUpdate}
use Rattle.yd_ops.specs.Received.{IsWritten, with_groups, groups_of, Received, nothing_received, received_after, received_more, received_set}
use Rattle.yd_ops.specs.Deletes.{deletes_of, SpellLess}
use Rattle.yd_ops.specs.Agreement.{operations_of_all, ShareId, AreAlike, Agree, SaysLeast, DeleteId, HaveSameContents, SaysNoMore, SayTheSame}
use Rattle.yd_ops.proofs.LevelLemmas.{half_full, AreBare, down_to_level}
use Rattle.yd_ops.proofs.PartnerLemmas.{AreOnePair, IsHalf, partners_decide, pair_flip, pair_half, one_partner}
use Rattle.yd_ops.proofs.WritingLemmas.{written_alone}
use Rattle.yd_ops.proofs.MendingLemmas.{HasPartners}
use Rattle.yd_ops.proofs.GroupLemmas.{all_of, all_of-append, update_groups, update_partners, all_partners, bare_append, update_bare, deletes_of-maximal}
use Rattle.yd_ops.proofs.ReceivingLemmas.{AreAmong, IsBereft, IsSoFar, so_far_same, take_groups, IsReceivedOf, received_of_same, received_from, received_there}
use Rattle.yd_ops.proofs.TurnLemmas.{with_groups-append, groups_written, groups_paired}
use Rattle.yd_ops.proofs.ReceivedLemmas.{one_received}

-- ---- the operations of updates

abbrev groups_of_all : List UpdateValue → List (List Operation)
groups_of_all [] = []
groups_of_all (update ∷ updates) = groups_of update ++ groups_of_all updates

all_operations : (updates : List UpdateValue) → all_of (groups_of_all updates) ≡ operations_of_all updates
all_operations [] = refl
all_operations (update ∷ updates) = all_of-append (groups_of update) (groups_of_all updates) ∙ rw (update_groups update, all_operations updates) refl

groups_partners : (updates : List UpdateValue) → Each IsValidUpdate updates → Each HasPartners (groups_of_all updates)
groups_partners [] valid = tt
groups_partners (update ∷ updates) valid = each_append HasPartners (groups_of update) (groups_of_all updates) (update_partners update valid.0) (groups_partners updates valid.1)

all_bare : (updates : List UpdateValue) → AreBare (operations_of_all updates)
all_bare [] = λ o i none. absurd i
all_bare (update ∷ updates) = bare_append (operations_of update) (operations_of_all updates) (update_bare update) (all_bare updates)

-- what is received of updates is what is taken in of their structs
more_operations : (r : Received) (updates : List UpdateValue) → (received_more r updates).operations ≡ with_groups (groups_of_all updates) r.operations
more_operations r [] = refl
more_operations r (update ∷ updates) = more_operations (received_after r update) updates ∙ sym (with_groups-append (groups_of update) (groups_of_all updates) r.operations)

pub received_written : (updates : List UpdateValue) → IsWritten (received_set updates).operations
received_written updates = subst (λ os. IsWritten os) (sym (more_operations nothing_received updates)) (groups_written (groups_of_all updates) [] tt)

received_partners : (updates : List UpdateValue) → HasPartners (received_set updates).operations
received_partners updates = subst (λ os. HasPartners os) (sym (more_operations nothing_received updates)) (groups_paired (groups_of_all updates) [] (λ o i half. absurd i))

received_so_far : (updates : List UpdateValue) → Each IsValidUpdate updates → AreAlike (operations_of_all updates) → IsSoFar (received_set updates).operations (operations_of_all updates)
received_so_far updates valid alike = subst (λ os. IsSoFar os (operations_of_all updates)) (sym (more_operations nothing_received updates))
    (so_far_same (with_groups (groups_of_all updates) []) (all_of (groups_of_all updates) ++ []) (operations_of_all updates) (λ o i. there o (in_parts o (all_of (groups_of_all updates)) [] i))
    (λ o i. in_left_part o (all_of (groups_of_all updates)) [] (subst (λ os. IsIn o os) (sym (all_operations updates)) i))
    (take_groups (operations_of_all updates) alike (all_bare updates) (groups_of_all updates) [] [] (λ o i. absurd i)
    (λ o i. subst (λ os. IsIn o os) (all_operations updates) i) (λ o i half. absurd i) (groups_partners updates valid)
    record { written = tt; ids = λ o i. absurd i; from = λ q i. absurd i; least = λ q o i j e. absurd i }))
  where
    there : (o : Operation) → IsIn o (all_of (groups_of_all updates)) ⊎ IsIn o [] → IsIn o (operations_of_all updates)
    there o (inl i) = subst (λ os. IsIn o os) (all_operations updates) i
    there o (inr i) = absurd i

-- what is received of updates that are alike
pub received_like : (updates : List UpdateValue) → Each IsValidUpdate updates → AreAlike (operations_of_all updates) → (q : Operation) →
    IsIn q (received_set updates).operations ↔ IsReceivedOf (operations_of_all updates) q
received_like updates valid alike q = (
  (λ i. received_from (operations_of_all updates) alike (all_bare updates) (received_set updates).operations (received_partners updates) (received_so_far updates valid alike) q i),
  (λ of. received_there (operations_of_all updates) alike (all_bare updates) (received_set updates).operations (received_partners updates) (received_so_far updates valid alike) q of),
)

-- ---- agreement

update_with : (updates : List UpdateValue) → Each IsValidUpdate updates → (o : Operation) → IsIn o (operations_of_all updates) →
    (update : UpdateValue) × IsIn update updates × IsValidUpdate update × IsIn o (operations_of update)
update_with [] valid o i = absurd i
update_with (update ∷ updates) valid o i = elim (in_parts o (operations_of update) (operations_of_all updates) i) [
  | inl j ↦ (update, inl refl, valid.0, j)
  | inr j ↦ let (u, k, is, l) = update_with updates valid.1 o j in (u, inr k, is, l)
]

of_update : (updates : List UpdateValue) (update : UpdateValue) → IsIn update updates → (o : Operation) → IsIn o (operations_of update) → IsIn o (operations_of_all updates)
of_update [] update i o j = absurd i
of_update (u ∷ updates) update (inl e) o j = in_left_part o (operations_of u) (operations_of_all updates) (subst (λ (v : UpdateValue). IsIn o (operations_of v)) e j)
of_update (u ∷ updates) update (inr i) o j = in_right_part o (operations_of u) (operations_of_all updates) (of_update updates update i o j)

-- under agreement no partner of what says least is spelled less
not_bereft : (updates : List UpdateValue) → Each IsValidUpdate updates → Agree updates → (o : Operation) → IsIn o (operations_of_all updates) → SaysLeast (operations_of_all updates) o →
    IsBereft (operations_of_all updates) o → ⊥
not_bereft updates valid agree o i least (p, j, pair, (s, k, e, low)) =
    let (update, in_updates, is, l) = update_with updates valid o i in
    let half : IsHalf o.content = pair_half p o (pair_flip o p pair) in
    let (q, m, other) = subst (λ os. HasPartners os) (update_groups update) (all_partners (groups_of update) (update_partners update is)) o l half in
    let (also, in_also, is_also, n) = update_with updates valid s k in
    let (t, h, f, less) = collected update in_updates also in_also q l m other (s, n, e ∙ one_partner o p q pair other, low) in
    absurd (omega (arith, half_full o.content half, less, least t (of_update updates also in_also t h) (sym f)))
  where
    collected : (update : UpdateValue) → IsIn update updates → (also : UpdateValue) → IsIn also updates → (q : Operation) → IsIn o (operations_of update) →
        IsIn q (operations_of update) → AreOnePair o q → SpellLess (operations_of also) q.id → SpellLess (operations_of also) o.id
    collected update in_updates also in_also q l m (inl behind) less = (agree.collected update also in_updates in_also o q l m ((partners_decide o q).1 behind)).1 less
    collected update in_updates also in_also q l m (inr before) less = (agree.collected update also in_updates in_also q o m l ((partners_decide q o).1 before)).0 less

-- under agreement what says least of each id is received as it was handed in
pub received_is : (updates : List UpdateValue) → Each IsValidUpdate updates → Agree updates → (o : Operation) →
    IsIn o (received_set updates).operations ↔ (IsIn o (operations_of_all updates) × SaysLeast (operations_of_all updates) o)
received_is updates valid agree o = (
  (λ i. as_it_is ((received_like updates valid agree.alike o).0 i)),
  (λ b. (received_like updates valid agree.alike o).1 (inl (b.0, b.1, not_bereft updates valid agree o b.0 b.1))),
)
  where
    as_it_is : IsReceivedOf (operations_of_all updates) o → IsIn o (operations_of_all updates) × SaysLeast (operations_of_all updates) o
    as_it_is (inl (i, least, none)) = (i, least)
    as_it_is (inr (p, i, least, bereft, e)) = absurd (not_bereft updates valid agree p i least bereft)

-- ---- the deletions of updates

more_deletes : (r : Received) (updates : List UpdateValue) (x : Id) → HasId (received_more r updates).deletes x ↔ (HasId r.deletes x ⊎ DeleteId updates x)
more_deletes r [] x = ((λ h. inl h), (λ h. elim h [ inl k ↦ k | inr k ↦ absurd k ]))
more_deletes r (update ∷ updates) x = step (more_deletes (received_after r update) updates x) (union_ids r.deletes (deletes_of update) x)
  where
    step : HasId (received_more (received_after r update) updates).deletes x ↔ (HasId (union_of r.deletes (deletes_of update)) x ⊎ DeleteId updates x) →
        HasId (union_of r.deletes (deletes_of update)) x ↔ (HasId r.deletes x ⊎ HasId (deletes_of update) x) →
        HasId (received_more (received_after r update) updates).deletes x ↔ (HasId r.deletes x ⊎ (HasId (deletes_of update) x ⊎ DeleteId updates x))
    step later first = ((λ h. there (later.0 h)), (λ h. later.1 (back h)))
      where
        there : HasId (union_of r.deletes (deletes_of update)) x ⊎ DeleteId updates x → HasId r.deletes x ⊎ (HasId (deletes_of update) x ⊎ DeleteId updates x)
        there (inl h) = elim (first.0 h) [ inl k ↦ inl k | inr k ↦ inr (inl k) ]
        there (inr h) = inr (inr h)

        back : HasId r.deletes x ⊎ (HasId (deletes_of update) x ⊎ DeleteId updates x) → HasId (union_of r.deletes (deletes_of update)) x ⊎ DeleteId updates x
        back (inl h) = inl (first.1 (inl h))
        back (inr (inl h)) = inl (first.1 (inr h))
        back (inr (inr h)) = inr h

more_maximal : (r : Received) (updates : List UpdateValue) → AreMaximal r.deletes → Each IsValidUpdate updates → AreMaximal (received_more r updates).deletes
more_maximal r [] maximal valid = maximal
more_maximal r (update ∷ updates) maximal valid = more_maximal (received_after r update) updates (union_maximal r.deletes (deletes_of update) maximal (deletes_of-maximal update valid.0)) valid.1

-- all deletions are received, and no others
pub received_deletes : (updates : List UpdateValue) (x : Id) → HasId (received_set updates).deletes x ↔ DeleteId updates x
received_deletes updates x = let more = more_deletes nothing_received updates x in ((λ h. elim (more.0 h) [ inl k ↦ absurd k | inr k ↦ k ]), (λ h. more.1 (inr h)))

pub received_maximal : (updates : List UpdateValue) → Each IsValidUpdate updates → AreMaximal (received_set updates).deletes
received_maximal updates valid = more_maximal nothing_received updates tt valid

-- two received sets with the same operations and the same deleted ids are one
same_received : (one other : List UpdateValue) → Each IsValidUpdate one → Each IsValidUpdate other →
    ((o : Operation) → IsIn o (received_set one).operations → IsIn o (received_set other).operations) →
    ((o : Operation) → IsIn o (received_set other).operations → IsIn o (received_set one).operations) →
    ((x : Id) → DeleteId one x ↔ DeleteId other x) → received_set one ≡ received_set other
same_received one other valid other_valid there back deletes = one_received (received_set one) (received_set other)
    (written_alone (received_set one).operations (received_set other).operations (received_written one) (received_written other) there back)
    (sets_same (received_set one).deletes (received_set other).deletes (received_maximal one valid) (received_maximal other other_valid) (λ x. (
      (λ h. (received_deletes other x).1 ((deletes x).0 ((received_deletes one x).0 h))),
      (λ h. (received_deletes one x).1 ((deletes x).1 ((received_deletes other x).0 h))),
    )))

-- ---- lemmas for callers

-- of operations that are alike neither order nor a repeat changes what is received
pub received_one : (one other : List UpdateValue) → Each IsValidUpdate one → Each IsValidUpdate other → AreAlike (operations_of_all one) → HaveSameContents one other →
    received_set one ≡ received_set other
received_one one other valid other_valid alike same = same_received one other valid other_valid
    (λ o i. (received_like other other_valid other_alike o).1
    (received_of_same (operations_of_all one) (operations_of_all other) there back o ((received_like one valid alike o).0 i)))
    (λ o i. (received_like one valid alike o).1
    (received_of_same (operations_of_all other) (operations_of_all one) back there o ((received_like other other_valid other_alike o).0 i)))
    same.deletes
  where
    there : AreAmong (operations_of_all one) (operations_of_all other)
    there o i = (same.operations o).0 i

    back : AreAmong (operations_of_all other) (operations_of_all one)
    back o i = (same.operations o).1 i

    shared : {level : ℕ} (o p : Operation) → ShareId (operations_of_all other) level o p → ShareId (operations_of_all one) level o p
    shared o p share = record { one = back o share.one; other = back p share.other; id = share.id; says = share.says; other_says = share.other_says }

    other_alike : AreAlike (operations_of_all other)
    other_alike = record {
      lefts = λ o p share. alike.lefts o p (shared o p share);
      rights = λ o p share. alike.rights o p (shared o p share);
      lists = λ o p share. alike.lists o p (shared o p share);
      contents = λ o p share. alike.contents o p (shared o p share);
    }

-- what one list of updates says least, another one says that says the same
least_there : (one other : List Operation) → AreAlike one → AreBare one →
    ((o : Operation) → IsIn o one → (p : Operation) × IsIn p other × SaysNoMore p o) →
    ((o : Operation) → IsIn o other → (p : Operation) × IsIn p one × SaysNoMore p o) →
    (o : Operation) → IsIn o one → SaysLeast one o → IsIn o other × SaysLeast other o
least_there one other alike bare there back o i least =
    let (p, j, below) = there o i in
    let (q, k, lower) = back p j in
    let same : level_of p.content ≡ level_of o.content = omega (arith, below.level, lower.level, least q k (sym (lower.id ∙ below.id))) in (
      subst (λ r. IsIn r other) (below.alike ∙ ap (λ level. as_level level o) same ∙ sym (down_to_level one alike bare o o i i refl (omega arith))) j,
      (λ s l e. let (t, m, under) = back s l in omega (arith, under.level, least t m (e ∙ sym under.id))),
    )

-- under agreement it does not matter that some were merged
pub received_merged : (one other : List UpdateValue) → Each IsValidUpdate one → Each IsValidUpdate other → Agree one → Agree other → SayTheSame one other →
    received_set one ≡ received_set other
received_merged one other valid other_valid agree also same = same_received one other valid other_valid
    (λ o i. let b = (received_is one valid agree o).0 i in (received_is other other_valid also o).1
    (least_there (operations_of_all one) (operations_of_all other) agree.alike (all_bare one) same.there same.back o b.0 b.1))
    (λ o i. let b = (received_is other other_valid also o).0 i in (received_is one valid agree o).1
    (least_there (operations_of_all other) (operations_of_all one) also.alike (all_bare other) same.back same.there o b.0 b.1))
    same.deletes
