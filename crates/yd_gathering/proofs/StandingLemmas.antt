-- Of updates that say the same in turn the same is received; and where no id is there twice, no order of them matters.
use Rattle.std.proofs.Common.{◌≡◌, ◌∙◌, List, [], ◌∷◌, ◌++◌, inl, inr, refl, sym, ap, subst}
use Rattle.std.specs.List.Sorted.{IsPermutation}
use Rattle.std.proofs.lemmas.List.Sorted.{IsPermutation-sym}
use Rattle.yd_words.specs.Each.{Each}
use Rattle.yd_words.specs.Member.{IsIn}
use Rattle.yd_words.proofs.EachLemmas.{each_append, each_permuted}
use Rattle.yd_words.proofs.MemberLemmas.{each_in, in_each, in_left_part, in_parts, in_right_part}
use Rattle.yd_ids.specs.Set.{HasId}
use Rattle.yd_ids.specs.declared.id.Id.{Id}
use Rattle.yd_ids.proofs.UnionLemmas.{sets_same}
use Rattle.yd_ops.specs.Agreement.{AreAlike, DeleteId, HaveSameContents, operations_of_all}
use Rattle.yd_ops.specs.Deletes.{deletes_of}
use Rattle.yd_ops.specs.Operation.{Operation, operations_of}
use Rattle.yd_ops.specs.Received.{IsWritten, Received, all_taken, groups_of, mended, nothing_received, received_after, received_more, received_set, with_groups}
use Rattle.yd_ops.specs.Valid.{IsValidUpdate}
use Rattle.yd_ops.specs.Value.{UpdateValue}
use Rattle.yd_ops.proofs.AgreementLemmas.{received_deletes, received_maximal, received_one}
use Rattle.yd_ops.proofs.GroupLemmas.{all_of, all_of-append, update_groups, update_partners, update_written}
use Rattle.yd_ops.proofs.MendingLemmas.{HasPartners}
use Rattle.yd_ops.proofs.OnceLemmas.{groups_once}
use Rattle.yd_ops.proofs.ReceivedLemmas.{one_received}
use Rattle.yd_ops.proofs.TurnLemmas.{with_groups-append}
use Rattle.yd_gathering.specs.Gathered.{StandsAs}
use Rattle.yd_gathering.specs.Said.{SaysInTurn}
use Rattle.yd_gathering.proofs.SaidLemmas.{all-append, deletes-append, says_both}

-- ---- what is received, by the operations in turn

abbrev groups_of_all : List UpdateValue → List (List Operation)
groups_of_all [] = []
groups_of_all (u ∷ us) = groups_of u ++ groups_of_all us

all_groups : (us : List UpdateValue) → all_of (groups_of_all us) ≡ operations_of_all us
all_groups [] = refl
all_groups (u ∷ us) = all_of-append (groups_of u) (groups_of_all us) ∙ rw (update_groups u, all_groups us) refl

all_written : (us : List UpdateValue) → Each IsWritten (groups_of_all us)
all_written [] = tt
all_written (u ∷ us) = each_append IsWritten (groups_of u) (groups_of_all us) (update_written u) (all_written us)

all_partners : (us : List UpdateValue) → Each IsValidUpdate us → Each HasPartners (groups_of_all us)
all_partners [] valid = tt
all_partners (u ∷ us) valid = each_append HasPartners (groups_of u) (groups_of_all us) (update_partners u valid.0) (all_partners us valid.1)

more_received : (r : Received) (us : List UpdateValue) → (received_more r us).operations ≡ with_groups (groups_of_all us) r.operations
more_received r [] = refl
more_received r (u ∷ us) = more_received (received_after r u) us ∙ sym (with_groups-append (groups_of u) (groups_of_all us) r.operations)

-- all operations are taken in one after another, and mended once: how they are parted into updates does not matter
received_once : (us : List UpdateValue) → Each IsValidUpdate us → (received_set us).operations ≡ mended (all_taken (operations_of_all us) [])
received_once us valid = more_received nothing_received us
    ∙ groups_once (groups_of_all us) [] (all_written us) (all_partners us valid) tt (λ o i half. absurd i)
    ∙ ap (λ os. mended (all_taken os [])) (all_groups us)

-- ---- another order

-- an operation of all is one of an update of them
update_with : (us : List UpdateValue) (o : Operation) → IsIn o (operations_of_all us) → (u : UpdateValue) × IsIn u us × IsIn o (operations_of u)
update_with [] o i = absurd i
update_with (u ∷ us) o i = elim (in_parts o (operations_of u) (operations_of_all us) i) [
  | inl j ↦ (u, inl refl, j)
  | inr j ↦ let (v, k, l) = update_with us o j in (v, inr k, l)
]

of_update : (us : List UpdateValue) (u : UpdateValue) (o : Operation) → IsIn u us → IsIn o (operations_of u) → IsIn o (operations_of_all us)
of_update [] u o i j = absurd i
of_update (v ∷ us) u o (inl e) j = in_left_part o (operations_of v) (operations_of_all us) (subst (λ (w : UpdateValue). IsIn o (operations_of w)) e j)
of_update (v ∷ us) u o (inr i) j = in_right_part o (operations_of v) (operations_of_all us) (of_update us u o i j)

-- and so is a deleted id
deletes_with : (us : List UpdateValue) (x : Id) → DeleteId us x → (u : UpdateValue) × IsIn u us × HasId (deletes_of u) x
deletes_with [] x d = absurd d
deletes_with (u ∷ us) x (inl h) = (u, inl refl, h)
deletes_with (u ∷ us) x (inr d) = let (v, k, h) = deletes_with us x d in (v, inr k, h)

by_update : (us : List UpdateValue) (u : UpdateValue) (x : Id) → IsIn u us → HasId (deletes_of u) x → DeleteId us x
by_update [] u x i h = absurd i
by_update (v ∷ us) u x (inl e) h = inl (subst (λ (w : UpdateValue). HasId (deletes_of w) x) e h)
by_update (v ∷ us) u x (inr i) h = inr (by_update us u x i h)

permuted_in : (us vs : List UpdateValue) → IsPermutation us vs → (u : UpdateValue) → IsIn u vs → IsIn u us
permuted_in us vs p u i = each_in (λ v. IsIn v us) vs (each_permuted (λ v. IsIn v us) us vs p (in_each (λ v. IsIn v us) us (λ v j. j))) u i

permuted_operations : (us vs : List UpdateValue) → IsPermutation us vs → (o : Operation) → IsIn o (operations_of_all vs) → IsIn o (operations_of_all us)
permuted_operations us vs p o i = let (u, j, k) = update_with vs o i in of_update us u o (permuted_in us vs p u j) k

permuted_deletes : (us vs : List UpdateValue) → IsPermutation us vs → (x : Id) → DeleteId vs x → DeleteId us x
permuted_deletes us vs p x d = let (u, j, h) = deletes_with vs x d in by_update us u x (permuted_in us vs p u j) h

-- the same behind other updates
operations_behind : (before us vs : List UpdateValue) → IsPermutation us vs → (o : Operation) → IsIn o (operations_of_all (before ++ vs)) → IsIn o (operations_of_all (before ++ us))
operations_behind before us vs p o i = subst (IsIn o) (sym (all-append before us)) (elim (in_parts o (operations_of_all before) (operations_of_all vs) (subst (IsIn o) (all-append before vs) i)) [
  | inl j ↦ in_left_part o (operations_of_all before) (operations_of_all us) j
  | inr j ↦ in_right_part o (operations_of_all before) (operations_of_all us) (permuted_operations us vs p o j)
])

deletes_behind : (before us vs : List UpdateValue) → IsPermutation us vs → (x : Id) → DeleteId (before ++ vs) x → DeleteId (before ++ us) x
deletes_behind before us vs p x d = (deletes-append before us x).1 (elim ((deletes-append before vs x).0 d) [ inl a ↦ inl a | inr b ↦ inr (permuted_deletes us vs p x b) ])

same_behind : (before us vs : List UpdateValue) → IsPermutation us vs → HaveSameContents (before ++ vs) (before ++ us)
same_behind before us vs p = record {
  operations = λ o. (operations_behind before us vs p o, operations_behind before vs us (IsPermutation-sym us vs p) o);
  deletes = λ x. (deletes_behind before us vs p x, deletes_behind before vs us (IsPermutation-sym us vs p) x);
}

-- ---- lemmas for callers

-- what says updates in turn stands for them
pub says_stands : (taken kept : List UpdateValue) → SaysInTurn taken kept → StandsAs taken kept
says_stands taken kept s = record {
  valid = s.valid;
  received = one_received (received_set kept) (received_set taken)
      (received_once kept s.valid ∙ ap (λ os. mended (all_taken os [])) s.operations ∙ sym (received_once taken s.taken_valid))
      (sets_same (received_set kept).deletes (received_set taken).deletes (received_maximal kept s.valid) (received_maximal taken s.taken_valid) (λ x. (
        (λ h. (received_deletes taken x).1 ((s.deletes x).0 ((received_deletes kept x).0 h))),
        (λ h. (received_deletes kept x).1 ((s.deletes x).1 ((received_deletes taken x).0 h))),
      )));
}

-- and where its operations are alike, it stands for these updates in any other order of those behind some
pub alike_stands : (taken before us vs behind : List UpdateValue) → IsPermutation us vs → Each IsValidUpdate us → SaysInTurn taken before → SaysInTurn vs behind → AreAlike (operations_of_all (before ++ behind)) →
    StandsAs (taken ++ us) (before ++ behind)
alike_stands taken before us vs behind p valid s t alike =
    let both = says_both taken before vs behind s t in
    let stands = says_stands (taken ++ vs) (before ++ behind) both in
    record {
      valid = stands.valid;
      received = stands.received ∙ received_one (taken ++ vs) (taken ++ us) both.taken_valid (each_append IsValidUpdate taken us s.taken_valid valid)
          (subst AreAlike both.operations alike) (same_behind taken us vs p);
    }
