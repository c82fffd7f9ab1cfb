-- What is kept says in turn what was taken, at each step.
use Rattle.std.proofs.Common.{◌≡◌, ◌↔◌, ◌⊎◌, ◌∙◌, List, [], ◌∷◌, ◌++◌, inl, inr, refl, sym, ap, ap₂, subst, append-nil, append_assoc}
use Rattle.yd_words.specs.Each.{Each}
use Rattle.yd_words.proofs.EachLemmas.{each_append}
use Rattle.yd_words.proofs.MemberLemmas.{in_left_part, in_parts, in_right_part}
use Rattle.yd_ids.specs.Id.{IsSpan}
use Rattle.yd_ids.specs.Set.{AreMaximal, HasId, set_of}
use Rattle.yd_ids.specs.declared.id.Id.{Id}
use Rattle.yd_ids.specs.declared.id.Span.{Span}
use Rattle.yd_ids.proofs.SetLemmas.{has_either, has_front}
use Rattle.yd_ids.proofs.SetOfLemmas.{set_of_ids, set_of_maximal}
use Rattle.yd_ops.specs.Agreement.{DeleteId, operations_of_all}
use Rattle.yd_ops.specs.Deletes.{SpellLess, deletes_of}
use Rattle.yd_ops.specs.Operation.{operations_of}
use Rattle.yd_ops.specs.Valid.{IsValidUpdate}
use Rattle.yd_ops.specs.Value.{BlockValue, UpdateValue}
use Rattle.yd_ops.proofs.GroupLemmas.{deletes_of-ids}
use Rattle.yd_gathering.specs.Row.{updates_of}
use Rattle.yd_gathering.specs.Said.{SayWith, SaysInTurn, update_of}

-- ---- more updates

pub all-append : (us vs : List UpdateValue) → operations_of_all (us ++ vs) ≡ operations_of_all us ++ operations_of_all vs
all-append [] vs = refl
all-append (u ∷ us) vs = ap (λ os. operations_of u ++ os) (all-append us vs) ∙ sym (append_assoc (operations_of u) (operations_of_all us) (operations_of_all vs))

-- what is deleted by two lists
pub deletes-append : (us vs : List UpdateValue) (x : Id) → DeleteId (us ++ vs) x ↔ (DeleteId us x ⊎ DeleteId vs x)
deletes-append [] vs x = ((λ d. inr d), (λ d. elim d [ inl n ↦ absurd n | inr h ↦ h ]))
deletes-append (u ∷ us) vs x =
    let rest = deletes-append us vs x in (
      λ d. elim d [ inl h ↦ inl (inl h) | inr k ↦ elim (rest.0 k) [ inl a ↦ inl (inr a) | inr b ↦ inr b ] ],
      λ d. elim d [ inl k ↦ elim k [ inl h ↦ inl h | inr a ↦ inr (rest.1 (inl a)) ] | inr b ↦ inr (rest.1 (inr b)) ],
    )

-- with one update more
all_more : (us : List UpdateValue) (u : UpdateValue) → operations_of_all (us ++ u ∷ []) ≡ operations_of_all us ++ operations_of u
all_more us u = all-append us (u ∷ []) ∙ ap (λ os. operations_of_all us ++ os) (append-nil (operations_of u))

delete_more : (us : List UpdateValue) (u : UpdateValue) (x : Id) → DeleteId (us ++ u ∷ []) x ↔ (DeleteId us x ⊎ HasId (deletes_of u) x)
delete_more us u x = let both = deletes-append us (u ∷ []) x in (
  λ d. elim (both.0 d) [ inl a ↦ inl a | inr b ↦ elim b [ inl h ↦ inr h | inr n ↦ absurd n ] ],
  λ d. elim d [ inl a ↦ both.1 (inl a) | inr h ↦ both.1 (inr (inl h)) ],
)

each_front_part : {X : Type 0} (P : X → Type 0) (xs ys : List X) → Each P (xs ++ ys) → Each P xs
each_front_part P [] ys each = tt
each_front_part P (x ∷ xs) ys each = (each.0, each_front_part P xs ys each.1)

each_last : {X : Type 0} (P : X → Type 0) (xs : List X) (x : X) → Each P (xs ++ x ∷ []) → P x
each_last P [] x each = each.0
each_last P (y ∷ xs) x each = each_last P xs x each.1

-- ---- one update in place of two

-- both operations in a row, and all deletions
pub record SaysBoth (one other both : UpdateValue) : Type 0 where
  pub operations : operations_of both ≡ operations_of one ++ operations_of other
  pub deletes : (x : Id) → HasId both.deletes x ↔ (HasId one.deletes x ⊎ HasId other.deletes x)

-- the same is deleted
deleted_both : (one other both : UpdateValue) → SaysBoth one other both → (x : Id) → HasId (deletes_of both) x ↔ (HasId (deletes_of one) x ⊎ HasId (deletes_of other) x)
deleted_both one other both says x = (there, back)
  where
    less : SpellLess (operations_of one ++ operations_of other) x → SpellLess (operations_of one) x ⊎ SpellLess (operations_of other) x
    less (o, i, e, low) = elim (in_parts o (operations_of one) (operations_of other) i) [ inl j ↦ inl (o, j, e, low) | inr j ↦ inr (o, j, e, low) ]

    there : HasId (deletes_of both) x → HasId (deletes_of one) x ⊎ HasId (deletes_of other) x
    there h = elim ((deletes_of-ids both x).0 h) [
      | inl s ↦ elim (less (subst (λ os. SpellLess os x) says.operations s)) [ inl a ↦ inl ((deletes_of-ids one x).1 (inl a)) | inr b ↦ inr ((deletes_of-ids other x).1 (inl b)) ]
      | inr d ↦ elim ((says.deletes x).0 d) [ inl a ↦ inl ((deletes_of-ids one x).1 (inr a)) | inr b ↦ inr ((deletes_of-ids other x).1 (inr b)) ]
    ]

    spell : SpellLess (operations_of one) x ⊎ SpellLess (operations_of other) x → HasId (deletes_of both) x
    spell (inl (o, i, e, low)) = (deletes_of-ids both x).1 (inl (subst (λ os. SpellLess os x) (sym says.operations) (o, in_left_part o (operations_of one) (operations_of other) i, e, low)))
    spell (inr (o, i, e, low)) = (deletes_of-ids both x).1 (inl (subst (λ os. SpellLess os x) (sym says.operations) (o, in_right_part o (operations_of one) (operations_of other) i, e, low)))

    back : HasId (deletes_of one) x ⊎ HasId (deletes_of other) x → HasId (deletes_of both) x
    back (inl h) = elim ((deletes_of-ids one x).0 h) [ inl s ↦ spell (inl s) | inr d ↦ (deletes_of-ids both x).1 (inr ((says.deletes x).1 (inl d))) ]
    back (inr h) = elim ((deletes_of-ids other x).0 h) [ inl s ↦ spell (inr s) | inr d ↦ (deletes_of-ids both x).1 (inr ((says.deletes x).1 (inr d))) ]

-- nothing is said
empty_valid : IsValidUpdate (update_of [])
empty_valid = record { blocks = tt; deletes = tt }

-- ---- lemmas for callers

-- an update is kept as it is
pub say_behind : (taken kept : List UpdateValue) (names : List Span) (u : UpdateValue) → IsValidUpdate u → SayWith taken kept names → SayWith (taken ++ u ∷ []) (kept ++ u ∷ []) names
say_behind taken kept names u valid s = record {
  taken_valid = each_append IsValidUpdate taken (u ∷ []) s.taken_valid (valid, tt);
  valid = each_append IsValidUpdate kept (u ∷ []) s.valid (valid, tt);
  spans = s.spans;
  operations = all_more kept u ∙ ap (λ os. os ++ operations_of u) s.operations ∙ sym (all_more taken u);
  deletes = λ x.
      let there = delete_more taken u x in
      let here = delete_more kept u x in
      let known = s.deletes x in (
        λ d. elim d [ inl k ↦ elim (here.0 k) [ inl a ↦ there.1 (inl (known.0 (inl a))) | inr b ↦ there.1 (inr b) ] | inr n ↦ there.1 (inl (known.0 (inr n))) ],
        λ d. elim (there.0 d) [ inl a ↦ elim (known.1 a) [ inl k ↦ inl (here.1 (inl k)) | inr n ↦ inr n ] | inr b ↦ inl (here.1 (inr b)) ],
      );
}

-- one without blocks is kept too
pub say_empty : (taken kept : List UpdateValue) (names : List Span) → SayWith taken kept names → SayWith taken (kept ++ update_of [] ∷ []) names
say_empty taken kept names s = record {
  taken_valid = s.taken_valid;
  valid = each_append IsValidUpdate kept (update_of [] ∷ []) s.valid (empty_valid, tt);
  spans = s.spans;
  operations = all_more kept (update_of []) ∙ append-nil (operations_of_all kept) ∙ s.operations;
  deletes = λ x.
      let here = delete_more kept (update_of []) x in
      let known = s.deletes x in (
        λ d. elim d [ inl k ↦ elim (here.0 k) [ inl a ↦ known.0 (inl a) | inr b ↦ absurd b ] | inr n ↦ known.0 (inr n) ],
        λ d. elim (known.1 d) [ inl a ↦ inl (here.1 (inl a)) | inr n ↦ inr n ],
      );
}

-- and is left out
pub say_full : (taken kept : List UpdateValue) (names : List Span) (blocks : List BlockValue) → SayWith taken (kept ++ update_of blocks ∷ []) names → SayWith taken (kept ++ updates_of blocks) names
say_full taken kept names (block ∷ blocks) s = s
say_full taken kept names [] s =
    subst (λ us. SayWith taken us names) (sym (append-nil kept))
    (record {
      taken_valid = s.taken_valid;
      valid = each_front_part IsValidUpdate kept (update_of [] ∷ []) s.valid;
      spans = s.spans;
      operations = sym (all_more kept (update_of []) ∙ append-nil (operations_of_all kept)) ∙ s.operations;
      deletes = λ x.
          let here = delete_more kept (update_of []) x in
          let known = s.deletes x in (
            λ d. elim d [ inl k ↦ known.0 (inl (here.1 (inl k))) | inr n ↦ known.0 (inr n) ],
            λ d. elim (known.1 d) [ inl k ↦ elim (here.0 k) [ inl a ↦ inl a | inr b ↦ absurd b ] | inr n ↦ inr n ],
          );
    })

-- one that is kept last says also what another says
pub say_both : (taken kept : List UpdateValue) (names : List Span) (one other both : UpdateValue) → IsValidUpdate other → IsValidUpdate both → SaysBoth one other both →
    SayWith taken (kept ++ one ∷ []) names → SayWith (taken ++ other ∷ []) (kept ++ both ∷ []) names
say_both taken kept names one other both valid valid_both says s =
    let front = each_front_part IsValidUpdate kept (one ∷ []) s.valid in
    record {
      taken_valid = each_append IsValidUpdate taken (other ∷ []) s.taken_valid (valid, tt);
      valid = each_append IsValidUpdate kept (both ∷ []) front (valid_both, tt);
      spans = s.spans;
      operations = all_more kept both ∙ ap (λ os. operations_of_all kept ++ os) says.operations ∙ sym (append_assoc (operations_of_all kept) (operations_of one) (operations_of other))
          ∙ ap (λ os. os ++ operations_of other) (sym (all_more kept one) ∙ s.operations) ∙ sym (all_more taken other);
      deletes = λ x.
          let there = delete_more taken other x in
          let before = delete_more kept one x in
          let after = delete_more kept both x in
          let known = s.deletes x in
          let two = deleted_both one other both says x in (
            λ d. elim d [
              | inl k ↦ elim (after.0 k) [
                | inl a ↦ there.1 (inl (known.0 (inl (before.1 (inl a)))))
                | inr b ↦ elim (two.0 b) [ inl h ↦ there.1 (inl (known.0 (inl (before.1 (inr h))))) | inr h ↦ there.1 (inr h) ]
              ]
              | inr n ↦ there.1 (inl (known.0 (inr n)))
            ],
            λ d. elim (there.0 d) [
              | inl a ↦ elim (known.1 a) [
                | inl k ↦ elim (before.0 k) [ inl e ↦ inl (after.1 (inl e)) | inr h ↦ inl (after.1 (inr (two.1 (inl h)))) ]
                | inr n ↦ inr n
              ]
              | inr h ↦ inl (after.1 (inr (two.1 (inr h))))
            ],
          );
    }

maximal_spans : (spans : List Span) → AreMaximal spans → Each IsSpan spans
maximal_spans [] maximal = tt
maximal_spans (span ∷ spans) maximal = (maximal.0, maximal_spans spans maximal.3)

-- what an update deletes, and what it deletes without its deletions
pub apart : (u : UpdateValue) (x : Id) → HasId (deletes_of u) x ↔ (HasId (deletes_of (update_of u.blocks)) x ⊎ HasId u.deletes x)
apart u x = (
  λ h. elim ((deletes_of-ids u x).0 h) [ inl less ↦ inl ((deletes_of-ids (update_of u.blocks) x).1 (inl less)) | inr d ↦ inr d ],
  λ h. elim h [ inl b ↦ elim ((deletes_of-ids (update_of u.blocks) x).0 b) [ inl less ↦ (deletes_of-ids u x).1 (inl less) | inr n ↦ absurd n ] | inr d ↦ (deletes_of-ids u x).1 (inr d) ],
)

-- the deletions of an update are noted, whose blocks are there
pub say_named : (taken kept : List UpdateValue) (names : List Span) (u : UpdateValue) → IsValidUpdate u → SayWith (taken ++ update_of u.blocks ∷ []) kept names →
    SayWith (taken ++ u ∷ []) kept (names ++ u.deletes)
say_named taken kept names u valid s =
    let bare = update_of u.blocks in
    record {
      taken_valid = each_append IsValidUpdate taken (u ∷ []) (each_front_part IsValidUpdate taken (bare ∷ []) s.taken_valid) (valid, tt);
      valid = s.valid;
      spans = each_append IsSpan names u.deletes s.spans (maximal_spans u.deletes valid.deletes);
      operations = s.operations ∙ all_more taken bare ∙ sym (all_more taken u);
      deletes = λ x.
          let there = delete_more taken u x in
          let before = delete_more taken bare x in
          let known = s.deletes x in
          let two = apart u x in (
            λ d. elim d [
              | inl k ↦ elim (before.0 (known.0 (inl k))) [ inl a ↦ there.1 (inl a) | inr b ↦ there.1 (inr (two.1 (inl b))) ]
              | inr n ↦ elim (has_front names u.deletes x n) [
                | inl m ↦ elim (before.0 (known.0 (inr m))) [ inl a ↦ there.1 (inl a) | inr b ↦ there.1 (inr (two.1 (inl b))) ]
                | inr e ↦ there.1 (inr (two.1 (inr e)))
              ]
            ],
            λ d.
                let known_bare : DeleteId (taken ++ bare ∷ []) x → DeleteId kept x ⊎ HasId (names ++ u.deletes) x =
                λ b. elim (known.1 b) [ inl k ↦ inl k | inr n ↦ inr (has_either names u.deletes x (inl n)) ] in
                elim (there.0 d) [
                  | inl a ↦ known_bare (before.1 (inl a))
                  | inr h ↦ elim (two.0 h) [ inl b ↦ known_bare (before.1 (inr b)) | inr e ↦ inr (has_either names u.deletes x (inr e)) ]
                ],
          );
    }

-- the deletions are said by the update that is kept last
pub say_all : (taken kept : List UpdateValue) (names : List Span) (blocks : List BlockValue) → SayWith taken (kept ++ update_of blocks ∷ []) names →
    SaysInTurn taken (kept ++ record { blocks = blocks; deletes = set_of names } ∷ [])
say_all taken kept names blocks s =
    let bare = update_of blocks in
    let last : UpdateValue = record { blocks = blocks; deletes = set_of names } in
    let valid_bare = each_last IsValidUpdate kept bare s.valid in
    record {
      taken_valid = s.taken_valid;
      valid = each_append IsValidUpdate kept (last ∷ []) (each_front_part IsValidUpdate kept (bare ∷ []) s.valid) (record { blocks = valid_bare.blocks; deletes = set_of_maximal names s.spans }, tt);
      operations = all_more kept last ∙ sym (all_more kept bare) ∙ s.operations;
      deletes = λ x.
          let here = delete_more kept last x in
          let before = delete_more kept bare x in
          let two = apart last x in
          let known = s.deletes x in
          let set = set_of_ids names x in (
            λ d. elim (here.0 d) [
              | inl k ↦ known.0 (inl (before.1 (inl k)))
              | inr n ↦ elim (two.0 n) [ inl b ↦ known.0 (inl (before.1 (inr b))) | inr m ↦ known.0 (inr (set.0 m)) ]
            ],
            λ d. elim (known.1 d) [
              | inl k ↦ elim (before.0 k) [ inl a ↦ here.1 (inl a) | inr b ↦ here.1 (inr (two.1 (inl b))) ]
              | inr n ↦ here.1 (inr (two.1 (inr (set.1 n))))
            ],
          );
    }

-- two lists one behind the other
pub says_both : (taken kept more kept_more : List UpdateValue) → SaysInTurn taken kept → SaysInTurn more kept_more → SaysInTurn (taken ++ more) (kept ++ kept_more)
says_both taken kept more kept_more s t = record {
  taken_valid = each_append IsValidUpdate taken more s.taken_valid t.taken_valid;
  valid = each_append IsValidUpdate kept kept_more s.valid t.valid;
  operations = all-append kept kept_more ∙ ap₂ (λ os ps. os ++ ps) s.operations t.operations ∙ sym (all-append taken more);
  deletes = λ x.
      let here = deletes-append kept kept_more x in
      let there = deletes-append taken more x in (
        λ d. elim (here.0 d) [ inl a ↦ there.1 (inl ((s.deletes x).0 a)) | inr b ↦ there.1 (inr ((t.deletes x).0 b)) ],
        λ d. elim (there.0 d) [ inl a ↦ here.1 (inl ((s.deletes x).1 a)) | inr b ↦ here.1 (inr ((t.deletes x).1 b)) ],
      );
}
