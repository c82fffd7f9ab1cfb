-- Runs in the order of their ids: the next one is compared with the one that ends last.
use Rattle.std.proofs.Common.{◌≡◌, ◌↔◌, ◌+◌, ◌<◌, ◌≤◌, true, ◌&&◌, List, [], ◌∷◌, ◌++◌, ◌⊎◌, inl, inr, Option, None, length, refl, sym, ap, ◌∙◌, subst, arith, tests}
use Rattle.std.specs.Prelude.{nat_eq, nat_le, nat_lt}
use Rattle.yd_words.specs.Each.{Each}
use Rattle.yd_words.specs.Member.{IsIn}
use Rattle.yd_words.proofs.MemberLemmas.{each_in, in_left_part, in_with_last}
use Rattle.yd_ids.specs.declared.id.Id.{Id}
use Rattle.yd_ops.specs.Operation.{Operation, operations_of_run, units_of_content}
use Rattle.yd_ops.specs.Value.{RunValue, len_of}
use Rattle.yd_ops.proofs.OperationLemmas.{length-units_of_content}
use Rattle.yd_ops.proofs.OneOfLemmas.{operation_with}
use Rattle.yd_ops.proofs.WritingLemmas.{written_agrees}
use Rattle.yd_ops.specs.Received.{IsWritten}
use Rattle.yd_entries.proofs.UnitLemmas.{from_unit, has_from}
use Rattle.yd_agreement.specs.Differing.{Differ, DifferAmong}
use Rattle.yd_agreement.specs.First.{IsFirst, first_of}
use Rattle.yd_agreement.specs.Runs.{ComesBy, EndsBy, IsCover}
use Rattle.yd_agreement.proofs.FirstLemmas.{first_alike, first_either}

-- ---- the ids of a run

-- the run has an operation with the id
pub record HasId (r : RunValue) (x : Id) : Type 0 where
  pub client : r.id.client ≡ x.client
  pub begins : r.id.clock ≤ x.clock
  pub ends : x.clock < r.id.clock + len_of r.content

pub id_of : (r : RunValue) (o : Operation) → IsIn o (operations_of_run r) → HasId r o.id
id_of r o i = let (k, lt, e, u) = from_unit r.id r.left r.right r.list (units_of_content r.content) o i in record {
  client = sym (ap (λ (x : Id). x.client) e);
  begins = omega (arith, ap (λ (x : Id). x.clock) e);
  ends = omega (arith, lt, ap (λ (x : Id). x.clock) e, length-units_of_content r.content);
}

pub with_id : (r : RunValue) (x : Id) → HasId r x → (o : Operation) × IsIn o (operations_of_run r) × (o.id ≡ x)
with_id r x has = operation_with (operations_of_run r) x (has_from r.id r.left r.right r.list (units_of_content r.content) x ∙ within)
  where
    client : r.id.client.0 ≡ x.client.0
    client = ap (λ c. c.0) has.client

    ends : x.clock < r.id.clock + length (units_of_content r.content)
    ends = omega (arith, has.ends, length-units_of_content r.content)

    begins : r.id.clock ≤ x.clock
    begins = has.begins

    within : (nat_eq r.id.client.0 x.client.0 && (nat_le r.id.clock x.clock && nat_lt x.clock (r.id.clock + length (units_of_content r.content)))) ≡ true
    within = grind (arith, tests, client, begins, ends)

-- ---- the one that ends last

-- where another one and the next have an id, the one that ends last has it
cover_has : (runs : List RunValue) (cover r next : RunValue) (x : Id) → IsCover runs cover → Each (λ (s : RunValue). ComesBy s.id next.id) runs → IsIn r runs →
    HasId r x → HasId next x → HasId cover x
cover_has runs cover r next x is before i has also = elim (each_in (λ (s : RunValue). ComesBy s.id next.id) runs before cover is.there) [
  | inl less ↦ absurd (elim (each_in (λ (s : RunValue). EndsBy s cover) runs is.last r i) [
    | inl more ↦ omega (arith, less, more, ap (λ c. c.0) has.client, ap (λ c. c.0) also.client)
    | inr (same, le) ↦ omega (arith, less, ap (λ c. c.0) same, ap (λ c. c.0) has.client, ap (λ c. c.0) also.client)
  ])
  | inr (same, starts) ↦ record {
    client = same ∙ also.client;
    begins = omega (arith, starts, also.begins);
    ends = elim (each_in (λ (s : RunValue). EndsBy s cover) runs is.last r i) [
      | inl more ↦ absurd (omega (arith, more, ap (λ c. c.0) same, ap (λ c. c.0) has.client, ap (λ c. c.0) also.client))
      | inr (one, le) ↦ omega (arith, le, has.ends)
    ];
  }
]

module _ {V : Type 0} (told : Operation → V) (apart : (o p : Operation) → (told o ≡ told p) ⊎ (told o ≡ told p → ⊥))
    (written : (r : RunValue) → IsWritten (operations_of_run r)) where
  -- a run does not differ from itself
  no_self : (r : RunValue) (x : Id) → Differ told r r x → ⊥
  no_self r x d = d.differ (ap told (written_agrees (operations_of_run r) (written r) d.one d.other d.one_there d.other_there (d.id ∙ sym d.other_id)))

  flip : (r s : RunValue) (x : Id) → Differ told r s x → Differ told s r x
  flip r s x d = record { one = d.other; other = d.one; one_there = d.other_there; other_there = d.one_there; id = d.other_id; other_id = d.id; differ = λ e. d.differ (sym e) }

  -- what differs from the next one is another one that differs from the one that ends last, or that one differs
  by_cover : (runs : List RunValue) (cover r next : RunValue) (x : Id) → IsCover runs cover → Each (λ (s : RunValue). ComesBy s.id next.id) runs → IsIn r runs →
      Differ told r next x → DifferAmong told runs x ⊎ Differ told cover next x
  by_cover runs cover r next x is before i d =
      let has = subst (HasId r) d.id (id_of r d.one d.one_there) in
      let also = subst (HasId next) d.other_id (id_of next d.other d.other_there) in
      let (q, j, e) = with_id cover x (cover_has runs cover r next x is before i has also) in
      elim (apart q d.other) [
        | inl same ↦ inl (record {
          one = r;
          other = cover;
          one_there = i;
          other_there = is.there;
          differ = record { one = d.one; other = q; one_there = d.one_there; other_there = j; id = d.id; other_id = e; differ = λ f. d.differ (f ∙ same) };
        })
        | inr differ ↦ inr (record { one = q; other = d.other; one_there = j; other_there = d.other_there; id = e; other_id = d.other_id; differ = differ })
      ]

  -- with the next run, they differ where they did, or where that one differs from the one that ends last
  next_differs : (runs : List RunValue) (cover next : RunValue) (x : Id) → IsCover runs cover → Each (λ (s : RunValue). ComesBy s.id next.id) runs →
      (DifferAmong told runs x ⊎ Differ told cover next x) ↔ DifferAmong told (runs ++ next ∷ []) x
  next_differs runs cover next x is before = (there, back)
    where
      last : IsIn next (runs ++ next ∷ [])
      last = last_in runs
        where
          last_in : (rs : List RunValue) → IsIn next (rs ++ next ∷ [])
          last_in [] = inl refl
          last_in (r ∷ rs) = inr (last_in rs)

      there : DifferAmong told runs x ⊎ Differ told cover next x → DifferAmong told (runs ++ next ∷ []) x
      there (inl d) = record {
        one = d.one;
        other = d.other;
        one_there = in_left_part d.one runs (next ∷ []) d.one_there;
        other_there = in_left_part d.other runs (next ∷ []) d.other_there;
        differ = d.differ;
      }
      there (inr d) = record { one = cover; other = next; one_there = in_left_part cover runs (next ∷ []) is.there; other_there = last; differ = d }

      back : DifferAmong told (runs ++ next ∷ []) x → DifferAmong told runs x ⊎ Differ told cover next x
      back d = elim (in_with_last runs next d.one d.one_there) [
        | inl i ↦ elim (in_with_last runs next d.other d.other_there) [
          | inl j ↦ inl (record { one = d.one; other = d.other; one_there = i; other_there = j; differ = d.differ })
          | inr e ↦ by_cover runs cover d.one next x is before i (subst (λ s. Differ told d.one s x) e d.differ)
        ]
        | inr e ↦ elim (in_with_last runs next d.other d.other_there) [
          | inl j ↦ by_cover runs cover d.other next x is before j (flip next d.other x (subst (λ s. Differ told s d.other x) e d.differ))
          | inr f ↦ absurd (no_self next x (subst (λ s. Differ told s next x) e (subst (λ s. Differ told d.one s x) f d.differ)))
        ]
      ]

  -- ---- lemmas for callers

  -- one run alone does not differ
  pub one_alone : (r : RunValue) → IsFirst (DifferAmong told (r ∷ [])) None
  one_alone r x d = elim d.one_there [
    | inl e ↦ elim d.other_there [
      | inl f ↦ no_self r x (subst (λ s. Differ told s r x) e (subst (λ s. Differ told d.one s x) f d.differ))
      | inr j ↦ absurd j
    ]
    | inr i ↦ absurd i
  ]

  -- the first id on which runs differ, with one more run
  pub next_first : (runs : List RunValue) (cover next : RunValue) (best found : Option Id) → IsCover runs cover → Each (λ (s : RunValue). ComesBy s.id next.id) runs →
      IsFirst (DifferAmong told runs) best → IsFirst (Differ told cover next) found → IsFirst (DifferAmong told (runs ++ next ∷ [])) (first_of best found)
  next_first runs cover next best found is before first also = first_alike (λ x. DifferAmong told runs x ⊎ Differ told cover next x) (DifferAmong told (runs ++ next ∷ [])) (first_of best found)
      (λ x. next_differs runs cover next x is before) (first_either (DifferAmong told runs) (Differ told cover next) best found first also)
