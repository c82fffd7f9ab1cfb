-- Where a run and the next one differ: unit by unit, from the first id that both have.
use Rattle.std.proofs.Common.{◌≡◌, ℕ, ◌+◌, ◌-◌, ◌<◌, ◌≤◌, Bool, true, false, min, ◌⊎◌, inl, inr, Some, None, refl, sym, ap, ◌∙◌, subst, arith, tests, true≢false}
use Rattle.std.proofs.lemmas.Option.{get_or_from_slice_get}
use Rattle.yd_words.specs.Member.{IsIn}
use Rattle.yd_words.proofs.TestLemmas.{split}
use Rattle.yd_ids.specs.Ids.{is_smaller}
use Rattle.yd_ids.specs.declared.id.Id.{Id}
use Rattle.yd_ops.specs.Operation.{Operation, gone_unit, later_id, operations_of_run, units_of_content}
use Rattle.yd_ops.specs.Value.{ContentValue, RunValue, len_of}
use Rattle.yd_ops.proofs.OperationLemmas.{length-units_of_content}
use Rattle.yd_grouping.specs.Sameness.{same_content}
use Rattle.yd_grouping.proofs.SamenessLemmas.{content_decides}
use Rattle.yd_entries.proofs.UnitLemmas.{from_unit}
use Rattle.yd_agreement.specs.Differing.{Differ, IsOther, content_of}
use Rattle.yd_agreement.specs.First.{IsFirst}
use Rattle.yd_agreement.specs.Runs.{ComesBy}
use Rattle.yd_agreement.specs.Units.{unit_of}
use Rattle.yd_agreement.proofs.SweepLemmas.{HasId, id_of, with_id}

-- ---- unit by unit

pub same_so_far : (a : ContentValue) (from : ℕ) (b : ContentValue) (k : ℕ) (same : Bool) → same ≡ same_content (unit_of a (from + k)) (unit_of b k) → same ≡ true →
    ((j : ℕ) → j < k → unit_of a (from + j) ≡ unit_of b j) → (j : ℕ) → j < k + 1 → unit_of a (from + j) ≡ unit_of b j
same_so_far a from b k same is yes_it_is so_far j lt = elim (split k j) [
  | inl le ↦ let here : k ≡ j = omega (arith, le, lt) in
      subst (λ i. unit_of a (from + i) ≡ unit_of b i) here ((content_decides (unit_of a (from + k)) (unit_of b k)).0 (sym is ∙ yes_it_is))
  | inr less ↦ so_far j less
]

pub one_other : (a : ContentValue) (from : ℕ) (b : ContentValue) (k : ℕ) (same : Bool) → k < len_of b → from + k < len_of a → same ≡ same_content (unit_of a (from + k)) (unit_of b k) →
    same ≡ false → ((j : ℕ) → j < k → unit_of a (from + j) ≡ unit_of b j) → IsOther a from b (Some k)
one_other a from b k same in_b in_a is not_it so_far =
    (in_b, in_a, (λ e. true≢false (sym ((content_decides (unit_of a (from + k)) (unit_of b k)).1 e) ∙ sym is ∙ not_it)), so_far)

pub none_other : (a : ContentValue) (from : ℕ) (b : ContentValue) (k : ℕ) → len_of b ≤ k ⊎ len_of a ≤ from + k → ((j : ℕ) → j < k → unit_of a (from + j) ≡ unit_of b j) →
    IsOther a from b None
none_other a from b k end so_far = λ j in_b in_a. so_far j (elim end [ inl le ↦ omega (arith, le, in_b) | inr le ↦ omega (arith, le, in_a) ])

-- one of two contents ends there
pub shorter : (in_b in_a from k count b a : ℕ) → b ≡ in_b → a ≡ in_a → count ≡ min b (a - from) → count ≤ k → in_b ≤ k ⊎ in_a ≤ from + k
shorter in_b in_a from k count b a e f is le = elim (split in_b k) [ inl few ↦ inl few | inr many ↦ inr (omega (arith, many, e, f, is, le)) ]

-- ---- operations by their place in a run

pub record IsUnitOf (r : RunValue) (o : Operation) : Type 0 where
  pub place : ℕ
  pub inside : place < len_of r.content
  pub id : o.id ≡ later_id r.id place
  pub content : o.content ≡ unit_of r.content place

pub unit_in : (r : RunValue) (o : Operation) → IsIn o (operations_of_run r) → IsUnitOf r o
unit_in r o i = let (k, lt, e, u) = from_unit r.id r.left r.right r.list (units_of_content r.content) o i in record {
  place = k;
  inside = omega (arith, lt, length-units_of_content r.content);
  id = e;
  content = sym (get_or_from_slice_get (units_of_content r.content) k o.content gone_unit u);
}

-- runs of two clients have no id in common
pub two_clients : {V : Type 0} (told : Operation → V) (r s : RunValue) → (r.id.client.0 ≡ s.id.client.0 → ⊥) → IsFirst (Differ told r s) None
two_clients told r s other x d = other (ap (λ c. c.0) ((subst (HasId r) d.id (id_of r d.one d.one_there)).client ∙ sym (subst (HasId s) d.other_id (id_of s d.other d.other_there)).client))

module _ (r s : RunValue) (client : r.id.client.0 ≡ s.id.client.0) (starts : r.id.clock ≤ s.id.clock) (from : ℕ) (is : from ≡ s.id.clock - r.id.clock) where
  -- an id that both have
  both_places : (x : Id) (o p : Operation) (u : IsUnitOf r o) (v : IsUnitOf s p) → o.id ≡ x → p.id ≡ x → u.place ≡ from + v.place
  both_places x o p u v e f = omega (arith, is, starts, ap (λ (y : Id). y.clock) (sym u.id ∙ e ∙ sym f ∙ v.id))

  no_other : IsOther r.content from s.content None → IsFirst (Differ content_of r s) None
  no_other same x d =
      let u = unit_in r d.one d.one_there in
      let v = unit_in s d.other d.other_there in
      let at = both_places x d.one d.other u v d.id d.other_id in
      d.differ (u.content ∙ ap (unit_of r.content) at ∙ same v.place v.inside (omega (arith, at, u.inside)) ∙ sym v.content)

  some_other : (k : ℕ) → IsOther r.content from s.content (Some k) → IsFirst (Differ content_of r s) (Some (later_id s.id k))
  some_other k (in_s, in_r, other, so_far) = (
    there (with_id r (later_id s.id k) (record { client = client_same; begins = omega (arith, starts); ends = omega (arith, in_r, is, starts) }))
        (with_id s (later_id s.id k) (record { client = refl; begins = omega arith; ends = omega (arith, in_s) })),
    least,
  )
    where
      client_same : r.id.client ≡ s.id.client
      client_same = ap (λ (n : ℕ). record { 0 = n }) client

      there : (q : Operation) × IsIn q (operations_of_run r) × (q.id ≡ later_id s.id k) → (p : Operation) × IsIn p (operations_of_run s) × (p.id ≡ later_id s.id k) →
          Differ content_of r s (later_id s.id k)
      there (q, i, e) (p, j, f) =
          let u = unit_in r q i in
          let v = unit_in s p j in
          let at : v.place ≡ k = omega (arith, ap (λ (y : Id). y.clock) (sym v.id ∙ f)) in
          let from_k : u.place ≡ from + k = omega (arith, both_places (later_id s.id k) q p u v e f, at) in
          record {
            one = q;
            other = p;
            one_there = i;
            other_there = j;
            id = e;
            other_id = f;
            differ = λ same. other (sym (u.content ∙ ap (unit_of r.content) from_k) ∙ same ∙ v.content ∙ ap (unit_of s.content) at);
          }

      least : (y : Id) → Differ content_of r s y → is_smaller y (later_id s.id k) ≡ false
      least y d = elim (split k v.place) [
        | inl le ↦ subst (λ z. is_smaller z (later_id s.id k) ≡ false) (sym v.id ∙ d.other_id) (behind v.place le)
        | inr less ↦ absurd (d.differ (u.content ∙ ap (unit_of r.content) (both_places y d.one d.other u v d.id d.other_id) ∙ so_far v.place less ∙ sym v.content))
      ]
        where
          u : IsUnitOf r d.one
          u = unit_in r d.one d.one_there

          v : IsUnitOf s d.other
          v = unit_in s d.other d.other_there

          behind : (n : ℕ) → k ≤ n → is_smaller (later_id s.id n) (later_id s.id k) ≡ false
          behind n le = grind (arith, tests)

  -- ---- lemmas for callers

  pub content_none : IsOther r.content from s.content None → IsFirst (Differ content_of r s) None
  content_none same = no_other same

  pub content_some : (k : ℕ) (x : Id) → IsOther r.content from s.content (Some k) → x ≡ later_id s.id k → IsFirst (Differ content_of r s) (Some x)
  content_some k x other e = subst (λ y. IsFirst (Differ content_of r s) (Some y)) (sym e) (some_other k other)

-- which of them begins first
pub begins_by : (x y : Id) → ComesBy x y → x.client.0 ≡ y.client.0 → x.clock ≤ y.clock
begins_by x y (inl less) same = absurd (omega (arith, less, same))
begins_by x y (inr (one, le)) same = le
