-- The places of a run's units, and where those of the next run are others.
use Rattle.std.specs.Prelude.{Decides}
use Rattle.std.proofs.Common.{◌≡◌, ℕ, zero, suc, ◌+◌, ◌-◌, ◌<◌, ◌≤◌, true, false, List, [], ◌∷◌, inl, inr, length, Option, Some, None, refl, sym, ap, ◌∙◌, subst, arith, tests, true≢false}
use Rattle.yd_words.specs.Member.{IsIn}
use Rattle.yd_ids.specs.Ids.{is_smaller}
use Rattle.yd_ids.specs.declared.id.Id.{Id}
use Rattle.yd_ops.specs.Operation.{Operation, UnitContent, gone_unit, later_id, operations_from, operations_of_run, units_of_content}
use Rattle.yd_ops.specs.Value.{RunValue, len_of}
use Rattle.yd_ops.specs.declared.lists.List.{List as DocList}
use Rattle.yd_ops.proofs.OperationLemmas.{later_later, later_none, length-units_of_content}
use Rattle.yd_grouping.proofs.BreakingLemmas.{same_all}
use Rattle.yd_entries.specs.Taking.{left_at, list_from}
use Rattle.yd_entries.proofs.UnitLemmas.{later_same}
use Rattle.yd_agreement.specs.Differing.{Differ, Place, is_placed, place_of}
use Rattle.yd_agreement.specs.First.{IsFirst}
use Rattle.yd_agreement.proofs.SweepLemmas.{with_id}

-- ---- each unit's place

left_behind : (id : Id) (n : ℕ) → left_at (later_id id 1) (Some id) n ≡ Some (later_id id n)
left_behind id zero = ap (λ x. Some x) (sym (later_none id))
left_behind id (suc n) = ap (λ x. Some x) (later_later id 1 n ∙ later_same id (1 + n) (suc n) (omega arith))

list_behind : (n : ℕ) → list_from None n ≡ None
list_behind zero = refl
list_behind (suc n) = refl

-- the place of unit n
abbrev pub placed : Id → Option Id → Option Id → Option DocList → ℕ → Place
placed id left right list n = record { left = left_at id left n; right = right; list = list_from list n }

placed_from : (id : Id) (left right : Option Id) (list : Option DocList) (units : List UnitContent) (o : Operation) → IsIn o (operations_from id left right list units) →
    (i : ℕ) × (i < length units) × (o.id ≡ later_id id i) × (place_of o ≡ placed id left right list i)
placed_from id left right list [] o j = absurd j
placed_from id left right list (unit ∷ units) o (inl e) = (0, omega arith, ap (λ (r : Operation). r.id) e ∙ sym (later_none id), ap place_of e)
placed_from id left right list (unit ∷ units) o (inr j) =
    let (i, lt, x, p) = placed_from (later_id id 1) (Some id) right None units o j in (
      suc i,
      omega arith,
      x ∙ later_later id 1 i ∙ later_same id (1 + i) (suc i) (omega arith),
      p ∙ (λ k. record { left = left_behind id i k; right = right; list = list_behind i k }),
    )

pub record IsPlaced (r : RunValue) (o : Operation) : Type 0 where
  pub place : ℕ
  pub inside : place < len_of r.content
  pub id : o.id ≡ later_id r.id place
  pub is : place_of o ≡ placed r.id r.left r.right r.list place

pub placed_in : (r : RunValue) (o : Operation) → IsIn o (operations_of_run r) → IsPlaced r o
placed_in r o i = let (k, lt, e, p) = placed_from r.id r.left r.right r.list (units_of_content r.content) o i in
    record { place = k; inside = omega (arith, lt, length-units_of_content r.content); id = e; is = p }

-- an operation with this place alone
abbrev only : Place → Operation
only p = record { id = record { client = record { 0 = 0 }; clock = 0 }; left_origin = p.left; right_origin = p.right; list = p.list; content = gone_unit }

placed_decides : (r : RunValue) (n : ℕ) (s : RunValue) → Decides (is_placed r n s) ((left_at r.id r.left n ≡ s.left) × (r.right ≡ s.right) × (list_from r.list n ≡ s.list))
placed_decides r n s = same_all (only (placed r.id r.left r.right r.list n)) (only (record { left = s.left; right = s.right; list = s.list }))

-- ---- a run and the next one

module _ (r s : RunValue) (client : r.id.client.0 ≡ s.id.client.0) (starts : r.id.clock ≤ s.id.clock) (from : ℕ) (is : from ≡ s.id.clock - r.id.clock) where
  client_same : r.id.client ≡ s.id.client
  client_same = ap (λ (n : ℕ). record { 0 = n }) client

  both_places : (x : Id) (o p : Operation) (u : IsPlaced r o) (v : IsPlaced s p) → o.id ≡ x → p.id ≡ x → u.place ≡ from + v.place
  both_places x o p u v e f = omega (arith, is, starts, ap (λ (y : Id). y.clock) (sym u.id ∙ e ∙ sym f ∙ v.id))

  -- where the first unit of the next one has the place of its counterpart, each later one has
  all_placed : (left_at r.id r.left from ≡ s.left) × (r.right ≡ s.right) × (list_from r.list from ≡ s.list) → (n : ℕ) →
      placed r.id r.left r.right r.list (from + n) ≡ placed s.id s.left s.right s.list n
  all_placed same zero = ap (placed r.id r.left r.right r.list) first ∙ (λ i. record { left = same.0 i; right = same.1 i; list = same.2 i })
    where
      first : from + 0 ≡ from
      first = omega arith
  all_placed same (suc n) = ap (placed r.id r.left r.right r.list) next ∙ (λ i. record { left = Some (before i); right = same.1 i; list = None })
    where
      next : from + suc n ≡ suc (from + n)
      next = omega arith

      before : later_id r.id (from + n) ≡ later_id s.id n
      before = (λ i. record { client = client_same i; clock = clocks i })
        where
          clocks : r.id.clock + (from + n) ≡ s.id.clock + n
          clocks = omega (arith, is, starts)

  -- ---- lemmas for callers

  pub places_none : is_placed r from s ≡ true → IsFirst (Differ place_of r s) None
  places_none e x d =
      let u = placed_in r d.one d.one_there in
      let v = placed_in s d.other d.other_there in
      d.differ (u.is ∙ ap (placed r.id r.left r.right r.list) (both_places x d.one d.other u v d.id d.other_id) ∙ all_placed ((placed_decides r from s).0 e) v.place ∙ sym v.is)

  pub places_end : len_of r.content ≤ from → IsFirst (Differ place_of r s) None
  places_end le x d =
      let u = placed_in r d.one d.one_there in
      let v = placed_in s d.other d.other_there in
      absurd (omega (arith, le, u.inside, both_places x d.one d.other u v d.id d.other_id))

  pub places_some : is_placed r from s ≡ false → from < len_of r.content → 0 < len_of s.content → IsFirst (Differ place_of r s) (Some s.id)
  places_some e inside some = (
    there (with_id r s.id (record { client = client_same; begins = starts; ends = omega (arith, inside, is, starts) }))
        (with_id s s.id (record { client = refl; begins = omega arith; ends = omega (arith, some) })),
    least,
  )
    where
      there : (q : Operation) × IsIn q (operations_of_run r) × (q.id ≡ s.id) → (p : Operation) × IsIn p (operations_of_run s) × (p.id ≡ s.id) → Differ place_of r s s.id
      there (q, i, f) (p, j, g) =
          let u = placed_in r q i in
          let v = placed_in s p j in
          let first : v.place ≡ 0 = omega (arith, ap (λ (y : Id). y.clock) (sym v.id ∙ g)) in
          let at : u.place ≡ from = omega (arith, both_places s.id q p u v f g, first) in
          record {
            one = q;
            other = p;
            one_there = i;
            other_there = j;
            id = f;
            other_id = g;
            differ = λ same. true≢false (sym ((placed_decides r from s).1 (parts (ap (placed r.id r.left r.right r.list) (sym at) ∙ sym u.is ∙ same ∙ v.is ∙ ap (placed s.id s.left s.right s.list) first))) ∙ e);
          }
        where
          parts : placed r.id r.left r.right r.list from ≡ placed s.id s.left s.right s.list 0 → (left_at r.id r.left from ≡ s.left) × (r.right ≡ s.right) × (list_from r.list from ≡ s.list)
          parts one = (ap (λ (t : Place). t.left) one, ap (λ (t : Place). t.right) one, ap (λ (t : Place). t.list) one)

      least : (y : Id) → Differ place_of r s y → is_smaller y s.id ≡ false
      least y d = subst (λ z. is_smaller z s.id ≡ false) (sym v.id ∙ d.other_id) (behind v.place)
        where
          v : IsPlaced s d.other
          v = placed_in s d.other d.other_there

          behind : (n : ℕ) → is_smaller (later_id s.id n) s.id ≡ false
          behind n = grind (arith, tests)
