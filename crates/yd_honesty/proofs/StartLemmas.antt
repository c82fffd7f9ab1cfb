-- Where a unit of an entry breaks the edit rules, its first one does, if the order of their list holds one way.
use Rattle.std.proofs.Common.{◌≡◌, ℕ, zero, suc, ◌+◌, ◌<◌, ◌≤◌, true, false, List, Some, inl, inr, sym, ap, ◌∙◌, subst, arith, tests, true≢false}
use Rattle.yd_words.specs.Member.{IsIn}
use Rattle.yd_ids.specs.declared.id.Id.{Id}
use Rattle.yd_ids.proofs.IdLemmas.{same_numbers}
use Rattle.yd_ops.specs.Operation.{Operation, later_id}
use Rattle.yd_ops.specs.declared.lists.List.{List as DocList}
use Rattle.yd_origins.specs.Before.{is_before}
use Rattle.yd_origins.specs.Operations.{table_of_list}
use Rattle.yd_origins.specs.Table.{ids_of, IsTable}
use Rattle.yd_origins.proofs.ListLemmas.{list_of_left}
use Rattle.yd_ops.specs.Received.{IsWritten}
use Rattle.yd_meaning.specs.Held.{held_set, standing}
use Rattle.yd_meaning.specs.Order.{rows_of, operation_set, list_of, MeetsRules}
use Rattle.yd_meaning.proofs.RowLemmas.{one_row, left_of-row}
use Rattle.yd_meaning.proofs.StandingLemmas.{standing_in}
use Rattle.yd_meaning.proofs.StandingTableLemmas.{standing_table}
use Rattle.yd_entries.specs.declared.entry.Entry.{Entry}
use Rattle.yd_entries.specs.Entries.{operations_of_taken, covers, is_held, is_listed}
use Rattle.yd_received.specs.Received.{ReceivedValue, taken_of, held_of, listed_of}
use Rattle.yd_entries.proofs.WrittenLemmas.{taken_written}
use Rattle.yd_held.proofs.HeldUnitLemmas.{Follows, id_at, covers_less, covers_unit, unit_cases, unit_covers, unit_gone}
use Rattle.yd_held.proofs.HeldEntryLemmas.{is_taken, chosen_entry, chosen_written, entry_chosen}
use Rattle.yd_honesty.specs.Judging.{IsKept, Breaks}
use Rattle.yd_honesty.specs.Law.{FollowsInRun}
use Rattle.yd_honesty.proofs.LaterLemmas.{later_meets}

-- of two units of a list one alone is before the other
abbrev pub HoldsOneWay : List Operation → DocList → Type 0
HoldsOneWay os name = (a b : Id) → IsIn a (ids_of (table_of_list (operation_set os) name)) → IsIn b (ids_of (table_of_list (operation_set os) name)) →
    is_before (table_of_list (operation_set os) name) a b ≡ true → is_before (table_of_list (operation_set os) name) b a ≡ false

-- the first unit of an entry breaks the rules, and is no greater than another
pub record StartBreaks (r : ReceivedValue) (name : DocList) (y : Id) : Type 0 where
  pub entry : Entry
  pub there : IsIn entry r.entries
  pub listed : is_listed entry ≡ true
  pub named : list_of (listed_of r) entry.id ≡ name
  pub some : 0 < entry.len
  pub client : entry.id.client.0 ≡ y.client.0
  pub clock : entry.id.clock ≤ y.clock
  pub breaks : Breaks r entry.id

module _ (r : ReceivedValue) (kept : IsKept r) (name : DocList) (way : HoldsOneWay (listed_of r) name) where
  abbrev os : List Operation
  os = taken_of r

  same : listed_of r ≡ standing (held_set os)
  same = kept.stands ∙ ap standing kept.whole.held

  written : IsWritten os
  written = taken_written r.runs r.entries kept.whole.in_order

  table : IsTable (rows_of (listed_of r))
  table = subst (λ ps. IsTable (rows_of ps)) (sym kept.stands) (standing_table (held_of r) (chosen_written is_held r kept.whole.in_order))

  step : (first second : Operation) → IsIn first (listed_of r) → IsIn second (listed_of r) → FollowsInRun first second → list_of (listed_of r) first.id ≡ name →
      MeetsRules (held_of r) first → MeetsRules (held_of r) second
  step first second i j follows l meets = subst (λ hs. MeetsRules hs second) (sym kept.whole.held)
      (later_meets os written first second (subst (λ ps. IsIn first ps) same i) (subst (λ ps. IsIn second ps) same j) follows
      (subst (λ n. HoldsOneWay (standing (held_set os)) n) (sym (subst (λ ps. list_of ps first.id ≡ name) same l)) (subst (λ ps. HoldsOneWay ps name) same way))
      (subst (λ hs. MeetsRules hs first) kept.whole.held meets))

  module _ (t : Entry) (i : IsIn t r.entries) (passes : is_listed t ≡ true) where
    in_list : (o : Operation) → IsIn o (operations_of_taken r.runs t) → IsIn o (listed_of r)
    in_list o j = entry_chosen is_listed r kept.whole.in_order t i passes o j

    not_gone : (o : Operation) → IsIn o (operations_of_taken r.runs t) → t.is_gone ≡ false
    not_gone o j = sym (unit_gone r.runs t (is_taken r kept.whole.in_order t i) o j)
        ∙ (standing_in (held_of r) (chosen_written is_held r kept.whole.in_order) o (subst (λ ps. IsIn o ps) kept.stands (in_list o j))).1

    covers_at : (k : ℕ) → t.id.clock ≤ k → k < t.id.clock + t.len → covers t (id_at t.id.client k) ≡ true
    covers_at k low high = grind (arith, tests)

    covered : (o : Operation) → IsIn o (operations_of_taken r.runs t) → (t.id.client.0 ≡ o.id.client.0) × (t.id.clock ≤ o.id.clock) × (o.id.clock < t.id.clock + t.len)
    covered o j = covers_less t o.id (unit_covers r.runs t (is_taken r kept.whole.in_order t i) o j)

    -- down to the first unit
    down : (n : ℕ) (o : Operation) → IsIn o (operations_of_taken r.runs t) → o.id.clock < t.id.clock + n → list_of (listed_of r) o.id ≡ name → (MeetsRules (held_of r) o → ⊥) →
        Breaks r t.id × (list_of (listed_of r) t.id ≡ name)
    down zero o j lt l broken = absurd (omega (arith, lt, (covered o j).1))
    down (suc n) o j lt l broken = elim (unit_cases r.runs t (is_taken r kept.whole.in_order t i) o j) [
      | inl first ↦ (record { one = o; there = in_list o j; id = first.has_id; broken = broken }, subst (λ v. list_of (listed_of r) v ≡ name) first.has_id l)
      | inr (k, later) ↦ let (p, m, e) = covers_unit r.runs t (is_taken r kept.whole.in_order t i) (id_at t.id.client k) (covers_at k later.above (omega (arith, later.below))) in
          let listed : list_of (listed_of r) p.id ≡ name = before k later p e in
          down n p m (omega (arith, lt, ap (λ (v : Id). v.clock) e, ap (λ (v : Id). v.clock) later.has_id)) listed
          (λ meets. broken (step p o (in_list p m) (in_list o j) (follows k later p m e) listed meets))
    ]
      where
        left_is : (k : ℕ) → Follows t o k → (p : Operation) → p.id ≡ id_at t.id.client k → o.left_origin ≡ Some p.id
        left_is k later p e = elim later.has_left [
          | inl f ↦ f ∙ ap (λ v. Some v) (sym e)
          | inr gone ↦ absurd (true≢false (sym gone.0 ∙ not_gone o j))
        ]

        before : (k : ℕ) → Follows t o k → (p : Operation) → p.id ≡ id_at t.id.client k → list_of (listed_of r) p.id ≡ name
        before k later p e = list_of_left (operation_set (listed_of r)) table o.id p.id (one_row (listed_of r) o (in_list o j))
            (left_of-row (listed_of r) table.distinct o (in_list o j) ∙ left_is k later p e) ∙ l

        right_is : (p : Operation) → IsIn p (operations_of_taken r.runs t) → p.right_origin ≡ t.right
        right_is p m = elim (unit_cases r.runs t (is_taken r kept.whole.in_order t i) p m) [ inl first ↦ first.has_right | inr (h, other) ↦ other.has_right ]

        follows : (k : ℕ) → Follows t o k → (p : Operation) → IsIn p (operations_of_taken r.runs t) → p.id ≡ id_at t.id.client k → FollowsInRun p o
        follows k later p m e = record {
          next_clock = later.has_id ∙ same_numbers (id_at t.id.client (suc k)) (later_id p.id 1) (ap (λ (v : Id). v.client.0) (sym e)) (omega (arith, ap (λ (v : Id). v.clock) e));
          behind = left_is k later p e;
          same_right = later.has_right ∙ sym (right_is p m);
          no_list = later.has_list;
        }

  -- ---- lemmas for callers

  pub start_breaks : (y : Id) → Breaks r y → list_of (listed_of r) y ≡ name → StartBreaks r name y
  start_breaks y b l = let (t, i, passes, own) = chosen_entry is_listed r kept.whole.in_order b.one b.there in made t i passes own
    where
      made : (t : Entry) → IsIn t r.entries → is_listed t ≡ true → IsIn b.one (operations_of_taken r.runs t) → StartBreaks r name y
      made t i passes own = record {
        entry = t;
        there = i;
        listed = passes;
        named = found.1;
        some = omega (arith, (covered t i passes b.one own).1, (covered t i passes b.one own).2);
        client = (covered t i passes b.one own).0 ∙ ap (λ (v : Id). v.client.0) b.id;
        clock = omega (arith, (covered t i passes b.one own).1, ap (λ (v : Id). v.clock) b.id);
        breaks = found.0;
      }
        where
          found : Breaks r t.id × (list_of (listed_of r) t.id ≡ name)
          found = down t i passes t.len b.one own (covered t i passes b.one own).2 (ap (list_of (listed_of r)) b.id ∙ l) b.broken
