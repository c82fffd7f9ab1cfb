-- What a cut by a vector leaves of entries: parts of them, in the order of writing.
use Rattle.std.specs.Prelude.{filter, nat_lt, if◌then◌else◌}
use Rattle.std.proofs.Common.{◌≡◌, ℕ, zero, suc, ◌+◌, ◌<◌, ◌≤◌, Bool, true, false, List, [], ◌∷◌, ◌++◌, inl, inr, map, refl, sym, ap, ap₂, ◌∙◌, subst, arith, tests}
use Rattle.std.proofs.lemmas.List.{map-append}
use Rattle.std.proofs.lemmas.List.Elements.{filter-append}
use Rattle.yd_words.specs.Each.{Each}
use Rattle.yd_words.specs.Member.{IsIn}
use Rattle.yd_words.proofs.MemberLemmas.{in_left_part, in_right_part}
use Rattle.yd_ids.specs.declared.id.Id.{Id}
use Rattle.yd_ids.specs.declared.id.Span.{Span}
use Rattle.yd_ops.specs.Operation.{Operation}
use Rattle.yd_ops.specs.Value.{UpdateValue}
use Rattle.yd_ops.specs.declared.runs.Run.{Run}
use Rattle.yd_ops.specs.Received.{groups_of, received_set, with_groups}
use Rattle.yd_ops.proofs.MendingLemmas.{HasPartners, paired_has}
use Rattle.yd_grouping.specs.Building.{Built, all_pushed, finished, nothing_built, with_pushed}
use Rattle.yd_grouping.specs.Grouped.{grouping_of}
use Rattle.yd_grouping.specs.Groups.{Group}
use Rattle.yd_grouping.specs.Merged.{cut_of, cut_update, is_cut_in}
use Rattle.yd_entries.specs.Entries.{AreInOrder, AreTaken, IsTakenOf, StandsBefore, operations_in, operations_of_taken}
use Rattle.yd_received.specs.Received.{ReceivedValue, taken_of}
use Rattle.yd_entries.specs.declared.entry.Entry.{Entry}
use Rattle.yd_entries.proofs.PairLemmas.{splittable}
use Rattle.yd_entries.proofs.PartLemmas.{back-id, back-len, back_taken}
use Rattle.yd_entries.proofs.TakenLemmas.{operations_in-append}
use Rattle.yd_merge.specs.Cutting.{behind, cut_entries, cut_entry, left_out}
use Rattle.yd_merge.specs.Told.{group_of_entry}
use Rattle.yd_merge.proofs.ToldLemmas.{writes}
use Rattle.yd_merge.proofs.CuttingLemmas.{parts_operations}
use Rattle.yd_merge.proofs.LeavingLemmas.{IsLeftOut, is_left_out}

-- ---- where the units behind stand

-- what is behind an entry's first units is of the entry
record IsWithin (t u : Entry) : Type 0 where
  client : u.id.client ≡ t.id.client
  begins : t.id.clock ≤ u.id.clock
  ends : u.id.clock + u.len ≡ t.id.clock + t.len

module _ (runs : List Run) (clock : ℕ) (t : Entry) (is : IsTakenOf runs t) where
  behind_within : (n : ℕ) → n < t.len → IsWithin t (behind t n)
  behind_within zero lt = record { client = refl; begins = omega arith; ends = refl }
  behind_within (suc n) lt = record {
    client = ap (λ (x : Id). x.client) (back-id t (suc n));
    begins = omega (arith, ap (λ (x : Id). x.clock) (back-id t (suc n)));
    ends = omega (arith, ap (λ (x : Id). x.clock) (back-id t (suc n)), back-len t (suc n), lt);
  }

  pub behind_taken : (n : ℕ) → IsLeftOut runs clock t n → n < t.len → IsTakenOf runs (behind t n)
  behind_taken zero out lt = is
  behind_taken (suc n) out lt = back_taken runs t (suc n) is (splittable runs t (suc n) is (omega arith) lt) out.whole

within_behind : (s t u : Entry) → IsWithin t u → StandsBefore s t → StandsBefore s u
within_behind s t u in_it (inl lt) = inl (omega (arith, lt, ap (λ c. c.0) in_it.client))
within_behind s t u in_it (inr (same, le)) = inr (same ∙ sym in_it.client, omega (arith, le, in_it.begins))

within_before : (t s u : Entry) → IsWithin t u → StandsBefore t s → StandsBefore u s
within_before t s u in_it (inl lt) = inl (omega (arith, lt, ap (λ c. c.0) in_it.client))
within_before s t u in_it (inr (same, le)) = inr (in_it.client ∙ same, omega (arith, le, in_it.ends))

-- ---- all entries

module _ (runs : List Run) (vector : ℕ → ℕ) where
  -- what is so of each entry's units behind the first ones is so of all that are in the cut
  each_cut : (P Q : Entry → Type 0) →
      ((t : Entry) (n : ℕ) → IsTakenOf runs t → IsLeftOut runs (vector t.id.client.0) t n → n < t.len → P t → Q (behind t n)) →
      (ts : List Entry) → Each (IsTakenOf runs) ts → Each P ts → Each Q (cut_entries runs vector ts)
  each_cut P Q keeps [] each ps = tt
  each_cut P Q keeps (t ∷ ts) each ps = go (nat_lt (left_out runs (vector t.id.client.0) t) t.len) refl (each_cut P Q keeps ts each.1 ps.1)
    where
      go : (b : Bool) → nat_lt (left_out runs (vector t.id.client.0) t) t.len ≡ b → Each Q (cut_entries runs vector ts) →
          Each Q ((if b then behind t (left_out runs (vector t.id.client.0) t) ∷ [] else []) ++ cut_entries runs vector ts)
      go true e rest = (keeps t (left_out runs (vector t.id.client.0) t) each.0 (is_left_out runs (vector t.id.client.0) t each.0) (grind (arith, tests)) ps.0, rest)
      go false e rest = rest

  pub cut_taken : (ts : List Entry) → Each (IsTakenOf runs) ts → Each (IsTakenOf runs) (cut_entries runs vector ts)
  cut_taken ts each = each_cut (IsTakenOf runs) (IsTakenOf runs) (λ t n is out lt same. behind_taken runs (vector t.id.client.0) t is n out lt) ts each each

  pub cut_in_order : (ts : List Entry) → Each (IsTakenOf runs) ts → AreInOrder ts → AreInOrder (cut_entries runs vector ts)
  cut_in_order [] each order = tt
  cut_in_order (t ∷ ts) each order = go (nat_lt (left_out runs (vector t.id.client.0) t) t.len) refl (cut_in_order ts each.1 order.1)
    where
      first : Entry
      first = behind t (left_out runs (vector t.id.client.0) t)

      go : (b : Bool) → nat_lt (left_out runs (vector t.id.client.0) t) t.len ≡ b → AreInOrder (cut_entries runs vector ts) →
          AreInOrder ((if b then behind t (left_out runs (vector t.id.client.0) t) ∷ [] else []) ++ cut_entries runs vector ts)
      go false e rest = rest
      go true e rest = (each_cut (StandsBefore t) (StandsBefore first) before ts each.1 order.0, rest)
        where
          in_it : IsWithin t first
          in_it = behind_within runs (vector t.id.client.0) t each.0 (left_out runs (vector t.id.client.0) t) (grind (arith, tests))

          before : (u : Entry) (n : ℕ) → IsTakenOf runs u → IsLeftOut runs (vector u.id.client.0) u n → n < u.len → StandsBefore t u → StandsBefore first (behind u n)
          before u n is out lt stands = within_before t (behind u n) first in_it (within_behind t u (behind u n) (behind_within runs (vector u.id.client.0) u is n lt) stands)

  pub cut_operations : (os : List Operation) → HasPartners os → (ts : List Entry) → Each (IsTakenOf runs) ts → ((o : Operation) → IsIn o (operations_in runs ts) → IsIn o os) →
      operations_in runs (cut_entries runs vector ts) ≡ filter (is_cut_in os vector) (operations_in runs ts)
  cut_operations os partners [] each there = refl
  cut_operations os partners (t ∷ ts) each there = operations_in-append runs (cut_entry runs (vector t.id.client.0) t) (cut_entries runs vector ts)
      ∙ ap₂ (λ ps qs. ps ++ qs)
      (parts_operations runs os vector partners t each.0 (λ o i. there o (in_left_part o (operations_of_taken runs t) (operations_in runs ts) i))
      (left_out runs (vector t.id.client.0) t) (is_left_out runs (vector t.id.client.0) t each.0))
      (cut_operations os partners ts each.1 (λ o i. there o (in_right_part o (operations_of_taken runs t) (operations_in runs ts) i)))
      ∙ sym (filter-append (is_cut_in os vector) (operations_of_taken runs t) (operations_in runs ts))

-- ---- lemmas for callers

-- one more entry is cut
pub pushed-append : (built : Built) (groups others : List Group) → all_pushed built (groups ++ others) ≡ all_pushed (all_pushed built groups) others
pushed-append built [] others = refl
pushed-append built (group ∷ groups) others = pushed-append (with_pushed built group) groups others

pub cut_next : (runs : List Run) (vector : ℕ → ℕ) (t : Entry) (seen rest : List Entry) (clock : ℕ) (old new : Built) → seen ≡ t ∷ rest →
    clock ≡ vector t.id.client.0 → new ≡ all_pushed old (map (group_of_entry runs) (cut_entry runs clock t)) →
    all_pushed new (map (group_of_entry runs) (cut_entries runs vector rest)) ≡ all_pushed old (map (group_of_entry runs) (cut_entries runs vector seen))
cut_next runs vector t seen rest clock old new next at e =
    ap (λ b. all_pushed b left) (e ∙ ap (λ k. all_pushed old (map (group_of_entry runs) (cut_entry runs k t))) at)
    ∙ sym (pushed-append old (map (group_of_entry runs) (cut_entry runs (vector t.id.client.0) t)) left)
    ∙ ap (all_pushed old) (sym (map-append (group_of_entry runs) (cut_entry runs (vector t.id.client.0) t) (cut_entries runs vector rest)))
    ∙ ap (λ us. all_pushed old (map (group_of_entry runs) (cut_entries runs vector us))) (sym next)
  where
    left : List Group
    left = map (group_of_entry runs) (cut_entries runs vector rest)

pub all_cut : (runs : List Run) (vector : ℕ → ℕ) (ts rest : List Entry) (built : Built) (deletes : List Span) → AreTaken runs ts → rest ≡ [] →
    all_pushed built (map (group_of_entry runs) (cut_entries runs vector rest)) ≡ all_pushed nothing_built (map (group_of_entry runs) (cut_entries runs vector ts)) →
    finished built deletes ≡ grouping_of (cut_of (operations_in runs ts) vector) deletes
all_cut runs vector ts rest built deletes taken none e =
    ap (λ b. finished b deletes) (sym (ap (λ us. all_pushed built (map (group_of_entry runs) (cut_entries runs vector us))) none) ∙ e)
    ∙ writes runs (cut_entries runs vector ts) deletes (cut_taken runs vector ts taken.each) (cut_in_order runs vector ts taken.each taken.in_order)
    ∙ ap (λ os. grouping_of os deletes) (cut_operations runs vector (operations_in runs ts) (paired_has (operations_in runs ts) taken.paired) ts taken.each (λ o i. i))

-- what is pushed of an entry is taken of the runs
pub part_taken : (runs : List Run) (clock : ℕ) (t u : Entry) (n : ℕ) → IsTakenOf runs t → n ≡ left_out runs clock t → n < t.len → u ≡ behind t n → IsTakenOf runs u
part_taken runs clock t u n is e lt f = subst (IsTakenOf runs) (sym f) (behind_taken runs clock t is n (subst (IsLeftOut runs clock t) (sym e) (is_left_out runs clock t is)) lt)

-- what was received of an update alone, cut and with its deletions, is the update's cut
pub cut_received : (update : UpdateValue) (old r : ReceivedValue) (part : UpdateValue) (vector : ℕ → ℕ) (deletes : List Span) → old ≡ record { runs = []; entries = [] } →
    taken_of r ≡ with_groups (groups_of update) (taken_of old) → deletes ≡ (received_set (update ∷ [])).deletes → part ≡ grouping_of (cut_of (taken_of r) vector) deletes →
    part ≡ cut_update update vector
cut_received update old r part vector deletes none took named e = e
    ∙ ap₂ (λ os ds. grouping_of (cut_of os vector) ds) (took ∙ ap (λ o. with_groups (groups_of update) (taken_of o)) none) named
