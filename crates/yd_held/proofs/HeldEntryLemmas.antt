-- The operations of the entries that pass a test, as the held ones or those in lists: they are received, and an id is one of theirs where its entry passes.
use Rattle.std.proofs.Common.{◌≡◌, Bool, true, List, [], ◌∷◌, inl, inr, refl, sym, ◌∙◌, subst}
use Rattle.std.specs.Prelude.{filter}
use Rattle.yd_words.specs.Member.{IsIn}
use Rattle.yd_words.proofs.FilterLemmas.{kept_one, one_kept}
use Rattle.yd_words.proofs.MemberLemmas.{in_left_part, in_right_part, in_parts, each_in}
use Rattle.yd_ids.specs.declared.id.Id.{Id}
use Rattle.yd_ops.specs.declared.runs.Run.{Run}
use Rattle.yd_ops.specs.Operation.{Operation}
use Rattle.yd_ops.specs.Received.{has_operation, IsWritten}
use Rattle.yd_ops.proofs.OneOfLemmas.{operation_with, id_there, ids_stay}
use Rattle.yd_entries.specs.declared.entry.Entry.{Entry}
use Rattle.yd_entries.specs.Entries.{operations_of_taken, operations_in, covers, IsTakenOf}
use Rattle.yd_entries.specs.Taking.{is_covered}
use Rattle.yd_received.specs.Received.{ReceivedValue, IsReceived, taken_of}
use Rattle.yd_entries.proofs.EntriesLemmas.{one_entry, each_kept, order_kept}
use Rattle.yd_entries.proofs.TakenLemmas.{has_covered, in_written}
use Rattle.yd_held.proofs.HeldUnitLemmas.{covers_unit, unit_covers}

-- ---- operations and entries

entry_of_one : (runs : List Run) (ts : List Entry) (o : Operation) → IsIn o (operations_in runs ts) →
    (t : Entry) × IsIn t ts × IsIn o (operations_of_taken runs t)
entry_of_one runs [] o i = absurd i
entry_of_one runs (t ∷ ts) o i = elim (in_parts o (operations_of_taken runs t) (operations_in runs ts) i) [
  | inl j ↦ (t, inl refl, j)
  | inr j ↦ let (s, k, l) = entry_of_one runs ts o j in (s, inr k, l)
]

one_of_entry : (runs : List Run) (ts : List Entry) (t : Entry) (o : Operation) → IsIn t ts → IsIn o (operations_of_taken runs t) →
    IsIn o (operations_in runs ts)
one_of_entry runs [] t o i j = absurd i
one_of_entry runs (s ∷ ss) t o (inl e) j = in_left_part o (operations_of_taken runs s) (operations_in runs ss) (subst (λ u. IsIn o (operations_of_taken runs u)) e j)
one_of_entry runs (s ∷ ss) t o (inr i) j = in_right_part o (operations_of_taken runs s) (operations_in runs ss) (one_of_entry runs ss t o i j)

-- ---- lemmas for callers, of what is received

module _ (r : ReceivedValue) (is : IsReceived r) where
  pub is_taken : (t : Entry) → IsIn t r.entries → IsTakenOf r.runs t
  is_taken = each_in (IsTakenOf r.runs) r.entries is.each

  -- an operation is of an entry
  pub taken_entry : (o : Operation) → IsIn o (taken_of r) → (t : Entry) × IsIn t r.entries × IsIn o (operations_of_taken r.runs t)
  taken_entry = entry_of_one r.runs r.entries

  pub entry_taken : (t : Entry) → IsIn t r.entries → (o : Operation) → IsIn o (operations_of_taken r.runs t) → IsIn o (taken_of r)
  entry_taken t i o j = one_of_entry r.runs r.entries t o i j

-- ---- lemmas for callers, of the entries that pass a test

module _ (test : Entry → Bool) (r : ReceivedValue) (is : IsReceived r) where
  abbrev chosen : List Operation
  chosen = operations_in r.runs (filter test r.entries)

  pub chosen_written : IsWritten chosen
  chosen_written = in_written r.runs (filter test r.entries) (each_kept test (IsTakenOf r.runs) r.entries is.each) (order_kept test r.entries is.in_order)

  -- an operation is of an entry that passes
  pub chosen_entry : (o : Operation) → IsIn o chosen → (t : Entry) × IsIn t r.entries × (test t ≡ true) × IsIn o (operations_of_taken r.runs t)
  chosen_entry o i = let (t, j, k) = entry_of_one r.runs (filter test r.entries) o i in let (passes, l) = kept_one test r.entries t j in (t, l, passes, k)

  pub entry_chosen : (t : Entry) → IsIn t r.entries → test t ≡ true → (o : Operation) → IsIn o (operations_of_taken r.runs t) → IsIn o chosen
  entry_chosen t i passes o j = one_of_entry r.runs (filter test r.entries) t o (one_kept test r.entries t passes i) j

  -- they are received
  pub chosen_received : (o : Operation) → IsIn o chosen → IsIn o (taken_of r)
  chosen_received o i = let (t, j, passes, k) = chosen_entry o i in entry_taken r is t j o k

  pub id_chosen : (x : Id) → has_operation chosen x ≡ true → (t : Entry) × IsIn t r.entries × (test t ≡ true) × (covers t x ≡ true)
  id_chosen x e =
      let (o, i, f) = operation_with chosen x e in
      let (t, j, passes, k) = chosen_entry o i in
      (t, j, passes, subst (λ y. covers t y ≡ true) f (unit_covers r.runs t (is_taken r is t j) o k))

  pub chosen_id : (t : Entry) (x : Id) → IsIn t r.entries → test t ≡ true → covers t x ≡ true → has_operation chosen x ≡ true
  chosen_id t x i passes e = let (o, j, f) = covers_unit r.runs t (is_taken r is t i) x e in id_there chosen o x (entry_chosen t i passes o j) f

  -- the entry that covers the id passes
  pub covers_chosen : (t : Entry) (x : Id) → IsIn t r.entries → covers t x ≡ true → has_operation chosen x ≡ true → test t ≡ true
  covers_chosen t x i e f = let (s, j, passes, g) = id_chosen x f in subst (λ u. test u ≡ true) (one_entry r.entries is.in_order s t x j i g e) passes

  -- the id is covered, as the look-up of its entry requires
  pub chosen_covered : (x : Id) → has_operation chosen x ≡ true → is_covered r.entries x ≡ true
  chosen_covered x e = sym (has_covered r.runs r.entries x is.each) ∙ ids_stay chosen (taken_of r) x chosen_received e
