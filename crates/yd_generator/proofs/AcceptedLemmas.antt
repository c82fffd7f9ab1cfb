-- Edits by draws are not refused, as long as a clock is left.
use Rattle.std.proofs.Common.{◌≡◌, ℕ, zero, suc, ◌+◌, ◌%◌, ◌^◌, ◌<◌, ◌≤◌, Bool, true, false, ◌&&◌, ◌||◌, not, List, [], ◌∷◌, Option, Some, None, length, take, drop, nat_eq, nat_le, nat_lt, inl, inr, refl, sym, subst, arith, tests}
use Rattle.std.specs.Prelude.{if◌then◌else◌}
use Rattle.yd_words.specs.Member.{IsIn}
use Rattle.yd_ids.specs.declared.id.Client.{Client}
use Rattle.yd_ids.specs.declared.id.Id.{Id}
use Rattle.yd_ids.specs.Id.{IsClient}
use Rattle.yd_ids.specs.Ids.{is_same}
use Rattle.yd_ops.specs.Operation.{Operation, UnitContent}
use Rattle.yd_ops.specs.Pairs.{is_high, is_low, is_text_and}
use Rattle.yd_ops.specs.Received.{has_operation, Received}
use Rattle.yd_ops.specs.Value.{ContentValue, len_of}
use Rattle.yd_ops.proofs.OneOfLemmas.{id_is_there, id_there}
use Rattle.yd_meaning.specs.Document.{document_of}
use Rattle.yd_meaning.specs.Held.{held_clock, held_set}
use Rattle.yd_meaning.specs.Text.{has_partner_behind}
use Rattle.yd_meaning.proofs.VectorLemmas.{held_below}
use Rattle.yd_editing.specs.Basis.{Basis, basis_of, first_waiting}
use Rattle.yd_editing.specs.Refused.{after_refusal, clock_refusal, half_refusal, has_high, refusal_of, spans_refusal}
use Rattle.yd_editing.specs.Step.{Refusal, clock_full, first_or, make, own_waiting, past_end}
use Rattle.yd_editing.specs.TextEdit.{counted_units, delete_refusal, delete_steps, end_refusal, ids_of_units, index_refusal, insert_refusal, insert_steps, parts_pair, place_at}
use Rattle.yd_editing.proofs.IndexLemmas.{unit_is_there}
use Rattle.yd_generator.specs.declared.draws.Draws.{Draws}
use Rattle.yd_generator.specs.Generated.{inserts, letter, text_list}
use Rattle.yd_generator.specs.Law.{IsAccepted}
use Rattle.yd_generator.specs.Plain.{IsLetter, IsPlain}
use Rattle.yd_generator.proofs.EditLemmas.{counted_listed, units_there}

-- ---- no halves

left_none : (s t : Bool) → s || t ≡ false → s ≡ false
left_none false t e = refl
left_none true t e = e

no_high : (content : UnitContent) → IsLetter content → is_text_and is_high content ≡ false
no_high content is = left_none (is_text_and is_high content) (is_text_and is_low content) is.whole

none_high : (os : List Operation) (x : Id) → ((o : Operation) → IsIn o os → IsLetter o.content) → has_high os x ≡ false
none_high [] x letters = refl
none_high (o ∷ os) x letters = go (is_same o.id x) (none_high os x (λ p i. letters p (inr i)))
  where
    go : (t : Bool) → has_high os x ≡ false → (if t then is_text_and is_high o.content else has_high os x) ≡ false
    go true rest = no_high o.content (letters o (inl refl))
    go false rest = rest

none_behind : (o : Operation) (os : List Operation) → IsLetter o.content → has_partner_behind o os ≡ false
none_behind o [] is = refl
none_behind o (p ∷ ps) is = rw (no_high o.content is) refl

none_parted : (os : List Operation) (index : ℕ) → ((o : Operation) → IsIn o os → IsLetter o.content) → parts_pair os index ≡ false
none_parted [] index letters = refl
none_parted (o ∷ os) zero letters = refl
none_parted (o ∷ os) (suc zero) letters = none_behind o os (letters o (inl refl))
none_parted (o ∷ os) (suc (suc index)) letters = none_parted os (suc index) (λ p i. letters p (inr i))

-- ---- nothing waits

none_waiting : (held : List Operation) (client : ℕ) (os : List Operation) → ((o : Operation) → IsIn o os → has_operation held o.id ≡ true) → first_waiting held client os ≡ None
none_waiting held client [] there = refl
none_waiting held client (o ∷ os) there =
    go (nat_eq o.id.client.0 client) (has_operation held o.id) (there o (inl refl)) (none_waiting held client os (λ p i. there p (inr i)))
  where
    go : (s t : Bool) → t ≡ true → first_waiting held client os ≡ None → (if s && not t then Some o.id.clock else first_waiting held client os) ≡ None
    go true true e rest = rest
    go true false e rest = absurd cc
    go false t e rest = rest

no_waits : (waits : Option ℕ) → waits ≡ None → ◌≡◌ {A = Option Refusal} (elim waits [ None ↦ None | Some clock ↦ Some (own_waiting clock) ]) None
no_waits None e = refl
no_waits (Some clock) e = absurd cc

-- ---- refusals one after another

both_none : (a b : Option Refusal) → a ≡ None → b ≡ None → first_or a b ≡ None
both_none None b e f = f
both_none (Some refusal) b e f = absurd cc

one_none : (a : Option Refusal) → a ≡ None → first_or a None ≡ None
one_none a e = both_none a None e refl

-- ---- of a plain replica

module _ (client : Client) (r : Received) (in_range : IsClient client) (is : IsPlain r) (full : held_clock (held_set r.operations) client.0 + 1 < 2 ^ 53) where
  abbrev basis : Basis
  basis = basis_of client r

  abbrev units : List Operation
  units = (document_of r).units text_list

  abbrev counted : List Operation
  counted = counted_units (document_of r) text_list

  unit_letters : (o : Operation) → IsIn o units → IsLetter o.content
  unit_letters o i = is.letters o (units_there client in_range r is o i)

  counted_letters : (o : Operation) → IsIn o counted → IsLetter o.content
  counted_letters o i = unit_letters o (counted_listed client in_range r is o i)

  held_there : (o : Operation) → IsIn o r.operations → has_operation (held_set r.operations) o.id ≡ true
  held_there o i = subst (λ h. has_operation h o.id ≡ true) (sym is.all_held) (id_is_there r.operations o i)

  after_none : (after : Option Id) → ((y : Id) → after ≡ Some y → has_operation units y ≡ true) → after_refusal units after ≡ None
  after_none None there = refl
  after_none (Some y) there = rw (there y refl) refl

  half_none : (after : Option Id) → half_refusal basis units after ≡ None
  half_none None = refl
  half_none (Some y) = rw (none_high units y unit_letters) refl

  place_there : (index : ℕ) (y : Id) → place_at counted index ≡ Some y → has_operation units y ≡ true
  place_there zero y e = absurd cc
  place_there (suc index) y e = let (o, i, f) = unit_is_there counted index y e in id_there units o y (counted_listed client in_range r is o i) f

  clock_none : (clock : ℕ) (name : _) (after : Option Id) (content : ContentValue) → clock + len_of content < 2 ^ 53 → clock_refusal clock (make name after content ∷ []) ≡ None
  clock_none clock name after content lt = go (nat_le (2 ^ 53) (clock + len_of content)) (grind (arith, tests))
    where
      go : (t : Bool) → t ≡ false → ◌≡◌ {A = Option Refusal} (if t then Some (clock_full clock) else None) None
      go true e = absurd cc
      go false e = refl

  insertion_accepted : (index z : ℕ) → refusal_of basis (insert_steps (document_of r) text_list index (letter z)) ≡ None
  insertion_accepted index z =
      both_none _ _ (one_none _ (after_none (place_at counted index) (place_there index)))
      (both_none _ _ (one_none _ (half_none (place_at counted index)))
      (both_none _ _ (one_none _ (no_waits basis.waits (none_waiting (held_set r.operations) client.0 r.operations held_there)))
      (clock_none (held_clock (held_set r.operations) client.0) text_list (place_at counted index) (letter z) full)))

  span_held : (o : Operation) → IsIn o r.operations → nat_le (o.id.clock + 1) (held_clock (held_set r.operations) o.id.client.0) ≡ true
  span_held o i = let below = (held_below r.operations is.received.written o.id.client o.id.clock).0 (held_there o i) in grind (arith, tests)

  first_held : (os : List Operation) → ((o : Operation) → IsIn o os → IsIn o r.operations) → spans_refusal basis.vector (ids_of_units (take 1 os)) ≡ None
  first_held [] there = refl
  first_held (o ∷ os) there = rw (span_held o (there o (inl refl))) refl

  dropped_there : (n : ℕ) (os : List Operation) → ((o : Operation) → IsIn o os → IsIn o r.operations) → (o : Operation) → IsIn o (drop n os) → IsIn o r.operations
  dropped_there zero os there o i = there o i
  dropped_there (suc n) [] there o i = absurd i
  dropped_there (suc n) (p ∷ ps) there o i = dropped_there n ps (λ q j. there q (inr j)) o i

  deletion_accepted : (index : ℕ) → refusal_of basis (delete_steps (document_of r) text_list index 1) ≡ None
  deletion_accepted index =
      both_none _ _ (one_none _ (first_held (drop index counted) (dropped_there index counted (λ o i. units_there client in_range r is o (counted_listed client in_range r is o i)))))
      refl

  -- ---- lemmas for callers

  pub drawn_accepted : (d : Draws) → IsAccepted client d r
  drawn_accepted d = go (inserts (length counted) d.x)
    where
      go : (t : Bool) → refusal_of basis (if t then insert_steps (document_of r) text_list (d.y % (length counted + 1)) (letter d.z)
          else delete_steps (document_of r) text_list (d.y % length counted) 1) ≡ None
      go true = insertion_accepted (d.y % (length counted + 1)) d.z
      go false = deletion_accepted (d.y % length counted)

  end_none : (index : ℕ) → index ≤ length counted → end_refusal counted index ≡ None
  end_none index le = go (nat_lt (length counted) index) (grind (arith, tests))
    where
      go : (t : Bool) → t ≡ false → ◌≡◌ {A = Option Refusal} (if t then Some (past_end (length counted)) else None) None
      go true e = absurd cc
      go false e = refl

  index_none : (index : ℕ) → index_refusal counted index ≡ None
  index_none index = rw (none_parted counted index counted_letters) refl

  -- an insertion of a letter within the length is not refused, and no deletion there
  pub letter_accepted : (index z : ℕ) → index ≤ length counted → insert_refusal basis text_list index (letter z) ≡ None
  letter_accepted index z le = both_none _ _ (end_none index le) (both_none _ _ (index_none index) (insertion_accepted index z))

  pub removal_accepted : (index : ℕ) → index < length counted → delete_refusal basis text_list index 1 ≡ None
  removal_accepted index lt = both_none _ _ (end_none (index + 1) (omega (arith, lt))) (both_none _ _ (index_none index) (both_none _ _ (index_none (index + 1)) (deletion_accepted index)))
