-- Edits by draws: a plain replica stays so, with one letter of its own more, or one deletion.
use Rattle.std.proofs.Common.{◌≡◌, ℕ, zero, suc, ◌+◌, ◌%◌, ◌<◌, ◌⊎◌, Bool, true, false, not, List, [], ◌∷◌, Option, Some, None, length, take, drop, inl, inr, refl, sym, ap, subst, arith, tests}
use Rattle.std.specs.Prelude.{if◌then◌else◌, slice_index}
use Rattle.yd_words.specs.Each.{Each}
use Rattle.yd_words.specs.Member.{IsIn}
use Rattle.yd_words.proofs.FilterLemmas.{kept_one}
use Rattle.yd_ids.specs.declared.id.Client.{Client}
use Rattle.yd_ids.specs.declared.id.Id.{Id}
use Rattle.yd_ids.specs.Id.{IsClient}
use Rattle.yd_ids.specs.Set.{HasId}
use Rattle.yd_ids.proofs.UnionLemmas.{union_ids}
use Rattle.yd_units.specs.Half.{AreUnits, IsWhole}
use Rattle.yd_ops.specs.Operation.{Operation, text_unit}
use Rattle.yd_ops.specs.Pairs.{is_half}
use Rattle.yd_ops.specs.Received.{has_operation, Received}
use Rattle.yd_ops.specs.Valid.{IsValidUpdate}
use Rattle.yd_ops.proofs.OneOfLemmas.{id_there, ids_stay}
use Rattle.yd_ops.proofs.ReceivedLemmas.{after_is_received}
use Rattle.yd_meaning.specs.Document.{document_of}
use Rattle.yd_meaning.specs.Held.{held_clock, held_set, is_named}
use Rattle.yd_meaning.specs.Order.{AreHonest}
use Rattle.yd_meaning.specs.Text.{live_units}
use Rattle.yd_meaning.proofs.DefinedLemmas.{defined_as_held}
use Rattle.yd_meaning.proofs.HeldLemmas.{held_in}
use Rattle.yd_meaning.proofs.StandingLemmas.{standing_in}
use Rattle.yd_meaning.proofs.VectorLemmas.{held_written}
use Rattle.yd_grouping.proofs.GroupableLemmas.{after_groupable}
use Rattle.yd_shown.specs.Shown.{is_counted}
use Rattle.yd_editing.specs.Basis.{basis_of}
use Rattle.yd_editing.specs.Law.{EditIsHeld, EditIsTaken, IsStepInRange, MakesContent, after_edit, made_by}
use Rattle.yd_editing.specs.Made.{list_where_alone, removed_by, update_of_edit}
use Rattle.yd_editing.specs.Refused.{refusal_of}
use Rattle.yd_editing.specs.Step.{Step}
use Rattle.yd_editing.specs.TextEdit.{counted_units, delete_steps, ids_of_units, insert_steps}
use Rattle.yd_editing.proofs.IndexLemmas.{has_units}
use Rattle.yd_editing.proofs.TakenLemmas.{edit_is_held, edit_is_taken}
use Rattle.yd_editing.proofs.ValidLemmas.{valid_edit}
use Rattle.yd_generator.specs.declared.draws.Draws.{Draws}
use Rattle.yd_generator.specs.Generated.{edited, inserts, letter, steps_drawn, text_list}
use Rattle.yd_generator.specs.Law.{IsAccepted}
use Rattle.yd_generator.specs.Plain.{IsLetter, IsPlain}
use Rattle.yd_generator.proofs.PlainLemmas.{id_in_range, units_maximal, valid_one}

-- ---- letters

pub small : (z : ℕ) → 0x61 + z % 26 < 0xD800
small z = omega arith

small_unit : (u i : ℕ) → u < 0xD800 → slice_index (u ∷ []) i < 0xD800
small_unit u zero lt = lt
small_unit u (suc i) lt = omega arith

low_whole : (u : ℕ) → u < 0xD800 → is_half (text_unit u) ≡ false
low_whole u lt = grind (arith, tests)

pub letter_units : (u : ℕ) → u < 0xD800 → AreUnits (u ∷ []) × IsWhole (u ∷ [])
letter_units u lt = (
  (λ i. let below = small_unit u i lt in omega (arith, below)),
  record {
    highs = λ i high. let below = small_unit u i lt in absurd (omega (arith, below, high.0));
    lows = λ i low. let below = small_unit u i lt in absurd (omega (arith, below, low.0));
  },
)

-- ---- parts of lists

taken_one : (n : ℕ) (os : List Operation) (o : Operation) → IsIn o (take n os) → IsIn o os
taken_one zero os o i = absurd i
taken_one (suc n) [] o i = absurd i
taken_one (suc n) (p ∷ ps) o (inl e) = inl e
taken_one (suc n) (p ∷ ps) o (inr i) = inr (taken_one n ps o i)

dropped_one : (n : ℕ) (os : List Operation) (o : Operation) → IsIn o (drop n os) → IsIn o os
dropped_one zero os o i = i
dropped_one (suc n) [] o i = absurd i
dropped_one (suc n) (p ∷ ps) o i = inr (dropped_one n ps o i)

carried_alone : (left right : Option Id) → (list_where_alone left right text_list ≡ None) ⊎ (list_where_alone left right text_list ≡ Some text_list)
carried_alone None None = inr refl
carried_alone None (Some r) = inl refl
carried_alone (Some p) right = inl refl

-- ---- steps

module _ (client : Client) (c : IsClient client) (r : Received) (is : IsPlain r) where
  -- steps that make letters of the client alone, and remove what is there
  record AreGood (steps : List Step) : Type 0 where
    makes : Each MakesContent steps
    in_range : Each IsStepInRange steps
    letters : (o : Operation) → IsIn o (made_by client r steps) → IsLetter o.content
    lists : (o : Operation) → IsIn o (made_by client r steps) → (o.list ≡ None) ⊎ (o.list ≡ Some text_list)
    own : (o : Operation) → IsIn o (made_by client r steps) → o.id.client.0 ≡ client.0
    clocks : (o : Operation) → IsIn o (made_by client r steps) → o.id.clock ≡ held_clock (held_set r.operations) client.0
    removes : (x : Id) → HasId (removed_by steps) x → has_operation r.operations x ≡ true

  pub units_there : (o : Operation) → IsIn o ((document_of r).units text_list) → IsIn o r.operations
  units_there o i =
      let written = held_written r.operations is.received.written in
      held_in r.operations o (standing_in (held_set r.operations) written o (defined_as_held (held_set r.operations) written (is_named r.deletes) text_list o i)).0

  pub counted_listed : (o : Operation) → IsIn o (counted_units (document_of r) text_list) → IsIn o ((document_of r).units text_list)
  counted_listed o i =
      let live = (kept_one (λ (p : Operation). is_counted p.content) (live_units (document_of r) text_list) o i).1 in
      (kept_one (λ (p : Operation). not ((document_of r).deleted p.id)) ((document_of r).units text_list) o live).1

  counted_there : (o : Operation) → IsIn o (counted_units (document_of r) text_list) → IsIn o r.operations
  counted_there o i = units_there o (counted_listed o i)

  abbrev insertion : ℕ → ℕ → List Step
  insertion index z = insert_steps (document_of r) text_list index (letter z)

  insertion_good : (index z : ℕ) → AreGood (insertion index z)
  insertion_good index z = record {
    makes = (letter_units (0x61 + z % 26) (small z), tt);
    in_range = ((letter_units (0x61 + z % 26) (small z), omega arith, tt), tt);
    letters = letters;
    lists = lists;
    own = own;
    clocks = clocks;
    removes = λ x h. absurd h;
  }
    where
      letters : (o : Operation) → IsIn o (made_by client r (insertion index z)) → IsLetter o.content
      letters o (inl e) = subst (λ (p : Operation). IsLetter p.content) (sym e) (record { full = refl; whole = low_whole (0x61 + z % 26) (small z) })
      letters o (inr i) = absurd i

      lists : (o : Operation) → IsIn o (made_by client r (insertion index z)) → (o.list ≡ None) ⊎ (o.list ≡ Some text_list)
      lists o (inl e) = subst (λ (p : Operation). (p.list ≡ None) ⊎ (p.list ≡ Some text_list)) (sym e) (carried_alone _ _)
      lists o (inr i) = absurd i

      own : (o : Operation) → IsIn o (made_by client r (insertion index z)) → o.id.client.0 ≡ client.0
      own o (inl e) = ap (λ (p : Operation). p.id.client.0) e
      own o (inr i) = absurd i

      clocks : (o : Operation) → IsIn o (made_by client r (insertion index z)) → o.id.clock ≡ held_clock (held_set r.operations) client.0
      clocks o (inl e) = ap (λ (p : Operation). p.id.clock) e
      clocks o (inr i) = absurd i

  abbrev chosen : ℕ → List Operation
  chosen index = take 1 (drop index (counted_units (document_of r) text_list))

  deletion_good : (index : ℕ) → AreGood (delete_steps (document_of r) text_list index 1)
  deletion_good index = record {
    makes = (tt, tt);
    in_range = (units_maximal (chosen index) (λ o i. valid_one r is o (unit_there o i)), tt);
    letters = λ o i. absurd i;
    lists = λ o i. absurd i;
    own = λ o i. absurd i;
    clocks = λ o i. absurd i;
    removes = λ x h. elim ((union_ids (ids_of_units (chosen index)) [] x).0 h) [
      | inl j ↦ let (o, i, e) = has_units (chosen index) x j in id_there r.operations o x (unit_there o i) e
      | inr none ↦ absurd none
    ];
  }
    where
      unit_there : (o : Operation) → IsIn o (chosen index) → IsIn o r.operations
      unit_there o i = counted_there o (dropped_one index (counted_units (document_of r) text_list) o (taken_one 1 (drop index (counted_units (document_of r) text_list)) o i))

  abbrev len : ℕ
  len = length (counted_units (document_of r) text_list)

  drawn_good : (d : Draws) → AreGood (steps_drawn d (document_of r))
  drawn_good d = go (inserts len d.x)
    where
      go : (t : Bool) → AreGood (if t then insertion (d.y % (len + 1)) d.z else delete_steps (document_of r) text_list (d.y % len) 1)
      go true = insertion_good (d.y % (len + 1)) d.z
      go false = deletion_good (d.y % len)

  -- ---- after such steps

  module _ (steps : List Step) (good : AreGood steps) (done : refusal_of (basis_of client r) steps ≡ None) where
    abbrev after : Received
    after = after_edit client r steps

    taken : EditIsTaken client r steps
    taken = edit_is_taken client r steps is.received good.makes done

    held : EditIsHeld client r steps
    held = edit_is_held client r steps is.received good.makes done is.all_held (subst (λ h. AreHonest h) (sym is.all_held) is.honest)

    valid : IsValidUpdate (update_of_edit (basis_of client r) steps)
    valid = (valid_edit client r steps is.received good.in_range c (id_in_range r is) done).valid

    stays : (o : Operation) → IsIn o r.operations → IsIn o after.operations
    stays o i = (taken.members o).1 (inr i)

    ids_there : (x : Id) → has_operation r.operations x ≡ true → has_operation after.operations x ≡ true
    ids_there x e = ids_stay r.operations after.operations x stays e

    good_plain : IsPlain after
    good_plain = record {
      received = after_is_received r (update_of_edit (basis_of client r) steps) is.received valid;
      groupable = after_groupable r (update_of_edit (basis_of client r) steps) is.received is.groupable valid;
      all_held = held.all_held.whole;
      honest = held.all_held.honest;
      letters = λ o i. elim ((taken.members o).0 i) [ inl j ↦ good.letters o j | inr j ↦ is.letters o j ];
      lists = λ o i. elim ((taken.members o).0 i) [ inl j ↦ good.lists o j | inr j ↦ is.lists o j ];
      deletes = λ x h. elim ((taken.deletes x).0 h) [ inl j ↦ ids_there x (is.deletes x j) | inr j ↦ ids_there x (good.removes x j) ];
    }

    good_own : (o : Operation) → IsIn o after.operations → (o.id.client.0 ≡ client.0) ⊎ IsIn o r.operations
    good_own o i = elim ((taken.members o).0 i) [ inl j ↦ inl (good.own o j) | inr j ↦ inr j ]

    good_clocks : (o : Operation) → IsIn o after.operations → (o.id.clock ≡ held_clock (held_set r.operations) client.0) ⊎ IsIn o r.operations
    good_clocks o i = elim ((taken.members o).0 i) [ inl j ↦ inl (good.clocks o j) | inr j ↦ inr j ]

  -- ---- lemmas for callers

  module _ (d : Draws) (done : IsAccepted client d r) where
    pub edit_plain : IsPlain (edited client d r)
    edit_plain = good_plain (steps_drawn d (document_of r)) (drawn_good d) done

    pub edit_own : (o : Operation) → IsIn o (edited client d r).operations → (o.id.client.0 ≡ client.0) ⊎ IsIn o r.operations
    edit_own = good_own (steps_drawn d (document_of r)) (drawn_good d) done

    pub edit_stays : (o : Operation) → IsIn o r.operations → IsIn o (edited client d r).operations
    edit_stays = stays (steps_drawn d (document_of r)) (drawn_good d) done

    pub edit_clocks : (o : Operation) → IsIn o (edited client d r).operations → (o.id.clock ≡ held_clock (held_set r.operations) client.0) ⊎ IsIn o r.operations
    edit_clocks = good_clocks (steps_drawn d (document_of r)) (drawn_good d) done
