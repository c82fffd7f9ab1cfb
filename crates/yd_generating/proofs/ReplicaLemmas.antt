-- Plain replicas: their replies, numbers and whether two are alike.
use Rattle.std.proofs.Common.{◌≡◌, ℕ, ◌+◌, Bool, true, false, ◌&&◌, ◌||◌, List, nat_le, length, refl, sym, ap, ap₂, ◌∙◌, subst}
use Rattle.std.specs.Prelude.{◌↔◌, IsTrue}
use Rattle.yd_words.proofs.FilterLemmas.{filter_alike}
use Rattle.yd_ids.specs.declared.id.Client.{Client}
use Rattle.yd_ids.specs.declared.id.Span.{Span}
use Rattle.yd_ids.specs.Covering.{HasAll}
use Rattle.yd_ids.specs.Set.{AreMaximal, union_of}
use Rattle.yd_ids.specs.Vector.{clock_of}
use Rattle.yd_ops.specs.declared.lists.List.{List as DocList}
use Rattle.yd_ops.specs.Operation.{Operation}
use Rattle.yd_meaning.specs.Document.{AreDeletedIn, Document, document_of}
use Rattle.yd_meaning.specs.Held.{held_clock, held_set}
use Rattle.yd_meaning.specs.Order.{AreHonest}
use Rattle.yd_meaning.specs.Replica.{IsReplicaDocument}
use Rattle.yd_meaning.specs.Text.{shown_text}
use Rattle.yd_editing.specs.TextEdit.{counted_units}
use Rattle.yd_grouping.specs.Grouped.{grouping_of}
use Rattle.yd_grouping.specs.Merged.{cut_of, has_partner_at, is_cut_in, reply_of}
use Rattle.yd_generator.specs.Generated.{delete_set_of, text_list}
use Rattle.yd_generator.specs.Law.{AreAlike}
use Rattle.yd_generator.specs.Plain.{IsOfThree, IsPlain}
use Rattle.yd_generator.proofs.LineLemmas.{alike_is, deletions_alike, held_counted}
use Rattle.yd_generator.proofs.PlainLemmas.{delete_set_is, own_deletes as own_set}
use Rattle.yd_doc.specs.Kept.{Kept, own_deletes, own_document, received_of}
use Rattle.yd_generating.specs.Same.{HaveSameClocks}

-- a cut asks the vector for clocks alone
cut_alike : (os : List Operation) (vector other : ℕ → ℕ) → ((client : ℕ) → vector client ≡ other client) → cut_of os vector ≡ cut_of os other
cut_alike os vector other same = filter_alike (is_cut_in os vector) (is_cut_in os other) os (λ o i.
    ap (λ clock. nat_le clock o.id.clock || has_partner_at os clock o) (same o.id.client.0))

module _ (k : Kept) (is : IsPlain (received_of k)) (own : IsReplicaDocument (own_document k) (received_of k)) where
  pub defined_is : own_document k ≡ document_of (received_of k)
  defined_is = own.defined (subst (λ h. AreHonest h) (sym is.all_held) is.honest)

  deleted_there : (deletes : List Span) → AreDeletedIn deletes (own_document k) → AreDeletedIn deletes (document_of (received_of k))
  deleted_there deletes are = subst (λ (document : Document). AreDeletedIn deletes document) defined_is are

  pub deletes_defined : (deletes : List Span) → AreMaximal deletes → AreDeletedIn deletes (own_document k) → deletes ≡ delete_set_of (received_of k)
  deletes_defined deletes maximal are = own_set (received_of k) is deletes maximal (deleted_there deletes are) ∙ sym (delete_set_is (received_of k) is)

  -- its reply is the one that is defined
  pub replied : (deletes : List Span) (vector clocks : ℕ → ℕ) → AreMaximal deletes → AreDeletedIn deletes (own_document k) → deletes ≡ own_deletes k →
      ((client : ℕ) → vector client ≡ clocks client) → reply_of (received_of k) (own_deletes k) vector ≡ reply_of (received_of k) (delete_set_of (received_of k)) clocks
  replied deletes vector clocks maximal are same clocks_same = ap₂ grouping_of (cut_alike (received_of k).operations vector clocks clocks_same)
      (ap (λ spans. union_of spans (received_of k).deletes) (sym same ∙ deletes_defined deletes maximal are))

  pub counted_held : IsOfThree (received_of k) → (vector : List (Client × ℕ)) → ((client : ℕ) → clock_of vector client ≡ held_clock (held_set (received_of k).operations) client) →
      (clock_of vector 1 + clock_of vector 2) + clock_of vector 3 ≡ length (held_set (received_of k).operations)
  counted_held of vector same = ap₂ (λ a b. a + b) (ap₂ (λ a b. a + b) (same 1) (same 2)) (same 3) ∙ held_counted (received_of k) is of

-- two replicas are alike just where the tests say so
module _ (k l : Kept) (is : IsPlain (received_of k)) (also : IsPlain (received_of l)) (of_one : IsOfThree (received_of k)) (of_other : IsOfThree (received_of l))
    (own : IsReplicaDocument (own_document k) (received_of k)) (others : IsReplicaDocument (own_document l) (received_of l))
    (vector other : List (Client × ℕ)) (deletes spans : List Span)
    (vector_is : (client : ℕ) → clock_of vector client ≡ held_clock (held_set (received_of k).operations) client)
    (other_is : (client : ℕ) → clock_of other client ≡ held_clock (held_set (received_of l).operations) client)
    (deletes_are : AreDeletedIn deletes (own_document k)) (spans_are : AreDeletedIn spans (own_document l)) where
  there : AreDeletedIn deletes (document_of (received_of k))
  there = deleted_there k is own deletes deletes_are

  there_too : AreDeletedIn spans (document_of (received_of l))
  there_too = deleted_there l also others spans spans_are

  pub found_alike : shown_text (own_document k) text_list ≡ shown_text (own_document l) text_list → HaveSameClocks vector other → HasAll deletes spans → HasAll spans deletes →
      AreAlike (received_of k) (received_of l)
  found_alike text clocks all back = alike_is (received_of k) (received_of l) deletes spans is also of_one of_other there there_too
      (sym (ap (λ (document : Document). shown_text document text_list) (defined_is k is own)) ∙ text ∙ ap (λ (document : Document). shown_text document text_list) (defined_is l also others))
      (sym (vector_is 1) ∙ clocks.first ∙ other_is 1) (sym (vector_is 2) ∙ clocks.second ∙ other_is 2) (sym (vector_is 3) ∙ clocks.third ∙ other_is 3) all back

  pub alike_found : AreAlike (received_of k) (received_of l) →
      (shown_text (own_document k) text_list ≡ shown_text (own_document l) text_list) × HaveSameClocks vector other × HasAll deletes spans × HasAll spans deletes
  alike_found alike = (
    ap (λ (document : Document). shown_text document text_list) (defined_is k is own) ∙ alike.text ∙ sym (ap (λ (document : Document). shown_text document text_list) (defined_is l also others)),
    record {
      first = vector_is 1 ∙ alike.vector 1 ∙ sym (other_is 1);
      second = vector_is 2 ∙ alike.vector 2 ∙ sym (other_is 2);
      third = vector_is 3 ∙ alike.vector 3 ∙ sym (other_is 3);
    },
    deletions_alike (received_of k) (received_of l) deletes spans there there_too alike,
    deletions_alike (received_of l) (received_of k) spans deletes there_too there
        (record { text = sym alike.text; vector = λ client. sym (alike.vector client); delete_set = λ x. sym (alike.delete_set x) }),
  )

both_true : (s t : Bool) {P Q : Type 0} → IsTrue s ↔ P → IsTrue t ↔ Q → IsTrue (s && t) ↔ (P × Q)
both_true true true p q = ((λ e. (p.0 refl, q.0 refl)), (λ b. refl))
both_true true false p q = ((λ e. absurd cc), (λ b. q.1 b.1))
both_true false t p q = ((λ e. absurd cc), (λ b. p.1 b.0))

-- four tests, one after another
pub four_true : (s t u v : Bool) {P Q R S : Type 0} → IsTrue s ↔ P → IsTrue t ↔ Q → IsTrue u ↔ R → IsTrue v ↔ S → IsTrue (((s && t) && u) && v) ↔ (P × Q × R × S)
four_true s t u v p q r w =
    let both = both_true s t p q in
    let three = both_true (s && t) u both r in
    let four = both_true ((s && t) && u) v three w in
    ((λ e. let f = four.0 e in (f.0.0.0, f.0.0.1, f.0.1, f.1)), (λ b. four.1 (((b.0, b.1), b.2), b.3)))

-- so two replicas are alike just where the four tests hold
pub tested_alike : (k l : Kept) → IsPlain (received_of k) → IsPlain (received_of l) → IsOfThree (received_of k) → IsOfThree (received_of l) →
    IsReplicaDocument (own_document k) (received_of k) → IsReplicaDocument (own_document l) (received_of l) →
    (vector other : List (Client × ℕ)) (deletes spans : List Span) →
    ((client : ℕ) → clock_of vector client ≡ held_clock (held_set (received_of k).operations) client) →
    ((client : ℕ) → clock_of other client ≡ held_clock (held_set (received_of l).operations) client) →
    AreDeletedIn deletes (own_document k) → AreDeletedIn spans (own_document l) →
    (name : DocList) (shown told : List ℕ) → name ≡ text_list → shown ≡ shown_text (own_document k) name → told ≡ shown_text (own_document l) name →
    (s t u v w : Bool) → IsTrue s ↔ (shown ≡ told) → IsTrue t ↔ HaveSameClocks vector other → IsTrue u ↔ HasAll deletes spans → IsTrue v ↔ HasAll spans deletes →
    w ≡ (((s && t) && u) && v) → IsTrue w ↔ AreAlike (received_of k) (received_of l)
tested_alike k l is also of_one of_other own others vector other deletes spans vector_is other_is are too name shown told name_is shown_is told_is s t u v w s_is t_is u_is v_is w_is =
    let all = four_true s t u v s_is t_is u_is v_is in
    let shown_there : shown ≡ shown_text (own_document k) text_list = shown_is ∙ ap (shown_text (own_document k)) name_is in
    let told_there : told ≡ shown_text (own_document l) text_list = told_is ∙ ap (shown_text (own_document l)) name_is in (
      (λ e. let b = all.0 (sym w_is ∙ e) in found_alike k l is also of_one of_other own others vector other deletes spans vector_is other_is are too
          (sym shown_there ∙ b.0 ∙ told_there) b.1 b.2 b.3),
      (λ alike. let b = alike_found k l is also of_one of_other own others vector other deletes spans vector_is other_is are too alike in
          w_is ∙ all.1 (shown_there ∙ b.0 ∙ sym told_there, b.1, b.2, b.3)),
    )

-- and three are equal where two tests hold
pub tested_equal : {P Q R : Type 0} (s t w : Bool) → IsTrue s ↔ P → IsTrue t ↔ Q → w ≡ (s && t) → (P → Q → R) → (R → P × Q) → IsTrue w ↔ R
tested_equal s t w p q is there back = let both = both_true s t p q in ((λ e. let b = both.0 (sym is ∙ e) in there b.0 b.1), (λ r. is ∙ both.1 (back r)))

-- the units of a replica's text are counted over the document that is defined
pub counted_there : (k : Kept) → IsPlain (received_of k) → IsReplicaDocument (own_document k) (received_of k) → (name : DocList) → name ≡ text_list → (n : ℕ) →
    n ≡ length (counted_units (own_document k) name) → n ≡ length (counted_units (document_of (received_of k)) text_list)
counted_there k is own name name_is n e = e ∙ ap (λ (l : DocList). length (counted_units (own_document k) l)) name_is
    ∙ ap (λ (document : Document). length (counted_units document text_list)) (defined_is k is own)
