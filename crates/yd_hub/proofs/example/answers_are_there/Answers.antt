-- The operations are those of the update.
use Rattle.std.proofs.Common.{◌≡◌, ap, ℕ, zero, suc, slice_index, ◌<◌, [], ◌∷◌, None, Some, inl, inr, refl, arith, nat_eq}
use Rattle.yd_words.specs.Member.{IsIn}
use Rattle.yd_ops.specs.Operation.{Operation, operations_of, level_of}
use Rattle.yd_ops.specs.Value.{string}
use Rattle.yd_ops.specs.declared.lists.Parent.TheVariants.{Root}
use Rattle.yd_meaning.proofs.ExampleLemmas.{run_valid, units_are_whole}
use Rattle.yd_sync.proofs.PresenceLemmas.{tested}
use Rattle.yd_hub.specs.Example.{abc_put}
use Rattle.yd_hub.proofs.example.answers_are_there.Goals as goal

small : (i : ℕ) → slice_index (97 ∷ 98 ∷ 99 ∷ []) i < 0xD800
small zero = omega arith
small (suc zero) = omega arith
small (suc (suc zero)) = omega arith
small (suc (suc (suc i))) = omega arith

full : (o : Operation) → IsIn o (operations_of abc_put) → level_of o.content ≡ 2
full o (inl e) = ap (λ (p : Operation). level_of p.content) e
full o (inr (inl e)) = ap (λ (p : Operation). level_of p.content) e
full o (inr (inr (inl e))) = ap (λ (p : Operation). level_of p.content) e
full o (inr (inr (inr i))) = absurd i

pub returns : goal.returns
returns c = record {
  counts = λ client. elim (tested (nat_eq 1 client)) [ inl e ↦ rw e | inr e ↦ rw e ];
  named = λ x h. absurd h;
  valid = λ vector. run_valid 1 None (Some (record { parent = Root (116 ∷ []); key = None })) (string (97 ∷ 98 ∷ 99 ∷ [])) (omega arith) tt tt 3 (omega arith) (omega arith) refl
      (units_are_whole (97 ∷ 98 ∷ 99 ∷ []) small);
  sent = λ vector o i le. i;
  only = λ vector o i. i;
  behind = λ vector o i. inr (full o i);
  deleted = λ vector x. ((λ h. h), (λ h. h));
}
