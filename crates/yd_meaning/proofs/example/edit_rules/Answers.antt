use Rattle.std.proofs.Common.{◌≡◌, List, [], ◌∷◌, inl, inr, Some, None, refl, sym, ap, ◌∙◌, subst, arith}
use Rattle.yd_words.specs.Member.{IsIn}
use Rattle.yd_ids.specs.declared.id.Id.{Id}
use Rattle.yd_ops.specs.Value.{string}
use Rattle.yd_ops.specs.Operation.{text_unit, Operation}
use Rattle.yd_ops.specs.Received.{received_set}
use Rattle.yd_meaning.specs.Held.{needs, held_set}
use Rattle.yd_meaning.specs.Order.{IsPast, of_need, of_past, MeetsRules, AreHonest}
use Rattle.yd_meaning.specs.Example.{first_id, in_root, origin_put, follower_put}
use Rattle.yd_meaning.proofs.ExampleLemmas.{first_is_id, unit_is_whole, first_valid}
use Rattle.yd_meaning.proofs.example.edit_rules.Goals as goal

abbrev followed : List Operation
followed = held_set (received_set (origin_put ∷ follower_put ∷ [])).operations

-- the past of the follower is the unit that it was put behind
is_followers : {x y : Id} → IsPast followed x y → (x ≡ first_id 2) × (y ≡ first_id 1)
is_followers {x = x} {y = y} (of_need o (inl e) f j) = (sym f ∙ ap (λ (p : Operation). p.id) e, is_it (subst (λ (p : Operation). IsIn y (needs p)) e j))
  where
    is_it : IsIn y (first_id 1 ∷ []) → y ≡ first_id 1
    is_it (inl g) = g
    is_it (inr k) = absurd k
is_followers {y = y} (of_need o (inr (inl e)) f j) = absurd (subst (λ (p : Operation). IsIn y (needs p)) e j)
is_followers (of_need o (inr (inr k)) f j) = absurd k
is_followers (of_past p q) = let a = is_followers p in let b = is_followers q in
    absurd (omega (arith, ap (λ (z : Id). z.client.0) (sym a.1 ∙ b.0)))

kept : AreHonest followed
kept o (inl e) = subst (λ p. MeetsRules followed p) (sym e)
    record { one_list = λ p r g h. absurd cc; left_first = tt; past_outside = λ y g past same between. between.0.0 (sym (is_followers past).1) }
kept o (inr (inl e)) = subst (λ p. MeetsRules followed p) (sym e) record {
  one_list = λ p r g h. absurd cc;
  left_first = tt;
  past_outside = λ y g past same between. absurd (omega (arith, ap (λ (z : Id). z.client.0) (is_followers past).0));
}
kept o (inr (inr k)) = absurd k

-- client 1's second unit, which ignores the first
abbrev second_unit : Operation
second_unit = record { id = record { client = record { 0 = 1 }; clock = 1 }; left_origin = None; right_origin = None; list = Some in_root; content = text_unit 98 }

pub returns : goal.returns
returns c = record {
  valid = (
    first_valid 1 None (Some in_root) (string (97 ∷ [])) (omega arith) tt tt refl (unit_is_whole 97 (omega arith)),
    first_valid 2 (Some (first_id 1)) None (string (98 ∷ [])) (omega arith) (first_is_id 1 (omega arith)) tt refl (unit_is_whole 98 (omega arith)),
    record {
      blocks = (
        record {
          client = omega arith;
          clock = omega arith;
          structs = (
            record { begins = refl; has_units = omega arith; left = tt; right = tt; list = tt; content = unit_is_whole 97 (omega arith) },
            omega arith,
            (record { begins = refl; has_units = omega arith; left = tt; right = tt; list = tt; content = unit_is_whole 98 (omega arith) }, omega arith, tt),
          );
        },
        tt,
      );
      deletes = tt;
    },
  );
  kept = kept;
  broken = λ honest. (honest second_unit (inr (inl refl))).past_outside (first_id 1) refl (of_need second_unit (inr (inl refl)) refl (inl refl)) refl (tt, tt);
  held = refl;
}
