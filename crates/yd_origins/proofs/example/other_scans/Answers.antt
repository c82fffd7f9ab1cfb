use Rattle.std.proofs.Common.{[], ◌∷◌, inl, inr, refl, sym, subst}
use Rattle.yd_origins.specs.Example.{id_of, unit_with_follower, of_one_list}
use Rattle.yd_origins.specs.Operations.{MeetsRules}
use Rattle.yd_origins.proofs.ExampleLemmas.{meets_rules}
use Rattle.yd_origins.proofs.example.other_scans.Goals as goal

pub returns : goal.returns
returns c = record {
  honest = λ x i. elim i [
    | inl e ↦ subst (λ v. MeetsRules (of_one_list unit_with_follower) v) (sym e) (meets_rules (of_one_list unit_with_follower) [] (id_of 3 0) refl)
    | inr (inl e) ↦ subst (λ v. MeetsRules (of_one_list unit_with_follower) v) (sym e) (meets_rules (of_one_list unit_with_follower) (id_of 3 0 ∷ []) (id_of 2 0) refl)
    | inr (inr (inl e)) ↦ subst (λ v. MeetsRules (of_one_list unit_with_follower) v) (sym e) (meets_rules (of_one_list unit_with_follower) (id_of 2 0 ∷ id_of 3 0 ∷ []) (id_of 2 1) refl)
    | inr (inr (inr (inl e))) ↦ subst (λ v. MeetsRules (of_one_list unit_with_follower) v) (sym e) (meets_rules (of_one_list unit_with_follower) [] (id_of 1 0) refl)
    | inr (inr (inr (inr j))) ↦ absurd j
  ];
  stops_early = refl;
  goes_on = refl;
  greater_first = refl;
  smaller_first = refl;
  moves_always = refl;
  stays = refl;
  order = refl;
}
