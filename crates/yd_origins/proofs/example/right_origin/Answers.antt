use Rattle.std.proofs.Common.{[], ◌∷◌, inl, inr, refl, sym, subst}
use Rattle.yd_origins.specs.Example.{id_of, three_clients, of_one_list}
use Rattle.yd_origins.specs.Operations.{MeetsRules}
use Rattle.yd_origins.proofs.ExampleLemmas.{meets_rules}
use Rattle.yd_origins.proofs.example.right_origin.Goals as goal

pub returns : goal.returns
returns c = record {
  honest = λ x i. elim i [
    | inl e ↦ subst (λ v. MeetsRules (of_one_list three_clients) v) (sym e) (meets_rules (of_one_list three_clients) [] (id_of 0 0) refl)
    | inr (inl e) ↦ subst (λ v. MeetsRules (of_one_list three_clients) v) (sym e) (meets_rules (of_one_list three_clients) [] (id_of 1 0) refl)
    | inr (inr (inl e)) ↦ subst (λ v. MeetsRules (of_one_list three_clients) v) (sym e) (meets_rules (of_one_list three_clients) (id_of 0 0 ∷ []) (id_of 3 0) refl)
    | inr (inr (inr j)) ↦ absurd j
  ];
  order = refl;
  one_last = refl;
  three_last = refl;
  one_first = refl;
}
