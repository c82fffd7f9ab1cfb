use Rattle.std.proofs.Common.{[], inl, inr, refl, sym, subst}
use Rattle.yd_origins.specs.Example.{id_of, two_clients, of_one_list}
use Rattle.yd_origins.specs.Operations.{MeetsRules}
use Rattle.yd_origins.proofs.ExampleLemmas.{meets_rules}
use Rattle.yd_origins.proofs.example.two_clients.Goals as goal

pub returns : goal.returns
returns c = record {
  honest = λ x i. elim i [
    | inl e ↦ subst (λ v. MeetsRules (of_one_list two_clients) v) (sym e) (meets_rules (of_one_list two_clients) [] (id_of 1 0) refl)
    | inr (inl e) ↦ subst (λ v. MeetsRules (of_one_list two_clients) v) (sym e) (meets_rules (of_one_list two_clients) [] (id_of 2 0) refl)
    | inr (inr j) ↦ absurd j
  ];
  order = refl;
  smaller_first = refl;
  greater_first = refl;
}
