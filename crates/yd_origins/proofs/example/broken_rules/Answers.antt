use Rattle.std.proofs.Common.{[], ◌∷◌, inl, refl, true≢false, sym, arith}
use Rattle.yd_origins.specs.Example.{id_of, crossed, both_first, of_one_list}
use Rattle.yd_origins.specs.Operations.{of_clock}
use Rattle.yd_origins.proofs.ExampleLemmas.{meets_rules}
use Rattle.yd_origins.proofs.example.broken_rules.Goals as goal

pub returns : goal.returns
returns c = record {
  first_meets = meets_rules (of_one_list crossed) [] (id_of 1 0) refl;
  second_meets = meets_rules (of_one_list crossed) (id_of 1 0 ∷ []) (id_of 1 1) refl;
  crossed_breaks = λ rules. true≢false (sym rules.left_first.1);
  one_meets = meets_rules (of_one_list both_first) [] (id_of 1 0) refl;
  other_breaks = λ rules. rules.past_outside (id_of 1 0) (inl refl) (of_clock (inl refl) (refl, omega arith)) refl (tt, tt);
  order = refl;
  scan = refl;
}
