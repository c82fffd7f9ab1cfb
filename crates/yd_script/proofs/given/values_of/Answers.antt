use Rattle.std.proofs.Common.{List, map, ap, ◌∙◌, sym, subst}
use Rattle.serde_json.proofs.Views.{view-Array}
use Rattle.serde_json.specs.Data.{Data}
use Rattle.serde_json.specs.View.{view}
use Rattle.serde_json.specs.declared.value.Value.{Value}
use Rattle.yd_any.specs.AnyView.{any_trees}
use Rattle.yd_script.specs.Given.{Answers, trees_in, values_in}
use Rattle.yd_script.proofs.GivenLemmas.{elements_same}
use Rattle.yd_script.proofs.given.values_of.Goals as goal

pub returns-in-Array-clause-values : goal.returns-in-Array-clause-values
returns-in-Array-clause-values c =
    subst (λ (d : Data). Answers any_trees (values_in d) c.list_of.result) (sym (ap view c.in-Array.is ∙ view-Array c.in-Array.items))
    (subst (λ (ds : List Data). Answers any_trees (trees_in ds) c.list_of.result) (sym (elements_same (map view c.in-Array.items.items)))
    (subst (λ (vs : List Value). Answers any_trees (trees_in (map view vs)) c.list_of.result) c.as_slice.ensures.value c.list_of.ensures.values))
