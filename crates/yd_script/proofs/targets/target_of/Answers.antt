use Rattle.std.proofs.Common.{List, map, ap, ◌∙◌, sym, subst}
use Rattle.serde_json.proofs.Views.{view-Array}
use Rattle.serde_json.specs.Data.{Data}
use Rattle.serde_json.specs.View.{view}
use Rattle.serde_json.specs.declared.value.Value.{Value}
use Rattle.yd_script.specs.Given.{Answers, path_in, target_in}
use Rattle.yd_script.specs.Line.{target_of}
use Rattle.yd_script.proofs.GivenLemmas.{elements_same}
use Rattle.yd_script.proofs.targets.target_of.Goals as goal

pub returns-in-Array : goal.returns-in-Array
returns-in-Array c =
    subst (λ (d : Data). Answers target_of (target_in d) c.path_of.result) (sym (ap view c.in-Array.is ∙ view-Array c.in-Array.items))
    (subst (λ (ds : List Data). Answers target_of (path_in ds) c.path_of.result) (sym (elements_same (map view c.in-Array.items.items)))
    (subst (λ (vs : List Value). Answers target_of (path_in (map view vs)) c.path_of.result) c.as_slice.ensures.value c.path_of.ensures))
