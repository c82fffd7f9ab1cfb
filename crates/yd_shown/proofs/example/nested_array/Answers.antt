use Rattle.std.proofs.Common.{refl}
use Rattle.std.specs.Fmt.{digits}
use Rattle.json.specs.Print.{print_from, escape_byte}
use Rattle.yd_units.specs.Text.{text_of}
use Rattle.yd_shown.specs.Shown.{most_types}
use Rattle.yd_shown.proofs.example.nested_array.Goals as goal

pub returns : goal.returns
unfolding print_from escape_byte most_types digits text_of
returns c = record {
  shown = refl;
  other_order = refl;
  deleted_last = refl;
  deleted_between = refl;
  deleted_first = refl;
  five_first = refl;
  array_last = refl;
  all_back = refl;
  gone = refl;
}
