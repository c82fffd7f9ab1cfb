-- What `convert` writes of its one update (own).
use Rattle.std.specs.Prelude.{ℕ, ◌≤◌, List, [], ◌∷◌}
use Rattle.yd_fields.specs.UpdateFields.{fields_of_update}
use Rattle.yd_fields.specs.UpdatePlan.{structs_in}
use Rattle.yd_ops.specs.Value.{UpdateValue}
use Rattle.yd_v1.specs.Bytes.{v1_bytes_of_all}
use Rattle.yd_v1.specs.Grammar.{StandsForV1}
use Rattle.yd_v2.specs.Grammar.{StandsForV2}
use Rattle.yd_v2.specs.Reading.{most_structs}
use Rattle.yd_v2.specs.Writing.{v2_file}
use Rattle.yd_asking.specs.declared.format.Format.{Format}
use Rattle.yd_asking.specs.declared.format.Format.TheVariants.{V1, V2}

-- the update's spelling in a format: its fields one behind the other, or in their columns
abbrev pub converted_bytes : Format → UpdateValue → List ℕ
converted_bytes V1 u = v1_bytes_of_all (fields_of_update u)
converted_bytes V2 u = v2_file u

-- the bytes stand for the update again: in V2, where it has no more structs than a file may declare there
abbrev pub StandsAgain : Format → List ℕ → UpdateValue → Type 0
StandsAgain V1 bytes u = StandsForV1 bytes u
StandsAgain V2 bytes u = structs_in u.blocks ≤ most_structs → StandsForV2 bytes u

-- the one update in the format
abbrev pub converted_output : Format → List UpdateValue → List ℕ
converted_output form [] = []
converted_output form (update ∷ more) = converted_bytes form update

-- what is written stands for the update again
abbrev pub ConvertedStandsAgain : Format → List UpdateValue → Type 0
ConvertedStandsAgain form [] = Unit {0}
ConvertedStandsAgain form (update ∷ more) = StandsAgain form (converted_bytes form update) update
