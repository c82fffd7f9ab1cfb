-- The modes.
use Rattle.yd_shown.specs.Shown.{Mode, as_text, as_delta, as_list, as_map, as_tree}
use Rattle.yd_modes.specs.declared.mode.Mode.{Mode as ModeSeen}
use Rattle.yd_modes.specs.declared.mode.Mode.TheVariants.{Text, Delta, Array, Map, Tree}

-- the mode that the code has
abbrev pub mode_of : ModeSeen → Mode
mode_of Text = as_text
mode_of Delta = as_delta
mode_of Array = as_list
mode_of Map = as_map
mode_of Tree = as_tree
