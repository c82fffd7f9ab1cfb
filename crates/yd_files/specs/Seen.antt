-- What the code has, as definitions see it: without where texts and updates lie in memory.
use Rattle.std.specs.Prelude.{List, map}
use Rattle.yd_ops.specs.Value.{UpdateValue}
use Rattle.yd_ops.specs.View.{update_value}
use Rattle.yd_files.specs.Files.{File}
use Rattle.yd_files.specs.Verdict.{Inputs}
use Rattle.yd_files.specs.declared.file.File.{File as FileSeen}
use Rattle.yd_files.specs.declared.inputs.Inputs.{Inputs as InputsSeen}
use Rattle.yd_files.specs.declared.inputs.Others.{Others as OthersSeen}

-- the file
abbrev pub file_of : FileSeen → File
file_of file = record { kind = file.kind; name = file.name.now }

-- what files stand for together
abbrev pub inputs_of : InputsSeen → Inputs
inputs_of inputs = record { kinds = inputs.kinds.items; vectors = inputs.vectors.items; scripts = inputs.scripts.items; updates = map update_value inputs.updates }

-- what they stand for together, with these updates
abbrev pub inputs_with : OthersSeen → List UpdateValue → Inputs
inputs_with others us = record { kinds = others.kinds.items; vectors = others.vectors.items; scripts = others.scripts.items; updates = us }
