-- The lines on err (own).
use Rattle.std.specs.Prelude.{ℕ, List, ◌++◌, codes}
use Rattle.yd_parts.specs.Fault.{Fault}
use Rattle.yd_files.specs.Files.{File, file_word}
use Rattle.yd_files.specs.Seen.{file_of}
use Rattle.yd_ending.specs.Message.{refused_message_line}
use Rattle.yd_ending.specs.Script.{refused_script_line}
use Rattle.yd_ending.specs.Reason.{fault_text}
use Rattle.yd_ending.specs.declared.refusal.Refusal.{Refusal}
use Rattle.yd_ending.specs.declared.refusal.Refusal.TheVariants.{OfFile, OfLine, OfMessage}

-- how the program is used
abbrev pub usage_line : List ℕ
usage_line = codes "usage: ydoc show|merge|cut|vector|convert|edit|serve|sync|check|generate|pack\n"

-- the file is refused for this fault
abbrev pub refused_line : File → Fault → List ℕ
refused_line file fault = codes "refused " ++ file_word file ++ codes " " ++ fault_text fault ++ codes "\n"

-- what the code refuses
abbrev pub refusal_line : Refusal → List ℕ
refusal_line (OfFile file cause spot) = refused_line (file_of file) (record { cause = cause; spot = spot })
refusal_line (OfLine script number cause) = refused_script_line script.now number cause
refusal_line (OfMessage number fault) = refused_message_line number fault

-- the library failed at the name
abbrev pub read_fault_line : List ℕ → List ℕ
read_fault_line name = codes "read fault " ++ name ++ codes "\n"

-- out failed
abbrev pub write_fault_line : List ℕ
write_fault_line = codes "write fault\n"

-- memory is wanted
abbrev pub no_memory_line : List ℕ
no_memory_line = codes "no memory\n"

-- the network failed
abbrev pub link_fault_line : List ℕ
link_fault_line = codes "link fault\n"

-- the file of the name is too large
abbrev pub limit_line : List ℕ → List ℕ
limit_line name = codes "limit " ++ name ++ codes " TooLarge\n"

-- no step 2 came
abbrev pub no_step_2_line : List ℕ
no_step_2_line = codes "no step 2\n"
