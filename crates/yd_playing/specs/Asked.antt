-- What a line of a script asks of a document: the steps of its edit at the parent to which its target leads, and when it is refused
-- (own).
use Rattle.std.specs.Prelude.{List, Option}
use Rattle.yd_units.specs.Text.{units_of}
use Rattle.yd_any.specs.Tree.{no_trees, tree}
use Rattle.yd_ops.specs.declared.lists.Parent.{Parent}
use Rattle.yd_ops.specs.Value.{any, string, nested, embed as embed_value}
use Rattle.yd_meaning.specs.Document.{Document}
use Rattle.yd_shown.specs.Shown.{own_list}
use Rattle.yd_editing.specs.Basis.{Basis}
use Rattle.yd_editing.specs.MapEdit.{set_steps, unset_steps, set_refusal, unset_refusal}
use Rattle.yd_editing.specs.Step.{Step, Refusal}
use Rattle.yd_editing.specs.TextEdit.{insert_steps, delete_steps, format_steps, insert_refusal, delete_refusal, format_refusal}
use Rattle.yd_script.specs.Line.{Change, insert, embed, delete, format, push, child, set, settype, unset}

-- the steps of a change's edit
abbrev pub change_steps : Document → Parent → Change → List Step
change_steps document parent (insert index text) = insert_steps document (own_list parent) index (string (units_of text))
change_steps document parent (embed index value) = insert_steps document (own_list parent) index (embed_value value)
change_steps document parent (delete index len) = delete_steps document (own_list parent) index len
change_steps document parent (format index len key value) = format_steps document (own_list parent) index len key value
change_steps document parent (push index values) = insert_steps document (own_list parent) index (any values)
change_steps document parent (child index kind) = insert_steps document (own_list parent) index (nested kind)
change_steps document parent (set key value) = set_steps document parent key (any (tree value no_trees))
change_steps document parent (settype key kind) = set_steps document parent key (nested kind)
change_steps document parent (unset key) = unset_steps document parent key

-- the first refusal of a change's edit
abbrev pub change_refusal : Basis → Parent → Change → Option Refusal
change_refusal basis parent (insert index text) = insert_refusal basis (own_list parent) index (string (units_of text))
change_refusal basis parent (embed index value) = insert_refusal basis (own_list parent) index (embed_value value)
change_refusal basis parent (delete index len) = delete_refusal basis (own_list parent) index len
change_refusal basis parent (format index len key value) = format_refusal basis (own_list parent) index len key value
change_refusal basis parent (push index values) = insert_refusal basis (own_list parent) index (any values)
change_refusal basis parent (child index kind) = insert_refusal basis (own_list parent) index (nested kind)
change_refusal basis parent (set key value) = set_refusal basis parent key (any (tree value no_trees))
change_refusal basis parent (settype key kind) = set_refusal basis parent key (nested kind)
change_refusal basis parent (unset key) = unset_refusal basis parent key
