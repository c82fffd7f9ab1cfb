-- A run cut in two before one of its units (Yjs 13, Item.splice; that halves of a pair stay as they are is own).
use Rattle.std.specs.Prelude.{ℕ, ◌-◌, Some, None, take, drop}
use Rattle.yd_any.specs.Rows.{first_trees, other_trees}
use Rattle.yd_units.specs.Half.{IsCut}
use Rattle.yd_ops.specs.Value.{ContentValue, json, string, any, deleted, RunValue}
use Rattle.yd_ops.specs.Operation.{later_id}

-- the first n units of a content; what has one unit is whole
abbrev pub content_before : ℕ → ContentValue → ContentValue
content_before n (string units) = string (take n units)
content_before n (any ts) = any (first_trees n ts)
content_before n (json values) = json (take n values)
content_before n (deleted count) = deleted n
content_before n content = content

-- and the others
abbrev pub content_behind : ℕ → ContentValue → ContentValue
content_behind n (string units) = string (drop n units)
content_behind n (any ts) = any (other_trees n ts)
content_behind n (json values) = json (drop n values)
content_behind n (deleted count) = deleted (count - n)
content_behind n content = content

-- a cut before unit n parts a pair of a text
abbrev pub PartsPair : ℕ → ContentValue → Type 0
PartsPair n (string units) = IsCut units n
PartsPair n content = ⊥

-- the run of the first n units
abbrev pub run_before : ℕ → RunValue → RunValue
run_before n run = record { id = run.id; left = run.left; right = run.right; list = run.list; content = content_before n run.content }

-- the run of the others: its left origin is the unit before it, and it carries no list
abbrev pub run_behind : ℕ → RunValue → RunValue
run_behind n run = record { id = later_id run.id n; left = Some (later_id run.id (n - 1)); right = run.right; list = None; content = content_behind n run.content }
