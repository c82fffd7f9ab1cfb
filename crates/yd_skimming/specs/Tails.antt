-- What was written last of an update, as far as the next struct may join it (Yjs 13, Item.mergeWith and GC.mergeWith).
use Rattle.std.specs.Prelude.{ℕ, Bool, false, ◌&&◌, Option, Some, None, nat_eq}
use Rattle.yd_ids.specs.Ids.{is_same, is_same_neighbour}
use Rattle.yd_ids.specs.declared.id.Id.{Id}
use Rattle.yd_ops.specs.Joining.{join_kind, stands_behind}
use Rattle.yd_ops.specs.Operation.{later_id}
use Rattle.yd_ops.specs.Value.{ContentValue, RunValue, StructValue, any, binary, deleted, embed, format, gone, item, json, nested, skip, string}
use Rattle.yd_grouping.specs.Groups.{Group, size_of, start_of, struct_of}
use Rattle.yd_skimming.specs.declared.tails.Tail.{Tail}
use Rattle.yd_skimming.specs.declared.tails.TailKind.{TailKind}
use Rattle.yd_skimming.specs.declared.tails.TailKind.TheVariants.{Text, Values, Json, Deleted, Gone}

-- ---- the tail of a struct

-- the kind of a content, if it is one that joins
abbrev pub kind_of : ContentValue → Option TailKind
kind_of (string units) = Some Text
kind_of (any ts) = Some Values
kind_of (json values) = Some Json
kind_of (deleted count) = Some Deleted
kind_of (binary blob) = None
kind_of (embed t) = None
kind_of (format key t) = None
kind_of (nested kind) = None

-- a tail of this kind, if there is one
abbrev pub tail_with : Id → Option Id → Option TailKind → Option Tail
tail_with end right None = None
tail_with end right (Some kind) = Some (record { end = end; right = right; kind = kind })

-- the tail of a run that ends before an id
abbrev pub run_tail : Id → RunValue → Option Tail
run_tail end run = tail_with end run.right (kind_of run.content)

-- the tail of a struct that ends before an id; what stands alone has none
abbrev pub struct_tail : Id → StructValue → Option Tail
struct_tail end (item run) = run_tail end run
struct_tail end (skip count) = None
struct_tail end (gone count) = Some (record { end = end; right = None; kind = Gone })

-- the id behind a group
abbrev pub id_behind : Group → Id
id_behind group = later_id (start_of group) (size_of group)

-- the tail of the last group, if there is one
abbrev pub last_tail : Option Group → Option Tail
last_tail None = None
last_tail (Some group) = struct_tail (id_behind group) (struct_of group)

-- ---- what goes on with it

-- the number of a kind: of those that a content may have, the content's
abbrev pub kind_number : TailKind → ℕ
kind_number Text = 1
kind_number Values = 2
kind_number Json = 3
kind_number Deleted = 4
kind_number Gone = 5

-- whether a content is of this kind
abbrev pub is_of_kind : TailKind → ContentValue → Bool
is_of_kind kind content = nat_eq (kind_number kind) (join_kind content)

-- whether a tail is one of gone units
abbrev pub is_gone_tail : TailKind → Bool
is_gone_tail kind = nat_eq (kind_number kind) 5

-- whether a run that begins where the tail ends goes on with it
abbrev pub run_goes_on : Tail → RunValue → Bool
run_goes_on tail run = stands_behind run.left run.id && is_same_neighbour tail.right run.right && is_of_kind tail.kind run.content

-- whether a struct does
abbrev pub goes_on : Tail → StructValue → Bool
goes_on tail (item run) = run_goes_on tail run
goes_on tail (skip count) = false
goes_on tail (gone count) = is_gone_tail tail.kind

-- whether a struct that begins at an id joins the struct of the tail, if there is one
abbrev pub joins_tail : Option Tail → Id → StructValue → Bool
joins_tail None id s = false
joins_tail (Some tail) id s = is_same id tail.end && goes_on tail s
