-- What an item's info byte tells.
use Rattle.std.proofs.Common.{◌≡◌, ◌<◌, ◌+◌, ◌/◌, ◌%◌, ◌⊎◌, ℕ, Bool, false, List, Option, Some, None, inl, inr, refl, arith}
use Rattle.std.specs.Option.{is_some}
use Rattle.yd_ids.specs.declared.id.Id.{Id}
use Rattle.yd_ops.specs.Value as ops
use Rattle.yd_ops.specs.declared.lists.List.{List as DocList}
use Rattle.yd_fields.specs.StructPlan.{has_key, has_left, has_right, kind_of_info}
use Rattle.yd_fields.specs.UpdateFields.{given_bit, info_of_run, key_bit, kind_bits, origin_bit}
use Rattle.yd_fields.specs.declared.info.ContentKind.{ContentKind}
use Rattle.yd_fields.specs.declared.info.ContentKind.TheVariants.{Deleted, Json, Binary, Str, Embed, Format, Nested, Any}
use Rattle.yd_fields.specs.declared.info.StructKind.TheVariants.{Item}

-- the kind of a content
abbrev pub kind_of_content : ops.ContentValue → ContentKind
kind_of_content (ops.json units) = Json
kind_of_content (ops.binary bytes) = Binary
kind_of_content (ops.string units) = Str
kind_of_content (ops.embed t) = Embed
kind_of_content (ops.format key t) = Format
kind_of_content (ops.nested kind) = Nested
kind_of_content (ops.any ts) = Any
kind_of_content (ops.deleted count) = Deleted

-- ---- bits

-- a bit is clear, or set
abbrev IsBit : ℕ → ℕ → Type 0
IsBit bit n = (n ≡ 0) ⊎ (n ≡ bit)

-- the bit of an origin
origin_is_bit : (bit : ℕ) (origin : Option Id) → IsBit bit (origin_bit bit origin)
origin_is_bit bit None = inl refl
origin_is_bit bit (Some id) = inr refl

-- the bit of a key
given_is_bit : (key : Option (List ℕ)) → IsBit 32 (given_bit key)
given_is_bit None = inl refl
given_is_bit (Some key) = inr refl

-- the bit of a list with a key
key_is_bit : (list : Option DocList) → IsBit 32 (key_bit list)
key_is_bit None = inl refl
key_is_bit (Some list) = given_is_bit list.key

-- the low five bits stand below the others
low_bits : (low key right left : ℕ) → low < 32 → IsBit 32 key → IsBit 64 right → IsBit 128 left → (low + key + right + left) % 32 ≡ low
low_bits low key right left small a b c = omega (arith, a, b, c)

-- a content's bits are the low five bits
kind_is_low : (content : ops.ContentValue) → kind_bits content < 32
kind_is_low (ops.json units) = omega arith
kind_is_low (ops.binary bytes) = omega arith
kind_is_low (ops.string units) = omega arith
kind_is_low (ops.embed t) = omega arith
kind_is_low (ops.format key t) = omega arith
kind_is_low (ops.nested kind) = omega arith
kind_is_low (ops.any ts) = omega arith
kind_is_low (ops.deleted count) = omega arith

-- the kind by the low five bits of a content
kind_by_low : (content : ops.ContentValue) (info : ℕ) → info % 32 ≡ kind_bits content → kind_of_info info ≡ Item (kind_of_content content)
kind_by_low (ops.json units) info low = rw low refl
kind_by_low (ops.binary bytes) info low = rw low refl
kind_by_low (ops.string units) info low = rw low refl
kind_by_low (ops.embed t) info low = rw low refl
kind_by_low (ops.format key t) info low = rw low refl
kind_by_low (ops.nested kind) info low = rw low refl
kind_by_low (ops.any ts) info low = rw low refl
kind_by_low (ops.deleted count) info low = rw low refl

-- the highest bit tells whether a left origin is there
left_by_bits : (low key right : ℕ) (left : Option Id) → low < 32 → IsBit 32 key → IsBit 64 right → has_left (low + key + right + origin_bit 128 left) ≡ is_some left
left_by_bits low key right None small a b = let clear : (low + key + right + 0) / 128 % 2 ≡ 0 = omega (arith, a, b) in rw clear refl
left_by_bits low key right (Some id) small a b = let there : (low + key + right + 128) / 128 % 2 ≡ 1 = omega (arith, a, b) in rw there refl

-- the next bit tells whether a right origin is there
right_by_bits : (low key left : ℕ) (right : Option Id) → low < 32 → IsBit 32 key → IsBit 128 left → has_right (low + key + origin_bit 64 right + left) ≡ is_some right
right_by_bits low key left None small a b = let clear : (low + key + 0 + left) / 64 % 2 ≡ 0 = omega (arith, a, b) in rw clear refl
right_by_bits low key left (Some id) small a b = let there : (low + key + 64 + left) / 64 % 2 ≡ 1 = omega (arith, a, b) in rw there refl

-- whether a list with a key is there
abbrev pub is_keyed : Option DocList → Bool
is_keyed None = false
is_keyed (Some list) = is_some list.key

-- a clear bit tells that no key is there
no_key_by_bits : (low right left : ℕ) → low < 32 → IsBit 64 right → IsBit 128 left → has_key (low + 0 + right + left) ≡ false
no_key_by_bits low right left small a b = let clear : (low + 0 + right + left) / 32 % 2 ≡ 0 = omega (arith, a, b) in rw clear refl

-- the bit tells whether a key is there
given_by_bits : (low right left : ℕ) (key : Option (List ℕ)) → low < 32 → IsBit 64 right → IsBit 128 left → has_key (low + given_bit key + right + left) ≡ is_some key
given_by_bits low right left None small a b = no_key_by_bits low right left small a b
given_by_bits low right left (Some key) small a b = let there : (low + 32 + right + left) / 32 % 2 ≡ 1 = omega (arith, a, b) in rw there refl

-- the bit below tells whether a list with a key is there
key_by_bits : (low right left : ℕ) (list : Option DocList) → low < 32 → IsBit 64 right → IsBit 128 left → has_key (low + key_bit list + right + left) ≡ is_keyed list
key_by_bits low right left None small a b = no_key_by_bits low right left small a b
key_by_bits low right left (Some list) small a b = given_by_bits low right left list.key small a b

-- ---- lemmas for callers

-- an item's info byte tells the kind of its content
pub kind_of_info-run : (run : ops.RunValue) → kind_of_info (info_of_run run) ≡ Item (kind_of_content run.content)
kind_of_info-run run = kind_by_low run.content (info_of_run run)
    (low_bits (kind_bits run.content) (key_bit run.list) (origin_bit 64 run.right) (origin_bit 128 run.left) (kind_is_low run.content) (key_is_bit run.list) (origin_is_bit 64 run.right) (origin_is_bit 128 run.left))

-- an item's info byte tells whether a left origin is there
pub has_left-info : (run : ops.RunValue) → has_left (info_of_run run) ≡ is_some run.left
has_left-info run = left_by_bits (kind_bits run.content) (key_bit run.list) (origin_bit 64 run.right) run.left (kind_is_low run.content) (key_is_bit run.list) (origin_is_bit 64 run.right)

-- an item's info byte tells whether a right origin is there
pub has_right-info : (run : ops.RunValue) → has_right (info_of_run run) ≡ is_some run.right
has_right-info run = right_by_bits (kind_bits run.content) (key_bit run.list) (origin_bit 128 run.left) run.right (kind_is_low run.content) (key_is_bit run.list) (origin_is_bit 128 run.left)

-- an item's info byte tells whether its list has a key
pub has_key-info : (run : ops.RunValue) → has_key (info_of_run run) ≡ is_keyed run.list
has_key-info run = key_by_bits (kind_bits run.content) (origin_bit 64 run.right) (origin_bit 128 run.left) run.list (kind_is_low run.content) (origin_is_bit 64 run.right) (origin_is_bit 128 run.left)
