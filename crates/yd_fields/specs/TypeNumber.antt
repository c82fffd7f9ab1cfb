-- The numbers of nested types (Yjs 13, typeRefs).
use Rattle.std.specs.Prelude.{ℕ, Option, Some, None, nat_eq, if◌then◌else◌}
use Rattle.yd_fields.specs.declared.kinds.TypeKind.{TypeKind}
use Rattle.yd_fields.specs.declared.kinds.TypeKind.TheVariants.{Array, Map, Text, Element, Fragment, Hook, ElementText}

-- the number of a type
abbrev pub number_of_kind : TypeKind → ℕ
number_of_kind Array = 0
number_of_kind Map = 1
number_of_kind Text = 2
number_of_kind Element = 3
number_of_kind Fragment = 4
number_of_kind Hook = 5
number_of_kind ElementText = 6

-- the type of a number, if it is one
abbrev pub kind_of_number : ℕ → Option TypeKind
kind_of_number n =
    if nat_eq n 0 then Some Array
    else if nat_eq n 1 then Some Map
    else if nat_eq n 2 then Some Text
    else if nat_eq n 3 then Some Element
    else if nat_eq n 4 then Some Fragment
    else if nat_eq n 5 then Some Hook
    else if nat_eq n 6 then Some ElementText
    else None
