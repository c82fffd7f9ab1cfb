-- Gathering: groups joined wherever one goes on from the one before, and the border between two lists.
use Rattle.std.specs.Prelude.{if◌then◌else◌}
use Rattle.std.proofs.Common.{◌≡◌, Bool, true, false, List, [], ◌∷◌, ◌++◌, map, refl, sym, ap, ◌∙◌}
use Rattle.yd_ops.specs.Operation.{Operation}
use Rattle.yd_grouping.specs.Groups.{AreApart, Group, gathered, group_joins, group_of, groups_for, in_front, joined_group, met}
use Rattle.yd_grouping.proofs.JoiningLemmas.{group-assoc, group-back, group-front}

-- a group in front of a group in front of others
front_twice : (first group : Group) (others : List Group) →
    in_front first (in_front group others) ≡ met (if group_joins first group then joined_group first group ∷ [] else first ∷ group ∷ []) others
front_twice first group [] = go (group_joins first group)
  where
    go : (t : Bool) → (if t then joined_group first group ∷ [] else first ∷ group ∷ []) ≡ met (if t then joined_group first group ∷ [] else first ∷ group ∷ []) []
    go true = refl
    go false = refl
front_twice first group (next ∷ others) = go (group_joins first group) refl (group_joins group next) refl
  where
    go : (s : Bool) → group_joins first group ≡ s → (t : Bool) → group_joins group next ≡ t →
        in_front first (if t then joined_group group next ∷ others else group ∷ next ∷ others) ≡ met (if s then joined_group first group ∷ [] else first ∷ group ∷ []) (next ∷ others)
    go true e true f = rw (group-front first group next f, e, group-back first group next e, f) (ap (λ g. g ∷ others) (sym (group-assoc first group next e f)))
    go true e false f = rw (e, group-back first group next e, f) refl
    go false e true f = rw (group-front first group next f, e, f) refl
    go false e false f = rw (e, f) refl

front_met : (first : Group) (groups others : List Group) → in_front first (met groups others) ≡ met (in_front first groups) others
front_met first [] others = refl
front_met first (group ∷ []) others = front_twice first group others
front_met first (group ∷ next ∷ groups) others = go (group_joins first group)
  where
    go : (t : Bool) → (if t then joined_group first group ∷ met (next ∷ groups) others else first ∷ group ∷ met (next ∷ groups) others)
        ≡ met (if t then joined_group first group ∷ next ∷ groups else first ∷ group ∷ next ∷ groups) others
    go true = refl
    go false = refl

-- ---- lemmas for callers

-- what is gathered of two lists is what is gathered of each, met at the border
pub gathered-append : (groups others : List Group) → gathered (groups ++ others) ≡ met (gathered groups) (gathered others)
gathered-append [] others = refl
gathered-append (group ∷ groups) others = ap (in_front group) (gathered-append groups others) ∙ front_met group (gathered groups) (gathered others)

pub map-append : (os ps : List Operation) → map group_of (os ++ ps) ≡ map group_of os ++ map group_of ps
map-append [] ps = refl
map-append (o ∷ os) ps = ap (λ gs. group_of o ∷ gs) (map-append os ps)

pub border : (os ps : List Operation) → groups_for (os ++ ps) ≡ met (groups_for os) (groups_for ps)
border os ps = ap gathered (map-append os ps) ∙ gathered-append (map group_of os) (map group_of ps)

-- no group goes on from the one before then
front_apart : (group : Group) (groups : List Group) → AreApart groups → AreApart (in_front group groups)
front_apart group [] apart = tt
front_apart group (next ∷ []) apart = go (group_joins group next) refl
  where
    go : (t : Bool) → group_joins group next ≡ t → AreApart (if t then joined_group group next ∷ [] else group ∷ next ∷ [])
    go true e = tt
    go false e = (e, tt)
front_apart group (next ∷ third ∷ groups) apart = go (group_joins group next) refl
  where
    go : (t : Bool) → group_joins group next ≡ t → AreApart (if t then joined_group group next ∷ third ∷ groups else group ∷ next ∷ third ∷ groups)
    go true e = (group-back group next third e ∙ apart.0, apart.1)
    go false e = (e, apart)

pub gathered_apart : (groups : List Group) → AreApart (gathered groups)
gathered_apart [] = tt
gathered_apart (group ∷ groups) = front_apart group (gathered groups) (gathered_apart groups)

-- and where none does, gathering changes nothing
pub apart_gathered : (groups : List Group) → AreApart groups → gathered groups ≡ groups
apart_gathered [] apart = refl
apart_gathered (group ∷ []) apart = refl
apart_gathered (group ∷ next ∷ groups) apart = rw (apart_gathered (next ∷ groups) apart.1, apart.0) refl
