-- What is made again of ids in a row, group by group.
use Rattle.std.proofs.Common.{◌≡◌, ℕ, zero, suc, ◌+◌, ◌-◌, ◌<◌, ◌≤◌, ◌&&◌, not, Bool, true, false, List, [], ◌∷◌, ◌++◌, map, length, drop, None, Some, inl, inr, refl, sym, ap, ◌∙◌, subst, arith, append_assoc, append-nil}
use Rattle.std.specs.Prelude.{if◌then◌else◌}
use Rattle.std.proofs.lemmas.List.{length-append, length-map, length-take-le, length-drop, map-append}
use Rattle.yd_words.specs.Each.{Each}
use Rattle.yd_words.specs.Member.{IsIn}
use Rattle.yd_words.proofs.MemberLemmas.{each_in}
use Rattle.yd_ids.specs.declared.id.Id.{Id}
use Rattle.yd_ops.specs.declared.lists.List.{List as DocList}
use Rattle.yd_ops.specs.Operation.{Operation, later_id, units_of_content}
use Rattle.yd_ops.specs.declared.contents.Content.{Content}
use Rattle.yd_ops.specs.View.{content_value}
use Rattle.yd_ops.proofs.OperationLemmas.{later_later, later_none, length-units_of_content}
use Rattle.yd_grouping.specs.Groupable.{IsValidOperation}
use Rattle.yd_meaning.specs.Document.{Document}
use Rattle.yd_state.specs.Lent.{Lent, lent, lent_units}
use Rattle.yd_editing.specs.Step.{Step, make}
use Rattle.yd_making.specs.declared.step.Step.{Step as StepGiven}
use Rattle.yd_making.specs.declared.step.Step.TheVariants.{Make}
use Rattle.yd_making.specs.Steps.{step_value, steps_value}
use Rattle.yd_copying.specs.Content.{can_be_made, kind_of, content_of}
use Rattle.yd_copying.specs.Piece.{IsPiece, piece_units, pieces_units}
use Rattle.yd_copying.specs.declared.pieces.Piece.{Piece}
use Rattle.yd_meaning.specs.Names.{has_key}
use Rattle.yd_remaking.specs.declared.finding.Group.{Group}
use Rattle.yd_remaking.specs.Group.{goes_on, row_behind, units_from, group_from}
use Rattle.yd_remaking.specs.Parts.{contents_of, IsFound}
use Rattle.yd_remaking.specs.Rows.{unit_before, HoldValid}
use Rattle.yd_undo.specs.Remade.{Seen, units_in, is_place, group_in, step_of_group, taken_by, steps_from}

-- ---- validity

-- what a list's units hold, where all that is received is valid
pub hold_valid : (document : Document) (name : DocList) (received : List Operation) → Each IsValidOperation received →
    ((o : Operation) → IsIn o (document.units name) → IsIn o received) → HoldValid (lent_units document name)
hold_valid document name received valid among = go (document.units name) among
  where
    go : (os : List Operation) → ((o : Operation) → IsIn o os → IsIn o received) → HoldValid (map (lent document.deleted) os)
    go [] within = tt
    go (o ∷ os) within = ((each_in IsValidOperation received valid o (within o (inl refl))).content, go os (λ p i. within p (inr i)))

-- ---- groups have a unit, and no more than asked

pub some_units : (kind : ℕ) (ps : List Piece) → 0 < length ps → Each (IsPiece kind) ps → 0 < length (pieces_units ps)
some_units kind [] some each = absurd (omega (arith, some))
some_units kind (p ∷ ps) some each = omega (
  arith,
  each.0.some,
  each.0.within,
  length-append (piece_units p) (pieces_units ps),
  length-take-le p.len (drop p.offset (units_of_content (content_value p.content.now)))
      (omega (arith, each.0.within, length-units_of_content (content_value p.content.now), length-drop p.offset (units_of_content (content_value p.content.now)))),
)

row_bound : (k : ℕ) (x : Id) (most : ℕ) (us : List Lent) → length (row_behind k x most us) ≤ most
row_bound k x zero us = omega arith
row_bound k x (suc most) [] = omega arith
row_bound k x (suc most) (u ∷ us) = go (goes_on k x u) (row_bound k (later_id x 1) most us)
  where
    go : (t : Bool) → length (row_behind k (later_id x 1) most us) ≤ most → length (if t then u ∷ row_behind k (later_id x 1) most us else []) ≤ suc most
    go true le = omega (arith, le)
    go false le = omega arith

pub group_bound : (most : ℕ) (us : List Lent) → 0 < most → length (group_from most us) ≤ most
group_bound most [] some = omega arith
group_bound most (u ∷ us) some = go (can_be_made u.content)
  where
    go : (t : Bool) → length (if t then u ∷ row_behind (kind_of u.content) (later_id u.id 1) (most - 1) us else []) ≤ most
    go true = omega (arith, some, row_bound (kind_of u.content) (later_id u.id 1) (most - 1) us)
    go false = omega arith

pub taken_is : (group : List Lent) → 0 < length group → length group ≡ taken_by group
taken_is [] some = absurd (omega (arith, some))
taken_is (u ∷ us) some = refl

-- ---- the group that is found in a list

-- in a list without a key, whose parent can have lists
pub group_open : (seen : Seen) (name : DocList) (x : Id) (most : ℕ) → has_key name ≡ false → is_place seen name ≡ true →
    group_in seen (Some name) x most ≡ group_from most (units_from x (units_in seen name))
group_open seen name x most k p = λ i. if not (k i) && p i then group_from most (units_from x (units_in seen name)) else []

step_there : (seen : Seen) (name : DocList) (x : Id) (g : List Lent) → 0 < length g →
    step_of_group seen (Some name) x g ≡ make name (unit_before x None (units_in seen name)) (content_of (contents_of g)) ∷ []
step_there seen name x [] some = absurd (omega (arith, some))
step_there seen name x (u ∷ us) some = refl

pub some_found : (us : List Lent) (x : Id) (most : ℕ) (group : Group) → IsFound us x most group → 0 < length (group_from most (units_from x us))
some_found us x most group is = let n = some_units _ group.pieces.items is.some is.pieces in
    omega (arith, n, ap length is.units, length-map (group_from most (units_from x us)) (λ (u : Lent). u.content))

pub group_added : (seen : Seen) (name list : DocList) (x : Id) (most : ℕ) (group : Group) (content : Content) (old new : List StepGiven) → has_key name ≡ false →
    is_place seen name ≡ true → IsFound (units_in seen name) x most group → content_value content ≡ content_of (pieces_units group.pieces.items) → list ≡ name →
    new ≡ old ++ Make list group.before content ∷ [] → steps_value new ≡ steps_value old ++ step_of_group seen (Some name) x (group_in seen (Some name) x most)
group_added seen name list x most group content old new k p is held same e = ap steps_value e ∙ map-append step_value old (Make list group.before content ∷ [])
    ∙ ap (λ ss. steps_value old ++ ss) ((λ i. make (same i) (is.before i) ((held ∙ ap content_of is.units) i) ∷ [])
    ∙ sym (step_there seen name x (group_from most (units_from x (units_in seen name))) (some_found (units_in seen name) x most group is))
    ∙ ap (step_of_group seen (Some name) x) (sym (group_open seen name x most k p)))

pub group_taken : (seen : Seen) (name : DocList) (x : Id) (most : ℕ) (group : Group) → has_key name ≡ false → is_place seen name ≡ true → IsFound (units_in seen name) x most group →
    group.len ≡ taken_by (group_in seen (Some name) x most)
group_taken seen name x most group k p is = is.len ∙ taken_is (group_from most (units_from x (units_in seen name))) (some_found (units_in seen name) x most group is)
    ∙ ap taken_by (sym (group_open seen name x most k p))

-- where there is none, no step is added and the one id is done
pub none_added : (seen : Seen) (name : DocList) (x : Id) (most : ℕ) (old : List StepGiven) → has_key name ≡ false → is_place seen name ≡ true →
    group_from most (units_from x (units_in seen name)) ≡ [] → steps_value old ≡ steps_value old ++ step_of_group seen (Some name) x (group_in seen (Some name) x most)
none_added seen name x most old k p none = sym (append-nil (steps_value old))
    ∙ ap (λ g. steps_value old ++ step_of_group seen (Some name) x g) (sym none ∙ sym (group_open seen name x most k p))

pub none_taken : (seen : Seen) (name : DocList) (x : Id) (most : ℕ) → has_key name ≡ false → is_place seen name ≡ true →
    group_from most (units_from x (units_in seen name)) ≡ [] → 1 ≡ taken_by (group_in seen (Some name) x most)
none_taken seen name x most k p none = ap taken_by (sym none ∙ sym (group_open seen name x most k p))

pub group_some : (us : List Lent) (x : Id) (most : ℕ) (group : Group) → IsFound us x most group → 0 < group.len
group_some us x most group is = omega (arith, is.len, some_found us x most group is)

pub group_within : (us : List Lent) (x : Id) (most : ℕ) (group : Group) → 0 < most → IsFound us x most group → group.len ≤ most
group_within us x most group some is = omega (arith, is.len, group_bound most (units_from x us) some)

-- ---- in a row

skipped : (seen : Seen) (x : Id) (k len : ℕ) → k ≤ len → steps_from seen x k len ≡ steps_from seen (later_id x k) 0 (len - k)
skipped seen x zero len le = let all : len ≡ len - 0 = omega arith in (λ i. steps_from seen (sym (later_none x) i) 0 (all i))
skipped seen x (suc k) zero le = absurd (omega (arith, le))
skipped seen x (suc k) (suc len) le = skipped seen (later_id x 1) k len (omega (arith, le)) ∙ (λ i. steps_from seen (next i) 0 (left i))
  where
    same : 1 + k ≡ suc k
    same = omega arith

    next : later_id (later_id x 1) k ≡ later_id x (suc k)
    next = later_later x 1 k ∙ ap (later_id x) same

    left : len - k ≡ suc len - suc k
    left = omega arith

pub row_next : (seen : Seen) (x : Id) (len n : ℕ) (group : List Lent) → group ≡ group_in seen (seen.list_of x) x len → 0 < len → n ≡ taken_by group → n ≤ len →
    steps_from seen x 0 len ≡ step_of_group seen (seen.list_of x) x group ++ steps_from seen (later_id x n) 0 (len - n)
row_next seen x zero n group g some e le = absurd (omega (arith, some))
row_next seen x (suc len) n group g some e le =
    (λ i. step_of_group seen (seen.list_of x) x (sym g i) ++ steps_from seen (later_id x 1) (length (sym g i) - 1) len)
    ∙ ap (λ ss. step_of_group seen (seen.list_of x) x group ++ ss)
    (ap (λ k. steps_from seen (later_id x 1) k len) one ∙ skipped seen (later_id x 1) (n - 1) len (omega (arith, le)) ∙ (λ i. steps_from seen (next i) 0 (left i)))
  where
    count : (us : List Lent) → length us - 1 ≡ taken_by us - 1
    count [] = omega arith
    count (u ∷ us) = refl

    positive : (us : List Lent) → 0 < taken_by us
    positive [] = omega arith
    positive (u ∷ us) = omega arith

    one : length group - 1 ≡ n - 1
    one = count group ∙ ap (λ k. k - 1) (sym e)

    more : 0 < n
    more = subst (λ k. 0 < k) (sym e) (positive group)

    same : 1 + (n - 1) ≡ n
    same = omega (arith, more)

    next : later_id (later_id x 1) (n - 1) ≡ later_id x n
    next = later_later x 1 (n - 1) ∙ ap (later_id x) same

    left : len - (n - 1) ≡ suc len - n
    left = omega (arith, more, le)

-- ---- lemmas for callers: the code's steps

pub span_next : (seen : Seen) (x : Id) (len n : ℕ) (old new : List Step) → 0 < len → n ≡ taken_by (group_in seen (seen.list_of x) x len) → n ≤ len →
    new ≡ old ++ step_of_group seen (seen.list_of x) x (group_in seen (seen.list_of x) x len) →
    new ++ steps_from seen (record { client = x.client; clock = x.clock + n }) 0 (len - n) ≡ old ++ steps_from seen x 0 len
span_next seen x len n old new some e le is = ap (λ ss. ss ++ steps_from seen (later_id x n) 0 (len - n)) is
    ∙ append_assoc old (step_of_group seen (seen.list_of x) x (group_in seen (seen.list_of x) x len)) (steps_from seen (later_id x n) 0 (len - n))
    ∙ ap (λ ss. old ++ ss) (sym (row_next seen x len n (group_in seen (seen.list_of x) x len) refl some e le))
