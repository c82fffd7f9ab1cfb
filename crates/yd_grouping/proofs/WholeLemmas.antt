-- The groups for operations hold whole texts, where pairs are whole.
use Rattle.std.specs.Prelude.{if◌then◌else◌, nat_eq}
use Rattle.std.proofs.Common.{◌≡◌, ◌+◌, Bool, true, false, List, [], ◌∷◌, ◌⊎◌, inl, inr, refl, sym, ap, ◌∙◌, subst, arith, tests, true≢false}
use Rattle.yd_words.specs.Each.{Each}
use Rattle.yd_words.specs.Member.{IsIn}
use Rattle.yd_units.proofs.HalfLemmas.{WholeAfter}
use Rattle.yd_ids.specs.Ids.{is_same, is_same_neighbour}
use Rattle.yd_ids.proofs.IdLemmas.{same_itself}
use Rattle.yd_ops.specs.Joining.{are_of_one_kind, joined_content, joined_run, run_joins}
use Rattle.yd_ops.specs.Operation.{ArePartners, IsHighUnit, IsLowUnit, Operation, UnitContent, later_id, level_of, text_unit}
use Rattle.yd_ops.specs.Value.{ContentValue, RunValue, string}
use Rattle.yd_ops.proofs.JoinLemmas.{joins_says, neighbour_itself, says_joins}
use Rattle.yd_ops.specs.ReceivedLaw.{HaveOneRight}
use Rattle.yd_ops.specs.Received.{IsWritten}
use Rattle.yd_ops.proofs.LevelLemmas.{half_full}
use Rattle.yd_ops.proofs.MendingLemmas.{HasPartners}
use Rattle.yd_ops.proofs.PartnerLemmas.{IsHalf, high_partner, low_partner, partners_decide}
use Rattle.yd_meaning.specs.Held.{is_gone}
use Rattle.yd_grouping.specs.Groups.{Group, content_of_unit, group_of, groups_for, in_front, met, of_gone, of_run, run_of}
use Rattle.yd_grouping.proofs.GroupsLemmas.{unit-len}
use Rattle.yd_grouping.proofs.SideLemmas.{AreMet, AreSideBySide, HaveSides, are_met, not_before, not_own_next}

-- ---- texts of groups

-- a text that begins with this unit is whole behind it, and what is no text begins with no half
abbrev HeadText : UnitContent → ContentValue → Type 0
HeadText unit (string []) = ⊥
HeadText unit (string (u ∷ us)) = (unit ≡ text_unit u) × WholeAfter u us
HeadText unit content = IsHalf unit → ⊥

-- the group begins with the operation
abbrev Opens : Operation → Group → Type 0
Opens o (of_run run) = (run.id ≡ o.id) × (run.left ≡ o.left_origin) × (run.right ≡ o.right_origin) × HeadText o.content run.content
Opens o (of_gone id count) = IsHalf o.content → ⊥

-- a text of the content is whole
abbrev pub HasWholeText : ContentValue → Type 0
HasWholeText (string units) = WholeAfter 0 units
HasWholeText content = Unit {0}

abbrev pub IsWholeGroup : Group → Type 0
IsWholeGroup (of_run run) = HasWholeText run.content
IsWholeGroup (of_gone id count) = Unit {0}

-- the first group begins with the first operation, and the others are whole
abbrev GoOn : List Operation → List Group → Type 0
GoOn [] [] = Unit {0}
GoOn [] (group ∷ groups) = ⊥
GoOn (o ∷ os) [] = ⊥
GoOn (o ∷ os) (group ∷ groups) = Opens o group × Each IsWholeGroup groups

no_half : {P : Type 0} → ⊥ ⊎ ⊥ → P
no_half (inl i) = absurd i
no_half (inr i) = absurd i

-- a unit alone is so, where it is no high half
alone_text : (unit : UnitContent) → (IsHighUnit unit → ⊥) → HeadText unit (content_of_unit unit)
alone_text (text_unit u) quiet = (refl, quiet)
alone_text unit quiet = λ h. no_half h

-- a unit in front of a text
joined_text : (unit next : UnitContent) (content : ContentValue) → are_of_one_kind (content_of_unit unit) content ≡ true → HeadText next content →
    (IsHighUnit unit → IsLowUnit next) → (IsLowUnit next → IsHighUnit unit) → HeadText unit (joined_content (content_of_unit unit) content)
joined_text (text_unit u) next (string []) e head there back = absurd head
joined_text (text_unit u) next (string (v ∷ us)) e head there back =
    (refl, (((λ high. subst (λ c. IsLowUnit c) head.0 (there high)), (λ low. back (subst (λ c. IsLowUnit c) (sym head.0) low))), head.1))
joined_text (text_unit u) next content e head there back = absurd (true≢false (sym e))
joined_text unit next content e head there back = λ h. no_half h

-- a text that begins with no low half is whole
whole_text : (unit : UnitContent) (content : ContentValue) → HeadText unit content → (IsLowUnit unit → ⊥) → HasWholeText content
whole_text unit (string []) head quiet = absurd head
whole_text unit (string (u ∷ us)) head quiet = (((λ high. absurd (omega (arith, high))), (λ low. absurd (quiet (subst (λ c. IsLowUnit c) (sym head.0) low)))), head.1)
whole_text unit content head quiet = tt

-- two halves are of one kind
half_kind : (unit next : UnitContent) (content : ContentValue) → IsHighUnit unit → IsHalf next → HeadText next content → are_of_one_kind (content_of_unit unit) content ≡ true
half_kind (text_unit u) next (string []) high half head = absurd head
half_kind (text_unit u) next (string (v ∷ us)) high half head = refl
half_kind (text_unit u) next content high half head = absurd (head half)
half_kind unit next content high half head = absurd high

-- partners join
partners_join : (o p : Operation) (run : RunValue) → AreSideBySide o p → Opens p (of_run run) → run_joins (run_of o) run ≡ true
partners_join o p run pair opens = says_joins (run_of o) run (record {
  begins = opens.0 ∙ pair.0.next_clock ∙ ap (later_id o.id) (sym (unit-len o.content));
  behind = rw (opens.1 ∙ pair.0.behind) (subst (λ x. is_same x (later_id o.id 1) ≡ true) (sym (opens.0 ∙ pair.0.next_clock)) (same_itself (later_id o.id 1)));
  right = subst (λ z. is_same_neighbour o.right_origin z ≡ true) (pair.1 ∙ sym opens.2) (neighbour_itself o.right_origin);
  kind = half_kind o.content p.content run.content pair.0.high_half (inr pair.0.low_half) opens.3;
})

high_not_gone : (o : Operation) → is_gone o ≡ true → IsHighUnit o.content → ⊥
high_not_gone o e high = go o.content e high
  where
    go : (unit : UnitContent) → nat_eq (level_of unit) 0 ≡ true → IsHighUnit unit → ⊥
    go (text_unit u) f h = true≢false (sym f)
    go unit f h = h

gone_no_half : (o : Operation) → is_gone o ≡ true → IsHalf o.content → ⊥
gone_no_half o e half = absurd (omega (arith, half_full o.content half, zero_level))
  where
    zero_level : level_of o.content ≡ 0
    zero_level = grind (arith, tests)

-- an operation alone opens its group, where it is no high half
opens_alone : (o : Operation) → (IsHighUnit o.content → ⊥) → Opens o (group_of o)
opens_alone o quiet = go (is_gone o) refl
  where
    go : (t : Bool) → is_gone o ≡ t → Opens o (if t then of_gone o.id 1 else of_run (run_of o))
    go true e = gone_no_half o e
    go false e = (refl, refl, refl, alone_text o.content quiet)

-- one in front of the next
step : (o p : Operation) (group : Group) (groups : List Group) → (IsHighUnit o.content → AreSideBySide o p) → (IsLowUnit p.content → AreSideBySide o p) →
    Opens p group → Each IsWholeGroup groups → (os : List Operation) → GoOn (o ∷ os) (in_front (group_of o) (group ∷ groups))
step o p (of_run run) groups high low opens whole os = go (is_gone o) refl
  where
    at_run : (t : Bool) → run_joins (run_of o) run ≡ t → is_gone o ≡ false → GoOn (o ∷ os) (if t then of_run (joined_run (run_of o) run) ∷ groups else
        of_run (run_of o) ∷ of_run run ∷ groups)
    at_run true e f = (
      (
        refl,
        refl,
        refl,
        joined_text o.content p.content run.content (joins_says (run_of o) run e).kind opens.3
            (λ h. (high h).0.low_half) (λ l. (low l).0.high_half),
      ),
      whole,
    )
    at_run false e f =
        let quiet : IsHighUnit o.content → ⊥ = λ h. true≢false (sym (partners_join o p run (high h) opens) ∙ e) in
        ((refl, refl, refl, alone_text o.content quiet), (whole_text p.content run.content opens.3 (λ l. true≢false (sym (partners_join o p run (low l) opens) ∙ e)), whole))

    go : (t : Bool) → is_gone o ≡ t → GoOn (o ∷ os) (in_front (if t then of_gone o.id 1 else of_run (run_of o)) (of_run run ∷ groups))
    go true e = (gone_no_half o e, (whole_text p.content run.content opens.3 (λ l. high_not_gone o e (low l).0.high_half), whole))
    go false e = at_run (run_joins (run_of o) run) refl e
step o p (of_gone id count) groups high low opens whole os = go (is_gone o) refl
  where
    quiet : IsHighUnit o.content → ⊥
    quiet h = opens (inr (high h).0.low_half)

    go : (t : Bool) → is_gone o ≡ t → GoOn (o ∷ os) (in_front (if t then of_gone o.id 1 else of_run (run_of o)) (of_gone id count ∷ groups))
    go true e = at_joined (is_same id (later_id o.id 1))
      where
        at_joined : (t : Bool) → GoOn (o ∷ os) (if t then of_gone o.id (1 + count) ∷ groups else of_gone o.id 1 ∷ of_gone id count ∷ groups)
        at_joined true = (gone_no_half o e, whole)
        at_joined false = (gone_no_half o e, (tt, whole))
    go false e = ((refl, refl, refl, alone_text o.content quiet), (tt, whole))

go_on : (os : List Operation) → AreMet os → GoOn os (groups_for os)
go_on [] met = tt
go_on (o ∷ []) met = (opens_alone o met, tt)
go_on (o ∷ p ∷ os) met = next (groups_for (p ∷ os)) (go_on (p ∷ os) met.2)
  where
    next : (groups : List Group) → GoOn (p ∷ os) groups → GoOn (o ∷ p ∷ os) (in_front (group_of o) groups)
    next [] on = absurd on
    next (group ∷ groups) on = step o p group groups met.0 met.1 on.0 on.1 (p ∷ os)

all_whole : (os : List Operation) (groups : List Group) → GoOn os groups → ((o : Operation) → IsIn o os → IsLowUnit o.content → (p : Operation) × IsIn p os × ArePartners p o) →
    IsWritten os → Each IsWholeGroup groups
all_whole [] [] on partners w = tt
all_whole [] (group ∷ groups) on partners w = absurd on
all_whole (o ∷ os) [] on partners w = absurd on
all_whole (o ∷ os) (of_gone id count ∷ groups) on partners w = (tt, on.1)
all_whole (o ∷ os) (of_run run ∷ groups) on partners w = (whole_text o.content run.content on.0.3 first, on.1)
  where
    first : IsLowUnit o.content → ⊥
    first low = let (p, i, pair) = partners o (inl refl) low in elim i [
      | inl e ↦ not_own_next o.id (pair.next_clock ∙ ap (λ (r : Operation). later_id r.id 1) e)
      | inr j ↦ not_before p.id o.id pair.next_clock (w.0 p j)
    ]

-- ---- lemmas for callers

low_one : (os : List Operation) → HasPartners os → (o : Operation) → IsIn o os → IsLowUnit o.content → (p : Operation) × IsIn p os × ArePartners p o
low_one os partners o i low = let (p, j, pair) = partners o i (inr low) in (p, j, low_partner o p low pair)

high_one : (os : List Operation) → HasPartners os → (o : Operation) → IsIn o os → IsHighUnit o.content → (p : Operation) × IsIn p os × ArePartners o p
high_one os partners o i high = let (p, j, pair) = partners o i (inl high) in (p, j, high_partner o p high pair)

-- where pairs are whole and of one right origin, each group holds whole texts
pub groups_whole : (os : List Operation) → IsWritten os → HasPartners os → HaveOneRight os → Each IsWholeGroup (groups_for os)
groups_whole os w partners rights = all_whole os (groups_for os) (go_on os (are_met os w (have_sides os partners rights))) (low_one os partners) w
  where
    have_sides : (ps : List Operation) → HasPartners ps → HaveOneRight ps → HaveSides ps
    have_sides [] partners rights = tt
    have_sides (o ∷ os) partners rights = (
      (λ x i high. let (p, j, pair) = high_one (o ∷ os) partners x i high in (p, j, (pair, rights x p i j ((partners_decide x p).1 pair)))),
      (λ x i low. let (p, j, pair) = low_one (o ∷ os) partners x (inr i) low in (p, j, (pair, rights p x j (inr i) ((partners_decide p x).1 pair)))),
    )
