-- What is made again of ids in a row, group by group, and of spans: all that was left shows in the end.
use Rattle.std.proofs.Common.{◌≡◌, ◌≢◌, ℕ, zero, suc, ◌+◌, ◌-◌, ◌<◌, ◌≤◌, ◌⊎◌, ◌&&◌, ◌||◌, not, Bool, true, false, List, [], ◌∷◌, ◌++◌, map, length, Option, Some, None, inl, inr, refl, sym, ap, ◌∙◌, subst, append_assoc, arith, true≢false}
use Rattle.std.proofs.lemmas.Bool.{cases_Bool, false_from_ne_true}
use Rattle.std.proofs.lemmas.List.{length-map}
use Rattle.std.specs.Prelude.{if◌then◌else◌}
use Rattle.yd_words.specs.Each.{Each}
use Rattle.yd_words.specs.Member.{IsIn}
use Rattle.yd_words.proofs.MemberLemmas.{each_in, in_left_part, in_right_part}
use Rattle.yd_ids.specs.declared.id.Client.{Client}
use Rattle.yd_ids.specs.declared.id.Id.{Id}
use Rattle.yd_ids.specs.declared.id.Span.{Span}
use Rattle.yd_ids.specs.Set.{AreMaximal}
use Rattle.yd_ids.proofs.IdLemmas.{same_numbers}
use Rattle.yd_ops.specs.declared.lists.List.{List as DocList}
use Rattle.yd_ops.specs.Operation.{Operation, later_id, units_of_content, operations_of_run}
use Rattle.yd_ops.specs.Value.{ContentValue, len_of}
use Rattle.yd_meaning.specs.Held.{is_in_span, is_named}
use Rattle.yd_meaning.specs.ListNames.{same_list_decides}
use Rattle.yd_meaning.specs.Names.{has_key}
use Rattle.yd_state.specs.Lent.{Lent, lent}
use Rattle.yd_copying.specs.Content.{can_be_made, kind_of, content_of}
use Rattle.yd_remaking.specs.Group.{units_from, row_behind, group_from}
use Rattle.yd_remaking.specs.Parts.{contents_of}
use Rattle.yd_remaking.specs.Rows.{unit_before}
use Rattle.yd_subsets.specs.Below.{span_below}
use Rattle.yd_editing.specs.Made.{put_behind, run_of_step, lists_with, lists_after}
use Rattle.yd_editing.specs.Step.{Step, make, remove}
use Rattle.yd_editing.proofs.AroundLemmas.{HasNot, SplitAt, split_at, apart_one}
use Rattle.yd_editing.proofs.DeleteLemmas.{apart_parts}
use Rattle.yd_editing.proofs.IndexLemmas.{AreApart}
use Rattle.yd_editing.proofs.InsertLemmas.{contents_from}
use Rattle.yd_editing.proofs.NamedLemmas.{named_has}
use Rattle.yd_editing.proofs.TakenLemmas.{run_within}
use Rattle.yd_undo.specs.Remade.{Seen, units_in, is_place, group_in, step_of_group, taken_by, steps_from, steps_of_groups}
use Rattle.yd_undo.proofs.RemadeLemmas.{group_bound, group_open, row_next}
use Rattle.yd_restoring.specs.Again.{contents, AreAgain}
use Rattle.yd_restoring.proofs.AgainLemmas.{IsOf, again_same, again_then, content_again}
use Rattle.yd_restoring.proofs.BeforeLemmas.{last_id}
use Rattle.yd_restoring.specs.Keyed.{MakesElse}
use Rattle.yd_restoring.proofs.ElseLemmas.{other_list}
use Rattle.yd_restoring.proofs.KindLemmas.{kind_made, kinds_of}
use Rattle.yd_restoring.proofs.LeftLemmas.{span_from, left_at, in_span_is, is_in_span-is, in_front, in_behind, not_behind, behind_same, none_left, apart_spans, below_all}
use Rattle.yd_restoring.proofs.PutLemmas.{counts, counted, counted_alike, Grown, grown_less, one_of}
use Rattle.yd_restoring.proofs.PutLemmas as put
use Rattle.yd_restoring.proofs.RowLemmas.{from_unit, before_unit, AreFrom, from_within, from_each, Row, row_at, group_ids}

-- ---- contents

lent_contents : (deleted : Id → Bool) (os : List Operation) → contents_of (map (lent deleted) os) ≡ contents os
lent_contents deleted [] = refl
lent_contents deleted (o ∷ os) = ap (λ us. o.content ∷ us) (lent_contents deleted os)

-- ---- how many ids are done with a group

one_id : (x y : Id) → is_in_span (span_from x 1) y ≡ true → y ≡ x
one_id x y e = let (c, low, high) = is_in_span-is (span_from x 1) y e in sym (same_numbers x y c (omega (arith, low, high)))

taken_most : (us : List Lent) (most : ℕ) → 0 < most → length us ≤ most → taken_by us ≤ most
taken_most [] most some le = omega (arith, some)
taken_most (u ∷ us) most some le = le

taken_some : (us : List Lent) → 0 < taken_by us
taken_some [] = omega arith
taken_some (u ∷ us) = omega arith

-- ---- what steps do to a list

module _ (seen : Seen) (client : Client) (start : ℕ) (live : Id → Bool) (fresh : (x : Id) → x.client ≡ client → start ≤ x.clock → live x ≡ true) (name : DocList)
    (no_key : has_key name ≡ false) (place : is_place seen name ≡ true) (apart : AreApart (seen.basis.document.units name))
    (older : (o : Operation) → IsIn o (seen.basis.document.units name) → o.id.client ≡ client → o.id.clock < start) where
  abbrev units : List Operation
  units = seen.basis.document.units name

  -- a deleted unit of the list
  pub record IsOwn (x : Id) : Type 0 where
    pub list : seen.list_of x ≡ Some name
    pub there : IsIn x (map (λ (o : Operation). o.id) units)
    pub dead : live x ≡ false

  -- an id that no unit of the list has, and that is of another list, if of any
  pub record IsElse (x : Id) : Type 0 where
    pub apart_from : HasNot x units
    pub elsewhere : (other : DocList) → seen.list_of x ≡ Some other → other ≢ name

  -- it is one or the other
  abbrev pub IsEither : Id → Type 0
  IsEither x = IsOwn x ⊎ IsElse x

  -- the lists after steps, of which these ids are left then; what counts is the same again
  pub record Goes (lists : DocList → List Operation) (left less : Id → Bool) (clock : ℕ) (steps : List Step) : Type 0 where
    pub clock_then : ℕ
    pub lists_then : DocList → List Operation
    pub goes : (more : List Step) → lists_after client clock lists (steps ++ more) ≡ lists_after client clock_then lists_then more
    pub on : start ≤ clock_then
    pub grown : Grown client start less units (lists_then name)
    pub again : AreAgain (counted live less (lists_then name)) (counted live left (lists name))

  goes_then : (lists : DocList → List Operation) (left less least : Id → Bool) (clock : ℕ) (steps more : List Step) → (g : Goes lists left less clock steps) →
      Goes g.lists_then less least g.clock_then more → Goes lists left least clock (steps ++ more)
  goes_then lists left less least clock steps more g h = record {
    clock_then = h.clock_then;
    lists_then = h.lists_then;
    goes = λ others. ap (lists_after client clock lists) (append_assoc steps more others) ∙ g.goes (more ++ others) ∙ h.goes others;
    on = h.on;
    grown = h.grown;
    again = again_then (counted live least (h.lists_then name)) (counted live less (g.lists_then name)) (counted live left (lists name)) h.again g.again;
  }

  -- nothing is made
  goes_none : (lists : DocList → List Operation) (left less : Id → Bool) (clock : ℕ) → start ≤ clock → Grown client start left units (lists name) →
      ((y : Id) → less y ≡ true → left y ≡ true) → ((o : Operation) → IsIn o (lists name) → counts live less o ≡ counts live left o) → Goes lists left less clock []
  goes_none lists left less clock on grown fewer same = record {
    clock_then = clock;
    lists_then = lists;
    goes = λ more. refl;
    on = on;
    grown = grown_less client start left less units (lists name) fewer grown;
    again = subst (λ us. AreAgain (counted live less (lists name)) us) (counted_alike live less left (lists name) same) (again_same (counted live less (lists name)));
  }

  -- nothing is made in this list
  goes_else : (steps : List Step) → Each (MakesElse name) steps → (lists : DocList → List Operation) (left less : Id → Bool) (clock : ℕ) → start ≤ clock →
      Grown client start left units (lists name) → ((y : Id) → less y ≡ true → left y ≡ true) →
      ((o : Operation) → IsIn o (lists name) → counts live less o ≡ counts live left o) → Goes lists left less clock steps
  goes_else [] each lists left less clock on grown fewer same = goes_none lists left less clock on grown fewer same
  goes_else (make other after content ∷ steps) each lists left less clock on grown fewer same =
      wrap (goes_else steps each.1 (lists_with lists other after news) left less (clock + len_of content) (omega (arith, on))
      (subst (λ os. Grown client start left units os) (sym stays) grown) fewer (λ o i. same o (subst (λ os. IsIn o os) stays i)))
    where
      news : List Operation
      news = operations_of_run (run_of_step client clock lists other after content)

      stays : lists_with lists other after news name ≡ lists name
      stays = other_list name lists other each.0 after news

      wrap : Goes (lists_with lists other after news) left less (clock + len_of content) steps → Goes lists left less clock (make other after content ∷ steps)
      wrap g = record {
        clock_then = g.clock_then;
        lists_then = g.lists_then;
        goes = g.goes;
        on = g.on;
        grown = g.grown;
        again = subst (λ os. AreAgain (counted live less (g.lists_then name)) (counted live left os)) stays g.again;
      }
  goes_else (remove spans ∷ steps) each lists left less clock on grown fewer same = let g = goes_else steps each.1 lists left less clock on grown fewer same in
      record { clock_then = g.clock_then; lists_then = g.lists_then; goes = g.goes; on = g.on; grown = g.grown; again = g.again }

  -- how many ids are done with the group that begins with an id, and what its step does
  pub record Made (lists : DocList → List Operation) (clock : ℕ) (x : Id) (len : ℕ) (later : Id → Bool) : Type 0 where
    pub bound : taken_by (group_in seen (seen.list_of x) x len) ≤ len
    pub positive : 0 < taken_by (group_in seen (seen.list_of x) x len)
    pub goes : Goes lists (left_at x len later)
        (left_at (later_id x (taken_by (group_in seen (seen.list_of x) x len))) (len - taken_by (group_in seen (seen.list_of x) x len)) later) clock
        (step_of_group seen (seen.list_of x) x (group_in seen (seen.list_of x) x len))

  -- ---- one group

  module _ (lists : DocList → List Operation) (clock : ℕ) (on : start ≤ clock) (x : Id) (len : ℕ) (some : 0 < len) (later : Id → Bool)
      (disjoint : (y : Id) → is_in_span (span_from x len) y ≡ true → later y ≡ false) (own_x : IsOwn x)
      (either : (y : Id) → is_in_span (span_from x len) y ≡ true → IsEither y) (grown : Grown client start (left_at x len later) units (lists name)) where
    abbrev at : SplitAt units x
    at = split_at units x own_x.there

    -- of the ids those of the list are deleted
    dead_there : (o : Operation) → IsIn o units → is_in_span (span_from x len) o.id ≡ true → live o.id ≡ false
    dead_there o i e = elim (either o.id e) [ inl own ↦ own.dead | inr k ↦ absurd (k.apart_from o i refl) ]

    has_not : HasNot x at.front
    has_not o i e = apart_parts at.front (at.unit ∷ at.back) (subst (λ os. AreApart os) at.parts apart) o at.unit i (inl refl) (e ∙ sym at.is)

    abbrev deleted : Id → Bool
    deleted = seen.basis.document.deleted

    from_x : units_from x (units_in seen name) ≡ map (lent deleted) (at.unit ∷ at.back)
    from_x = ap (λ os. units_from x (map (lent deleted) os)) at.parts ∙ from_unit deleted x at.front at.unit at.back has_not at.is

    before_x : unit_before x None (units_in seen name) ≡ last_id at.front
    before_x = ap (λ os. unit_before x None (map (lent deleted) os)) at.parts ∙ before_unit deleted x at.front at.unit at.back has_not at.is

    group_is : group_in seen (seen.list_of x) x len ≡ group_from len (map (lent deleted) (at.unit ∷ at.back))
    group_is = ap (λ l. group_in seen l x len) own_x.list ∙ group_open seen name x len no_key place ∙ ap (group_from len) from_x

    -- the unit cannot be made
    none_made : can_be_made at.unit.content ≡ false → Goes lists (left_at x len later) (left_at (later_id x 1) (len - 1) later) clock []
    none_made e = goes_none lists (left_at x len later) (left_at (later_id x 1) (len - 1) later) clock on grown
        (λ y f. go y (is_in_span (span_from (later_id x 1) (len - 1)) y) refl f)
        (λ o i. elim (cases_Bool (is_in_span (span_from x 1) o.id)) [
          | inl a ↦ not_made o a (the_unit o i a)
          | inr a ↦ ap (λ t. live o.id || ((t || later o.id) && can_be_made o.content)) (behind_same x o.id len 1 some a)
        ])
      where
        go : (y : Id) (t : Bool) → is_in_span (span_from (later_id x 1) (len - 1)) y ≡ t → t || later y ≡ true → left_at x len later y ≡ true
        go y true f h = ap (λ b. b || later y) (in_behind x y len 1 some f)
        go y false f h = elim (cases_Bool (is_in_span (span_from x len) y)) [
          | inl a ↦ ap (λ b. b || later y) a
          | inr a ↦ ap (λ b. b || later y) a ∙ h
        ]

        the_unit : (o : Operation) → IsIn o (lists name) → is_in_span (span_from x 1) o.id ≡ true → can_be_made o.content ≡ false
        the_unit o i a = elim (one_of client start live fresh (left_at x len later) units (lists name) grown o i) [
          | inl j ↦ ap can_be_made (ap (λ (p : Operation). p.content) (same_unit o j a)) ∙ e
          | inr n ↦ absurd (true≢false (sym (fresh o.id n.0 n.1) ∙ ap live (id_is o.id a) ∙ own_x.dead))
        ]
          where
            id_is : (y : Id) → is_in_span (span_from x 1) y ≡ true → y ≡ x
            id_is y f = let (c, low, high) = is_in_span-is (span_from x 1) y f in sym (same_numbers x y c (omega (arith, low, high)))

            same_unit : (p : Operation) → IsIn p units → is_in_span (span_from x 1) p.id ≡ true → p ≡ at.unit
            same_unit p j f = apart_one units apart p at.unit j (subst (λ os. IsIn at.unit os) (sym at.parts) (in_right_part at.unit at.front (at.unit ∷ at.back) (inl refl)))
                (id_is p.id f ∙ sym at.is)

        not_made : (o : Operation) → is_in_span (span_from x 1) o.id ≡ true → can_be_made o.content ≡ false →
            counts live (left_at (later_id x 1) (len - 1) later) o ≡ counts live (left_at x len later) o
        not_made o a f = ap (λ t. live o.id || (left_at (later_id x 1) (len - 1) later o.id && t)) f
            ∙ both (left_at (later_id x 1) (len - 1) later o.id) (left_at x len later o.id)
            ∙ sym (ap (λ t. live o.id || (left_at x len later o.id && t)) f)
          where
            both : (s t : Bool) → live o.id || (s && false) ≡ live o.id || (t && false)
            both true true = refl
            both true false = refl
            both false true = refl
            both false false = refl

    -- a group is made
    module _ (can : can_be_made at.unit.content ≡ true) where
      row : Row deleted (kind_of at.unit.content) (later_id at.unit.id 1) (len - 1) at.back
      row = row_at deleted (kind_of at.unit.content) (later_id at.unit.id 1) (len - 1) at.back

      abbrev group : List Operation
      group = at.unit ∷ row.row

      abbrev n : ℕ
      n = suc (length row.row)

      abbrev less : Id → Bool
      less = left_at (later_id x n) (len - n) later

      within : n ≤ len
      within = omega (arith, row.bound, some)

      group_found : group_in seen (seen.list_of x) x len ≡ map (lent deleted) group
      group_found = group_is
          ∙ ap (λ t. if t then lent deleted at.unit ∷ row_behind (kind_of at.unit.content) (later_id at.unit.id 1) (len - 1) (map (lent deleted) at.back) else []) can
          ∙ ap (λ us. lent deleted at.unit ∷ us) row.is

      abbrev content : ContentValue
      content = content_of (contents_of (map (lent deleted) group))

      abbrev after : Option Id
      after = unit_before x None (units_in seen name)

      abbrev news : List Operation
      news = operations_of_run (run_of_step client clock lists name after content)

      parts : units ≡ at.front ++ (group ++ row.back)
      parts = at.parts ∙ ap (λ os. at.front ++ (at.unit ∷ os)) row.parts

      ids : AreFrom x group
      ids = subst (λ y. AreFrom y group) at.is (refl, row.ids)

      of_group : (o : Operation) → IsIn o group → is_in_span (span_from x n) o.id ≡ true
      of_group o i = let (c, low, high) = from_within x group ids o i in in_span_is (span_from x n) o.id (ap (λ (k : Client). k.0) (sym c), low, omega (arith, high))

      are_left : (o : Operation) → IsIn o group → (left_at x len later o.id ≡ true) × (can_be_made o.content ≡ true) × (live o.id ≡ false) × (less o.id ≡ false)
      are_left o i = let inside = in_front x o.id len n within (of_group o i) in (
        ap (λ t. t || later o.id) inside,
        made i,
        dead_there o (subst (λ os. IsIn o os) (sym parts) (in_right_part o at.front (group ++ row.back) (in_left_part o group row.back i))) inside,
        ap (λ t. t || later o.id) (not_behind x o.id len n (of_group o i)) ∙ disjoint o.id inside,
      )
        where
          made : IsIn o group → can_be_made o.content ≡ true
          made (inl e) = ap (λ (p : Operation). can_be_made p.content) e ∙ can
          made (inr j) = let k = each_in (λ (p : Operation). IsOf (kind_of at.unit.content) p.content) row.row row.kinds o j in
              kind_made o.content (subst (λ m. 0 < m) (sym k.1) k.0)

      others : (y : Id) → ((o : Operation) → IsIn o group → o.id ≢ y) → less y ≡ left_at x len later y
      others y differ = elim (cases_Bool (is_in_span (span_from x n) y)) [
        | inl a ↦ let (c, low, high) = is_in_span-is (span_from x n) y a in let (o, i, e) = from_each x group ids y (sym c) low (omega (arith, high)) in absurd (differ o i e)
        | inr a ↦ ap (λ t. t || later y) (behind_same x y len n within a)
      ]

      are_new : (o : Operation) → IsIn o news → (o.id.client ≡ client) × (start ≤ o.id.clock)
      are_new o i = let (c, low, high) = run_within (run_of_step client clock lists name after content) o i in (c, omega (arith, on, low))

      again : AreAgain (contents news) (contents group)
      again = subst (λ us. AreAgain us (contents group)) (sym (contents_from (units_of_content content) _ _ _ _))
          (subst (λ us. AreAgain (units_of_content (content_of us)) (contents group)) (sym (lent_contents deleted group))
          (content_again at.unit.content (contents row.row) can (kinds_of (kind_of at.unit.content) row.row row.kinds)))

      grown_parts : Grown client start (left_at x len later) (at.front ++ (group ++ row.back)) (lists name)
      grown_parts = subst (λ os. Grown client start (left_at x len later) os (lists name)) parts grown

      put_grown : Grown client start less (at.front ++ (group ++ row.back)) (put_behind (last_id at.front) news (lists name))
      put_grown = put.grown client start live fresh (left_at x len later) less at.front group row.back news (lists name) at.unit row.row refl
          (subst (λ os. AreApart os) parts apart) (λ o i. older o (subst (λ os. IsIn o os) (sym parts) i)) are_left others are_new again grown_parts

      put_again : AreAgain (counted live less (put_behind (last_id at.front) news (lists name))) (counted live (left_at x len later) (lists name))
      put_again = put.count_again client start live fresh (left_at x len later) less at.front group row.back news (lists name) at.unit row.row refl
          (subst (λ os. AreApart os) parts apart) (λ o i. older o (subst (λ os. IsIn o os) (sym parts) i)) are_left others are_new again grown_parts

      list_is : lists_with lists name after news name ≡ put_behind (last_id at.front) news (lists name)
      list_is = ap (λ t. if t then put_behind after news (lists name) else lists name) ((same_list_decides name name).1 refl)
          ∙ ap (λ p. put_behind p news (lists name)) before_x

      group_goes : Goes lists (left_at x len later) less clock (make name after content ∷ [])
      group_goes = record {
        clock_then = clock + len_of content;
        lists_then = lists_with lists name after news;
        goes = λ more. refl;
        on = omega (arith, on);
        grown = subst (λ os. Grown client start less os (lists_with lists name after news name)) (sym parts)
            (subst (λ os. Grown client start less (at.front ++ (group ++ row.back)) os) (sym list_is) put_grown);
        again = subst (λ os. AreAgain (counted live less os) (counted live (left_at x len later) (lists name))) (sym list_is) put_again;
      }

    of_found : (us : List Lent) → group_in seen (seen.list_of x) x len ≡ us → taken_by us ≤ len → 0 < taken_by us →
        Goes lists (left_at x len later) (left_at (later_id x (taken_by us)) (len - taken_by us) later) clock (step_of_group seen (Some name) x us) →
        Made lists clock x len later
    of_found us e bound positive g = record {
      bound = subst (λ vs. taken_by vs ≤ len) (sym e) bound;
      positive = subst (λ vs. 0 < taken_by vs) (sym e) positive;
      goes = subst (λ l. Goes lists (left_at x len later)
          (left_at (later_id x (taken_by (group_in seen (seen.list_of x) x len))) (len - taken_by (group_in seen (seen.list_of x) x len)) later) clock
          (step_of_group seen l x (group_in seen (seen.list_of x) x len))) (sym own_x.list)
          (subst (λ vs. Goes lists (left_at x len later) (left_at (later_id x (taken_by vs)) (len - taken_by vs) later) clock (step_of_group seen (Some name) x vs)) (sym e) g);
    }

    pub made : Made lists clock x len later
    made = elim (cases_Bool (can_be_made at.unit.content)) [
      | inl can ↦ of_found (map (lent deleted) (at.unit ∷ (row can).row)) (group_found can)
          (subst (λ k. k ≤ len) (ap suc (sym (length-map (row can).row (lent deleted)))) (within can)) (omega arith)
          (subst (λ k. Goes lists (left_at x len later) (left_at (later_id x k) (len - k) later) clock
          (make name (after can) (content can) ∷ [])) (ap suc (sym (length-map (row can).row (lent deleted)))) (group_goes can))
      | inr cannot ↦ of_found [] (group_is
          ∙ ap (λ t. if t then lent deleted at.unit ∷ row_behind (kind_of at.unit.content) (later_id at.unit.id 1) (len - 1) (map (lent deleted) at.back) else []) cannot)
          (omega (arith, some)) (omega arith) (none_made cannot)
    ]

  -- ---- what is made in other lists

  -- a group of another list
  else_makes : (x : Id) (l : Option DocList) → ((other : DocList) → l ≡ Some other → other ≢ name) → (us : List Lent) → Each (MakesElse name) (step_of_group seen l x us)
  else_makes x None f us = tt
  else_makes x (Some other) f [] = tt
  else_makes x (Some other) f (u ∷ us) = (f other refl, tt)

  module _ (others : (other : DocList) → other ≢ name → (o p : Operation) → IsIn o (seen.basis.document.units other) → IsIn p units → p.id ≢ o.id) where
    module _ (lists : DocList → List Operation) (clock : ℕ) (on : start ≤ clock) (x : Id) (len : ℕ) (some : 0 < len) (later : Id → Bool) (is_else : IsElse x)
        (grown : Grown client start (left_at x len later) units (lists name)) where
      abbrev group_else : List Lent
      group_else = group_in seen (seen.list_of x) x len

      -- its ids are of no unit of the list
      apart_group : (l : Option DocList) → ((other : DocList) → l ≡ Some other → other ≢ name) → (y : Id) → is_in_span (span_from x (taken_by (group_in seen l x len))) y ≡ true →
          HasNot y units
      apart_group None f y e = λ o i same. is_else.apart_from o i (same ∙ one_id x y e)
      apart_group (Some other) f y e = go (not (has_key other) && is_place seen other) refl
        where
          go : (t : Bool) → not (has_key other) && is_place seen other ≡ t → HasNot y units
          go false g o i same = is_else.apart_from o i (same ∙ one_id x y (subst (λ us. is_in_span (span_from x (taken_by us)) y ≡ true)
              (ap (λ t. if t then group_from len (units_from x (units_in seen other)) else []) g) e))
          go true g o i same = elim (group_ids seen.basis.document.deleted x len (seen.basis.document.units other) y
              (subst (λ us. is_in_span (span_from x (taken_by us)) y ≡ true) (ap (λ t. if t then group_from len (units_from x (units_in seen other)) else []) g) e)) [
                | inl a ↦ is_else.apart_from o i (same ∙ a)
                | inr (p, j, a) ↦ others other (f other refl) p o j i (same ∙ sym a)
              ]

      bound_else : (l : Option DocList) → taken_by (group_in seen l x len) ≤ len
      bound_else None = omega (arith, some)
      bound_else (Some other) = go (not (has_key other) && is_place seen other)
        where
          go : (t : Bool) → taken_by (if t then group_from len (units_from x (units_in seen other)) else []) ≤ len
          go false = omega (arith, some)
          go true = taken_most (group_from len (units_from x (units_in seen other))) len some (group_bound len (units_from x (units_in seen other)) some)

      pub made_else : Made lists clock x len later
      made_else = record {
        bound = le;
        positive = taken_some group_else;
        goes = goes_else (step_of_group seen (seen.list_of x) x group_else) (else_makes x (seen.list_of x) is_else.elsewhere group_else) lists (left_at x len later)
            (left_at (later_id x n) (len - n) later) clock on grown (λ y f. fewer y (is_in_span (span_from (later_id x n) (len - n)) y) refl f) same_counts;
      }
        where
          n : ℕ
          n = taken_by group_else

          le : taken_by (group_in seen (seen.list_of x) x len) ≤ len
          le = bound_else (seen.list_of x)

          fewer : (y : Id) (t : Bool) → is_in_span (span_from (later_id x n) (len - n)) y ≡ t → t || later y ≡ true → left_at x len later y ≡ true
          fewer y true f h = ap (λ b. b || later y) (in_behind x y len n le f)
          fewer y false f h = elim (cases_Bool (is_in_span (span_from x len) y)) [
            | inl a ↦ ap (λ b. b || later y) a
            | inr a ↦ ap (λ b. b || later y) a ∙ h
          ]

          same_counts : (o : Operation) → IsIn o (lists name) → counts live (left_at (later_id x n) (len - n) later) o ≡ counts live (left_at x len later) o
          same_counts o i = elim (cases_Bool (is_in_span (span_from x n) o.id)) [
            | inl a ↦ elim (one_of client start live fresh (left_at x len later) units (lists name) grown o i) [
              | inl j ↦ absurd (apart_group (seen.list_of x) is_else.elsewhere o.id a o j refl)
              | inr new ↦ let alive : live o.id ≡ true = fresh o.id new.0 new.1 in rw alive refl
            ]
            | inr a ↦ ap (λ t. live o.id || ((t || later o.id) && can_be_made o.content)) (behind_same x o.id len n le a)
          ]

    -- ---- ids in a row

    row_goes : (most len : ℕ) → len < most → (lists : DocList → List Operation) (clock : ℕ) → start ≤ clock → (x : Id) (later : Id → Bool) →
        ((y : Id) → is_in_span (span_from x len) y ≡ true → later y ≡ false) → ((y : Id) → is_in_span (span_from x len) y ≡ true → IsEither y) →
        Grown client start (left_at x len later) units (lists name) → Goes lists (left_at x len later) later clock (steps_from seen x 0 len)
    row_goes zero len lt lists clock on x later disjoint either grown = absurd (omega (arith, lt))
    row_goes (suc most) zero lt lists clock on x later disjoint either grown = goes_none lists (left_at x 0 later) later clock on grown
        (λ y e. none_left x y later ∙ e) (λ o i. ap (λ t. live o.id || (t && can_be_made o.content)) (sym (none_left x o.id later)))
    row_goes (suc most) (suc len) lt lists clock on x later disjoint either grown =
        subst (λ steps. Goes lists (left_at x (suc len) later) later clock steps)
        (sym (row_next seen x (suc len) n (group_in seen (seen.list_of x) x (suc len)) refl (omega arith) refl m.bound))
        (goes_then lists (left_at x (suc len) later) (left_at (later_id x n) (suc len - n) later) later clock
        (step_of_group seen (seen.list_of x) x (group_in seen (seen.list_of x) x (suc len))) (steps_from seen (later_id x n) 0 (suc len - n)) m.goes
        (row_goes most (suc len - n) (omega (arith, lt, m.positive)) m.goes.lists_then m.goes.clock_then m.goes.on (later_id x n) later
        (λ y e. disjoint y (in_behind x y (suc len) n m.bound e)) (λ y e. either y (in_behind x y (suc len) n m.bound e)) m.goes.grown))
      where
        n : ℕ
        n = taken_by (group_in seen (seen.list_of x) x (suc len))

        m : Made lists clock x (suc len) later
        m = elim (either x (in_span_is (span_from x (suc len)) x (refl, omega arith, omega arith))) [
          | inl own ↦ made lists clock on x (suc len) (omega arith) later disjoint own either grown
          | inr other ↦ made_else lists clock on x (suc len) (omega arith) later other grown
        ]

  -- ---- spans

  pub spans_go : ((other : DocList) → other ≢ name → (o p : Operation) → IsIn o (seen.basis.document.units other) → IsIn p units → p.id ≢ o.id) →
      (spans : List Span) → AreMaximal spans → ((y : Id) → is_named spans y ≡ true → IsEither y × (y.clock < seen.basis.vector y.client.0)) →
      (lists : DocList → List Operation) (clock : ℕ) → start ≤ clock → Grown client start (is_named spans) units (lists name) →
      Goes lists (is_named spans) (λ y. false) clock (steps_of_groups seen spans)
  spans_go others [] maximal own lists clock on grown = goes_none lists (is_named []) (λ y. false) clock on grown (λ y e. e) (λ o i. refl)
  spans_go others (span ∷ spans) maximal own lists clock on grown =
      goes_then lists (is_named (span ∷ spans)) (is_named spans) (λ y. false) clock (steps_from seen x 0 (span_below seen.basis.vector span).len) (steps_of_groups seen spans) first
      (spans_go others spans maximal.3 (λ y e. own y (or_true (is_in_span span y) e)) first.lists_then first.clock_then first.on first.grown)
    where
      x : Id
      x = record { client = span.client; clock = span.clock }

      or_true : (t : Bool) {u : Bool} → u ≡ true → t || u ≡ true
      or_true true e = refl
      or_true false e = e

      in_first : (y : Id) → is_in_span span y ≡ true → IsEither y × (y.clock < seen.basis.vector y.client.0)
      in_first y e = own y (ap (λ t. t || is_named spans y) e)

      len_is : (span_below seen.basis.vector span).len ≡ span.len
      len_is = below_all seen.basis.vector span maximal.1 (λ y e. (in_first y e).1)

      first : Goes lists (is_named (span ∷ spans)) (is_named spans) clock (steps_from seen x 0 (span_below seen.basis.vector span).len)
      first = subst (λ len. Goes lists (is_named (span ∷ spans)) (is_named spans) clock (steps_from seen x 0 len)) (sym len_is)
          (row_goes others (suc span.len) span.len (omega arith) lists clock on x (is_named spans)
          (λ y e. false_from_ne_true (is_named spans y) (λ f. apart_spans span spans maximal.2 y (is_in_span-is span y e) (named_has spans y f)))
          (λ y e. (in_first y e).0) grown)
