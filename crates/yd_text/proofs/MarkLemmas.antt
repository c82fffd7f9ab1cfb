-- A key's marks between two units, piece by piece.
use Rattle.std.proofs.Common.{◌≡◌, ◌⊎◌, ◌↔◌, ◌<◌, ◌≤◌, ◌+◌, ℕ, Bool, true, false, ◌&&◌, ◌||◌, not, List, [], ◌∷◌, ◌++◌, length, map, take, drop, Some, inl, inr, refl, sym, ap, ap₂, ◌∙◌, subst, arith}
use Rattle.std.specs.Prelude.{filter, if◌then◌else◌, Decides}
use Rattle.std.specs.Str.{bytes_eq}
use Rattle.yd_words.specs.Each.{Each}
use Rattle.yd_words.specs.Member.{IsIn}
use Rattle.yd_words.proofs.MemberLemmas.{in_left_part, in_right_part, in_parts}
use Rattle.yd_any.specs.Tree.{AnyTree}
use Rattle.yd_ids.specs.declared.id.Id.{Id}
use Rattle.yd_ids.specs.declared.id.Span.{Span}
use Rattle.yd_ids.specs.Ids.{is_same}
use Rattle.yd_ids.specs.Set.{HasId, AddsSpan, AreMaximal}
use Rattle.yd_ids.proofs.IdLemmas.{same_numbers}
use Rattle.yd_ops.specs.Value.{ContentValue, json, binary, string, embed, format, nested, any, deleted, len_of}
use Rattle.yd_ops.specs.declared.lists.List.{List as DocList}
use Rattle.yd_ops.specs.Operation.{Operation, UnitContent, mark, later_id, units_of_content}
use Rattle.yd_ops.specs.View.{content_value}
use Rattle.yd_editing.specs.Made.{units_up_to, units_behind}
use Rattle.yd_editing.specs.TextEdit.{is_mark_of, marks_between, ids_of_units}
use Rattle.yd_state.specs.declared.listing.RunView.{RunView}
use Rattle.yd_meaning.specs.Document.{Document}
use Rattle.yd_state.specs.Lent.{Lent, lent, lent_from, lent_units, units_of_view, IsWithin}
use Rattle.yd_text.specs.Marks.{are_marks_of, id_where, marks_up_to, GetsWhere}
use Rattle.yd_text.specs.Rows.{is_in_row}
use Rattle.yd_text.proofs.AlikeLemmas.{IsAlike, piece_alike}
use Rattle.yd_text.proofs.RangeLemmas.{ids_are}
use Rattle.yd_text.proofs.RowLemmas.{InRange, row_tested, contents_of, length-contents}

-- ---- the units of a document

-- the ids of marks
abbrev ids_of_marks : List ℕ → List Operation → List Id
ids_of_marks key os = map (λ (o : Operation). o.id) (filter (λ (o : Operation). is_mark_of key o.content) os)

ids-where : (key : List ℕ) (o : Operation) (os : List Operation) → ids_of_marks key (o ∷ os) ≡ id_where (is_mark_of key o.content) o.id ++ ids_of_marks key os
ids-where key o os = go (is_mark_of key o.content)
  where
    go : (t : Bool) → map (λ (p : Operation). p.id) (if t then o ∷ filter (λ (p : Operation). is_mark_of key p.content) os else filter (λ (p : Operation). is_mark_of key p.content) os)
        ≡ id_where t o.id ++ ids_of_marks key os
    go true = refl
    go false = refl

module _ (is_gone : Id → Bool) (key : List ℕ) (first last : Id) where
  abbrev live_of : List Operation → List Operation
  live_of os = filter (λ (o : Operation). not (is_gone o.id)) os

  -- behind the first unit
  rest_lent : (os : List Operation) → marks_up_to key first last true (map (lent is_gone) os) ≡ ids_of_marks key (units_up_to (Some last) (live_of os))
  rest_lent [] = refl
  rest_lent (o ∷ os) = go (is_gone o.id) (rest_lent os)
    where
      found : (t : Bool) → is_same o.id last ≡ t → marks_up_to key first last true (map (lent is_gone) os) ≡ ids_of_marks key (units_up_to (Some last) (live_of os)) →
          id_where (is_mark_of key o.content) o.id ++ (if t then [] else marks_up_to key first last true (map (lent is_gone) os))
          ≡ ids_of_marks key (o ∷ (if t then [] else units_up_to (Some last) (live_of os)))
      found true e more = sym (ids-where key o [])
      found false e more = ap (λ ids. id_where (is_mark_of key o.content) o.id ++ ids) more ∙ sym (ids-where key o (units_up_to (Some last) (live_of os)))

      go : (d : Bool) → marks_up_to key first last true (map (lent is_gone) os) ≡ ids_of_marks key (units_up_to (Some last) (live_of os)) →
          (if d then marks_up_to key first last true (map (lent is_gone) os)
          else id_where (true && is_mark_of key o.content) o.id ++ (if is_same o.id last then [] else marks_up_to key first last (true || is_same o.id first) (map (lent is_gone) os)))
          ≡ ids_of_marks key (units_up_to (Some last) (if not d then o ∷ live_of os else live_of os))
      go true more = more
      go false more = found (is_same o.id last) refl more

  -- of the whole list
  pub marks_lent : (os : List Operation) → marks_up_to key first last false (map (lent is_gone) os) ≡ ids_of_marks key (units_behind (Some first) (units_up_to (Some last) (live_of os)))
  marks_lent [] = refl
  marks_lent (o ∷ os) = go (is_gone o.id) (marks_lent os)
    where
      none : (s : Bool) → ids_of_marks key (if s then [] else units_behind (Some first) []) ≡ []
      none true = refl
      none false = refl

      found : (t s : Bool) → marks_up_to key first last false (map (lent is_gone) os) ≡ ids_of_marks key (units_behind (Some first) (units_up_to (Some last) (live_of os))) →
          (if t then [] else marks_up_to key first last s (map (lent is_gone) os))
          ≡ ids_of_marks key (if s then (if t then [] else units_up_to (Some last) (live_of os)) else units_behind (Some first) (if t then [] else units_up_to (Some last) (live_of os)))
      found true s more = sym (none s)
      found false true more = rest_lent os
      found false false more = more

      go : (d : Bool) → marks_up_to key first last false (map (lent is_gone) os) ≡ ids_of_marks key (units_behind (Some first) (units_up_to (Some last) (live_of os))) →
          (if d then marks_up_to key first last false (map (lent is_gone) os)
          else id_where (false && is_mark_of key o.content) o.id ++ (if is_same o.id last then [] else marks_up_to key first last (false || is_same o.id first) (map (lent is_gone) os)))
          ≡ ids_of_marks key (units_behind (Some first) (units_up_to (Some last) (if not d then o ∷ live_of os else live_of os)))
      go true more = more
      go false more = found (is_same o.id last) (is_same o.id first) more

-- ---- marks between two units, row by row

module _ (key : List ℕ) (first last : Id) where
  gone_marks : (id : Id) (us : List UnitContent) (rest : List Lent) (came : Bool) → marks_up_to key first last came (lent_from id true us ++ rest) ≡ marks_up_to key first last came rest
  gone_marks id [] rest came = refl
  gone_marks id (u ∷ us) rest came = gone_marks (later_id id 1) us rest came

  either_more : (a b c : Bool) → ((a || b) || c) ≡ (a || (b || c))
  either_more true b c = refl
  either_more false b c = refl

  none_of : (a : Bool) → (a && false) ≡ false
  none_of true = refl
  none_of false = refl

  -- of a row without marks none is had
  bare_row : (id : Id) (us : List UnitContent) (rest : List Lent) (came : Bool) → Each (λ unit. is_mark_of key unit ≡ false) us →
      marks_up_to key first last came (lent_from id false us ++ rest)
      ≡ (if is_in_row id (length us) last then [] else marks_up_to key first last (came || is_in_row id (length us) first) rest)
  bare_row id [] rest came each = ap (λ c. marks_up_to key first last c rest) (sym (either_none came))
    where
      either_none : (a : Bool) → (a || false) ≡ a
      either_none true = refl
      either_none false = refl
  bare_row id (u ∷ us) rest came each =
      ap (λ t. id_where t id ++ (if is_same id last then [] else marks_up_to key first last (came || is_same id first) (lent_from (later_id id 1) false us ++ rest)))
      (ap (λ t. came && t) each.0 ∙ none_of came) ∙ go (is_same id last) (bare_row (later_id id 1) us rest (came || is_same id first) each.1)
    where
      go : (t : Bool) → marks_up_to key first last (came || is_same id first) (lent_from (later_id id 1) false us ++ rest)
          ≡ (if is_in_row (later_id id 1) (length us) last then [] else marks_up_to key first last ((came || is_same id first) || is_in_row (later_id id 1) (length us) first) rest) →
          (if t then [] else marks_up_to key first last (came || is_same id first) (lent_from (later_id id 1) false us ++ rest))
          ≡ (if t || is_in_row (later_id id 1) (length us) last then [] else marks_up_to key first last (came || (is_same id first || is_in_row (later_id id 1) (length us) first)) rest)
      go true more = refl
      go false more = more
          ∙ ap (λ c. if is_in_row (later_id id 1) (length us) last then [] else marks_up_to key first last c rest)
          (either_more came (is_same id first) (is_in_row (later_id id 1) (length us) first))

  -- ---- lemmas for callers: marks between two units, piece by piece

  -- a deleted piece is passed
  pub marks_passed : (view : RunView) → view.deleted ≡ true → (came : Bool) (old new : List Lent) → old ≡ units_of_view view ++ new →
      marks_up_to key first last came old ≡ marks_up_to key first last came new
  marks_passed view gone came old new is = ap (marks_up_to key first last came) is
      ∙ ap (λ d. marks_up_to key first last came (lent_from view.id d (contents_of view) ++ new)) gone ∙ gone_marks view.id (contents_of view) new came

  -- of a live one its id is had where it is a mark of the key behind the first unit
  marks_in_piece : (view : RunView) → IsWithin view → 0 < view.len → view.deleted ≡ false → (t : Bool) → Decides t (InRange view.id view.len last) →
      (came : Bool) (old new : List Lent) → old ≡ units_of_view view ++ new →
      marks_up_to key first last came old
      ≡ id_where (came && are_marks_of key (content_value view.content.now)) view.id ++ (if t then [] else marks_up_to key first last (came || is_in_row view.id view.len first) new)
  marks_in_piece view within some live t e came old new is = ap (marks_up_to key first last came) is
      ∙ ap (λ g. marks_up_to key first last came (lent_from view.id g (contents_of view) ++ new)) live ∙ go (content_value view.content.now) refl
    where
      long : length (contents_of view) ≡ view.len
      long = length-contents view within

      Says : Bool → List Id → Type 0
      Says m ids = ids ≡ id_where (came && m) view.id ++ (if t then [] else marks_up_to key first last (came || is_in_row view.id view.len first) new)

      -- what is no mark
      bare : (content : ContentValue) → content_value view.content.now ≡ content → are_marks_of key content ≡ false →
          Says (are_marks_of key content) (marks_up_to key first last came (lent_from view.id false (contents_of view) ++ new))
      bare content f none = bare_row view.id (contents_of view) new came (weaker (contents_of view) (piece_alike key view))
          ∙ ap₂ (λ a b. if a then [] else marks_up_to key first last (came || b) new) (ap (λ n. is_in_row view.id n last) long ∙ row_tested view.id view.len last t e)
          (ap (λ n. is_in_row view.id n first) long)
          ∙ ap (λ m. id_where m view.id ++ (if t then [] else marks_up_to key first last (came || is_in_row view.id view.len first) new)) (sym (ap (λ m. came && m) none ∙ none_of came))
        where
          weaker : (us : List UnitContent) → Each (IsAlike key (content_value view.content.now)) us → Each (λ unit. is_mark_of key unit ≡ false) us
          weaker [] each = tt
          weaker (u ∷ us) each = (each.0.1 ∙ ap (are_marks_of key) f ∙ none, weaker us each.1)

      -- a mark is one unit
      one : (k : List ℕ) (value : AnyTree) → content_value view.content.now ≡ format k value → contents_of view ≡ mark k value ∷ []
      one k value f = ap (λ c. take view.len (drop view.offset (units_of_content c))) f ∙ ap₂ (λ n o. take n (drop o (mark k value ∷ []))) alone front
        where
          few : view.offset + view.len ≤ 1
          few = subst (λ c. view.offset + view.len ≤ len_of c) f within.units

          alone : view.len ≡ 1
          alone = omega (arith, few, some)

          front : view.offset ≡ 0
          front = omega (arith, few, some)

      single : (k : List ℕ) (value : AnyTree) → content_value view.content.now ≡ format k value →
          Says (bytes_eq k key) (marks_up_to key first last came (lent_from view.id false (contents_of view) ++ new))
      single k value f = ap (λ us. marks_up_to key first last came (lent_from view.id false us ++ new)) (one k value f)
          ∙ ap₂ (λ a b. id_where (came && bytes_eq k key) view.id ++ (if a then [] else marks_up_to key first last (came || b) new))
          (alone last ∙ row_tested view.id view.len last t e) (alone first)
        where
          alone : (x : Id) → is_same view.id x ≡ is_in_row view.id view.len x
          alone x = go (is_same view.id x) refl ∙ ap (λ n. is_in_row view.id n x) (sym (ap length (one k value f)) ∙ long)
            where
              go : (b : Bool) → is_same view.id x ≡ b → is_same view.id x ≡ (is_same view.id x || false)
              go true g = g ∙ sym (ap (λ b. b || false) g)
              go false g = g ∙ sym (ap (λ b. b || false) g)

      go : (content : ContentValue) → content_value view.content.now ≡ content →
          Says (are_marks_of key content) (marks_up_to key first last came (lent_from view.id false (contents_of view) ++ new))
      go (json units) f = bare (json units) f refl
      go (binary blob) f = bare (binary blob) f refl
      go (string units) f = bare (string units) f refl
      go (embed value) f = bare (embed value) f refl
      go (format k value) f = single k value f
      go (nested kind) f = bare (nested kind) f refl
      go (any values) f = bare (any values) f refl
      go (deleted count) f = bare (deleted count) f refl

  -- ---- lemmas for callers: a live piece with the last unit, and one without it

  pub marks_end : (view : RunView) → IsWithin view → 0 < view.len → view.deleted ≡ false → (t : Bool) → Decides t (InRange view.id view.len last) → t ≡ true →
      (came : Bool) (old new : List Lent) → old ≡ units_of_view view ++ new →
      marks_up_to key first last came old ≡ id_where (came && are_marks_of key (content_value view.content.now)) view.id ++ []
  marks_end view within some live t e here came old new is = marks_in_piece view within some live t e came old new is
      ∙ ap (λ s. id_where (came && are_marks_of key (content_value view.content.now)) view.id ++ (if s then [] else marks_up_to key first last (came || is_in_row view.id view.len first) new)) here

  pub marks_go_on : (view : RunView) → IsWithin view → 0 < view.len → view.deleted ≡ false → (t : Bool) → Decides t (InRange view.id view.len last) → t ≡ false →
      (came then_came : Bool) → then_came ≡ (came || is_in_row view.id view.len first) → (old new : List Lent) → old ≡ units_of_view view ++ new →
      marks_up_to key first last came old ≡ id_where (came && are_marks_of key (content_value view.content.now)) view.id ++ marks_up_to key first last then_came new
  marks_go_on view within some live t e not_here came then_came so old new is = marks_in_piece view within some live t e came old new is
      ∙ ap₂ (λ s c. id_where (came && are_marks_of key (content_value view.content.now)) view.id ++ (if s then [] else marks_up_to key first last c new)) not_here (sym so)

-- ---- lemmas for callers: all marks

-- a set with just these ids is that of the marks
pub marks_set : (ids : List Span) (document : Document) (name : DocList) (key : List ℕ) (first last : Id) → AreMaximal ids →
    ((x : Id) → HasId ids x ↔ IsIn x (marks_up_to key first last false (lent_units document name))) → ids ≡ ids_of_units (marks_between document name key first last)
marks_set ids document name key first last maximal same = ids_are ids (marks_between document name key first last) maximal
    (λ x. ((λ h. subst (IsIn x) are ((same x).0 h)), (λ i. (same x).1 (subst (IsIn x) (sym are) i))))
  where
    are : marks_up_to key first last false (lent_units document name) ≡ map (λ (o : Operation). o.id) (marks_between document name key first last)
    are = marks_lent document.deleted key first last (document.units name)

-- ---- lemmas for callers: the set of marks

-- a set has got an id, where it is that of a mark
pub none_got : (id : Id) (ids : List Span) (t : Bool) → t ≡ false → GetsWhere t id ids ids
none_got id ids t e x = (inl, (λ h. elim h [ inl i ↦ i | inr i ↦ absurd (subst (λ s. IsIn x (id_where s id)) e i) ]))

pub one_got : (id : Id) (old new : List Span) (t : Bool) → t ≡ true → AddsSpan old new (record { client = id.client; clock = id.clock; len = 1 }) → GetsWhere t id old new
one_got id old new t e adds x = (to, from)
  where
    span : Span
    span = record { client = id.client; clock = id.clock; len = 1 }

    to : HasId new x → HasId old x ⊎ IsIn x (id_where t id)
    to h = elim ((adds x).0 h) [ inl i ↦ inl i | inr i ↦ inr (subst (λ s. IsIn x (id_where s id)) (sym e) (inl (same_numbers x id (sym i.0) (omega (arith, i.1, i.2))))) ]

    from : HasId old x ⊎ IsIn x (id_where t id) → HasId new x
    from (inl i) = (adds x).1 (inl i)
    from (inr i) = (adds x).1 (inr (elim (subst (λ s. IsIn x (id_where s id)) e i) [
      | inl f ↦ (ap (λ (y : Id). y.client.0) (sym f), omega (arith, ap (λ (y : Id). y.clock) f), omega (arith, ap (λ (y : Id). y.clock) f))
      | inr j ↦ absurd j
    ]))

-- at first none is had
pub none_had : (ids : List Span) → ids ≡ [] → (marks : List Id) (x : Id) → (HasId ids x ⊎ IsIn x marks) ↔ IsIn x marks
none_had ids e marks x = ((λ h. elim h [ inl i ↦ absurd (subst (λ spans. HasId spans x) e i) | inr i ↦ i ]), inr)

-- with a piece more
pub mark_had : (t : Bool) (id : Id) (old new : List Span) (before behind : List Id) → before ≡ id_where t id ++ behind → GetsWhere t id old new →
    (x : Id) (P : Type 0) → (HasId old x ⊎ IsIn x before) ↔ P → (HasId new x ⊎ IsIn x behind) ↔ P
mark_had t id old new before behind e gets x P so_far = ((λ h. so_far.0 (back h)), (λ p. forth (so_far.1 p)))
  where
    back : HasId new x ⊎ IsIn x behind → HasId old x ⊎ IsIn x before
    back (inl h) = elim ((gets x).0 h) [ inl i ↦ inl i | inr i ↦ inr (subst (IsIn x) (sym e) (in_left_part x (id_where t id) behind i)) ]
    back (inr i) = inr (subst (IsIn x) (sym e) (in_right_part x (id_where t id) behind i))

    forth : HasId old x ⊎ IsIn x before → HasId new x ⊎ IsIn x behind
    forth (inl h) = inl ((gets x).1 (inl h))
    forth (inr i) = elim (in_parts x (id_where t id) behind (subst (IsIn x) e i)) [ inl j ↦ inl ((gets x).1 (inr j)) | inr j ↦ inr j ]

-- where none is still to come, these are all
pub all_had : (ids : List Span) (marks : List Id) → marks ≡ [] → (x : Id) (P : Type 0) → (HasId ids x ⊎ IsIn x marks) ↔ P → HasId ids x ↔ P
all_had ids marks e x P so_far = ((λ h. so_far.0 (inl h)), (λ p. elim (so_far.1 p) [ inl h ↦ h | inr i ↦ absurd (subst (IsIn x) e i) ]))
