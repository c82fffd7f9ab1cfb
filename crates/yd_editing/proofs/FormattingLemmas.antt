-- The format of units from an index on: its first and its last unit are found, and so the parts around them.
use Rattle.std.proofs.Common.{◌≡◌, ◌↔◌, ◌≤◌, ◌+◌, ℕ, zero, suc, true, not, List, [], ◌∷◌, ◌++◌, map, length, nat_lt, Option, Some, None, inl, inr, refl, sym, ap, ap₂, ◌∙◌, subst, arith}
use Rattle.std.proofs.lemmas.List.Elements.{filter-append}
use Rattle.std.specs.Prelude.{filter, if◌then◌else◌}
use Rattle.std.proofs.lemmas.List.{take-append-drop}
use Rattle.yd_words.specs.Member.{IsIn}
use Rattle.yd_words.proofs.FilterLemmas.{filter_alike, kept_one}
use Rattle.yd_words.proofs.MemberLemmas.{in_right_part}
use Rattle.yd_ids.specs.declared.id.Client.{Client}
use Rattle.yd_ids.specs.declared.id.Id.{Id}
use Rattle.yd_ids.specs.Set.{HasId}
use Rattle.yd_any.specs.Tree.{AnyTree, null}
use Rattle.yd_ops.specs.declared.lists.List.{List as DocList}
use Rattle.yd_ops.specs.Operation.{Operation}
use Rattle.yd_ops.specs.Received.{Received}
use Rattle.yd_meaning.specs.Held.{is_named}
use Rattle.yd_meaning.specs.Document.{document_of}
use Rattle.yd_meaning.specs.Text.{live_units}
use Rattle.yd_editing.specs.Law.{after_edit}
use Rattle.yd_editing.specs.Basis.{basis_of}
use Rattle.yd_editing.specs.Refused.{refusal_of}
use Rattle.yd_editing.specs.TextEdit.{counted_units, unit_at, format_between, format_steps, format_refusal, list_refusal, end_refusal, index_refusal}
use Rattle.yd_editing.specs.TextLaw.{IsQuietText, valued, valued_units, IsFormatted}
use Rattle.yd_editing.proofs.IndexLemmas.{AreApart, unit_is_there, unit_below}
use Rattle.yd_editing.proofs.DeleteLemmas.{apart_back, apart_kept}
use Rattle.yd_editing.proofs.EditedListLemmas.{as_list}
use Rattle.yd_editing.proofs.OthersLemmas.{other_lists}
use Rattle.yd_editing.proofs.OwnListLemmas.{is_shown_by, taken, is_held, live_evolved, live_named, counted_named, units_apart}
use Rattle.yd_editing.proofs.AroundLemmas.{SplitAt, split_at, index_is, unit_behind, apart_one, starts_with}
use Rattle.yd_editing.proofs.InsertLemmas.{not_past, named_stays as keeps_named}
use Rattle.yd_editing.proofs.RefusalLemmas.{neither, id_in_map}
use Rattle.yd_editing.proofs.FormatLemmas.{is_formatted}

module _ (client : Client) (r : Received) (name : DocList) (index : ℕ) (key : List ℕ) (value : AnyTree) (quiet : IsQuietText r name) where
  shown_is : counted_units (document_of r) name ≡ filter (is_shown_by (is_named r.deletes)) ((document_of r).units name)
  shown_is = counted_named r name quiet

  -- of no units nothing is made
  none_formatted : refusal_of (basis_of client r) [] ≡ None → IsFormatted client r name index 0 key value []
  none_formatted done = record {
    held = is_held client r name quiet [] tt tt (λ x i. absurd i) done;
    own = ap (valued key null) stays ∙ sym (take-append-drop index (valued_units key r name));
    keys = λ other differ. ap (valued other null) stays;
    others = other_lists client r name (as_list r name quiet) [] tt tt (λ x i. absurd i) done;
  }
    where
      same : (x : Id) → HasId (after_edit client r []).deletes x ↔ HasId r.deletes x
      same x = let d = (taken client r name quiet [] tt tt (λ y i. absurd i) done).deletes x in ((λ h. elim (d.0 h) [ inl k ↦ k | inr k ↦ absurd k ]), (λ h. d.1 (inl h)))

      stays : live_units (document_of (after_edit client r [])) name ≡ live_units (document_of r) name
      stays = live_evolved client r name quiet [] tt tt (λ x i. absurd i) done
          ∙ filter_alike (λ o. not (is_named (after_edit client r []).deletes o.id)) (λ o. not (is_named r.deletes o.id)) ((document_of r).units name)
          (λ o i. ap not (keeps_named client r [] o.id (same o.id)))
          ∙ sym (live_named r name quiet)

  -- a unit that is shown, by its id
  shown_one : (o : Operation) → IsIn o ((document_of r).units name) → (n : ℕ) → unit_at (counted_units (document_of r) name) n ≡ Some o.id →
      is_shown_by (is_named r.deletes) o ≡ true
  shown_one o i n e = let (p, j, f) = unit_is_there (filter (is_shown_by (is_named r.deletes)) ((document_of r).units name)) n o.id (ap (λ os. unit_at os n) (sym shown_is) ∙ e) in
      let (t, k) = kept_one (is_shown_by (is_named r.deletes)) ((document_of r).units name) p j in
      subst (λ q. is_shown_by (is_named r.deletes) q ≡ true) (apart_one ((document_of r).units name) (units_apart r name quiet) p o k i f) t

  -- with the first and the last unit found
  module _ (len : ℕ) (front : List Operation) (first : Operation) (back between : List Operation) (last : Operation) (behind : List Operation)
      (one : (document_of r).units name ≡ front ++ first ∷ back) (two : first ∷ back ≡ between ++ last ∷ behind)
      (at_first : unit_at (counted_units (document_of r) name) index ≡ Some first.id) (at_last : unit_at (counted_units (document_of r) name) (index + len) ≡ Some last.id) where
    first_in : IsIn first ((document_of r).units name)
    first_in = subst (λ os. IsIn first os) (sym one) (in_right_part first front (first ∷ back) (inl refl))

    last_in : IsIn last ((document_of r).units name)
    last_in = subst (λ os. IsIn last os) (sym one) (in_right_part last front (first ∷ back)
        (subst (λ os. IsIn last os) (sym two) (in_right_part last between (last ∷ behind) (inl refl))))

    first_shown : is_shown_by (is_named r.deletes) first ≡ true
    first_shown = shown_one first first_in index at_first

    last_shown : is_shown_by (is_named r.deletes) last ≡ true
    last_shown = shown_one last last_in (index + len) at_last

    shown_parts : filter (is_shown_by (is_named r.deletes)) ((document_of r).units name)
        ≡ filter (is_shown_by (is_named r.deletes)) front ++ filter (is_shown_by (is_named r.deletes)) (first ∷ back)
    shown_parts = ap (filter (is_shown_by (is_named r.deletes))) one ∙ filter-append (is_shown_by (is_named r.deletes)) front (first ∷ back)

    first_part : filter (is_shown_by (is_named r.deletes)) (first ∷ back) ≡ first ∷ filter (is_shown_by (is_named r.deletes)) back
    first_part = ap (λ s. if s then first ∷ filter (is_shown_by (is_named r.deletes)) back else filter (is_shown_by (is_named r.deletes)) back) first_shown

    last_part : filter (is_shown_by (is_named r.deletes)) (first ∷ back) ≡ filter (is_shown_by (is_named r.deletes)) between ++ last ∷ filter
        (is_shown_by (is_named r.deletes)) behind
    last_part = ap (filter (is_shown_by (is_named r.deletes))) two ∙ filter-append (is_shown_by (is_named r.deletes)) between (last ∷ behind)
        ∙ ap (λ s. filter (is_shown_by (is_named r.deletes)) between ++ (if s then last ∷ filter (is_shown_by (is_named r.deletes)) behind else filter
        (is_shown_by (is_named r.deletes)) behind)) last_shown

    shown_apart : AreApart (filter (is_shown_by (is_named r.deletes)) front ++ filter (is_shown_by (is_named r.deletes)) (first ∷ back))
    shown_apart = subst (λ os. AreApart os) shown_parts (apart_kept (is_shown_by (is_named r.deletes)) ((document_of r).units name) (units_apart r name quiet))

    first_index : length (filter (is_shown_by (is_named r.deletes)) front) ≡ index
    first_index = index_is (filter (is_shown_by (is_named r.deletes)) front) first (filter (is_shown_by (is_named r.deletes)) back) index
        (subst (λ os. AreApart (filter (is_shown_by (is_named r.deletes)) front ++ os)) first_part shown_apart)
        (ap (λ os. unit_at os index) (sym (shown_is ∙ shown_parts ∙ ap (λ os. filter (is_shown_by (is_named r.deletes)) front ++ os) first_part)) ∙ at_first)

    last_index : length (filter (is_shown_by (is_named r.deletes)) between) ≡ len
    last_index = index_is (filter (is_shown_by (is_named r.deletes)) between) last (filter (is_shown_by (is_named r.deletes)) behind) len
        (subst (λ os. AreApart os) last_part (apart_back (filter (is_shown_by (is_named r.deletes)) front) (filter (is_shown_by (is_named r.deletes)) (first ∷ back)) shown_apart))
        (ap (λ os. unit_at os len) (sym last_part)
        ∙ sym (unit_behind (filter (is_shown_by (is_named r.deletes)) front) (filter (is_shown_by (is_named r.deletes)) (first ∷ back)) len)
        ∙ ap₂ (λ os n. unit_at os (n + len)) (sym (shown_is ∙ shown_parts)) first_index ∙ at_last)

    pub units_formatted : refusal_of (basis_of client r) (format_between (document_of r) name key value (Some first.id) (Some last.id)) ≡ None →
        IsFormatted client r name index (suc len) key value (format_between (document_of r) name key value (Some first.id) (Some last.id))
    units_formatted done = let (rest, starts) = starts_with first back between last behind two in
        is_formatted client r name key value quiet front between behind first last rest (one ∙ ap (λ os. front ++ os) two) starts first_shown last_shown done index
        (suc len) first_index
        (one_more last_index)
      where
        one_more : length (filter (is_shown_by (is_named r.deletes)) between) ≡ len → length (filter (is_shown_by (is_named r.deletes)) between) + 1 ≡ suc len
        one_more e = omega (arith, e)

  -- finding them
  in_shown : (os : List Operation) (n : ℕ) (x : Id) → unit_at (filter (is_shown_by (is_named r.deletes)) os) n ≡ Some x → IsIn x (map (λ (o : Operation). o.id) os)
  in_shown os n x e = let (o, i, f) = unit_is_there (filter (is_shown_by (is_named r.deletes)) os) n x e in
      subst (λ y. IsIn y (map (λ (p : Operation). p.id) os)) f (id_in_map os o (kept_one (is_shown_by (is_named r.deletes)) os o i).1)

  second : (len : ℕ) (y : Id) (front : List Operation) (first : Operation) (back : List Operation) → (document_of r).units name ≡ front ++ first ∷ back →
      unit_at (counted_units (document_of r) name) index ≡ Some first.id → unit_at (counted_units (document_of r) name) (index + len) ≡ Some y → SplitAt (first ∷ back) y →
      refusal_of (basis_of client r) (format_between (document_of r) name key value (Some first.id) (Some y)) ≡ None →
      IsFormatted client r name index (suc len) key value (format_between (document_of r) name key value (Some first.id) (Some y))
  second len y front first back one at_first at_last s =
      subst (λ z. unit_at (counted_units (document_of r) name) (index + len) ≡ Some z →
      refusal_of (basis_of client r) (format_between (document_of r) name key value (Some first.id) (Some z)) ≡ None →
      IsFormatted client r name index (suc len) key value (format_between (document_of r) name key value (Some first.id) (Some z))) s.is
      (λ at done. units_formatted len front first back s.front s.unit s.back one s.parts at_first at done) at_last

  -- the last unit stands no earlier than the first
  last_behind : (len : ℕ) (y : Id) (front : List Operation) (first : Operation) (back : List Operation) → (document_of r).units name ≡ front ++ first ∷ back →
      unit_at (counted_units (document_of r) name) index ≡ Some first.id → unit_at (counted_units (document_of r) name) (index + len) ≡ Some y →
      IsIn y (map (λ (o : Operation). o.id) (first ∷ back))
  last_behind len y front first back one at_first at_last = in_shown (first ∷ back) len y
      (sym (unit_behind (filter (is_shown_by (is_named r.deletes)) front) (filter (is_shown_by (is_named r.deletes)) (first ∷ back)) len)
      ∙ ap₂ (λ os n. unit_at os (n + len)) (sym (shown_is ∙ parts)) number ∙ at_last)
    where
      parts : filter (is_shown_by (is_named r.deletes)) ((document_of r).units name)
          ≡ filter (is_shown_by (is_named r.deletes)) front ++ filter (is_shown_by (is_named r.deletes)) (first ∷ back)
      parts = ap (filter (is_shown_by (is_named r.deletes))) one ∙ filter-append (is_shown_by (is_named r.deletes)) front (first ∷ back)

      passes : is_shown_by (is_named r.deletes) first ≡ true
      passes = shown_one first (subst (λ os. IsIn first os) (sym one) (in_right_part first front (first ∷ back) (inl refl))) index at_first

      head : filter (is_shown_by (is_named r.deletes)) (first ∷ back) ≡ first ∷ filter (is_shown_by (is_named r.deletes)) back
      head = ap (λ s. if s then first ∷ filter (is_shown_by (is_named r.deletes)) back else filter (is_shown_by (is_named r.deletes)) back) passes

      number : length (filter (is_shown_by (is_named r.deletes)) front) ≡ index
      number = index_is (filter (is_shown_by (is_named r.deletes)) front) first (filter (is_shown_by (is_named r.deletes)) back) index
          (subst (λ os. AreApart (filter (is_shown_by (is_named r.deletes)) front ++ os)) head
          (subst (λ os. AreApart os) parts (apart_kept (is_shown_by (is_named r.deletes)) ((document_of r).units name) (units_apart r name quiet))))
          (ap (λ os. unit_at os index) (sym (shown_is ∙ parts ∙ ap (λ os. filter (is_shown_by (is_named r.deletes)) front ++ os) head)) ∙ at_first)

  first_found : (len : ℕ) (x y : Id) → unit_at (counted_units (document_of r) name) index ≡ Some x → unit_at (counted_units (document_of r) name) (index + len) ≡ Some y →
      SplitAt ((document_of r).units name) x → refusal_of (basis_of client r) (format_between (document_of r) name key value (Some x) (Some y)) ≡ None →
      IsFormatted client r name index (suc len) key value (format_between (document_of r) name key value (Some x) (Some y))
  first_found len x y at_first at_last s =
      subst (λ z. unit_at (counted_units (document_of r) name) index ≡ Some z → refusal_of (basis_of client r)
      (format_between (document_of r) name key value (Some z) (Some y)) ≡ None →
      IsFormatted client r name index (suc len) key value (format_between (document_of r) name key value (Some z) (Some y))) s.is
      (λ at. second len y s.front s.unit s.back s.parts at at_last (split_at (s.unit ∷ s.back) y (last_behind len y s.front s.unit s.back s.parts at at_last))) at_first

  both_found : (len : ℕ) (z w : Option Id) → unit_at (counted_units (document_of r) name) index ≡ z → unit_at (counted_units (document_of r) name) (index + len) ≡ w →
      index + suc len ≤ length (counted_units (document_of r) name) → refusal_of (basis_of client r) (format_between (document_of r) name key value z w) ≡ None →
      IsFormatted client r name index (suc len) key value (format_between (document_of r) name key value z w)
  both_found len (Some x) (Some y) e f le done = first_found len x y e f (split_at ((document_of r).units name) x
      (in_shown ((document_of r).units name) index x (ap (λ os. unit_at os index) (sym shown_is) ∙ e))) done
  both_found len None w e f le done = let (x, g) = unit_below (counted_units (document_of r) name) index (omega (arith, le)) in absurd (none_some x (sym e ∙ g))
    where
      none_some : (x : Id) → ◌≡◌ {A = Option Id} None (Some x) → ⊥
      none_some x g = absurd cc
  both_found len (Some x) None e f le done = let (y, g) = unit_below (counted_units (document_of r) name) (index + len) (omega (arith, le)) in absurd (none_some y (sym f ∙ g))
    where
      none_some : (y : Id) → ◌≡◌ {A = Option Id} None (Some y) → ⊥
      none_some y g = absurd cc

  by_length : (len : ℕ) → index + len ≤ length (counted_units (document_of r) name) →
      refusal_of (basis_of client r) (format_steps (document_of r) name index len key value) ≡ None →
      IsFormatted client r name index len key value (format_steps (document_of r) name index len key value)
  by_length zero le done = none_formatted done
  by_length (suc len) le done = both_found len (unit_at (counted_units (document_of r) name) index) (unit_at (counted_units (document_of r) name) (index + len)) refl refl le done

-- ---- lemmas for callers

pub formatted : (client : Client) (r : Received) (name : DocList) (index len : ℕ) (key : List ℕ) (value : AnyTree) → IsQuietText r name →
    format_refusal (basis_of client r) name index len key value ≡ None → IsFormatted client r name index len key value (format_steps (document_of r) name index len key value)
formatted client r name index len key value quiet done =
    let a = neither (list_refusal (basis_of client r) name (nat_lt 0 len)) _ done in
    let b = neither (end_refusal (counted_units (document_of r) name) (index + len)) _ a.1 in
    let c = neither (index_refusal (counted_units (document_of r) name) index) _ b.1 in
    let d = neither (index_refusal (counted_units (document_of r) name) (index + len)) _ c.1 in
    by_length client r name index key value quiet len (not_past (counted_units (document_of r) name) (index + len) b.0) d.1
