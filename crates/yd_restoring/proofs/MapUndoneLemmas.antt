-- A key that is set or unset, and undone: what it shows is what it showed.
use Rattle.std.proofs.Common.{◌≡◌, ◌&&◌, not, Bool, true, false, List, [], ◌∷◌, Option, Some, None, inl, inr, refl, sym, ap, ◌∙◌, subst, true≢false}
use Rattle.std.specs.Prelude.{if◌then◌else◌}
use Rattle.yd_ids.specs.declared.id.Id.{Id}
use Rattle.yd_ids.specs.Set.{HasId, union_of}
use Rattle.yd_ids.proofs.UnionLemmas.{union_ids}
use Rattle.yd_ops.specs.Operation.{Operation}
use Rattle.yd_shown.specs.Shown.{is_counted, if_shown, key_list, last_unit, unit_under}
use Rattle.yd_editing.specs.MapEdit.{listed, if_live, set_steps, unset_steps}
use Rattle.yd_editing.specs.TextEdit.{ids_of_units}
use Rattle.yd_editing.proofs.IndexLemmas.{units_have, has_units}
use Rattle.yd_doc.specs.Kept.{Kept, own_document}
use Rattle.yd_restoring.specs.Keyed.{KeysAreUndone, SettingsAreUndone, UnsettingsAreUndone}

-- ---- the removed unit

only_one : (unit : Option Operation) (x : Id) → HasId (union_of (ids_of_units (listed unit)) []) x → HasId (ids_of_units (listed unit)) x
only_one unit x h = elim ((union_ids (ids_of_units (listed unit)) [] x).0 h) [ inl i ↦ i | inr i ↦ absurd i ]

removed_unit : (unit : Option Operation) (x : Id) → HasId (union_of (ids_of_units (listed unit)) []) x → (o : Operation) × (unit ≡ Some o) × (o.id ≡ x)
removed_unit None x h = let (o, i, e) = has_units [] x (only_one None x h) in absurd i
removed_unit (Some p) x h = let (o, i, e) = has_units (p ∷ []) x (only_one (Some p) x h) in elim i [
  | inl f ↦ (p, refl, ap (λ (q : Operation). q.id) (sym f) ∙ e)
  | inr j ↦ absurd j
]

is_removed : (o : Operation) → HasId (union_of (ids_of_units (listed (Some o))) []) o.id
is_removed o = (union_ids (ids_of_units (o ∷ [])) [] o.id).1 (inl (units_have (o ∷ []) o (inl refl)))

none_some : (o : Operation) → ◌≡◌ {A = Option Operation} None (Some o) → ⊥
none_some o e = absurd cc

same_some : (p o : Operation) → ◌≡◌ {A = Option Operation} (Some p) (Some o) → p ≡ o
same_some p o e = cc

-- it was live
was_live : (deleted : Id → Bool) (unit : Option Operation) (o : Operation) → if_live deleted unit ≡ Some o → deleted o.id ≡ false
was_live deleted None o e = absurd (none_some o e)
was_live deleted (Some p) o e = go (deleted p.id) refl e
  where
    go : (t : Bool) → deleted p.id ≡ t → (if not t then Some p else None) ≡ Some o → deleted o.id ≡ false
    go true f g = absurd (none_some o g)
    go false f g = ap (λ (q : Operation). deleted q.id) (sym (same_some p o g)) ∙ f

was_shown : (deleted : Id → Bool) (unit : Option Operation) (o : Operation) → if_shown deleted unit ≡ Some o → deleted o.id ≡ false
was_shown deleted None o e = absurd (none_some o e)
was_shown deleted (Some p) o e = go (deleted p.id) (is_counted p.content) refl e
  where
    go : (t c : Bool) → deleted p.id ≡ t → (if not t && c then Some p else None) ≡ Some o → deleted o.id ≡ false
    go true c f g = absurd (none_some o g)
    go false true f g = ap (λ (q : Operation). deleted q.id) (sym (same_some p o g)) ∙ f
    go false false f g = absurd (none_some o g)

-- ---- lemmas for callers

module _ (old mid new : Kept) (law : KeysAreUndone old mid new) where
  pub set_undone : SettingsAreUndone old mid new
  set_undone parent key content noted update undone quiet makeable no_type is dead place live again live_new =
      law parent key (set_steps (own_document old) parent key content) noted update undone quiet (makeable, (tt, tt)) is dead (record {
        removed = λ o i h.
            let (p, e, f) = removed_unit (if_live (own_document old).deleted (last_unit ((own_document old).units (key_list parent key)))) o.id h in
            let alive = sym (ap (own_document old).deleted f) ∙ was_live (own_document old).deleted (last_unit ((own_document old).units (key_list parent key))) p e in
            (alive, no_type o i alive);
        replaced = λ o last alive. inl (subst (λ u. HasId (union_of (ids_of_units (listed u)) []) o.id)
            (sym (ap (if_live (own_document old).deleted) last ∙ ap (λ t. if not t then Some o else None) alive)) (is_removed o));
      }) place live again live_new

  pub unset_undone : UnsettingsAreUndone old mid new
  unset_undone parent key noted update undone quiet no_type is dead place live again live_new =
      law parent key (unset_steps (own_document old) parent key) noted update undone quiet (tt, tt) is dead (record {
        removed = λ o i h.
            let (p, e, f) = removed_unit (unit_under (own_document old) parent key) o.id h in
            let alive = sym (ap (own_document old).deleted f) ∙ was_shown (own_document old).deleted (last_unit ((own_document old).units (key_list parent key))) p e in
            (alive, no_type o i alive);
        replaced = λ o last alive. inr (tt, tt);
      }) place live again live_new
