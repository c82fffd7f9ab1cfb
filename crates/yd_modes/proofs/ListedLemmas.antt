-- The values of a list: a unit more, and an open text that becomes a value.
use Rattle.std.proofs.Common.{◌≡◌, ◌≢◌, ℕ, ◌+◌, ◌<◌, ◌≤◌, false, List, [], ◌∷◌, ◌++◌, Some, None, length, take, drop, get_or, refl, sym, ap, ◌∙◌, subst, append_assoc, append-nil}
use Rattle.yd_units.specs.Text.{text_of}
use Rattle.yd_any.specs.Tree.{AnyTree, AnyTrees, str, no_trees, tree, no_fields, with_last}
use Rattle.yd_ids.specs.declared.id.Id.{Id}
use Rattle.yd_ops.specs.declared.kinds.Kind.{Kind}
use Rattle.yd_ops.specs.declared.contents.Content.{Content}
use Rattle.yd_ops.specs.declared.contents.Content.TheVariants.{Json, Binary, Str, Embed, Format, Nested, Any, Deleted}
use Rattle.yd_ops.specs.Operation.{UnitContent, text_unit, Operation, later_id, units_of_content}
use Rattle.yd_ops.specs.View.{content_value}
use Rattle.yd_state.specs.Lent.{Lent, lent_from}
use Rattle.yd_value.specs.View.{shown_trees}
use Rattle.yd_view.specs.declared.halves.Seen.{Seen}
use Rattle.yd_view.specs.declared.halves.Halves.{Halves}
use Rattle.yd_view.specs.Halves.{StepsBy, shown_last}
use Rattle.yd_modes.specs.declared.listed.Listed.{Listed}
use Rattle.yd_modes.specs.Roles.{Values, role_of, is_value, bare, AreIdle, AreIdleUnits, are_values}
use Rattle.yd_modes.specs.Gathering.{Told, told_values, parts, closed_text, IsSilent, live}
use Rattle.yd_modes.specs.Listed.{plain_told, listed, Lists, Silences, Ends}
use Rattle.yd_modes.proofs.GatheringLemmas.{silent_shown, parts_silent, parts_text, parts_idle, parts_value, parts_end}
use Rattle.yd_modes.proofs.RoleLemmas.{no_before, content_idle}
use Rattle.yd_modes.proofs.TakingLemmas.{from_more}

-- ---- values as they are told

plain_told-last : (ts : AnyTrees) (t : AnyTree) → plain_told (with_last ts t) ≡ plain_told ts ++ (t, no_fields) ∷ []
plain_told-last no_trees t = refl
plain_told-last (tree v ts) t = ap (λ (l : List Told). (v, no_fields) ∷ l) (plain_told-last ts t)

told_values-plain : (ts : AnyTrees) → told_values (plain_told ts) ≡ ts
told_values-plain no_trees = refl
told_values-plain (tree t ts) = ap (tree t) (told_values-plain ts)

-- no text unit, with an id
abbrev pub no_text : Id → Seen
no_text id = record { id = id; unit = None }

-- the text that came, and the unit that came last
abbrev pub whole_text : Listed → List ℕ
whole_text l = l.halves.shown.items ++ shown_last l.halves.joined l.halves.last false []

-- ---- the steps

-- a last unit that is no text has nothing to show
pub silent_before : (old : Listed) → IsSilent old.halves.last → Silences old old
silent_before old silent = record {
  values = refl;
  shown = sym (ap (λ (l : List ℕ). old.halves.shown.items ++ l) (silent_shown old.halves.joined false old.halves.last silent) ∙ append-nil old.halves.shown.items);
  silent = silent;
}

pub silenced : (old : Listed) (halves : Halves) (id : Id) → StepsBy old.halves halves (no_text id) → Silences old (record { values = old.values; halves = halves })
silenced old halves id steps = record {
  values = refl;
  shown = steps.shown ∙ ap (λ b. old.halves.shown.items ++ shown_last old.halves.joined old.halves.last b []) (no_before old.halves.last (no_text id) refl);
  silent = subst IsSilent (sym steps.last) refl;
}

-- the open text, as one value
pub one_text : (old : Listed) (values : AnyTrees) (text : AnyTree) → values ≡ with_last (shown_trees old.values) text → closed_text old.halves.shown.items no_fields ≡ (text, no_fields) ∷ [] →
    plain_told values ≡ plain_told (shown_trees old.values) ++ closed_text old.halves.shown.items no_fields
one_text old values text pushed closed = ap plain_told pushed ∙ plain_told-last (shown_trees old.values) text ∙ ap (λ (ts : List Told). plain_told (shown_trees old.values) ++ ts) (sym closed)

-- a text that has a unit is one value
pub closed_some : (units : List ℕ) → (length units ≡ 0 → ⊥) → closed_text units no_fields ≡ (str (text_of units), no_fields) ∷ []
closed_some [] some = absurd (some refl)
closed_some (unit ∷ units) some = refl

-- a text unit came
pub unit_listed : (show : Operation → AnyTree) (old : Listed) (halves : Halves) (id : Id) (unit : ℕ) → StepsBy old.halves halves (record { id = id; unit = Some unit }) →
    Lists show old (record { values = old.values; halves = halves }) (live id (text_unit unit) ∷ [])
unit_listed show old halves id unit steps = λ us.
    (λ i. parts Values show (plain_told (shown_trees old.values)) (steps.shown i) (steps.joined i) (steps.last i) no_fields no_fields us)
    ∙ parts_text Values show (plain_told (shown_trees old.values)) old.halves.shown.items old.halves.joined old.halves.last no_fields no_fields id unit us refl

-- units came that do nothing
pub idle_listed : (show : Operation → AnyTree) (old new : Listed) (id : Id) (came : List Lent) → Silences old new → 0 < length came → AreIdle Values came → Lists show old new came
idle_listed show old new id came silences some idle = λ us.
    (λ i. parts Values show (plain_told (silences.values i)) (silences.shown i) new.halves.joined new.halves.last no_fields no_fields us)
    ∙ parts_silent Values show (plain_told (shown_trees old.values)) (whole_text old) new.halves.joined new.halves.last no_fields no_fields us silences.silent
    ∙ sym (parts_silent Values show (plain_told (shown_trees old.values)) (whole_text old) false (Some (no_text id)) no_fields no_fields us refl)
    ∙ parts_idle Values show (plain_told (shown_trees old.values)) old.halves.shown.items old.halves.joined old.halves.last no_fields no_fields (no_text id) came us refl some idle

-- a value came
pub value_listed : (show : Operation → AnyTree) (old mid end : Listed) (id : Id) (content : UnitContent) (value : AnyTree) (values : AnyTrees) → Silences old mid → Ends mid end →
    values ≡ with_last (shown_trees end.values) value → role_of Values content ≡ is_value → value ≡ show (bare id content) → (us : List Lent) →
    parts Values show (plain_told values) end.halves.shown.items end.halves.joined end.halves.last no_fields no_fields us ≡ listed show old (live id content ∷ us)
value_listed show old mid end id content value values silences ends pushed role shows us =
    (λ i. parts Values show (pieces i) (ends.shown i) end.halves.joined end.halves.last no_fields no_fields us)
    ∙ parts_silent Values show all [] end.halves.joined end.halves.last no_fields no_fields us (ends.silent silences.silent)
    ∙ sym (parts_silent Values show all [] false (Some (no_text id)) no_fields no_fields us refl)
    ∙ parts_value Values show (plain_told (shown_trees old.values)) old.halves.shown.items old.halves.joined old.halves.last no_fields no_fields no_fields (no_text id) id content value us refl role shows
  where
    all : List Told
    all = (plain_told (shown_trees old.values) ++ closed_text (whole_text old) no_fields) ++ (value, no_fields) ∷ []

    pieces : plain_told values ≡ all
    pieces = ap plain_told pushed ∙ plain_told-last (shown_trees end.values) value
        ∙ ap (λ (ts : List Told). ts ++ (value, no_fields) ∷ []) (ends.values ∙ (λ i. plain_told (silences.values i) ++ closed_text (silences.shown i) no_fields))

-- no unit came any more
pub ended_list : (show : Operation → AnyTree) (old mid end : Listed) → Silences old mid → Ends mid end → shown_trees end.values ≡ told_values (listed show old [])
ended_list show old mid end silences ends =
    sym (told_values-plain (shown_trees end.values))
    ∙ ap told_values (ends.values ∙ (λ i. plain_told (silences.values i) ++ closed_text (silences.shown i) no_fields)
    ∙ parts_end Values show (plain_told (shown_trees old.values)) old.halves.shown.items old.halves.joined old.halves.last no_fields no_fields)

-- ---- one after another

pub lists_none : (show : Operation → AnyTree) (a : Listed) → Lists show a a []
lists_none show a = λ us. refl

lists_both : (show : Operation → AnyTree) (a b c : Listed) (xs ys : List Lent) → Lists show a b xs → Lists show b c ys → Lists show a c (xs ++ ys)
lists_both show a b c xs ys first second = λ us. second us ∙ first (ys ++ us) ∙ ap (listed show a) (sym (append_assoc xs ys us))

-- one more of a part
pub lists_more : (show : Operation → AnyTree) (a b c : Listed) (id : Id) (us : List UnitContent) (offset len i : ℕ) (d : UnitContent) → offset + len ≤ length us → i < len →
    Lists show a b (lent_from id false (take i (drop offset us))) → Lists show b c (live (later_id id i) (get_or (drop offset us) i d) ∷ []) →
    Lists show a c (lent_from id false (take (i + 1) (drop offset us)))
lists_more show a b c id us offset len i d within less first second =
    subst (Lists show a c) (sym (from_more id us offset len i d within less))
    (lists_both show a b c (lent_from id false (take i (drop offset us))) (live (later_id id i) (get_or (drop offset us) i d) ∷ []) first second)

-- ---- units of a content

-- what is no text, no type and no value does nothing in a list
pub listed_idle : (c : Content) → are_values Values c ≡ false → ((units : List ℕ) → c ≢ Str units) → ((kind : Kind) → c ≢ Nested kind) → AreIdleUnits Values (units_of_content (content_value c))
listed_idle (Json units) e text nested = content_idle Values (Json units) e tt
listed_idle (Binary blob) e text nested = content_idle Values (Binary blob) e tt
listed_idle (Str units) e text nested = absurd (text units refl)
listed_idle (Embed value) e text nested = content_idle Values (Embed value) e tt
listed_idle (Format key value) e text nested = (refl, tt)
listed_idle (Nested kind) e text nested = absurd (nested kind refl)
listed_idle (Any values) e text nested = content_idle Values (Any values) e tt
listed_idle (Deleted count) e text nested = content_idle Values (Deleted count) e tt
