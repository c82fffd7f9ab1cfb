-- The one operation that has an id, and what of it a store tells.
use Rattle.std.proofs.Common.{◌≡◌, ◌≢◌, ℕ, zero, suc, ◌+◌, ◌-◌, ◌<◌, ◌≤◌, inl, inr, List, [], ◌∷◌, Option, Some, None, map, refl, sym, ap, ◌∙◌, subst, arith}
use Rattle.std.specs.Prelude.{IfSome, slice_get, option_map}
use Rattle.std.proofs.lemmas.Option.{slice_get-map}
use Rattle.yd_any.specs.Tree.{AnyTrees, no_trees, tree}
use Rattle.yd_ids.specs.declared.id.Id.{Id}
use Rattle.yd_ids.specs.Id.{IsClock}
use Rattle.yd_units.specs.Half.{IsHigh, IsLow}
use Rattle.yd_words.specs.Each.{Each}
use Rattle.yd_words.specs.Member.{IsIn}
use Rattle.yd_words.proofs.MemberLemmas.{each_in}
use Rattle.yd_words.proofs.OptionLemmas.{some_is}
use Rattle.yd_ops.specs.declared.lists.List.{List as DocList}
use Rattle.yd_ops.specs.Value.{RunValue, ContentValue, json, binary, string, embed, format, nested, any, deleted}
use Rattle.yd_ops.specs.Operation.{UnitContent, text_unit, any_unit, json_unit, bytes, embedded, mark, nested_type, deleted_unit, gone_unit, Operation, units_of_trees, deleted_units, units_of_content, later_id, operations_from, operations_of_run, gone_from, IsHighUnit, IsLowUnit}
use Rattle.yd_ops.specs.Law.{first_operation, later_operation}
use Rattle.yd_ops.proofs.OperationLemmas.{later_none, first_at, later_at}
use Rattle.yd_scan.specs.declared.stretch.Stretch.{Stretch}
use Rattle.yd_scan.specs.Stretches.{stretch_at}
use Rattle.yd_arena.specs.Arena.{runs_of, next_clock, IsArena, HasUnit}
use Rattle.yd_arena.proofs.ArenaLemmas.{unit_below, units_stand_once}
use Rattle.yd_store.specs.Contents.{told_of, run_at}
use Rattle.yd_store.specs.Store.{Stored, IsRunOf, AreTold}
use Rattle.yd_store.specs.Units.{operations_told, operations_at, HasOperation}
use Rattle.yd_store.specs.declared.halves.TextUnit.{TextUnit}
use Rattle.yd_store.specs.Halves.{HasPair, HasText, text_at, left_at, IsString, HoldsText}
use Rattle.yd_store.proofs.LoweringLemmas.{from_among, gone_among, told_among}

-- ---- where an operation of a run stands

pub in_at : {X : Type 0} (xs : List X) (n : ℕ) (x : X) → slice_get xs n ≡ Some x → IsIn x xs
in_at [] n x e = (let no : None ≡ Some x = e in absurd cc)
in_at (y ∷ ys) zero x e = inl (sym (some_is y x e))
in_at (y ∷ ys) (suc n) x e = inr (in_at ys n x e)

in_from : (id : Id) (left right : Option Id) (list : Option DocList) (us : List UnitContent) (o : Operation) → IsIn o (operations_from id left right list us) →
    slice_get (operations_from id left right list us) (o.id.clock - id.clock) ≡ Some o
in_from id left right list [] o h = absurd h
in_from id left right list (u ∷ us) o (inl e) =
    let n : o.id.clock - id.clock ≡ zero = omega (arith, ap (λ (p : Operation). p.id.clock) e) in
    rw n (ap Some (sym e))
in_from id left right list (u ∷ us) o (inr h) =
    let a = from_among (later_id id 1) (Some id) right None us o h in
    let n : o.id.clock - id.clock ≡ suc (o.id.clock - (id.clock + 1)) = omega (arith, a.low) in
    rw n (in_from (later_id id 1) (Some id) right None us o h)

in_gone : (id : Id) (n : ℕ) (o : Operation) → IsIn o (gone_from id n) → slice_get (gone_from id n) (o.id.clock - id.clock) ≡ Some o
in_gone id zero o h = absurd h
in_gone id (suc m) o (inl e) =
    let n : o.id.clock - id.clock ≡ zero = omega (arith, ap (λ (p : Operation). p.id.clock) e) in
    rw n (ap Some (sym e))
in_gone id (suc m) o (inr h) =
    let a = gone_among (later_id id 1) m o h in
    let n : o.id.clock - id.clock ≡ suc (o.id.clock - (id.clock + 1)) = omega (arith, a.low) in
    rw n (in_gone (later_id id 1) m o h)

in_told : (stretch : Stretch) (z : Option RunValue) (o : Operation) → IfSome z (λ run. IsRunOf stretch run) → IsIn o (operations_told stretch z) →
    slice_get (operations_told stretch z) (o.id.clock - stretch.id.clock) ≡ Some o
in_told stretch None o of h = in_gone stretch.id stretch.len o h
in_told stretch (Some run) o of h =
    subst (λ (x : Id). slice_get (operations_of_run run) (o.id.clock - x.clock) ≡ Some o) of.id_is
    (in_from run.id run.left run.right run.list (units_of_content run.content) o h)

-- the run that has an operation has its unit
pub has_unit : (it : Stored) (o : Operation) → AreTold (runs_of it.placed) (told_of it.contents) → (h : HasOperation it o) →
    HasUnit (runs_of it.placed) h.place (o.id.clock - (stretch_at (runs_of it.placed) h.place).id.clock) o.id
has_unit it o are h =
    let run = stretch_at (runs_of it.placed) h.place in
    let a = told_among run (run_at (told_of it.contents) h.place) o (are.fits h.place h.within) h.member in
    record { within = h.within; inside = omega (arith, a.low, a.high); client = sym a.client; clock = omega (arith, a.low) }

-- an operation stands in the run that has its unit, behind as many others
pub stands_at : (it : Stored) (place n : ℕ) (id : Id) (o : Operation) → IsArena it.placed.lines (runs_of it.placed) → AreTold (runs_of it.placed) (told_of it.contents) →
    HasUnit (runs_of it.placed) place n id → HasOperation it o → o.id ≡ id → slice_get (operations_at (runs_of it.placed) (told_of it.contents) place) n ≡ Some o
stands_at it place n id o arena are has h e =
    let runs = runs_of it.placed in
    let at = operations_at runs (told_of it.contents) in
    let m = o.id.clock - (stretch_at runs h.place).id.clock in
    let u : HasUnit runs h.place m id = subst (λ (x : Id). HasUnit runs h.place m x) e (has_unit it o are h) in
    let one = units_stand_once it.placed.lines runs id h.place m place n arena u has in
    let there : slice_get (at h.place) m ≡ Some o = in_told (stretch_at runs h.place) (run_at (told_of it.contents) h.place) o (are.fits h.place h.within) h.member in
    subst (λ p. slice_get (at p) n ≡ Some o) one.0 (subst (λ k. slice_get (at h.place) k ≡ Some o) one.1 there)

-- ---- what is told of a unit

-- the operation of a run's unit
unit_of : (run : RunValue) (n : ℕ) (c : UnitContent) → slice_get (units_of_content run.content) n ≡ Some c →
    (o : Operation) × (slice_get (operations_of_run run) n ≡ Some o) × (o.id ≡ later_id run.id n) × (o.content ≡ c) × (o.left_origin ≡ left_at run.id run.left n)
unit_of run zero c e = (first_operation run c, first_at run c e, sym (later_none run.id), refl, refl)
unit_of run (suc i) c e =
    let s : i + 1 ≡ suc i = omega arith in (
      later_operation run i c,
      subst (λ k. slice_get (operations_of_run run) k ≡ Some (later_operation run i c)) s (later_at run i c (subst (λ k. slice_get (units_of_content run.content) k ≡ Some c) (sym s) e)),
      ap (later_id run.id) s,
      refl,
      refl,
    )

from_content : (id : Id) (left right : Option Id) (list : Option DocList) (us : List UnitContent) (n : ℕ) (o : Operation) → slice_get (operations_from id left right list us) n ≡ Some o → slice_get us n ≡ Some o.content
from_content id left right list [] n o e = (let no : None ≡ Some o = e in absurd cc)
from_content id left right list (u ∷ us) zero o e = ap (λ (p : Operation). Some p.content) (some_is (record { id = id; left_origin = left; right_origin = right; list = list; content = u }) o e)
from_content id left right list (u ∷ us) (suc n) o e = from_content (later_id id 1) (Some id) right None us n o e

-- the unit is of no text
abbrev IsOther : UnitContent → Type 0
IsOther u = (unit : ℕ) → u ≢ text_unit unit

other_map : {T : Type 0} (f : T → UnitContent) → ((t : T) → IsOther (f t)) → (ts : List T) → Each IsOther (map f ts)
other_map f each [] = tt
other_map f each (t ∷ ts) = (each t, other_map f each ts)

other_trees : (ts : AnyTrees) → Each IsOther (units_of_trees ts)
other_trees no_trees = tt
other_trees (tree t ts) = ((λ unit e. cc), other_trees ts)

other_deleted : (n : ℕ) → Each IsOther (deleted_units n)
other_deleted zero = tt
other_deleted (suc n) = ((λ unit e. cc), other_deleted n)

other_gone : (id : Id) (n : ℕ) → Each (λ (o : Operation). IsOther o.content) (gone_from id n)
other_gone id zero = tt
other_gone id (suc n) = ((λ unit e. cc), other_gone (later_id id 1) n)

none_there : (us : List UnitContent) (n unit : ℕ) → Each IsOther us → slice_get us n ≡ Some (text_unit unit) → ⊥
none_there us n unit each e = each_in IsOther us each (text_unit unit) (in_at us n (text_unit unit) e) unit refl

text_of_unit : (z : Option ℕ) (unit : ℕ) → option_map text_unit z ≡ Some (text_unit unit) → z ≡ Some unit
text_of_unit None unit e = (let no : None ≡ Some (text_unit unit) = e in absurd cc)
text_of_unit (Some x) unit e = (let same : text_unit x ≡ text_unit unit = some_is (text_unit x) (text_unit unit) e in ap Some cc)

-- where a content has a text unit
is_text : (content : ContentValue) (n unit : ℕ) → text_at content n ≡ Some unit → slice_get (units_of_content content) n ≡ Some (text_unit unit)
is_text (string units) n unit e = slice_get-map text_unit units n ∙ ap (option_map text_unit) e
is_text (json values) n unit e = (let no : None ≡ Some unit = e in absurd cc)
is_text (binary blob) n unit e = (let no : None ≡ Some unit = e in absurd cc)
is_text (embed t) n unit e = (let no : None ≡ Some unit = e in absurd cc)
is_text (format key t) n unit e = (let no : None ≡ Some unit = e in absurd cc)
is_text (nested kind) n unit e = (let no : None ≡ Some unit = e in absurd cc)
is_text (any ts) n unit e = (let no : None ≡ Some unit = e in absurd cc)
is_text (deleted count) n unit e = (let no : None ≡ Some unit = e in absurd cc)

has_text : (content : ContentValue) (n unit : ℕ) → slice_get (units_of_content content) n ≡ Some (text_unit unit) → text_at content n ≡ Some unit
has_text (string units) n unit e = text_of_unit (slice_get units n) unit (sym (slice_get-map text_unit units n) ∙ e)
has_text (json values) n unit e = absurd (none_there (map json_unit values) n unit (other_map json_unit (λ t u e. cc) values) e)
has_text (binary blob) n unit e = absurd (none_there (bytes blob ∷ []) n unit ((λ u e. cc), tt) e)
has_text (embed t) n unit e = absurd (none_there (embedded t ∷ []) n unit ((λ u e. cc), tt) e)
has_text (format key t) n unit e = absurd (none_there (mark key t ∷ []) n unit ((λ u e. cc), tt) e)
has_text (nested kind) n unit e = absurd (none_there (nested_type kind ∷ []) n unit ((λ u e. cc), tt) e)
has_text (any ts) n unit e = absurd (none_there (units_of_trees ts) n unit (other_trees ts) e)
has_text (deleted count) n unit e = absurd (none_there (deleted_units count) n unit (other_deleted count) e)

string_of : (content : ContentValue) (n : ℕ) → (text_at content n ≡ None → ⊥) → IsString content
string_of (string units) n some = tt
string_of (json values) n some = absurd (some refl)
string_of (binary blob) n some = absurd (some refl)
string_of (embed t) n some = absurd (some refl)
string_of (format key t) n some = absurd (some refl)
string_of (nested kind) n some = absurd (some refl)
string_of (any ts) n some = absurd (some refl)
string_of (deleted count) n some = absurd (some refl)

-- ---- a text unit, and where there is none

module _ (it : Stored) (arena : IsArena it.placed.lines (runs_of it.placed)) (are : AreTold (runs_of it.placed) (told_of it.contents)) where
  -- an operation is below the next clock of its client
  pub known_below : (id : Id) (o : Operation) → HasOperation it o → o.id ≡ id → id.clock < next_clock it.placed id.client.0
  known_below id o h e =
      subst (λ (x : Id). x.clock < next_clock it.placed x.client.0) e
      (unit_below it.placed.lines (runs_of it.placed) arena.holds h.place (o.id.clock - (stretch_at (runs_of it.placed) h.place).id.clock) o.id (has_unit it o are h))

  -- no two operations have one id
  pub one_operation : (o p : Operation) → HasOperation it o → HasOperation it p → o.id ≡ p.id → o ≡ p
  one_operation o p h k e =
      let n = p.id.clock - (stretch_at (runs_of it.placed) k.place).id.clock in
      let u = has_unit it p are k in
      some_is o p (sym (stands_at it k.place n p.id o arena are u h e) ∙ stands_at it k.place n p.id p arena are u k refl)

  pub no_text_above : (id : Id) → next_clock it.placed id.client.0 ≤ id.clock → (t : TextUnit) → HasText it id t → ⊥
  no_text_above id above t h = omega (arith, above, known_below id h.operation h.there h.id_is)

  module _ (place n : ℕ) (id : Id) (has : HasUnit (runs_of it.placed) place n id) where
    pub no_text_gone : run_at (told_of it.contents) place ≡ None → (t : TextUnit) → HasText it id t → ⊥
    no_text_gone gone t h =
        let stretch = stretch_at (runs_of it.placed) place in
        let at : slice_get (gone_from stretch.id stretch.len) n ≡ Some h.operation = subst (λ z. slice_get (operations_told stretch z) n ≡ Some h.operation) gone (stands_at it place n id h.operation arena are has h.there h.id_is) in
        each_in (λ (o : Operation). IsOther o.content) (gone_from stretch.id stretch.len) (other_gone stretch.id stretch.len) h.operation (in_at (gone_from stretch.id stretch.len) n h.operation at) t.unit h.content_is

    module _ (run : RunValue) (told : run_at (told_of it.contents) place ≡ Some run) where
      of_run : IsRunOf (stretch_at (runs_of it.placed) place) run
      of_run = subst (λ z. IfSome z (λ r. IsRunOf (stretch_at (runs_of it.placed) place) r)) told (are.fits place has.within)

      pub no_text_here : text_at run.content n ≡ None → (t : TextUnit) → HasText it id t → ⊥
      no_text_here none t h =
          let stretch = stretch_at (runs_of it.placed) place in
          let at : slice_get (operations_of_run run) n ≡ Some h.operation = subst (λ z. slice_get (operations_told stretch z) n ≡ Some h.operation) told (stands_at it place n id h.operation arena are has h.there h.id_is) in
          let unit : slice_get (units_of_content run.content) n ≡ Some (text_unit t.unit) = from_content run.id run.left run.right run.list (units_of_content run.content) n h.operation at ∙ ap (λ u. Some u) h.content_is in
          let no : None ≡ Some t.unit = sym none ∙ has_text run.content n t.unit unit in
          absurd cc

      pub text_here : (unit : ℕ) → text_at run.content n ≡ Some unit → HasText it id (record { unit = unit; left = left_at run.id run.left n })
      text_here unit e =
          let r = unit_of run n (text_unit unit) (is_text run.content n unit e) in
          let stretch = stretch_at (runs_of it.placed) place in
          let client : run.id.client ≡ id.client = ap (λ (x : Id). x.client) of_run.id_is ∙ has.client in
          let clock : run.id.clock + n ≡ id.clock = ap (λ (x : Id). x.clock + n) of_run.id_is ∙ has.clock in
          record {
            operation = r.0;
            there = record { place = place; within = has.within; member = subst (λ z. IsIn r.0 (operations_told stretch z)) (sym told) (in_at (operations_of_run run) n r.0 r.1) };
            id_is = r.2 ∙ (rw (client, clock) refl);
            content_is = r.3;
            left_is = r.4;
          }

      pub text_clock : IsClock (run.id.clock + n)
      text_clock =
          let below = unit_below it.placed.lines (runs_of it.placed) arena.holds place n id has in
          omega (arith, below, arena.clocks id.client.0, ap (λ (x : Id). x.clock) of_run.id_is, has.clock)

    -- what the place of a text unit tells is a text
    pub text_told : (t : TextUnit) → HasText it id t → HoldsText (run_at (told_of it.contents) place)
    text_told t h = go (run_at (told_of it.contents) place) refl
      where
        go : (z : Option RunValue) → run_at (told_of it.contents) place ≡ z → HoldsText z
        go None e = tt
        go (Some run) e = string_of run.content n (λ none. no_text_here run e none t h)

  -- ---- a pair, and where there is none

  -- the halves of a pair are text units
  high_text : (c : UnitContent) → IsHighUnit c → (unit : ℕ) × (c ≡ text_unit unit) × IsHigh unit
  high_text (text_unit unit) h = (unit, refl, h)
  high_text (any_unit value) h = absurd h
  high_text (json_unit value) h = absurd h
  high_text (bytes blob) h = absurd h
  high_text (embedded value) h = absurd h
  high_text (mark key value) h = absurd h
  high_text (nested_type kind) h = absurd h
  high_text deleted_unit h = absurd h
  high_text gone_unit h = absurd h

  low_text : (c : UnitContent) → IsLowUnit c → (unit : ℕ) × (c ≡ text_unit unit) × IsLow unit
  low_text (text_unit unit) h = (unit, refl, h)
  low_text (any_unit value) h = absurd h
  low_text (json_unit value) h = absurd h
  low_text (bytes blob) h = absurd h
  low_text (embedded value) h = absurd h
  low_text (mark key value) h = absurd h
  low_text (nested_type kind) h = absurd h
  low_text deleted_unit h = absurd h
  low_text gone_unit h = absurd h

  module _ (high low : Id) (p : HasPair it high low) where
    first_text : (unit : ℕ) × HasText it high (record { unit = unit; left = p.first.left_origin }) × IsHigh unit
    first_text = (let h = high_text p.first.content p.partners.high_half in
        (h.0, record { operation = p.first; there = p.has_first; id_is = p.first_id; content_is = h.1; left_is = refl }, h.2))

    second_text : (unit : ℕ) × HasText it low (record { unit = unit; left = p.second.left_origin }) × IsLow unit
    second_text = (let h = low_text p.second.content p.partners.low_half in
        (h.0, record { operation = p.second; there = p.has_second; id_is = p.second_id; content_is = h.1; left_is = refl }, h.2))

  -- of one id there is one text unit
  one_text : (id : Id) (s t : TextUnit) → HasText it id s → HasText it id t → (s.unit ≡ t.unit) × (s.left ≡ t.left)
  one_text id s t h k =
      let same = one_operation h.operation k.operation h.there k.there (h.id_is ∙ sym k.id_is) in
      let c : text_unit s.unit ≡ text_unit t.unit = sym h.content_is ∙ ap (λ (o : Operation). o.content) same ∙ k.content_is in
      (cc, sym h.left_is ∙ ap (λ (o : Operation). o.left_origin) same ∙ k.left_is)

  module _ (low : Id) where
    pub no_low : ((t : TextUnit) → HasText it low t → ⊥) → (high : Id) → HasPair it high low → ⊥
    no_low none high p = (let t = second_text high low p in none (record { unit = t.0; left = p.second.left_origin }) t.1)

    module _ (s : TextUnit) (h : HasText it low s) where
      left_high : (high : Id) → HasPair it high low → s.left ≡ Some high
      left_high high p = (let t = second_text high low p in
          (one_text low s (record { unit = t.0; left = p.second.left_origin }) h t.1).1 ∙ p.partners.behind ∙ ap (λ (x : Id). Some x) p.first_id)

      pub no_left : s.left ≡ None → (high : Id) → HasPair it high low → ⊥
      no_left none high p = (let no : None ≡ Some high = sym none ∙ left_high high p in absurd cc)

      module _ (left : Id) (is : s.left ≡ Some left) where
        high_is : (high : Id) → HasPair it high low → left ≡ high
        high_is high p = some_is left high (sym is ∙ left_high high p)

        pub no_high : ((t : TextUnit) → HasText it left t → ⊥) → (high : Id) → HasPair it high low → ⊥
        no_high none high p =
            let t = first_text high low p in
            none (record { unit = t.0; left = p.first.left_origin }) (subst (λ (x : Id). HasText it x (record { unit = t.0; left = p.first.left_origin })) (sym (high_is high p)) t.1)

        pub are_pair : (f : TextUnit) → HasText it left f → (high : Id) → HasPair it high low → (low ≡ later_id left 1) × IsHigh f.unit × IsLow s.unit
        are_pair f k high p =
            let e = high_is high p in
            let t = first_text high low p in
            let u = second_text high low p in (
              sym p.second_id ∙ p.partners.next_clock ∙ ap (λ (x : Id). later_id x 1) (p.first_id ∙ sym e),
              subst IsHigh (one_text high (record { unit = t.0; left = p.first.left_origin }) f t.1 (subst (λ (x : Id). HasText it x f) e k)).0 t.2,
              subst IsLow (one_text low (record { unit = u.0; left = p.second.left_origin }) s u.1 h).0 u.2,
            )

        high_unit : (c : UnitContent) (unit : ℕ) → c ≡ text_unit unit → IsHigh unit → IsHighUnit c
        high_unit c unit e high = subst IsHighUnit (sym e) high

        low_unit : (c : UnitContent) (unit : ℕ) → c ≡ text_unit unit → IsLow unit → IsLowUnit c
        low_unit c unit e low = subst IsLowUnit (sym e) low

        pub has_pair : (f : TextUnit) → HasText it left f → low ≡ later_id left 1 → IsHigh f.unit → IsLow s.unit → HasPair it left low
        has_pair f k next high low_half = record {
          first = k.operation;
          second = h.operation;
          has_first = k.there;
          has_second = h.there;
          first_id = k.id_is;
          second_id = h.id_is;
          partners = record {
            high_half = high_unit k.operation.content f.unit k.content_is high;
            low_half = low_unit h.operation.content s.unit h.content_is low_half;
            next_clock = h.id_is ∙ next ∙ ap (λ (x : Id). later_id x 1) (sym k.id_is);
            behind = h.left_is ∙ is ∙ ap (λ (x : Id). Some x) (sym k.id_is);
          };
        }
