-- Where runs are cut at its origins, a run can be added; and what the cuts and the addition do together.
use Rattle.std.proofs.Common.{◌≡◌, ◌≢◌, ℕ, suc, ◌+◌, ◌-◌, ◌<◌, ◌≤◌, inl, inr, List, [], ◌∷◌, Option, Some, None, length, refl, sym, ap, ap₂, ◌∙◌, subst, arith}
use Rattle.std.proofs.lemmas.List.{length-append, get_or_at}
use Rattle.std.specs.Prelude.{IfSome, IfOk, Result, Ok, Err, OnOk, OnErr}
use Rattle.yd_ids.specs.declared.id.Id.{Id}
use Rattle.yd_ids.specs.declared.id.Client.{Client}
use Rattle.yd_words.specs.Member.{IsIn}
use Rattle.yd_words.proofs.OptionLemmas.{some_is}
use Rattle.yd_origins.specs.Growing.{IsNotAmong}
use Rattle.yd_ops.specs.Value.{RunValue, len_of}
use Rattle.yd_scan.specs.declared.stretch.Stretch.{Stretch}
use Rattle.yd_scan.specs.Stretches.{stretch_at, no_stretch, later_units, IsNoLater, EndsLeft}
use Rattle.yd_scan.proofs.UnitLemmas.{in_units, units_in}
use Rattle.yd_index.specs.Holding.{front_of}
use Rattle.yd_index.proofs.CuttingLemmas.{cut_len, cut_front}
use Rattle.yd_index.proofs.RowLemmas.{from_says, from_in}
use Rattle.yd_arena.specs.Lists.{AreLists}
use Rattle.yd_arena.specs.Arena.{Placed, IsArena, HasUnit, CutsRun, runs_of, count_of, places_in, next_clock}
use Rattle.yd_arena.specs.Marks.{IsBorder}
use Rattle.yd_arena.proofs.BorderLemmas.{begins_border, next_border, next_border_of}
use Rattle.yd_store.specs.Store.{Stored, StandsIn, IsKeptRight, AddsRun, stretch_of}
use Rattle.yd_store.specs.Units.{KeepsUnits, AddsUnits}
use Rattle.yd_store.specs.Integrating.{IsBorderAt, IsBorderBehind, IsPlaceOf}
use Rattle.yd_store.proofs.StoreLemmas.{stands_only, stands_below}

-- ---- cuts one after another

pub keeps_itself : (it : Stored) → KeepsUnits it it
keeps_itself it = record {
  count = refl;
  lists = λ list lt. refl;
  units = λ list lt. refl;
  rows = λ list lt. refl;
  operations = λ o. ((λ h. h), (λ h. h));
  marks = λ id. ((λ h. h), (λ h. h));
  live = refl;
  nexts = λ client. refl;
  borders = λ client clock border. border;
}

pub keeps_both : (old mid new : Stored) → KeepsUnits old mid → KeepsUnits mid new → KeepsUnits old new
keeps_both old mid new a b = record {
  count = b.count ∙ a.count;
  lists = λ list lt. b.lists list (omega (arith, lt, a.count)) ∙ a.lists list lt;
  units = λ list lt. b.units list (omega (arith, lt, a.count)) ∙ a.units list lt;
  rows = λ list lt. b.rows list (omega (arith, lt, a.count)) ∙ a.rows list lt;
  operations = λ o. ((λ h. (a.operations o).0 ((b.operations o).0 h)), (λ h. (b.operations o).1 ((a.operations o).1 h)));
  marks = λ id. ((λ h. (a.marks id).0 ((b.marks id).0 h)), (λ h. (b.marks id).1 ((a.marks id).1 h)));
  live = b.live ∙ a.live;
  nexts = λ client. b.nexts client ∙ a.nexts client;
  borders = λ client clock border. b.borders client clock (a.borders client clock border);
}

pub adds_from : (old mid new : Stored) (list : ℕ) (run : RunValue) → KeepsUnits old mid → list < count_of old.placed → AddsUnits mid new list run → AddsUnits old new list run
adds_from old mid new list run k lt a = record {
  count = a.count ∙ k.count;
  before = a.before;
  behind = a.behind;
  parts = sym (k.lists list lt) ∙ a.parts;
  list_is = a.list_is;
  others = λ other olt ne. a.others other (omega (arith, olt, k.count)) ne ∙ k.lists other olt;
  operations = λ o. (
    (λ h. elim ((a.operations o).0 h) [ inl x ↦ inl ((k.operations o).0 x) | inr x ↦ inr x ]),
    (λ h. (a.operations o).1 (elim h [ inl x ↦ inl ((k.operations o).1 x) | inr x ↦ inr x ])),
  );
  marks = λ id. ((λ h. (k.marks id).0 ((a.marks id).0 h)), (λ h. (a.marks id).1 ((k.marks id).1 h)));
  next = a.next;
  other_nexts = λ j ne. a.other_nexts j ne ∙ k.nexts j;
  borders = λ j c le b. a.borders j c (omega (arith, le, k.nexts j)) (k.borders j c b);
}

-- ---- origins

-- a unit in a list stands there after cuts too
pub stands_kept : (old new : Stored) (list : ℕ) (id : Id) → KeepsUnits old new → AreLists new.placed.linked → list < count_of old.placed → StandsIn old.placed list id → StandsIn new.placed list id
stands_kept old new list id k lists lt s =
    let run = stretch_at (runs_of old.placed) s.place in
    let member = units_in (runs_of old.placed) (places_in old.placed list) id s.place s.member
    (from_in run.id.client run.len run.id.clock id (sym s.has.client) (omega (arith, s.has.clock)) (omega (arith, s.has.clock, s.has.inside))) in
    let found = in_units (runs_of new.placed) (places_in new.placed list) id (subst (IsIn id) (sym (k.units list lt)) member) in
    let more = stretch_at (runs_of new.placed) found.0 in
    let says = from_says more.id.client more.len more.id.clock id found.2 in
    record {
      place = found.0;
      before = id.clock - more.id.clock;
      has = record {
        within = lists.within list found.0 (omega (arith, lt, k.count)) found.1;
        inside = omega (arith, says.1, says.2);
        client = sym says.0;
        clock = omega (arith, says.1);
      };
      member = found.1;
    }

-- the place of a left origin that stands in the list is there, and the left origin ends its run
pub ends_left : (placed : Placed) (list : ℕ) (left : Option Id) (place : Option ℕ) → IsArena placed.lines (runs_of placed) → IsPlaceOf placed left place →
    IfSome left (λ id. StandsIn placed list id) → IfSome left (λ id. IsBorder (runs_of placed) id.client.0 (id.clock + 1)) → EndsLeft (runs_of placed) left place × IfSome place (λ p. IsIn p (places_in placed list))
ends_left placed list None None arena e s b = (tt, tt)
ends_left placed list None (Some p) arena e s b = (let no : Some p ≡ None = e in absurd cc)
ends_left placed list (Some id) None arena above s b = absurd (omega (arith, above, stands_below placed list id arena s))
ends_left placed list (Some id) (Some p) arena has s b =
    let run = stretch_at (runs_of placed) p in
    let last : has.0 + 1 ≡ run.len = elim (b p has.1.within (ap (λ (c : Client). c.0) has.1.client)) [
      | inl x ↦ omega (arith, x, has.1.clock, has.1.inside)
      | inr x ↦ absurd (omega (arith, x, has.1.clock))
    ] in
    let clock : id.clock ≡ run.id.clock + (run.len - 1) = omega (arith, last, has.1.clock) in
    ((has.1.within, ap₂ (λ (k : Client) (n : ℕ). record { client = k; clock = n }) (sym has.1.client) clock), stands_only placed list p has.0 id arena has.1 s)

-- a right origin whose run has a place counts just where the list has that place, and one without a place does not
pub right_here : (placed : Placed) (list place : ℕ) (right : Option Id) → IsPlaceOf placed right (Some place) → IsIn place (places_in placed list) → IsKeptRight placed list right right
right_here placed list place None e m = (let no : Some place ≡ None = e in absurd cc)
right_here placed list place (Some id) has m = (refl, record { place = place; before = has.0; has = has.1; member = m })

pub right_elsewhere : (placed : Placed) (list place : ℕ) (right : Option Id) → IsArena placed.lines (runs_of placed) → IsPlaceOf placed right (Some place) → (IsIn place (places_in placed list) → ⊥) →
    IsKeptRight placed list right None
right_elsewhere placed list place None arena e out = tt
right_elsewhere placed list place (Some id) arena has out = λ s. out (stands_only placed list place has.0 id arena has.1 s)

pub right_above : (placed : Placed) (list : ℕ) (right : Option Id) → IsArena placed.lines (runs_of placed) → IsPlaceOf placed right None → IsKeptRight placed list right None
right_above placed list None arena e = tt
right_above placed list (Some id) arena above = λ s. absurd (omega (arith, above, stands_below placed list id arena s))

-- the place of a run with a unit is that of a run
pub place_within : (placed : Placed) (place : ℕ) (z : Option Id) → IsPlaceOf placed z (Some place) → place < length (runs_of placed)
place_within placed place None e = (let no : Some place ≡ None = e in absurd cc)
place_within placed place (Some id) has = has.1.within

not_among : (z : Option Id) (us : List Id) → ((u : Id) → IsIn u us → z ≢ Some u) → IsNotAmong z us
not_among z [] no_one = tt
not_among z (u ∷ us) no_one = (no_one u (inl refl), not_among z us (λ v h. no_one v (inr h)))

-- an id where no run goes over is no later unit of one
pub no_later : (placed : Placed) (list : ℕ) (right : Option Id) → IfSome right (λ id. IsBorder (runs_of placed) id.client.0 id.clock) → AreLists placed.linked → list < count_of placed → IsNoLater (runs_of placed) (places_in placed list) right
no_later placed list None b lists lt = λ i m. not_among None (later_units (stretch_at (runs_of placed) i)) (λ u h e. (let no : None ≡ Some u = e in absurd cc))
no_later placed list (Some id) b lists lt = λ i m. not_among (Some id) (later_units (stretch_at (runs_of placed) i)) (λ u h e.
    let run = stretch_at (runs_of placed) i in
    let is : id ≡ u = some_is id u e in
    let says = from_says run.id.client (run.len - 1) (suc run.id.clock) u h in
    let own : run.id.client.0 ≡ id.client.0 = ap (λ (c : Client). c.0) (sym says.0) ∙ ap (λ (x : Id). x.client.0) (sym is) in
    let at : id.clock ≡ u.clock = ap (λ (x : Id). x.clock) is in
    elim (b i (lists.within list i lt m) own) [
      | inl x ↦ absurd (omega (arith, x, at, says.1, says.2))
      | inr x ↦ absurd (omega (arith, x, at, says.1))
    ])

-- ---- where no run goes over a clock

pub border_above : (it : Stored) (id : Id) → IsArena it.placed.lines (runs_of it.placed) → next_clock it.placed id.client.0 ≤ id.clock → IsBorderAt it id
border_above it id arena above = next_border_of it.placed.lines (runs_of it.placed) id.client.0 id.clock arena above

pub border_found : (it : Stored) (id : Id) (place : ℕ) → IsArena it.placed.lines (runs_of it.placed) → HasUnit (runs_of it.placed) place 0 id → IsBorderAt it id
border_found it id place arena has = begins_border it.placed.lines (runs_of it.placed) place id arena has

pub border_of : (z : Option Id) (id : Id) (it : Stored) (place : ℕ) → z ≡ Some id → IsArena it.placed.lines (runs_of it.placed) → HasUnit (runs_of it.placed) place 0 id → IfSome z (IsBorderAt it)
border_of z id it place is arena has = subst (λ y. IfSome y (IsBorderAt it)) (sym is) (border_found it id place arena has)

-- no run goes over the end of a unit that is the last of its run
pub border_end : (it : Stored) (id : Id) (place before : ℕ) → IsArena it.placed.lines (runs_of it.placed) → HasUnit (runs_of it.placed) place before id →
    before + 1 ≡ (stretch_at (runs_of it.placed) place).len → IsBorderBehind it id
border_end it id place before arena has last =
    let run = stretch_at (runs_of it.placed) place in
    let end : run.id.clock + run.len ≡ id.clock + 1 = omega (arith, last, has.clock) in
    subst (IsBorder (runs_of it.placed) id.client.0) end
    (next_border it.placed.lines (runs_of it.placed) arena id.client.0 place run.id.clock has.within (ap (λ (c : Client). c.0) has.client) refl (omega (arith, last)))

-- the unit behind one that is not the last of its run
pub has_next : (runs : List Stretch) (place before : ℕ) (id : Id) → HasUnit runs place before id → before + 1 ≢ (stretch_at runs place).len →
    HasUnit runs place (before + 1) (record { client = id.client; clock = id.clock + 1 })
has_next runs place before id has not = record { within = has.within; inside = omega (arith, has.inside, not); client = has.client; clock = omega (arith, has.clock) }

-- a unit stays where it is, where its run is cut behind it
pub unit_stays : (old new : Placed) (place n before : ℕ) (id : Id) → CutsRun old new place n → HasUnit (runs_of old) place before id → before < n → HasUnit (runs_of new) place before id
unit_stays old new place n before id cuts has lt =
    let e : stretch_at (runs_of new) place ≡ front_of (stretch_at (runs_of old) place) n = ap (λ rs. stretch_at rs place) cuts.runs ∙ cut_front (runs_of old) place n has.within in
    record {
      within = omega (arith, has.within, ap length cuts.runs, cut_len (runs_of old) place n has.within);
      inside = subst (λ (s : Stretch). before < s.len) (sym e) lt;
      client = ap (λ (s : Stretch). s.id.client) e ∙ has.client;
      clock = ap (λ (s : Stretch). s.id.clock + before) e ∙ has.clock;
    }

-- ---- the ways through the calls

-- a border stays one
pub borders_stay : (z : Option Id) (mid now : Stored) → KeepsUnits mid now → IfSome z (IsBorderBehind mid) → IfSome z (IsBorderBehind now)
borders_stay None mid now k b = tt
borders_stay (Some id) mid now k b = k.borders id.client.0 (id.clock + 1) b

pub left_below : (placed : Placed) (list : ℕ) (z : Option Id) → IsArena placed.lines (runs_of placed) → IfSome z (λ id. StandsIn placed list id) → IfSome z (λ id. id.clock < next_clock placed id.client.0)
left_below placed list None arena s = tt
left_below placed list (Some id) arena s = stands_below placed list id arena s

pub left_kept : (old new : Stored) (list : ℕ) (z : Option Id) → KeepsUnits old new → AreLists new.placed.linked → list < count_of old.placed → IfSome z (λ id. StandsIn old.placed list id) → IfSome z (λ id. StandsIn new.placed list id)
left_kept old new list None k lists lt s = tt
left_kept old new list (Some id) k lists lt s = stands_kept old new list id k lists lt s

pub ok_with : {T E : Type 0} (r : Result T E) (P Q : Type 0) → (P → Q) → OnOk r P → OnOk r Q
ok_with (Ok x) P Q f p = f p
ok_with (Err x) P Q f p = tt

pub err_with : {T E : Type 0} (r : Result T E) (P Q : Type 0) → (P → Q) → OnErr r P → OnErr r Q
err_with (Ok x) P Q f p = tt
err_with (Err x) P Q f p = f p

-- a call that answers Ok answers what else is known of it there
pub ok_says : {T E : Type 0} (r : Result T E) (P : T → Type 0) (Q : Type 0) (R : T → Type 0) → ((x : T) → P x → Q → R x) → IfOk r P → OnOk r Q → IfOk r R
ok_says (Ok x) P Q R f p q = f x p q
ok_says (Err x) P Q R f p q = tt

-- a run that was added is the last one, and its first unit begins it
pub begins_last : (old new : Stored) (list : ℕ) (run : RunValue) (place : ℕ) → AddsRun old new list run → 0 < len_of run.content → place ≡ length (runs_of old.placed) → HasUnit (runs_of new.placed) place 0 run.id
begins_last old new list run place adds filled is =
    let stretch : Stretch = stretch_of run adds.right in
    let here : stretch_at (runs_of new.placed) place ≡ stretch
    = ap₂ stretch_at adds.grows.runs is ∙ get_or_at (runs_of old.placed) stretch [] no_stretch (length (runs_of old.placed)) refl in
    record {
      within = omega (arith, is, ap length adds.grows.runs ∙ length-append (runs_of old.placed) (stretch ∷ []));
      inside = subst (λ (s : Stretch). 0 < s.len) (sym here) filled;
      client = ap (λ (s : Stretch). s.id.client) here;
      clock = ap (λ (s : Stretch). s.id.clock + 0) here ∙ omega (arith);
    }
