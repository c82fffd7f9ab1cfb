-- The parts of a store stay of the same runs, where a run is cut and where one is added.
use Rattle.std.proofs.Common.{◌≡◌, ◌≢◌, ℕ, zero, suc, Bool, false, map, ◌+◌, ◌-◌, ◌<◌, ◌⊎◌, inl, inr, List, [], ◌∷◌, ◌++◌, Option, Some, None, length, get_or, set, take, refl, sym, ap, ap₂, ◌∙◌, subst, arith}
use Rattle.std.proofs.lemmas.List.{map-append, map-set, length-map, take_at, get_or_append_left, get_or_at, length-append, length-set, get_or-set_same, get_or-set_other}
use Rattle.std.specs.Prelude.{IfSome}
use Rattle.yd_ids.specs.declared.id.Id.{Id}
use Rattle.yd_ids.specs.declared.id.Client.{Client}
use Rattle.yd_ids.specs.Id.{IsClock}
use Rattle.yd_words.specs.Member.{IsIn}
use Rattle.yd_ops.specs.Value.{len_of, RunValue}
use Rattle.yd_ops.specs.View.{content_value, run_value}
use Rattle.yd_ops.specs.declared.runs.Run.{Run}
use Rattle.yd_ops.specs.Operation.{later_id}
use Rattle.yd_ops.specs.Cutting.{run_before, run_behind}
use Rattle.yd_ops.proofs.CutLemmas.{part_long, parts_long}
use Rattle.yd_scan.specs.declared.stretch.Stretch.{Stretch}
use Rattle.yd_origins.specs.Growing.{IsNotAmong}
use Rattle.yd_origins.specs.Scan.{after_scans}
use Rattle.yd_chains.specs.Chain.{put_behind}
use Rattle.yd_scan.specs.Stretches.{stretch_at, no_stretch, later_units, units_of, units_at, IsNoLater, HasOrigins, HasLefts}
use Rattle.yd_index.specs.Line.{Lined}
use Rattle.yd_index.specs.Lines.{next_of}
use Rattle.yd_index.specs.Holding.{front_of, rest_of, cut_stretches}
use Rattle.yd_index.proofs.LinesLemmas.{eq_says}
use Rattle.yd_index.proofs.HoldingLemmas.{below_or_last}
use Rattle.yd_index.proofs.CuttingLemmas.{cut_len, cut_front, cut_rest, cut_other}
use Rattle.yd_arena.specs.Lists.{Linked, list_at, AreLists}
use Rattle.yd_arena.specs.Arena.{Placed, IsArena, HasUnit, runs_of, places_in, IsSame, CutsRun, GrowsByRun, AddsLoose}
use Rattle.yd_arena.proofs.ArenaLemmas.{unit_id, own_unit, unit_below, units_stand_once}
use Rattle.yd_arena.specs.declared.mark.Mark.{Mark}
use Rattle.yd_arena.specs.Marks.{Marked, mark_at, live_of, live_at, total, with_more}
use Rattle.yd_arena.proofs.CountLemmas.{counted_cut, counted_added, counted_loose}
use Rattle.yd_store.specs.Contents.{Contented, told, told_of, counts, CanBeCut, run_at, told_before, told_behind, cut_runs, CanCut}
use Rattle.yd_store.specs.Store.{IsRunOf, AreTold, IsNoted, IsStore, StandsIn, IsKeptRight, AddsRun}
use Rattle.yd_store.proofs.NotedLemmas.{noted_cut, noted_more}

-- ---- a cut

abbrev id_of : Client → ℕ → Id
id_of client clock = record { client = client; clock = clock }

module _ (stretch : Stretch) (run : RunValue) (n : ℕ) (of : IsRunOf stretch run) (some : 0 < n) (inside : n < stretch.len) where
  in_run : n < len_of run.content
  in_run = omega (arith, inside, of.len_is)

  front_is : IsRunOf (front_of stretch n) (run_before n run)
  front_is = record { id_is = of.id_is; len_is = part_long n run some in_run; left_is = of.left_is; right_is = of.right_is }

  rest_is : IsRunOf (rest_of stretch n) (run_behind n run)
  rest_is = record {
    id_is = ap (λ (id : Id). later_id id n) of.id_is;
    len_is = omega (arith, part_long n run some in_run, parts_long n run some in_run, of.len_is);
    left_is =
        let e : stretch.id.clock + (n - 1) ≡ stretch.id.clock + n - 1 = omega (arith, some) in
        ap (λ (id : Id). Some (later_id id (n - 1))) of.id_is ∙ ap (λ c. Some (id_of stretch.id.client c)) e;
    right_is = of.right_is;
  }

module _ (runs : List Stretch) (told : List (Option RunValue)) (are : AreTold runs told) (place n : ℕ) (within : place < length runs) (some : 0 < n) (inside : n < (stretch_at runs place).len) where
  abbrev cut : List Stretch
  cut = cut_stretches runs place n

  abbrev cut_told : List (Option RunValue)
  cut_told = cut_runs told place n

  abbrev fronted : List (Option RunValue)
  fronted = set told place (told_before n (run_at told place))

  fronted_len : length fronted ≡ length told
  fronted_len = length-set told place (told_before n (run_at told place))

  pub told_front : run_at cut_told place ≡ told_before n (run_at told place)
  told_front = get_or_append_left fronted (told_behind n (run_at told place) ∷ []) None place (omega (arith, within, are.each, fronted_len)) ∙ get_or-set_same told place (told_before n (run_at told place)) None (omega (arith, within, are.each))

  pub told_rest : run_at cut_told (length runs) ≡ told_behind n (run_at told place)
  told_rest = get_or_at fronted (told_behind n (run_at told place)) [] None (length runs) (fronted_len ∙ are.each)

  pub told_other : (i : ℕ) → i < length runs → i ≢ place → run_at cut_told i ≡ run_at told i
  told_other i lt ne = get_or_append_left fronted (told_behind n (run_at told place) ∷ []) None i (omega (arith, lt, are.each, fronted_len)) ∙ get_or-set_other told place i (told_before n (run_at told place)) None ne

  front_told : IfSome (told_before n (run_at told place)) (λ run. IsRunOf (front_of (stretch_at runs place) n) run)
  front_told = go (run_at told place) (are.fits place within)
    where
      go : (z : Option RunValue) → IfSome z (λ run. IsRunOf (stretch_at runs place) run) → IfSome (told_before n z) (λ run. IsRunOf (front_of (stretch_at runs place) n) run)
      go None f = tt
      go (Some run) f = front_is (stretch_at runs place) run n f some inside

  rest_told : IfSome (told_behind n (run_at told place)) (λ run. IsRunOf (rest_of (stretch_at runs place) n) run)
  rest_told = go (run_at told place) (are.fits place within)
    where
      go : (z : Option RunValue) → IfSome z (λ run. IsRunOf (stretch_at runs place) run) → IfSome (told_behind n z) (λ run. IsRunOf (rest_of (stretch_at runs place) n) run)
      go None f = tt
      go (Some run) f = rest_is (stretch_at runs place) run n f some inside

  abbrev Fits : Stretch → Option RunValue → Type 0
  Fits stretch z = IfSome z (λ run. IsRunOf stretch run)

  pub are_told_cut : AreTold cut cut_told
  are_told_cut = record {
    each = omega (arith, length-append fronted (told_behind n (run_at told place) ∷ []), fronted_len, are.each, cut_len runs place n within);
    fits = λ i lt. elim (below_or_last i (length runs) (omega (arith, lt, cut_len runs place n within))) [
      | inl low ↦ elim (eq_says i place) [
        | inl y ↦ subst (λ j. Fits (stretch_at cut j) (run_at cut_told j)) (sym y.1) (subst (λ z. Fits (stretch_at cut place) z) (sym told_front) (subst (λ s. Fits s (told_before n (run_at told place))) (sym (cut_front runs place n within)) front_told))
        | inr y ↦ subst (λ z. Fits (stretch_at cut i) z) (sym (told_other i low y.1)) (subst (λ s. Fits s (run_at told i)) (sym (cut_other runs place n within i low y.1)) (are.fits i low))
      ]
      | inr e ↦ subst (λ j. Fits (stretch_at cut j) (run_at cut_told j)) (sym e) (subst (λ z. Fits (stretch_at cut (length runs)) z) (sym told_rest) (subst (λ s. Fits s (told_behind n (run_at told place))) (sym (cut_rest runs place n within)) rest_told))
    ];
  }

-- what is told of a run ends at a clock
pub run_fits : (lines : List Lined) (runs : List Stretch) (place : ℕ) → IsArena lines runs → place < length runs → 0 < (stretch_at runs place).len → IsClock ((stretch_at runs place).id.clock + (stretch_at runs place).len)
run_fits lines runs place arena within filled =
    let last = (stretch_at runs place).len - 1 in
    omega (arith, filled, unit_below lines runs arena.holds place last (unit_id runs place last) (own_unit runs place last within (omega (arith, filled))), arena.clocks (stretch_at runs place).id.client.0)

-- where a unit stands inside a run, what the run holds can be cut there
pub can_cut : (lines : List Lined) (runs : List Stretch) (it : Contented) (place n : ℕ) (id : Id) → IsArena lines runs → AreTold runs (told_of it) → HasUnit runs place n id → 0 < n → CanCut it place n
can_cut lines runs it place n id arena are has some = record {
  within = omega (arith, has.within, are.each, length-map it.rows told);
  some = some;
  inside = go (run_at (told_of it) place) (are.fits place has.within);
}
  where
    go : (z : Option RunValue) → IfSome z (λ run. IsRunOf (stretch_at runs place) run) → CanBeCut n z
    go None f = tt
    go (Some run) f = (omega (arith, has.inside, f.len_is), omega (arith, run_fits lines runs place arena has.within (omega (arith, has.inside)), f.len_is, ap (λ (i : Id). i.clock) f.id_is))

pub store_cut : (old new : Placed) (marks more : Marked) (contents cut : Contented) (place n : ℕ) → IsStore old marks contents → AreLists old.linked → place < length (runs_of old) → 0 < n → n < (stretch_at (runs_of old) place).len →
    CutsRun old new place n → more.rows ≡ marks.rows ++ mark_at marks.rows place ∷ [] → more.live ≡ marks.live → told_of cut ≡ cut_runs (told_of contents) place n → IsStore new more cut
store_cut old new marks more contents cut place n store lists within some inside cuts rows live runs = record {
  counted = rw (rows, live) (counted_cut old.linked new.linked marks.rows marks.live place n lists store.counted.each within (omega (arith, inside)) cuts.runs cuts.lists store.counted);
  told = rw (cuts.runs, runs) (are_told_cut (runs_of old) (told_of contents) store.told place n within some inside);
  noted = rw (rows, runs) (noted_cut marks.rows (told_of contents) place n store.noted (omega (arith, store.counted.each, store.told.each)) (omega (arith, within, store.told.each)));
}

-- ---- a run more

module _ (runs : List Stretch) (told : List (Option RunValue)) (are : AreTold runs told) (stretch : Stretch) (z : Option RunValue) (fits : IfSome z (λ run. IsRunOf stretch run)) where
  pub are_told_more : AreTold (runs ++ stretch ∷ []) (told ++ z ∷ [])
  are_told_more = record {
    each = omega (arith, length-append told (z ∷ []), length-append runs (stretch ∷ []), are.each);
    fits = λ i lt. elim (below_or_last i (length runs) (omega (arith, lt, length-append runs (stretch ∷ [])))) [
      | inl low ↦ subst (λ y. IfSome y (λ run. IsRunOf (stretch_at (runs ++ stretch ∷ []) i) run)) (sym (get_or_append_left told (z ∷ []) None i (omega (arith, low, are.each))))
          (subst (λ s. IfSome (run_at told i) (λ run. IsRunOf s run)) (sym (get_or_append_left runs (stretch ∷ []) no_stretch i low)) (are.fits i low))
      | inr e ↦ subst (λ j. IfSome (run_at (told ++ z ∷ []) j) (λ run. IsRunOf (stretch_at (runs ++ stretch ∷ []) j) run)) (sym e)
          (subst (λ y. IfSome y (λ run. IsRunOf (stretch_at (runs ++ stretch ∷ []) (length runs)) run)) (sym (get_or_at told z [] None (length runs) are.each))
          (subst (λ s. IfSome z (λ run. IsRunOf s run)) (sym (get_or_at runs stretch [] no_stretch (length runs) refl)) fits))
    ];
  }

pub store_added : (old new : Placed) (marks more : Marked) (contents grown : Contented) (list : ℕ) (stretch : Stretch) (mark : Mark) (z : Option RunValue) → IsStore old marks contents → AreLists old.linked → list < length old.linked.lists →
    GrowsByRun old new list stretch → IfSome z (λ run. IsRunOf stretch run) → IsNoted mark z → more.rows ≡ marks.rows ++ mark ∷ [] → more.live ≡ with_more marks.live (Some list) (live_of mark stretch.len) → told_of grown ≡ told_of contents ++ z ∷ [] → IsStore new more grown
store_added old new marks more contents grown list stretch mark z store lists lt grows fits is_noted rows live runs = record {
  counted = rw (rows, live) (counted_added old.linked new.linked marks.rows marks.live stretch mark lists store.counted grows.runs list grows.after lt grows.count grows.place grows.others);
  told = rw (grows.runs, runs) (are_told_more (runs_of old) (told_of contents) store.told stretch z fits);
  noted = rw (rows, runs) (noted_more marks.rows (told_of contents) mark z store.noted (omega (arith, store.counted.each, store.told.each)) is_noted);
}

pub store_loose : (old new : Placed) (marks more : Marked) (contents grown : Contented) (stretch : Stretch) (mark : Mark) (z : Option RunValue) → IsStore old marks contents → AreLists old.linked →
    AddsLoose old new stretch → IfSome z (λ run. IsRunOf stretch run) → IsNoted mark z → more.rows ≡ marks.rows ++ mark ∷ [] → more.live ≡ marks.live → told_of grown ≡ told_of contents ++ z ∷ [] → IsStore new more grown
store_loose old new marks more contents grown stretch mark z store lists adds fits is_noted rows live runs = record {
  counted = rw (rows, live) (counted_loose old.linked new.linked marks.rows marks.live stretch mark lists store.counted adds.runs adds.lists);
  told = rw (adds.runs, runs) (are_told_more (runs_of old) (told_of contents) store.told stretch z fits);
  noted = rw (rows, runs) (noted_more marks.rows (told_of contents) mark z store.noted (omega (arith, store.counted.each, store.told.each)) is_noted);
}

-- ---- room, and a list more

pub lists_same : (old new : Linked) → new.stretches ≡ old.stretches → new.lists ≡ old.lists → AreLists old → AreLists new
lists_same old new es el are =
    subst (λ ls. AreLists (record { stretches = new.stretches; lists = ls; room = new.room })) (sym el)
    (subst (λ ss. AreLists (record { stretches = ss; lists = old.lists; room = new.room })) (sym es) kept)
  where
    kept : AreLists (record { stretches = old.stretches; lists = old.lists; room = new.room })
    kept = record { distinct = are.distinct; within = are.within; filled = are.filled; apart = are.apart }

pub store_same : (old new : Placed) (marks more : Marked) (contents kept : Contented) → IsStore old marks contents → new.linked.stretches ≡ old.linked.stretches → new.linked.lists ≡ old.linked.lists →
    more.rows ≡ marks.rows → more.live ≡ marks.live → told_of kept ≡ told_of contents → IsStore new more kept
store_same old new marks more contents kept store es el rows live runs = record {
  counted = rw (rows, live) (record {
    each = store.counted.each ∙ ap length (sym es);
    lists = store.counted.lists ∙ ap length (sym el);
    sums = λ k kl. (let kold : k < length old.linked.lists = omega (arith, kl, ap length el) in rw (es, el) (store.counted.sums k kold));
  });
  told = rw (es, runs) store.told;
  noted = rw (rows, runs) store.noted;
}

pub store_listed : (old new : Placed) (marks more : Marked) (contents kept : Contented) → IsStore old marks contents → new.linked.stretches ≡ old.linked.stretches → new.linked.lists ≡ old.linked.lists ++ [] ∷ [] →
    more.rows ≡ marks.rows → more.live ≡ marks.live ++ 0 ∷ [] → told_of kept ≡ told_of contents → IsStore new more kept
store_listed old new marks more contents kept store es el rows live runs = record {
  counted = rw (rows, live) (record {
    each = store.counted.each ∙ ap length (sym es);
    lists = omega (arith, store.counted.lists, ap length el, length-append old.linked.lists ([] ∷ []), length-append marks.live (0 ∷ []));
    sums = λ k kl. (let kmore : k < length old.linked.lists + 1 = omega (arith, kl, ap length el, length-append old.linked.lists ([] ∷ [])) in
        rw (es, el) (elim (below_or_last k (length old.linked.lists) kmore) [
          | inl low ↦ get_or_append_left marks.live (0 ∷ []) 0 k (omega (arith, low, store.counted.lists)) ∙ store.counted.sums k low
              ∙ ap (total (live_at old.linked.stretches marks.rows)) (sym (get_or_append_left old.linked.lists ([] ∷ []) [] k low))
          | inr e ↦ get_or_at marks.live 0 [] 0 k (store.counted.lists ∙ sym e)
              ∙ ap (total (live_at old.linked.stretches marks.rows)) (sym (get_or_at old.linked.lists [] [] [] k (sym e)))
        ]));
  });
  told = rw (es, runs) store.told;
  noted = rw (rows, runs) store.noted;
}

-- ---- where memory for a list is not found

pub dropped : (live more : List ℕ) → more ≡ live ++ 0 ∷ [] → take (length more - 1) more ≡ live
dropped live more e = rw e (take_at live (0 ∷ []) (length (live ++ 0 ∷ []) - 1) (omega (arith, length-append live (0 ∷ []))))

-- ---- a unit in a list

pub stands_only : (placed : Placed) (list place n : ℕ) (id : Id) → IsArena placed.lines (runs_of placed) → HasUnit (runs_of placed) place n id → StandsIn placed list id → IsIn place (places_in placed list)
stands_only placed list place n id arena has s = subst (λ p. IsIn p (places_in placed list)) (units_stand_once placed.lines (runs_of placed) id s.place s.before place n arena s.has has).0 s.member

pub stands_below : (placed : Placed) (list : ℕ) (id : Id) → IsArena placed.lines (runs_of placed) → StandsIn placed list id → id.clock < next_of placed.lines id.client.0
stands_below placed list id arena s = unit_below placed.lines (runs_of placed) arena.holds s.place s.before id s.has

-- the list of the place with the unit is that in which it stands
pub names_list : (placed : Placed) (it : Linked) (list place n : ℕ) (id : Id) (z : Option ℕ) → it ≡ placed.linked → ((k : ℕ) → k < length it.lists → IsIn place (list_at it k) → z ≡ Some k) →
    IsArena placed.lines (runs_of placed) → list < length placed.linked.lists → HasUnit (runs_of placed) place n id → StandsIn placed list id → z ≡ Some list
names_list placed it list place n id z same member arena lt has s =
    (subst (λ (x : Linked). (k : ℕ) → k < length x.lists → IsIn place (list_at x k) → z ≡ Some k) same member) list lt (stands_only placed list place n id arena has s)

-- ---- what a run that is added is

none_among : (us : List Id) → IsNotAmong None us
none_among [] = tt
none_among (u ∷ us) = ((λ e. let no : None ≡ Some u = e in absurd cc), none_among us)

-- the right origin that counts is no later unit of a run of the list, where the run's own is none
pub kept_no_later : (placed more : Placed) (list : ℕ) (right kept : Option Id) → IsSame placed more → IsKeptRight placed list right kept → IsNoLater (runs_of placed) (places_in placed list) right →
    IsNoLater (runs_of more) (places_in more list) kept
kept_no_later placed more list right kept same of later =
    subst (λ ls. IsNoLater (runs_of more) (get_or ls list []) kept) (sym same.lists) (subst (λ rs. IsNoLater rs (get_or placed.linked.lists list []) kept) (sym same.runs) (go kept of))
  where
    go : (z : Option Id) → IsKeptRight placed list right z → IsNoLater (runs_of placed) (places_in placed list) z
    go None o = λ i m. none_among (later_units (stretch_at (runs_of placed) i))
    go (Some id) o = subst (λ z. IsNoLater (runs_of placed) (places_in placed list) z) o.0 later

pub kept_is : (placed : Placed) (list : ℕ) (right kept : Option Id) → IsKeptRight placed list right kept → (kept ≡ right) ⊎ (kept ≡ None)
kept_is placed list right None of = inr refl
kept_is placed list right (Some id) of = inl (sym of.0)

-- what the next place tells
pub told_more : (it more : Contented) (z : Option Run) → more.rows ≡ it.rows ++ z ∷ [] → told_of more ≡ told_of it ++ told z ∷ []
told_more it more z e = ap (map told) e ∙ map-append told it.rows (z ∷ [])

grows_from : (old mid new : Placed) (list : ℕ) (run : Stretch) → IsSame old mid → GrowsByRun mid new list run → GrowsByRun old new list run
grows_from old mid new list run same g = record {
  after = g.after;
  runs = g.runs ∙ ap (λ rs. rs ++ run ∷ []) same.runs;
  count = g.count ∙ ap length same.lists;
  place = g.place ∙ ap₂ (λ (rs : List Stretch) (ls : List (List ℕ)). put_behind g.after (length rs) (get_or ls list [])) same.runs same.lists;
  units = λ left right origins is_run lefts. g.units left right
      (subst (λ ls. HasOrigins left right (runs_of mid) (get_or ls list []) run) (sym same.lists) (subst (λ rs. HasOrigins left right rs (get_or old.linked.lists list []) run) (sym same.runs) origins))
      is_run
      (subst (λ ls. HasLefts (runs_of mid) (get_or ls list [])) (sym same.lists) (subst (λ rs. HasLefts rs (get_or old.linked.lists list [])) (sym same.runs) lefts))
      ∙ ap₂ (λ (rs : List Stretch) (ls : List (List ℕ)). after_scans left right (units_at rs (get_or ls list [])) (units_of run)) same.runs same.lists;
  others = λ k ne. g.others k ne ∙ ap (λ (ls : List (List ℕ)). get_or ls k []) same.lists;
  next = g.next;
  other_nexts = λ k ne. g.other_nexts k ne ∙ same.nexts k;
}

pub run_added : (old mid new : Placed) (marks midm more : Marked) (contents midc grown : Contented) (list : ℕ) (run : Run) (kept : Option Id) (len : ℕ) (counted : Bool) → IsSame old mid → midm.rows ≡ marks.rows → midm.live ≡ marks.live → midc.rows ≡ contents.rows →
    len ≡ len_of (content_value run.content) → counted ≡ counts (content_value run.content) → IsKeptRight old list run.right kept → GrowsByRun mid new list (record { id = run.id; len = len; left = run.left; right = kept }) →
    more.rows ≡ midm.rows ++ record { deleted = false; counted = counted } ∷ [] → more.live ≡ with_more midm.live (Some list) (live_of (record { deleted = false; counted = counted }) len) → grown.rows ≡ midc.rows ++ Some run ∷ [] →
    AddsRun (record { placed = old; marks = marks; contents = contents }) (record { placed = new; marks = more; contents = grown }) list (run_value run)
run_added old mid new marks midm more contents midc grown list run kept len counted same rows live contents_same is_len is_counted of grows more_rows more_live more_runs = record {
  right = kept;
  kept = of;
  grows = subst (λ n. GrowsByRun old new list (record { id = run.id; len = n; left = run.left; right = kept })) is_len (grows_from old mid new list (record { id = run.id; len = len; left = run.left; right = kept }) same grows);
  rows = more_rows ∙ ap₂ (λ (rs : List Mark) (c : Bool). rs ++ record { deleted = false; counted = c } ∷ []) rows is_counted;
  live = more_live ∙ ap₂ (λ (ls : List ℕ) (n : ℕ). with_more ls (Some list) n) live (ap₂ (λ (c : Bool) (n : ℕ). live_of (record { deleted = false; counted = c }) n) is_counted is_len);
  runs = told_more midc grown (Some run) more_runs ∙ ap (λ (rs : List (Option Run)). map told rs ++ Some (run_value run) ∷ []) contents_same;
}

-- ---- what is read at a place

-- what the places tell where one is told no more
pub told_empty : (old new : Contented) (place : ℕ) → new.rows ≡ set old.rows place None → told_of new ≡ set (told_of old) place None
told_empty old new place rows = ap (λ (rs : List (Option Run)). map told rs) rows ∙ map-set told old.rows place None

pub told_at : (items : List (Option Run)) (place : ℕ) (d : Option Run) → place < length items → d ≡ get_or items place d → told d ≡ run_at (map told items) place
told_at [] place d lt e = absurd (omega (arith, lt))
told_at (x ∷ xs) zero d lt e = ap told e
told_at (x ∷ xs) (suc k) d lt e = told_at xs k d (omega (arith, lt)) e
