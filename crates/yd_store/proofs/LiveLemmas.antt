-- How many units of a list are live, counted by its operations.
use Rattle.std.proofs.Common.{◌≡◌, ℕ, zero, suc, ◌+◌, ◌-◌, ◌<◌, Bool, true, false, inl, inr, List, [], ◌∷◌, ◌++◌, Option, Some, None, length, map, refl, sym, ap, ◌∙◌, subst, arith, true≢false}
use Rattle.std.specs.Prelude.{filter, flat_map, IfSome, if◌then◌else◌}
use Rattle.std.proofs.lemmas.List.{length-append}
use Rattle.yd_any.specs.Tree.{AnyTree, AnyTrees, no_trees, tree}
use Rattle.yd_ids.specs.declared.id.Id.{Id}
use Rattle.yd_words.specs.Each.{Each}
use Rattle.yd_words.specs.Member.{IsIn}
use Rattle.yd_words.proofs.MemberLemmas.{each_in, in_left_part, in_right_part}
use Rattle.yd_ops.specs.declared.lists.List.{List as DocList}
use Rattle.yd_ops.specs.Value.{RunValue, ContentValue, json, binary, string, embed, format, nested, any, deleted}
use Rattle.yd_ops.specs.Operation.{UnitContent, text_unit, any_unit, json_unit, deleted_unit, Operation, level_of, units_of_trees, deleted_units, units_of_content, later_id, operations_from, gone_from}
use Rattle.yd_ops.proofs.OperationLemmas.{length-operations_of_run}
use Rattle.yd_scan.specs.declared.stretch.Stretch.{Stretch}
use Rattle.yd_scan.specs.Stretches.{stretch_at}
use Rattle.yd_arena.specs.Arena.{IsArena, runs_of, places_in}
use Rattle.yd_arena.proofs.ArenaLemmas.{units_stand_once}
use Rattle.yd_arena.specs.declared.mark.Mark.{Mark}
use Rattle.yd_arena.specs.Marks.{mark_at, live_at, total}
use Rattle.yd_store.specs.Contents.{told_of, run_at, counts, is_lowered}
use Rattle.yd_store.specs.Store.{Stored, IsRunOf, AreTold, IsNoted, AreNoted}
use Rattle.yd_store.specs.Units.{operations_told, operations_at}
use Rattle.yd_store.specs.Law.{is_counted, is_live, IsMarkedBy, LiveIsCounted}
use Rattle.yd_store.proofs.TakingLemmas.{filter_append}
use Rattle.yd_store.proofs.HalvesLemmas.{has_unit}

-- ---- the units of one content

map_all : {T : Type 0} (P : UnitContent → Type 0) (f : T → UnitContent) → ((t : T) → P (f t)) → (ts : List T) → Each P (map f ts)
map_all P f each [] = tt
map_all P f each (t ∷ ts) = (each t, map_all P f each ts)

trees_all : (P : UnitContent → Type 0) → ((t : AnyTree) → P (any_unit t)) → (ts : AnyTrees) → Each P (units_of_trees ts)
trees_all P each no_trees = tt
trees_all P each (tree t ts) = (each t, trees_all P each ts)

deleted_all : (P : UnitContent → Type 0) → P deleted_unit → (n : ℕ) → Each P (deleted_units n)
deleted_all P each zero = tt
deleted_all P each (suc n) = (each, deleted_all P each n)

-- all units of a content count, or none does
units_count : (c : ContentValue) → Each (λ u. is_counted u ≡ counts c) (units_of_content c)
units_count (json values) = map_all (λ u. is_counted u ≡ true) json_unit (λ t. refl) values
units_count (binary blob) = (refl, tt)
units_count (string units) = map_all (λ u. is_counted u ≡ true) text_unit (λ t. refl) units
units_count (embed t) = (refl, tt)
units_count (format key t) = (refl, tt)
units_count (nested kind) = (refl, tt)
units_count (any ts) = trees_all (λ u. is_counted u ≡ true) (λ t. refl) ts
units_count (deleted n) = deleted_all (λ u. is_counted u ≡ false) refl n

-- what is told as deleted says less than in full
units_less : (c : ContentValue) → is_lowered c ≡ true → Each (λ u. level_of u < 2) (units_of_content c)
units_less (json values) e = absurd (true≢false (sym e))
units_less (binary blob) e = absurd (true≢false (sym e))
units_less (string units) e = absurd (true≢false (sym e))
units_less (embed t) e = absurd (true≢false (sym e))
units_less (format key t) e = absurd (true≢false (sym e))
units_less (nested kind) e = absurd (true≢false (sym e))
units_less (any ts) e = absurd (true≢false (sym e))
units_less (deleted n) e = deleted_all (λ u. level_of u < 2) (omega arith) n

content_in : (id : Id) (left right : Option Id) (list : Option DocList) (us : List UnitContent) (o : Operation) → IsIn o (operations_from id left right list us) → IsIn o.content us
content_in id left right list [] o h = absurd h
content_in id left right list (u ∷ us) o (inl e) = inl (ap (λ (p : Operation). p.content) e)
content_in id left right list (u ∷ us) o (inr h) = inr (content_in (later_id id 1) (Some id) right None us o h)

gone_less : (id : Id) (n : ℕ) (o : Operation) → IsIn o (gone_from id n) → level_of o.content < 2
gone_less id zero o h = absurd h
gone_less id (suc n) o (inl e) = omega (arith, ap (λ (p : Operation). level_of p.content) e)
gone_less id (suc n) o (inr h) = gone_less (later_id id 1) n o h

length-gone : (id : Id) (n : ℕ) → length (gone_from id n) ≡ n
length-gone id zero = refl
length-gone id (suc n) = ap suc (length-gone (later_id id 1) n)

length-told : (stretch : Stretch) (z : Option RunValue) → IfSome z (λ run. IsRunOf stretch run) → length (operations_told stretch z) ≡ stretch.len
length-told stretch None of = length-gone stretch.id stretch.len
length-told stretch (Some run) of = length-operations_of_run run ∙ of.len_is

-- ---- a test that says the same of each

count_all : {X : Type 0} (test : X → Bool) (b : Bool) (xs : List X) → ((x : X) → IsIn x xs → test x ≡ b) → length (filter test xs) ≡ (if b then length xs else 0)
count_all test true [] same = refl
count_all test false [] same = refl
count_all test true (x ∷ xs) same = rw (same x (inl refl)) (ap suc (count_all test true xs (λ y h. same y (inr h))))
count_all test false (x ∷ xs) same = rw (same x (inl refl)) (count_all test false xs (λ y h. same y (inr h)))

-- what is counted place by place is what is counted at once
by_places : {X : Type 0} (test : X → Bool) (f : ℕ → ℕ) (g : ℕ → List X) (places : List ℕ) → ((i : ℕ) → IsIn i places → f i ≡ length (filter test (g i))) → total f places ≡ length (filter test (flat_map g places))
by_places test f g [] same = refl
by_places test f g (i ∷ is) same =
    let rest = by_places test f g is (λ j h. same j (inr h)) in
    let parts : length (filter test (g i ++ flat_map g is)) ≡ length (filter test (g i)) + length (filter test (flat_map g is)) =
    ap length (filter_append test (g i) (flat_map g is)) ∙ length-append (filter test (g i)) (filter test (flat_map g is)) in
    omega (arith, same i (inl refl), rest, parts)

-- ---- one place

module _ (it : Stored) (arena : IsArena it.placed.lines (runs_of it.placed)) (are : AreTold (runs_of it.placed) (told_of it.contents)) (noted : AreNoted it.marks.rows (told_of it.contents))
    (marked : Id → Bool) (says : IsMarkedBy it marked) where
  abbrev ops : ℕ → List Operation
  ops = operations_at (runs_of it.placed) (told_of it.contents)

  -- where a run is marked, so is each of its units
  of_marked : (i : ℕ) → i < length (runs_of it.placed) → (mark_at it.marks.rows i).deleted ≡ true → (o : Operation) → IsIn o (ops i) → marked o.id ≡ true
  of_marked i lt dead o h = (says o.id).1 (record { place = i; before = o.id.clock - (stretch_at (runs_of it.placed) i).id.clock; has = has_unit it o are (record { place = i; within = lt; member = h }); deleted = dead })

  -- where it is not, none is
  of_live : (i : ℕ) → i < length (runs_of it.placed) → (mark_at it.marks.rows i).deleted ≡ false → (o : Operation) → IsIn o (ops i) → marked o.id ≡ false
  of_live i lt alive o h = go (marked o.id) refl
    where
      go : (b : Bool) → marked o.id ≡ b → marked o.id ≡ false
      go false e = e
      go true e =
          let m = (says o.id).0 e in
          let one = units_stand_once it.placed.lines (runs_of it.placed) o.id m.place m.before i (o.id.clock - (stretch_at (runs_of it.placed) i).id.clock) arena m.has (has_unit it o are (record { place = i; within = lt; member = h })) in
          absurd (true≢false (sym (subst (λ p. (mark_at it.marks.rows p).deleted ≡ true) one.0 m.deleted) ∙ alive))

  -- each unit of a run that is not marked counts as the mark says
  each_noted : (mark : Mark) (stretch : Stretch) (z : Option RunValue) → mark.deleted ≡ false → IsNoted mark z → ((o : Operation) → IsIn o (operations_told stretch z) → marked o.id ≡ false) →
      ((o : Operation) → IsIn o (operations_told stretch z) → level_of o.content < 2 → marked o.id ≡ true) → (o : Operation) → IsIn o (operations_told stretch z) → is_counted o.content ≡ mark.counted
  each_noted mark stretch None alive of live less o h = absurd (true≢false (sym (less o h (gone_less stretch.id stretch.len o h)) ∙ live o h))
  each_noted mark stretch (Some run) alive of live less o h = go (is_lowered run.content) refl
    where
      there : IsIn o.content (units_of_content run.content)
      there = content_in run.id run.left run.right run.list (units_of_content run.content) o h

      go : (b : Bool) → is_lowered run.content ≡ b → is_counted o.content ≡ mark.counted
      go true e = absurd (true≢false (sym (less o h (each_in (λ u. level_of u < 2) (units_of_content run.content) (units_less run.content e) o.content there)) ∙ live o h))
      go false e = each_in (λ u. is_counted u ≡ counts run.content) (units_of_content run.content) (units_count run.content) o.content there ∙ sym (of alive e)

  at_place : (i : ℕ) → i < length (runs_of it.placed) → i < length (told_of it.contents) → ((o : Operation) → IsIn o (ops i) → level_of o.content < 2 → marked o.id ≡ true) →
      live_at (runs_of it.placed) it.marks.rows i ≡ length (filter (is_live marked) (ops i))
  at_place i lt told less = go (mark_at it.marks.rows i) refl
    where
      len : length (ops i) ≡ (stretch_at (runs_of it.placed) i).len
      len = length-told (stretch_at (runs_of it.placed) i) (run_at (told_of it.contents) i) (are.fits i lt)

      none : (o : Operation) → marked o.id ≡ true → is_live marked o ≡ false
      none o e = rw e refl

      some : (o : Operation) (b : Bool) → marked o.id ≡ false → is_counted o.content ≡ b → is_live marked o ≡ b
      some o b e k = rw (e, k) refl

      go : (mark : Mark) → mark_at it.marks.rows i ≡ mark → live_at (runs_of it.placed) it.marks.rows i ≡ length (filter (is_live marked) (ops i))
      go mark e = dead_or mark.deleted refl
        where
          dead_or : (b : Bool) → mark.deleted ≡ b → live_at (runs_of it.placed) it.marks.rows i ≡ length (filter (is_live marked) (ops i))
          dead_or true d =
              let is : (mark_at it.marks.rows i).deleted ≡ true = ap (λ (m : Mark). m.deleted) e ∙ d in
              rw is (sym (count_all (is_live marked) false (ops i) (λ o h. none o (of_marked i lt is o h))))
          dead_or false d =
              let is : (mark_at it.marks.rows i).deleted ≡ false = ap (λ (m : Mark). m.deleted) e ∙ d in
              let all = count_all (is_live marked) (mark_at it.marks.rows i).counted (ops i) (λ o h. some o (mark_at it.marks.rows i).counted (of_live i lt is o h)
              (each_noted (mark_at it.marks.rows i) (stretch_at (runs_of it.placed) i) (run_at (told_of it.contents) i) is (noted i told) (of_live i lt is) less o h)) in
              rw is (ap (λ n. if (mark_at it.marks.rows i).counted then n else 0) (sym len) ∙ sym all)

pub live_is_counted : LiveIsCounted
live_is_counted it list marked arena lists are counted noted lt says less =
    counted.sums list lt
    ∙ by_places (is_live marked) (live_at (runs_of it.placed) it.marks.rows) (operations_at (runs_of it.placed) (told_of it.contents)) (places_in it.placed list)
    (λ i h. at_place it arena are noted marked says i (lists.within list i lt h) (omega (arith, lists.within list i lt h, are.each)) (λ o m. less o (in_list (operations_at (runs_of it.placed) (told_of it.contents)) (places_in it.placed list) i o h m)))
  where
    in_list : (f : ℕ → List Operation) (places : List ℕ) (i : ℕ) (o : Operation) → IsIn i places → IsIn o (f i) → IsIn o (flat_map f places)
    in_list f [] i o h m = absurd h
    in_list f (p ∷ ps) i o (inl e) m = in_left_part o (f p) (flat_map f ps) (subst (λ q. IsIn o (f q)) e m)
    in_list f (p ∷ ps) i o (inr h) m = in_right_part o (f p) (flat_map f ps) (in_list f ps i o h m)
