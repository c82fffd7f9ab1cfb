-- The smallest id that breaks the rules, list by list.
use Rattle.std.proofs.Common.{◌≡◌, ℕ, zero, suc, ◌+◌, ◌<◌, ◌≤◌, ◌⊎◌, ◌^◌, replicate, get_or, Bool, true, false, nat_eq, map, List, [], ◌∷◌, Option, Some, None, inl, inr, length, refl, sym, ap, ◌∙◌, subst, arith, tests, true≢false}
use Rattle.std.specs.Prelude.{Decides, IfSome, filter, slice_get}
use Rattle.std.proofs.lemmas.Bool.{cases_Bool}
use Rattle.std.proofs.lemmas.List.{length-replicate}
use Rattle.std.proofs.lemmas.Option.{slice_get-get_or}
use Rattle.yd_words.specs.Member.{IsIn}
use Rattle.yd_words.proofs.OptionLemmas.{some_is}
use Rattle.yd_words.proofs.TestLemmas.{same_or_other}
use Rattle.yd_ids.specs.declared.id.Id.{Id}
use Rattle.yd_ids.specs.Id.{IsClient}
use Rattle.yd_ids.specs.Ids.{is_smaller}
use Rattle.yd_ops.specs.Operation.{Operation}
use Rattle.yd_ops.specs.declared.lists.List.{List as DocList}
use Rattle.yd_origins.proofs.ListTableLemmas.{in_own}
use Rattle.yd_ops.specs.Received.{has_operation}
use Rattle.yd_ops.proofs.OneOfLemmas.{operation_with, id_there}
use Rattle.yd_meaning.specs.Held.{held_set, standing}
use Rattle.yd_meaning.specs.Order.{operation_set, list_of, MeetsRules, AreHonest}
use Rattle.yd_meaning.proofs.RowLemmas.{has_row}
use Rattle.yd_meaning.proofs.StandingLemmas.{standing_in}
use Rattle.yd_firsts.specs.Firsts.{ComparesFirsts, HaveStarts}
use Rattle.yd_order.specs.Stretch.{among_rows, rows_of_stretches}
use Rattle.yd_order.specs.declared.stretch.Stretch.{Stretch}
use Rattle.yd_entries.specs.declared.entry.Entry.{Entry}
use Rattle.yd_entries.specs.Entries.{is_held, is_listed}
use Rattle.yd_received.specs.Received.{ReceivedValue, taken_of, held_of, listed_of}
use Rattle.yd_entries.proofs.WrittenLemmas.{taken_written}
use Rattle.yd_held.specs.Held.{HeldValue, HoldsAll}
use Rattle.yd_held.proofs.HeldUnitLemmas.{covers_less}
use Rattle.yd_held.proofs.HeldEntryLemmas.{is_taken, chosen_written, id_chosen}
use Rattle.yd_stretches.specs.Stretches.{AreGathered, stretch_of, stretches_in}
use Rattle.yd_stretches.proofs.ListStretchLemmas.{list_table, stretches_are_table, list_stretches_end}
use Rattle.yd_stretches.proofs.NumberLemmas.{listed_number, id_listed}
use Rattle.yd_honesty.specs.Dishonest.{BreaksRules, dishonest_of, meets_rules}
use Rattle.yd_honesty.specs.Judging.{IsKept, IsList, AreHeld, AreOfList, Breaks, IsUpTo, IsBest, IsBestOf, IsBestOfAll}
use Rattle.yd_honesty.proofs.DishonestLemmas.{dishonest_none, dishonest_some}
use Rattle.yd_honesty.proofs.JudgeLemmas.{listed_table, id_is_listed}
use Rattle.yd_honesty.proofs.NotingLemmas.{there_is_in}
use Rattle.yd_honesty.proofs.PlacesLemmas.{place_in}
use Rattle.yd_honesty.proofs.RuleLemmas.{rules_decide}
use Rattle.yd_honesty.proofs.StartLemmas.{StartBreaks, start_breaks}
use Rattle.yd_held.specs.Numbered.{list_at_place, is_in_list}
use Rattle.yd_words.proofs.FilterLemmas.{one_kept}
use Rattle.yd_words.proofs.MemberLemmas.{each_in}
use Rattle.yd_words.specs.Test.{is_some_and}

-- ---- one list

no_smaller : (a b c : Id) → a.client.0 ≡ b.client.0 → a.clock ≤ b.clock → is_smaller a c ≡ false → is_smaller b c ≡ false
no_smaller a b c e le f = grind (arith, tests)

in_mapped : (ts : List Entry) (t : Entry) → IsIn t ts → IsIn (stretch_of t) (map stretch_of ts)
in_mapped [] t i = absurd i
in_mapped (s ∷ ts) t (inl e) = inl (ap stretch_of e)
in_mapped (s ∷ ts) t (inr i) = inr (in_mapped ts t i)

module _ (r : ReceivedValue) (kept : IsKept r) where
  listed_held : (x : Id) → has_operation (listed_of r) x ≡ true → (has_operation (held_of r) x ≡ true) × IsClient x.client
  listed_held x e =
      let (o, i, f) = operation_with (listed_of r) x e in
      let (t, j, passes, c) = id_chosen is_listed r kept.whole.in_order x e in
      let less = covers_less t x c in (
        id_there (held_of r) o x (standing_in (held_of r) (chosen_written is_held r kept.whole.in_order) o (subst (λ os. IsIn o os) kept.stands i)).0 f,
        subst (λ n. n < 2 ^ 53) less.0 (is_taken r kept.whole.in_order t j).id.client,
      )

  module _ (name : DocList) (stretches : List Stretch) (of : AreOfList r name stretches) (ids lasts : List Id) (is_strict : Bool) (cells : List Bool)
      (compares : ComparesFirsts (among_rows (rows_of_stretches stretches)) ids lasts is_strict cells) (starts : HaveStarts stretches ids) where
    pub is_list : IsList r ids lasts is_strict cells
    is_list = record { name = name; compares = subst (λ t. ComparesFirsts t ids lasts is_strict cells) (sym of.rows) compares }

    pub are_held : AreHeld r ids
    are_held y x e = listed_held x (id_is_listed r kept ids lasts is_strict cells is_list y x e)

    pub best_of : (old new : Option Id) → IsBest r ids (length ids) old new → IsBestOf r name old new
    unfolding is_list
    best_of old new best = record {
      sound = best.sound;
      old_up_to = best.old_up_to;
      all = λ y e same breaks. go is_strict refl y e same breaks;
    }
      where
        at : (y : Id) → (n : ℕ) × (n < length ids) × (slice_get ids n ≡ Some y) → Breaks r y → IsUpTo new y
        at y (n, lt, e) breaks = best.all n y lt e breaks

        lower : (x y : Id) → x.client.0 ≡ y.client.0 → x.clock ≤ y.clock → IsUpTo new x → IsUpTo new y
        lower x y client clock up = record { least = up.least; is = up.is; up_to = no_smaller x y up.least client clock up.up_to }

        go : (v : Bool) → is_strict ≡ v → (y : Id) → has_operation (listed_of r) y ≡ true → list_of (listed_of r) y ≡ name → Breaks r y → IsUpTo new y
        go true e y has same breaks = by_start (start_breaks r kept name (is_list.compares.one_way e) y breaks same)
          where
            by_start : StartBreaks r name y → IsUpTo new y
            by_start s = lower s.entry.id y s.client s.clock
                (at s.entry.id (place_in ids s.entry.id (starts (stretch_of s.entry) (of.starts s.entry s.there s.listed s.named) s.some)) s.breaks)
        go false e y has same breaks = at y (place_in ids y (is_list.compares.single e y
            (in_own (operation_set (listed_of r)) (listed_table r kept ids lasts is_strict cells is_list) name y (has_row (listed_of r) y has) same))) breaks

    pub unit_breaks : (n : ℕ) (x : Id) → slice_get ids n ≡ Some x → (told : Bool) →
        ((o : Operation) → IsIn o (listed_of r) → slice_get ids n ≡ Some o.id → Decides told (MeetsRules (held_of r) o)) → told ≡ false → Breaks r x
    unit_breaks n x e told decides off = let (o, i, f) = operation_with (listed_of r) x (id_is_listed r kept ids lasts is_strict cells is_list n x e) in
        record { one = o; there = i; id = f; broken = λ meets. true≢false (sym ((decides o i (e ∙ ap Some (sym f))).1 meets) ∙ off) }

-- ---- all lists

through : (a b c : Id) → is_smaller a b ≡ false → is_smaller b c ≡ false → is_smaller a c ≡ false
through a b c e f = grind (arith, tests)

module _ (r : ReceivedValue) (names : List DocList) where
  pub all_none : IsBestOfAll r names 0 None
  all_none = record { sound = tt; all = λ n name y lt. absurd (omega (arith, lt)) }

  pub all_more : (n : ℕ) (name : DocList) (old new : Option Id) → slice_get names n ≡ Some name → IsBestOfAll r names n old → IsBestOf r name old new → IsBestOfAll r names (n + 1) new
  all_more n name old new there before best = record {
    sound = from new best.sound;
    all = λ m other y lt e has same breaks. elim (same_or_other m n) [
      | inl one ↦ best.all y has (same ∙ some_is other name (sym e ∙ ap (slice_get names) one ∙ there)) breaks
      | inr apart ↦ lower y (before.all m other y (omega (arith, lt, apart)) e has same breaks)
    ];
  }
    where
      from : (z : Option Id) → IfSome z (λ x. (old ≡ Some x) ⊎ Breaks r x) → IfSome z (Breaks r)
      from None s = tt
      from (Some x) (inl e) = subst (λ w. IfSome w (Breaks r)) e before.sound
      from (Some x) (inr b) = b

      lower : (y : Id) → IsUpTo old y → IsUpTo new y
      lower y up = let next = best.old_up_to up.least up.is in
          record { least = next.least; is = next.is; up_to = through y up.least next.least up.up_to next.up_to }

module _ (k : HeldValue) (holds : HoldsAll k) where
  pub is_kept : IsKept k.received
  is_kept = record { whole = record { in_order = holds.in_order; held = holds.held }; stands = holds.stands }

  pub of_list : (n : ℕ) (name : DocList) → slice_get k.names n ≡ Some name → AreOfList k.received name (stretches_in n k.received.entries)
  of_list n name there = record {
    clocks = list_stretches_end k holds n name there;
    table = stretches_are_table k holds n name there;
    rows = list_table k holds n name there;
    starts = λ t i passes same. in_mapped (filter (is_in_list n) k.received.entries) t (one_kept (is_in_list n) k.received.entries t (numbered t i passes same) i);
  }
    where
      equal : (a b : ℕ) → a ≡ b → nat_eq a b ≡ true
      equal a b e = grind (arith, tests)

      numbered : (t : Entry) → IsIn t k.received.entries → is_listed t ≡ true → list_of (listed_of k.received) t.id ≡ name → is_in_list n t ≡ true
      numbered t i passes same =
          let (m, at) = listed_number t.place passes in
          ap (is_some_and (λ m. nat_eq m n)) at ∙ equal m n (holds.numbered.distinct m n name (named m at ∙ ap (λ v. Some v) same) there)
        where
          named : (m : ℕ) → list_at_place t.place ≡ Some m → slice_get k.names m ≡ Some (list_of (listed_of k.received) t.id)
          named m at = subst (λ z. IfSome z (λ m. slice_get k.names m ≡ Some (list_of (listed_of k.received) t.id))) at
              (each_in (λ (t : Entry). IfSome (list_at_place t.place) (λ n. slice_get k.names n ≡ Some (list_of (listed_of k.received) t.id))) k.received.entries holds.numbered.named t i)

  abbrev os : List Operation
  os = taken_of k.received

  breaks_in : (x : Id) → BreaksRules (held_set os) x → Breaks k.received x
  breaks_in x b = record {
    one = b.one;
    there = subst (λ ps. IsIn b.one ps) (sym holds.stands) (subst (λ hs. IsIn b.one (standing hs)) (sym holds.held) b.there);
    id = b.id;
    broken = λ meets. b.broken (subst (λ hs. MeetsRules hs b.one) holds.held meets);
  }

  breaks_out : (x : Id) → Breaks k.received x → BreaksRules (held_set os) x
  breaks_out x b = record {
    one = b.one;
    there = subst (λ hs. IsIn b.one (standing hs)) holds.held (subst (λ ps. IsIn b.one ps) holds.stands b.there);
    id = b.id;
    broken = λ meets. b.broken (subst (λ hs. MeetsRules hs b.one) (sym holds.held) meets);
  }

  pub all_lists : (count : ℕ) (found : Option Id) → length k.names ≤ count → IsBestOfAll k.received k.names count found → found ≡ dishonest_of (held_set os)
  all_lists count found le best = go found refl best.sound
    where
      up_to : (y : Id) → Breaks k.received y → IsUpTo found y
      up_to y b =
          let has : has_operation (listed_of k.received) y ≡ true = id_there (listed_of k.received) b.one y b.there b.id in
          let (n, there, span) = id_listed k holds y has in
          best.all n (list_of (listed_of k.received) y) y (below n (list_of (listed_of k.received) y) there) there has refl b
        where
          inside : (names : List DocList) (n : ℕ) (name : DocList) → slice_get names n ≡ Some name → n < length names
          inside names n name e = (there_is_in names n name e).1

          below : (n : ℕ) (name : DocList) → slice_get k.names n ≡ Some name → n < count
          below n name e = omega (arith, inside k.names n name e, le)

      go : (z : Option Id) → found ≡ z → IfSome z (Breaks k.received) → z ≡ dishonest_of (held_set os)
      go None e s = sym ((dishonest_none os (taken_written k.received.runs k.received.entries holds.in_order)).1 honest)
        where
          none : {x : Id} → None ≡ Some x → ⊥
          none f = cc

          honest : AreHonest (held_set os)
          honest o i = elim (cases_Bool (meets_rules (held_set os) o)) [
            | inl meets ↦ (rules_decide os (taken_written k.received.runs k.received.entries holds.in_order) o i).0 meets
            | inr off ↦ absurd (let up = up_to o.id (breaks_in o.id (record {
              one = o;
              there = i;
              id = refl;
              broken = λ meets. true≢false (sym ((rules_decide os (taken_written k.received.runs k.received.entries holds.in_order) o i).1 meets) ∙ off);
            })) in none (sym e ∙ up.is))
          ]
      go (Some x) e s = sym ((dishonest_some os (taken_written k.received.runs k.received.entries holds.in_order) x).1 (
        breaks_out x s,
        λ y b. let up = up_to y (breaks_in y b) in subst (λ v. is_smaller y v ≡ false) (some_is up.least x (sym up.is ∙ e)) up.up_to,
      ))

  -- the stretches that were gathered of the list with a number are those of its name
  pub gathered_of : (marks : List Bool) (entries : List Entry) (lists : List (List Stretch)) → AreGathered marks entries lists → entries ≡ k.received.entries →
      marks ≡ replicate (length k.names) true → (n : ℕ) (d : DocList) → n < length lists → (slice_get k.names n ≡ Some (get_or k.names n d))
      × ((stretches : List Stretch) → slice_get lists n ≡ Some stretches → AreOfList k.received (get_or k.names n d) stretches)
  gathered_of marks entries lists are same all n d lt = (
    name_there,
    λ stretches e. subst (AreOfList k.received (get_or k.names n d)) (sym (some_is stretches (stretches_in n entries) (sym e ∙ are.gathered n marked)))
        (subst (λ ts. AreOfList k.received (get_or k.names n d) (stretches_in n ts)) (sym same) (of_list n (get_or k.names n d) name_there)),
  )
    where
      many : n < length k.names
      many = omega (arith, lt, are.each, ap length all, length-replicate (length k.names) true)

      name_there : slice_get k.names n ≡ Some (get_or k.names n d)
      name_there = slice_get-get_or k.names n d many

      marked : slice_get marks n ≡ Some true
      marked = subst (λ ms. slice_get ms n ≡ Some true) (sym all) (at (length k.names) n many)
        where
          at : (count m : ℕ) → m < count → slice_get (replicate count true) m ≡ Some true
          at zero m less = absurd (omega (arith, less))
          at (suc count) zero less = refl
          at (suc count) (suc m) less = at count m (omega (arith, less))
