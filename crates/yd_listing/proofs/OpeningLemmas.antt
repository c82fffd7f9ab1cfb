-- A list that is opened, run by run, and lists that are opened one after another.
use Rattle.std.proofs.Common.{◌≡◌, ℕ, zero, suc, ◌<◌, ◌≤◌, ◌⊎◌, inl, inr, List, [], ◌∷◌, ◌++◌, Option, Some, None, length, refl, sym, ap, ◌∙◌, subst, arith}
use Rattle.std.proofs.lemmas.List.{append_assoc}
use Rattle.std.specs.Prelude.{slice_get, take}
use Rattle.yd_words.specs.Each.{Each}
use Rattle.yd_words.specs.Member.{IsIn, AreDistinct}
use Rattle.yd_words.proofs.MemberLemmas.{in_left_part, in_right_part, in_parts}
use Rattle.yd_words.proofs.OptionLemmas.{some_is}
use Rattle.yd_ids.specs.declared.id.Id.{Id}
use Rattle.yd_ids.specs.declared.id.Span.{Span}
use Rattle.yd_ids.specs.Id.{IsSpan}
use Rattle.yd_ids.specs.Span.{InSpan}
use Rattle.yd_ids.specs.Set.{HasId}
use Rattle.yd_chains.specs.Chain.{first_of, behind}
use Rattle.yd_chains.proofs.ChainLemmas.{distinct_out, length_within}
use Rattle.yd_scan.specs.declared.stretch.Stretch.{Stretch}
use Rattle.yd_scan.specs.Stretches.{stretch_at, units_of, units_at}
use Rattle.yd_scan.proofs.UnitLemmas.{in_units, units_in}
use Rattle.yd_arena.specs.Lists.{AreLists}
use Rattle.yd_arena.specs.Arena.{runs_of, count_of, places_in}
use Rattle.yd_kept.specs.Kept.{KeptValue}
use Rattle.yd_listing.specs.Falling.{units_of_list}
use Rattle.yd_listing.specs.Steps.{span_of, Adds}
use Rattle.yd_listing.specs.Closing.{Queues, IsListOf, AreQueued, NotesLists, IsOpen, OpensList, HangsOn, itself, under, Closes}
use Rattle.yd_listing.proofs.AddingLemmas.{adds_none, adds_wider, adds_both}
use Rattle.yd_listing.proofs.QueueLemmas.{queues_none, queues_wider, queues_both, queued_stays, queued_is}
use Rattle.yd_listing.proofs.NotingLemmas.{list_wider}
use Rattle.yd_listing.proofs.RunLemmas.{unit_in_span, span_has_unit, behind_part, place_first, none_first}

-- ---- one list

-- how many places are to come
abbrev pub places_to_come : List ℕ → Option ℕ → ℕ
places_to_come places None = 0
places_to_come places (Some p) = suc (length (behind (Some p) places))

-- the runs up to the next place are among the spans, and the lists under them are queued
pub record IsOpening (it : KeptValue) (deleted : List Span) (n : ℕ) (old new : List Span) (lists more : List ℕ) (next : Option ℕ) : Type 0 where
  pub front : List ℕ
  pub rest : List ℕ
  pub parts : places_in it.store.placed n ≡ front ++ rest
  pub next_is : next ≡ first_of rest
  pub adds : Adds (λ x. IsIn x (units_of_list it n)) old new
  pub queues : Queues (IsListOf it (λ y. IsIn y (units_of_list it n))) lists more
  pub opened : (x : Id) → IsIn x (units_at (runs_of it.store.placed) front) → HasId new x
  pub noted : AreQueued it deleted (HasId old) lists → AreQueued it deleted (HasId new) more

pub opening_begins : (it : KeptValue) (deleted : List Span) (n : ℕ) (old : List Span) (lists : List ℕ) (next : Option ℕ) → next ≡ first_of (places_in it.store.placed n) →
    IsOpening it deleted n old old lists lists next
opening_begins it deleted n old lists next e = record {
  front = [];
  rest = places_in it.store.placed n;
  parts = refl;
  next_is = e;
  adds = adds_none (λ x. IsIn x (units_of_list it n)) old;
  queues = queues_none (IsListOf it (λ y. IsIn y (units_of_list it n))) lists;
  opened = λ x i. absurd i;
  noted = λ all. all;
}

module _ (it : KeptValue) (deleted : List Span) (n : ℕ) (old : List Span) (lists : List ℕ) (sound : AreLists it.store.placed.linked) (lt : n < count_of it.store.placed) where
  abbrev runs : List Stretch
  runs = runs_of it.store.placed

  abbrev places : List ℕ
  places = places_in it.store.placed n

  pub next_on_list : (new : List Span) (more : List ℕ) (p : ℕ) → IsOpening it deleted n old new lists more (Some p) → IsIn p places
  next_on_list new more p was = let first = place_first was.rest p (sym was.next_is) in
      subst (IsIn p) (sym was.parts) (in_right_part p was.front was.rest (subst (IsIn p) (sym first.1) (inl refl)))

  module _ (mid new : List Span) (some more : List ℕ) (p : ℕ) (after : Option ℕ) (was : IsOpening it deleted n old mid lists some (Some p))
      (adds : Adds (InSpan (span_of (stretch_at runs p))) mid new) (all : (x : Id) → InSpan (span_of (stretch_at runs p)) x → HasId new x)
      (notes : NotesLists it deleted (InSpan (span_of (stretch_at runs p))) some more)
      (value : (k : ℕ) → k < count_of it.store.placed → IsIn p (places_in it.store.placed k) → after ≡ first_of (behind (Some p) (places_in it.store.placed k))) where
    abbrev back : List ℕ
    back = (place_first was.rest p (sym was.next_is)).0

    on_list : IsIn p places
    on_list = next_on_list mid some p was

    parts : places ≡ was.front ++ p ∷ back
    parts = was.parts ∙ ap (λ ps. was.front ++ ps) (place_first was.rest p (sym was.next_is)).1

    out : IsIn p (was.front ++ back) → ⊥
    out = distinct_out p was.front back (subst AreDistinct parts (sound.distinct n lt))

    behind_is : behind (Some p) places ≡ back
    behind_is = ap (behind (Some p)) parts ∙ behind_part p was.front back (λ i. out (in_left_part p was.front back i))

    after_is : after ≡ first_of back
    after_is = value n lt on_list ∙ ap first_of behind_is

    in_list : (x : Id) → InSpan (span_of (stretch_at runs p)) x → IsIn x (units_of_list it n)
    in_list x i = units_in runs places x p on_list (span_has_unit (stretch_at runs p) x i)

    wider : Adds (λ x. IsIn x (units_of_list it n)) mid new
    wider = adds_wider (InSpan (span_of (stretch_at runs p))) (λ x. IsIn x (units_of_list it n)) mid new in_list adds

    pub opening_goes_on : IsOpening it deleted n old new lists more after
    opening_goes_on = record {
      front = was.front ++ p ∷ [];
      rest = back;
      parts = parts ∙ sym (append_assoc was.front (p ∷ []) back);
      next_is = after_is;
      adds = adds_both (λ x. IsIn x (units_of_list it n)) old mid new was.adds wider;
      queues = queues_both (IsListOf it (λ y. IsIn y (units_of_list it n))) lists some more was.queues
          (queues_wider (IsListOf it (InSpan (span_of (stretch_at runs p)))) (IsListOf it (λ y. IsIn y (units_of_list it n))) some more
          (list_wider it (InSpan (span_of (stretch_at runs p))) (λ y. IsIn y (units_of_list it n)) in_list) notes.queues);
      opened = λ x i. let (q, j, u) = in_units runs (was.front ++ p ∷ []) x i in elim (in_parts q was.front (p ∷ []) j) [
        | inl f ↦ adds.kept x (was.opened x (units_in runs was.front x q f u))
        | inr l ↦ elim l [
          | inl e ↦ all x (unit_in_span (stretch_at runs p) x (subst (λ m. IsIn x (units_of (stretch_at runs m))) e u))
          | inr w ↦ absurd w
        ]
      ];
      noted = λ noted m y u h. elim (adds.only y h) [
        | inl g ↦ elim (was.noted noted m y u g) [
          | inl d ↦ inl d
          | inr i ↦ inr (queued_stays (IsListOf it (InSpan (span_of (stretch_at runs p)))) some more m notes.queues i)
        ]
        | inr i ↦ notes.all m y u i
      ];
    }

    pub fewer_to_come : places_to_come places after < places_to_come places (Some p)
    fewer_to_come = subst (λ z. places_to_come places z < places_to_come places (Some p)) (sym after_is) (go back refl)
      where
        go : (ys : List ℕ) → back ≡ ys → places_to_come places (first_of ys) < places_to_come places (Some p)
        go [] e = omega arith
        go (q ∷ ys) e =
            let here : places ≡ (was.front ++ p ∷ []) ++ q ∷ ys = parts ∙ ap (λ zs. was.front ++ p ∷ zs) e ∙ sym (append_assoc was.front (p ∷ []) (q ∷ ys)) in
            let gone : IsIn q ((was.front ++ p ∷ []) ++ ys) → ⊥ = distinct_out q (was.front ++ p ∷ []) ys (subst AreDistinct here (sound.distinct n lt)) in
            let rest : behind (Some q) places ≡ ys = ap (behind (Some q)) here
            ∙ behind_part q (was.front ++ p ∷ []) ys (λ i. gone (in_left_part q (was.front ++ p ∷ []) ys i)) in
            omega (arith, ap length rest, ap length behind_is, ap length e)

  pub opening_ends : (new : List Span) (more : List ℕ) → IsOpening it deleted n old new lists more None → OpensList it deleted n old new lists more
  opening_ends new more was = record {
    adds = was.adds;
    queues = was.queues;
    opened = λ x i. was.opened x (subst (λ ps. IsIn x (units_at runs ps)) (was.parts ∙ ap (λ ps. was.front ++ ps) (none_first was.rest (sym was.next_is)) ∙ none_behind was.front) i);
    noted = was.noted;
  }
    where
      none_behind : (xs : List ℕ) → xs ++ [] ≡ xs
      none_behind [] = refl
      none_behind (x ∷ xs) = ap (λ ys. x ∷ ys) (none_behind xs)

-- ---- all lists

-- what is among the spans hangs on the old ones, and the lists under it are queued; those before a place are open
pub record IsClosing (it : KeptValue) (deleted start spans : List Span) (lists : List ℕ) (at : ℕ) : Type 0 where
  pub kept : (x : Id) → HasId start x → HasId spans x
  pub only : (x : Id) → HasId spans x → HangsOn it (HasId start) x
  pub spans_are : Each IsSpan start → Each IsSpan spans
  pub noted : AreQueued it deleted (HasId spans) lists
  pub under : (n : ℕ) → IsIn n lists → IsListOf it (HangsOn it (HasId start)) n
  pub opened : (n : ℕ) → IsIn n (take at lists) → IsOpen it spans n

pub closing_begins : (it : KeptValue) (deleted start : List Span) (lists : List ℕ) → NotesLists it deleted (HasId start) [] lists → IsClosing it deleted start start lists 0
closing_begins it deleted start lists notes = record {
  kept = λ x h. h;
  only = λ x h. itself h;
  spans_are = λ each. each;
  noted = notes.all;
  under = λ n i. list_wider it (HasId start) (HangsOn it (HasId start)) (λ y h. itself h) n
      (elim (queued_is (IsListOf it (HasId start)) [] lists n notes.queues i) [ inl j ↦ absurd j | inr l ↦ l ]);
  opened = λ n i. absurd i;
}

in_at : (xs : List ℕ) (at n : ℕ) → slice_get xs at ≡ Some n → IsIn n xs
in_at [] at n e = absurd cc
in_at (x ∷ xs) zero n e = inl (sym (some_is x n e))
in_at (x ∷ xs) (suc at) n e = inr (in_at xs at n e)

at_within : (xs : List ℕ) (at n : ℕ) → slice_get xs at ≡ Some n → at < length xs
at_within [] at n e = absurd cc
at_within (x ∷ xs) zero n e = omega arith
at_within (x ∷ xs) (suc at) n e = omega (arith, at_within xs at n e)

-- what is taken of a longer list up to behind a place
taken_more : (xs more : List ℕ) (at n m : ℕ) → slice_get xs at ≡ Some n → IsIn m (take (suc at) (xs ++ more)) → IsIn m (take at xs) ⊎ (m ≡ n)
taken_more [] more at n m e i = absurd cc
taken_more (x ∷ xs) more zero n m e (inl f) = inr (f ∙ some_is x n e)
taken_more (x ∷ xs) more zero n m e (inr w) = absurd w
taken_more (x ∷ xs) more (suc at) n m e (inl f) = inl (inl f)
taken_more (x ∷ xs) more (suc at) n m e (inr i) = elim (taken_more xs more at n m e i) [ inl j ↦ inl (inr j) | inr f ↦ inr f ]

all_taken : (xs : List ℕ) (at n : ℕ) → slice_get xs at ≡ None → IsIn n xs → IsIn n (take at xs)
all_taken [] at n e i = absurd i
all_taken (x ∷ xs) zero n e i = (let w : Some x ≡ None = e in absurd cc)
all_taken (x ∷ xs) (suc at) n e (inl f) = inl f
all_taken (x ∷ xs) (suc at) n e (inr i) = inr (all_taken xs at n e i)

module _ (it : KeptValue) (deleted start mid : List Span) (lists : List ℕ) (at : ℕ) (was : IsClosing it deleted start mid lists at) where
  module _ (n : ℕ) (here : slice_get lists at ≡ Some n) where
    pub list_within : n < count_of it.store.placed
    list_within = (was.under n (in_at lists at n here)).within

    pub at_inside : AreDistinct lists → at < count_of it.store.placed
    at_inside once =
        let long : length lists ≤ count_of it.store.placed = length_within (count_of it.store.placed) lists once (λ i m. (was.under i m).within) in
        omega (arith, at_within lists at n here, long)

    pub closing_goes_on : (new : List Span) (more : List ℕ) → OpensList it deleted n mid new lists more → IsClosing it deleted start new more (suc at)
    closing_goes_on new more opens =
        let l = was.under n (in_at lists at n here) in
        let hangs : (x : Id) → IsIn x (units_of_list it n) → HangsOn it (HasId start) x = λ x i. under n l.under i l.passes in record {
          kept = λ x h. opens.adds.kept x (was.kept x h);
          only = λ x h. elim (opens.adds.only x h) [ inl g ↦ was.only x g | inr i ↦ hangs x i ];
          spans_are = λ each. opens.adds.spans (was.spans_are each);
          noted = opens.noted was.noted;
          under = λ m i. elim (queued_is (IsListOf it (λ y. IsIn y (units_of_list it n))) lists more m opens.queues i) [
            | inl j ↦ was.under m j
            | inr k ↦ list_wider it (λ y. IsIn y (units_of_list it n)) (HangsOn it (HasId start)) hangs m k
          ];
          opened = λ m i. elim (taken_more lists opens.queues.more at n m here (subst (λ ls. IsIn m (take (suc at) ls)) opens.queues.front i)) [
            | inl j ↦ (λ x u. opens.adds.kept x (was.opened m j x u))
            | inr e ↦ subst (IsOpen it new) (sym e) opens.opened
          ];
        }

  pub closing_ends : Each IsSpan start → slice_get lists at ≡ None → Closes it deleted start mid
  closing_ends each none = record {
    kept = was.kept;
    only = was.only;
    closed = λ n x y u i h. elim (was.noted n y u h) [
      | inl d ↦ inl d
      | inr j ↦ inr (was.opened n (all_taken lists at n none j) x i)
    ];
    spans = was.spans_are each;
  }
