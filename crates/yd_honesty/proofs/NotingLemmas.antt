-- What is noted of units: what their first needs, with the past of each.
use Rattle.std.proofs.Common.{◌≡◌, ℕ, zero, suc, ◌+◌, ◌^◌, ◌<◌, ◌≤◌, ◌⊎◌, Bool, true, false, inl, inr, List, [], ◌∷◌, Some, take, length, get_or, replicate, set, refl, sym, ap, ◌∙◌, subst, arith, true≢false}
use Rattle.std.specs.Prelude.{slice_get}
use Rattle.std.proofs.lemmas.Option.{slice_get-get_or}
use Rattle.std.proofs.lemmas.List.{get_or-set_same, get_or-set_other, length-set, length-replicate}
use Rattle.yd_words.specs.Member.{IsIn}
use Rattle.yd_words.proofs.OptionLemmas.{some_is}
use Rattle.yd_words.proofs.TestLemmas.{same_or_other, split}
use Rattle.yd_ids.specs.declared.id.Id.{Id}
use Rattle.yd_ids.specs.Id.{IsClient, IsClock}
use Rattle.yd_ids.proofs.IdLemmas.{same_numbers}
use Rattle.yd_ops.specs.Operation.{Operation}
use Rattle.yd_ops.specs.Received.{has_operation}
use Rattle.yd_ops.proofs.OneOfLemmas.{operation_with}
use Rattle.yd_meaning.specs.Held.{needs}
use Rattle.yd_meaning.specs.Order.{IsPast, of_need, of_past}
use Rattle.yd_meaning.proofs.HeldLemmas.{held_needs}
use Rattle.yd_meaning.proofs.NeedLemmas.{before_needed}
use Rattle.yd_meaning.proofs.VectorLemmas.{clock_before}
use Rattle.yd_entries.specs.declared.entry.Entry.{Entry}
use Rattle.yd_entries.specs.Entries.{covers, is_held}
use Rattle.yd_entries.specs.Taking.{is_covered}
use Rattle.yd_received.specs.Received.{ReceivedValue, taken_of, held_of, is_below}
use Rattle.yd_held.proofs.HeldUnitLemmas.{IsFirst, covers_less, first_unit}
use Rattle.yd_held.proofs.HeldEntryLemmas.{is_taken, entry_chosen, id_chosen, covers_chosen, chosen_covered}
use Rattle.yd_honesty.specs.Pasts.{Clocks, Grows, IsHeldWhole, entry_needs, OnlyPast, AreSound, FindsNeed, IsClosed, AreClosed, RaisesTo, Joins, NotesNeed, NotesNeeds, PassesEntry, IsPassed}
use Rattle.yd_honesty.proofs.ClocksLemmas.{below_less}

-- ---- lists

-- what stands among the first and one more
taken_more : {X : Type 0} (xs : List X) (n : ℕ) (d x : X) → n < length xs → IsIn x (take (n + 1) xs) → IsIn x (take n xs) ⊎ (x ≡ get_or xs n d)
taken_more {X = X} xs n d x lt i = go xs n lt (subst (λ m. IsIn x (take m xs)) (one_more n) i)
  where
    one_more : (m : ℕ) → m + 1 ≡ suc m
    one_more m = omega arith

    go : (ys : List X) (m : ℕ) → m < length ys → IsIn x (take (suc m) ys) → IsIn x (take m ys) ⊎ (x ≡ get_or ys m d)
    go [] m less j = absurd (omega (arith, less))
    go (y ∷ ys) zero less (inl e) = inr e
    go (y ∷ ys) zero less (inr j) = absurd j
    go (y ∷ ys) (suc m) less (inl e) = inl (inl e)
    go (y ∷ ys) (suc m) less (inr j) = elim (go ys m (omega (arith, less)) j) [ inl k ↦ inl (inr k) | inr e ↦ inr e ]

-- what is read at a place is read so whatever stands past the end
pub one_read : {X : Type 0} (xs : List X) (n : ℕ) (x d : X) → n < length xs → x ≡ get_or xs n x → x ≡ get_or xs n d
one_read xs n x d lt e = e ∙ some_is (get_or xs n x) (get_or xs n d) (sym (slice_get-get_or xs n x lt) ∙ slice_get-get_or xs n d lt)

at_place : {X : Type 0} (xs : List X) (n : ℕ) (d : X) → n < length xs → IsIn (get_or xs n d) xs
at_place [] n d lt = absurd (omega arith)
at_place (x ∷ xs) zero d lt = inl refl
at_place (x ∷ xs) (suc n) d lt = inr (at_place xs n d (omega arith))

pub there_is_in : {X : Type 0} (xs : List X) (n : ℕ) (x : X) → slice_get xs n ≡ Some x → IsIn x xs × (n < length xs)
there_is_in [] n x e = absurd cc
there_is_in (y ∷ ys) zero x e = (inl (sym (some_is y x e)), omega arith)
there_is_in (y ∷ ys) (suc n) x e = let (i, lt) = there_is_in ys n x e in (inr i, omega (arith, lt))

get_or-replicate : {X : Type 0} (count n : ℕ) (d : X) → get_or (replicate count d) n d ≡ d
get_or-replicate zero n d = refl
get_or-replicate (suc count) zero d = refl
get_or-replicate (suc count) (suc n) d = get_or-replicate count n d

-- ---- one need

finds_grows : (r : ReceivedValue) (pasts : List Clocks) (z : Id) (old new : Clocks) → Grows old new → FindsNeed r pasts z old → FindsNeed r pasts z new
finds_grows r pasts z old new grows f = record {
  at = f.at;
  entry = f.entry;
  there = f.there;
  covers_it = f.covers_it;
  need_below = grows z f.need_below;
  past_below = λ y b. grows y (f.past_below y b);
}

pub notes_need : (r : ReceivedValue) (pasts : List Clocks) (need : Id) (old mid new other : Clocks) (raised joined all : Bool) (at : ℕ) (t : Entry) →
    slice_get r.entries at ≡ Some t → covers t need ≡ true → other ≡ get_or pasts at [] → RaisesTo need.client.0 (need.clock + 1) old mid raised →
    Joins other mid new joined → (all ≡ false → (raised ≡ false) × (joined ≡ false)) → NotesNeed r pasts need old new all
notes_need r pasts need old mid new other raised joined all at t there c is s j both = record {
  grows = λ y b. j.grows y (s.grows y b);
  found = record {
    at = at;
    entry = t;
    there = there;
    covers_it = c;
    need_below = j.grows need (s.raised need refl (omega arith));
    past_below = λ y b. j.joined y (subst (λ v. is_below v y ≡ true) (sym is) b);
  };
  only = λ y b. elim (j.only y b) [
    | inl before ↦ elim (s.only y before) [ inl first ↦ inl first | inr up ↦ inr (inl (up.0, omega (arith, up.1))) ]
    | inr own ↦ inr (inr (subst (λ v. is_below v y ≡ true) is own))
  ];
  same = λ e. j.same (both e).1 ∙ s.same (both e).0;
}

-- ---- what is held

module _ (r : ReceivedValue) (whole : IsHeldWhole r) where
  abbrev held : List Operation
  held = held_of r

  pub need_held : (o : Operation) → IsIn o held → (z : Id) → IsIn z (needs o) → has_operation held z ≡ true
  need_held o i z j = subst (λ os. has_operation os z ≡ true) (sym whole.held) (held_needs (taken_of r) o (subst (λ os. IsIn o os) whole.held i) z j)

  before_held : (x : Id) (k : ℕ) → has_operation held x ≡ true → x.clock ≡ suc k → has_operation held (record { client = x.client; clock = k }) ≡ true
  before_held x k e c = subst (λ os. has_operation os (record { client = x.client; clock = k }) ≡ true) (sym whole.held)
      (clock_before (taken_of r) x k (subst (λ os. has_operation os x ≡ true) whole.held e) c)

  -- the smaller clocks of a held operation's client are of its past
  pub clock_past : (n : ℕ) (x y : Id) → has_operation held x ≡ true → y.client.0 ≡ x.client.0 → y.clock < x.clock → x.clock < y.clock + n → IsPast held x y
  clock_past zero x y e same less lt = absurd (omega (arith, less, lt))
  clock_past (suc n) x y e same less lt = let (o, i, f) = operation_with held x e in before x.clock refl o i f (λ z g s l m. clock_past n z y g s l m)
    where
      before : (k : ℕ) → x.clock ≡ k → (o : Operation) → IsIn o held → o.id ≡ x →
          ((z : Id) → has_operation held z ≡ true → y.client.0 ≡ z.client.0 → y.clock < z.clock → z.clock < y.clock + n → IsPast held z y) → IsPast held x y
      before zero c o i f again = absurd (omega (arith, less, c))
      before (suc k) c o i f again = elim (split k y.clock) [
        | inl le ↦ subst (λ z. IsPast held x z) (same_numbers (record { client = x.client; clock = k }) y (sym same) (omega (arith, le, less, c))) first
        | inr more ↦ of_past first (again (record { client = x.client; clock = k }) (before_held x k e c) same more (omega (arith, lt, c)))
      ]
        where
          first : IsPast held x (record { client = x.client; clock = k })
          first = of_need o i f (subst (λ (z : Id). IsIn (record { client = z.client; clock = k }) (needs o)) f
              (before_needed o k (ap (λ (z : Id). z.clock) f ∙ c)))

  -- an id of its client with no greater clock is it, or of its past
  pub up_to_past : (x y : Id) → has_operation held x ≡ true → y.client.0 ≡ x.client.0 → y.clock ≤ x.clock → (x ≡ y) ⊎ IsPast held x y
  up_to_past x y e same le = elim (split x.clock y.clock) [
    | inl above ↦ inl (same_numbers x y (sym same) (omega (arith, above, le)))
    | inr less ↦ inr (clock_past (suc x.clock) x y e same less (omega arith))
  ]

  pub first_needs : (t : Entry) (o : Operation) → IsFirst r.runs t o → needs o ≡ entry_needs r t
  first_needs t o first = rw (first.has_id, first.has_left, first.has_right, first.has_list) refl

  module _ (t : Entry) (i : IsIn t r.entries) (passes : is_held t ≡ true) where
    -- what the first of held units needs is needed by a held operation, and so it is held
    pub needed : (z : Id) → IsIn z (entry_needs r t) → IsPast held t.id z × (has_operation held z ≡ true)
    needed z j =
        let (o, k, first) = first_unit r.runs t (is_taken r whole.in_order t i) in
        let there : IsIn o held = entry_chosen is_held r whole.in_order t i passes o k in
        let need : IsIn z (needs o) = subst (λ zs. IsIn z zs) (sym (first_needs t o first)) j in
        (of_need o there first.has_id need, need_held o there z need)

    module _ (pasts : List Clocks) (sound : AreSound r pasts) (z : Id) (j : IsIn z (entry_needs r t)) where
      -- of what is noted of a need all is of the past
      pub noted_past : (old new : Clocks) (grew : Bool) → OnlyPast r t old → NotesNeed r pasts z old new grew → OnlyPast r t new
      noted_past old new grew only notes y b = elim (notes.only y b) [
        | inl before ↦ only y before
        | inr (inl up) ↦ elim (up_to_past z y (needed z j).1 up.0 up.1) [
          | inl one ↦ subst (λ v. IsPast held t.id v) one (needed z j).0
          | inr past ↦ of_past (needed z j).0 past
        ]
        | inr (inr own) ↦ with_entry notes.found.at notes.found.entry notes.found.there notes.found.covers_it own
      ]
        where
          with_entry : (at : ℕ) (s : Entry) → slice_get r.entries at ≡ Some s → covers s z ≡ true → is_below (get_or pasts at []) y ≡ true → IsPast held t.id y
          with_entry at s there c own =
              let (k, lt) = there_is_in r.entries at s there in
              let less = covers_less s z c in
              let past : IsPast held s.id y = sound.each at s there (covers_chosen is_held r whole.in_order s z k c (needed z j).1) y own in
              elim (up_to_past z s.id (needed z j).1 less.0 less.1) [
                | inl one ↦ of_past (needed z j).0 (subst (λ v. IsPast held v y) (sym one) past)
                | inr before ↦ of_past (needed z j).0 (of_past before past)
              ]

    -- what is needed may be noted
    pub need_covered : (z : Id) → IsIn z (entry_needs r t) → is_covered r.entries z ≡ true
    need_covered z j = chosen_covered is_held r whole.in_order z (needed z j).1

    pub need_in_range : (z : Id) → IsIn z (entry_needs r t) → IsClient z.client × IsClock (z.clock + 1)
    need_in_range z j =
        let (s, k, p, c) = id_chosen is_held r whole.in_order z (needed z j).1 in
        let is = is_taken r whole.in_order s k in
        let less = covers_less s z c in
        (subst (λ n. n < 2 ^ 53) less.0 is.id.client, omega (arith, is.end, less.2))

    module _ (pasts : List Clocks) (sound : AreSound r pasts) (ids : List Id) (are : ids ≡ entry_needs r t) where
      pub need_at : (n : ℕ) (z d : Id) → n < length ids → z ≡ get_or ids n d → IsIn z (entry_needs r t)
      need_at n z d lt e = subst (λ zs. IsIn z zs) are (subst (λ y. IsIn y ids) (sym e) (at_place ids n d lt))

      pub notes_none : (old : Clocks) → OnlyPast r t old → NotesNeeds r pasts t [] old old false
      notes_none old only = record { grows = λ y b. b; found = λ z i. absurd i; only = only; same = λ e. refl }

      pub notes_more : (n : ℕ) (z d : Id) (old now new : Clocks) (grew more all : Bool) → n < length ids → z ≡ get_or ids n d →
          NotesNeeds r pasts t (take n ids) old now grew → NotesNeed r pasts z now new more → (all ≡ false → (grew ≡ false) × (more ≡ false)) →
          NotesNeeds r pasts t (take (n + 1) ids) old new all
      notes_more n z d old now new grew more all lt e so notes both = record {
        grows = λ y b. notes.grows y (so.grows y b);
        found = λ y i. elim (taken_more ids n d y lt i) [
          | inl j ↦ finds_grows r pasts y now new notes.grows (so.found y j)
          | inr last ↦ subst (λ v. FindsNeed r pasts v new) (e ∙ sym last) notes.found
        ];
        only = noted_past pasts sound z (need_at n z d lt e) now new more so.only notes;
        same = λ f. notes.same (both f).1 ∙ so.same (both f).0;
      }

  -- ---- entries

  pub sound_none : (pasts : List Clocks) → pasts ≡ replicate (length r.entries) [] → AreSound r pasts
  sound_none pasts e = rw e (record {
    size = length-replicate (length r.entries) [];
    each = λ at t there passes y b. absurd (omega (arith, below_less [] y (subst (λ (v : Clocks). is_below v y ≡ true) (get_or-replicate (length r.entries) at []) b)));
  })

  pub passes_waiting : (pasts : List Clocks) (at : ℕ) (t : Entry) → slice_get r.entries at ≡ Some t → is_held t ≡ false → AreSound r pasts → PassesEntry r pasts pasts at false
  passes_waiting pasts at t there waits sound = record {
    sound = sound;
    same = λ e. refl;
    closed = λ e s other passes. absurd (true≢false (sym passes ∙ subst (λ u. is_held u ≡ false) (some_is t s (sym there ∙ other)) waits));
  }

  module _ (pasts : List Clocks) (sound : AreSound r pasts) (at : ℕ) (t : Entry) (there : slice_get r.entries at ≡ Some t) (old new : Clocks) (is : old ≡ get_or pasts at []) where
    pub passes_grown : (now : List Clocks) → now ≡ set pasts at new → NotesNeeds r pasts t (entry_needs r t) old new true → PassesEntry r pasts now at true
    passes_grown now e notes = record {
      sound = rw e (record { size = length-set pasts at new ∙ sound.size; each = each });
      same = λ f. absurd (true≢false f);
      closed = λ f. absurd (true≢false f);
    }
      where
        each : (n : ℕ) (s : Entry) → slice_get r.entries n ≡ Some s → is_held s ≡ true → OnlyPast r s (get_or (set pasts at new) n [])
        each n s other passes = elim (same_or_other n at) [
          | inl one ↦ subst (λ u. OnlyPast r u (get_or (set pasts at new) n [])) (some_is t s (sym there ∙ ap (slice_get r.entries) (sym one) ∙ other))
              (subst (λ m. OnlyPast r t (get_or (set pasts at new) m [])) (sym one)
              (subst (λ v. OnlyPast r t v) (sym (get_or-set_same pasts at new [] (omega (arith, (there_is_in r.entries at t there).1, sound.size)))) notes.only))
          | inr apart ↦ subst (λ v. OnlyPast r s v) (sym (get_or-set_other pasts at n new [] apart)) (sound.each n s other passes)
        ]

    pub passes_same : (grew : Bool) → grew ≡ false → NotesNeeds r pasts t (entry_needs r t) old new grew → PassesEntry r pasts pasts at false
    passes_same grew none notes = record {
      sound = sound;
      same = λ e. refl;
      closed = λ e s other passes z i. subst (λ v. FindsNeed r pasts z v) (notes.same none ∙ is)
          (notes.found z (subst (λ u. IsIn z (entry_needs r u)) (sym (some_is t s (sym there ∙ other))) i));
    }

  pub passed_none : (pasts : List Clocks) → AreSound r pasts → IsPassed r pasts 0 false
  passed_none pasts sound = record { sound = sound; closed = λ e at t lt. absurd (omega (arith, lt)) }

  pub passed_more : (old new : List Clocks) (n : ℕ) (grew more all : Bool) → IsPassed r old n grew → PassesEntry r old new n more → (all ≡ false → (grew ≡ false) × (more ≡ false)) →
      IsPassed r new (n + 1) all
  passed_more old new n grew more all passed step both = record {
    sound = step.sound;
    closed = λ e at t lt there passes. elim (same_or_other at n) [
      | inl one ↦ subst (λ m. IsClosed r new t (get_or new m [])) (sym one) (step.closed (both e).1 t (subst (λ m. slice_get r.entries m ≡ Some t) one there) passes)
      | inr apart ↦ subst (λ ps. IsClosed r ps t (get_or ps at [])) (sym (step.same (both e).1)) (passed.closed (both e).0 at t (omega (arith, lt, apart)) there passes)
    ];
  }

  pub passed_all : (pasts : List Clocks) (count : ℕ) (grew : Bool) → length r.entries ≤ count → IsPassed r pasts count grew → grew ≡ false → AreClosed r pasts
  passed_all pasts count grew all passed e at t there = passed.closed e at t (omega (arith, (there_is_in r.entries at t there).1, all)) there
