-- Lines of several clients.
use Rattle.std.proofs.Common.{◌≡◌, ◌≢◌, ℕ, zero, suc, ◌-◌, ◌<◌, ◌≤◌, ◌⊎◌, inl, inr, Bool, true, false, nat_eq, nat_lt, List, [], ◌∷◌, ◌++◌, Some, None, Result, Ok, Err, length, get_or, set, refl, sym, ap, ◌∙◌, subst, arith, tests}
use Rattle.std.specs.Prelude.{HoldsAt, OnErr, insert}
use Rattle.std.proofs.lemmas.List.Edits.{length-insert, get_or-insert_at}
use Rattle.yd_pieces.specs.Pieces.{IsBoundary}
use Rattle.yd_index.specs.declared.line.Entry.{Entry}
use Rattle.yd_index.specs.Line.{Lined}
use Rattle.yd_index.specs.Lines.{Pops, AreLines, IsOther, line_of, entries_in, next_in, room_in, entries_of, next_of, room_of, Changes, KeepsLines, IsSeat}
use Rattle.yd_index.proofs.LineLemmas.{is_lt, is_ge}

pub eq_says : (a b : ℕ) → ((nat_eq a b ≡ true) × (a ≡ b)) ⊎ ((nat_eq a b ≡ false) × (a ≢ b))
eq_says a b = go (nat_eq a b) refl
  where
    go : (t : Bool) → nat_eq a b ≡ t → ((nat_eq a b ≡ true) × (a ≡ b)) ⊎ ((nat_eq a b ≡ false) × (a ≢ b))
    go true e = inl (e, grind (arith, tests))
    go false e = inr (e, λ same. grind (arith, tests))

above_at : (ls : List Lined) (low i : ℕ) (d : Lined) → AreLines low ls → i < length ls → low ≤ (get_or ls i d).client
above_at [] low i d a lt = absurd (omega (arith, lt))
above_at (l ∷ ls) low zero d a lt = a.0
above_at (l ∷ ls) low (suc i) d a lt = omega (arith, a.0, above_at ls (suc l.client) i d a.1 (omega (arith, lt)))

pub line_at : (ls : List Lined) (low i k : ℕ) (d : Lined) → AreLines low ls → i < length ls → (get_or ls i d).client ≡ k → line_of ls k ≡ Some (get_or ls i d)
line_at [] low i k d a lt e = absurd (omega (arith, lt))
line_at (l ∷ ls) low zero k d a lt e = elim (eq_says l.client k) [
  | inl x ↦ rw x.0 refl
  | inr x ↦ absurd (x.1 e)
]
line_at (l ∷ ls) low (suc i) k d a lt e = elim (eq_says l.client k) [
  | inl x ↦ absurd (omega (arith, x.1, e, above_at ls (suc l.client) i d a.1 (omega (arith, lt))))
  | inr x ↦ rw x.0 (line_at ls (suc l.client) i k d a.1 (omega (arith, lt)) e)
]

-- a client below all lines has none
none_below : (ls : List Lined) (low k : ℕ) → AreLines low ls → k < low → line_of ls k ≡ None
none_below [] low k a lt = refl
none_below (l ∷ ls) low k a lt = elim (eq_says l.client k) [
  | inl x ↦ absurd (omega (arith, x.1, lt, a.0))
  | inr x ↦ rw x.0 (none_below ls (suc l.client) k a.1 (omega (arith, lt, a.0)))
]

-- the lines before a place are below a client, and those from there on are above
abbrev Low : List Lined → ℕ → ℕ → Type 0
Low ls n k = (m : ℕ) → n ≡ suc m → (d : Lined) → (get_or ls m d).client < k

abbrev High : List Lined → ℕ → ℕ → Type 0
High ls n k = n < length ls → (d : Lined) → k < (get_or ls n d).client

low_tail : (l : Lined) (ls : List Lined) (n k : ℕ) → Low (l ∷ ls) (suc n) k → Low ls n k
low_tail l ls n k low = λ m e d. low (suc m) (ap suc e) d

high_tail : (l : Lined) (ls : List Lined) (n k : ℕ) → High (l ∷ ls) (suc n) k → High ls n k
high_tail l ls n k high = λ lt d. high (omega (arith, lt)) d

-- the first line is below too
head_low : (l : Lined) (ls : List Lined) (n k low : ℕ) → AreLines low (l ∷ ls) → suc n ≤ length (l ∷ ls) → Low (l ∷ ls) (suc n) k → l.client < k
head_low l ls zero k low a le below = below zero refl l
head_low l ls (suc n) k low a le below = omega (arith, below (suc n) refl l, above_at ls (suc l.client) n l a.1 (omega (arith, le)))

missing_at : (ls : List Lined) (low n k : ℕ) → AreLines low ls → n ≤ length ls → Low ls n k → High ls n k → line_of ls k ≡ None
missing_at [] low n k a le below above = refl
missing_at (l ∷ ls) low zero k a le below above = elim (eq_says l.client k) [
  | inl x ↦ absurd (omega (arith, x.1, above (omega arith) l))
  | inr x ↦ rw x.0 (none_below ls (suc l.client) k a.1 (omega (arith, above (omega arith) l)))
]
missing_at (l ∷ ls) low (suc n) k a le below above = elim (eq_says l.client k) [
  | inl x ↦ absurd (omega (arith, x.1, head_low l ls n k low a le below))
  | inr x ↦ rw x.0 (missing_at ls (suc l.client) n k a.1 (omega (arith, le)) (low_tail l ls n k below) (high_tail l ls n k above))
]

low_of : (ls : List Lined) (n k : ℕ) → IsBoundary (λ (l : Lined). nat_lt l.client k) ls n → Low ls n k
low_of ls zero k b = λ m e d. absurd (omega (arith, e))
low_of ls (suc n) k b = λ m e d.
    let is : suc n - 1 ≡ m = omega (arith, e) in
    is_lt (get_or ls m d).client k (subst (λ j. nat_lt (get_or ls j d).client k ≡ true) is (b.0 (omega arith) d))

high_of : (ls : List Lined) (n k : ℕ) → IsBoundary (λ (l : Lined). nat_lt l.client k) ls n → (n < length ls → HoldsAt (IsOther k) ls n) → High ls n k
high_of ls n k b other = λ lt d. above (get_or ls n d).client (is_ge (get_or ls n d).client k (b.1 lt d)) (other lt d)
  where
    above : (c : ℕ) → k ≤ c → c ≢ k → k < c
    above c ge ne = elim (eq_says c k) [ inl x ↦ absurd (ne x.1) | inr x ↦ omega (arith, ge, x.1) ]

pub line_missing : (ls : List Lined) (n k : ℕ) → AreLines 0 ls → n ≤ length ls → IsBoundary (λ (l : Lined). nat_lt l.client k) ls n → (n < length ls → HoldsAt (IsOther k) ls n) → line_of ls k ≡ None
line_missing ls n k a le b other = missing_at ls 0 n k a le (low_of ls n k b) (high_of ls n k b other)

-- a line in place of one of the same client
pub line_set : (ls : List Lined) (low i k : ℕ) (new d : Lined) → AreLines low ls → i < length ls → (get_or ls i d).client ≡ k → new.client ≡ k →
    AreLines low (set ls i new) × (line_of (set ls i new) k ≡ Some new) × ((j : ℕ) → j ≢ k → line_of (set ls i new) j ≡ line_of ls j)
line_set [] low i k new d a lt e same = absurd (omega (arith, lt))
line_set (l ∷ ls) low zero k new d a lt e same = (
  (omega (arith, e, same, a.0), subst (λ c. AreLines (suc c) ls) (e ∙ sym same) a.1),
  elim (eq_says new.client k) [ inl x ↦ rw x.0 refl | inr x ↦ absurd (x.1 same) ],
  (λ j ne. elim (eq_says new.client j) [
    | inl x ↦ absurd (ne (sym x.1 ∙ same))
    | inr x ↦ elim (eq_says l.client j) [
      | inl y ↦ absurd (ne (sym y.1 ∙ e))
      | inr y ↦ rw (x.0, y.0) refl
    ]
  ]),
)
line_set (l ∷ ls) low (suc i) k new d a lt e same =
    let r = line_set ls (suc l.client) i k new d a.1 (omega (arith, lt)) e same in (
      (a.0, r.0),
      elim (eq_says l.client k) [
        | inl x ↦ absurd (omega (arith, x.1, e, above_at ls (suc l.client) i d a.1 (omega (arith, lt))))
        | inr x ↦ rw x.0 r.1
      ],
      (λ j ne. elim (eq_says l.client j) [ inl y ↦ rw y.0 refl | inr y ↦ rw y.0 (r.2 j ne) ]),
    )

-- a line more
insert_at : (ls : List Lined) (low n k : ℕ) (new : Lined) → AreLines low ls → low ≤ k → n ≤ length ls → Low ls n k → High ls n k → new.client ≡ k →
    AreLines low (insert ls n new) × (line_of (insert ls n new) k ≡ Some new) × ((j : ℕ) → j ≢ k → line_of (insert ls n new) j ≡ line_of ls j)
insert_at ls low zero k new a ge le below above same = (
  (omega (arith, ge, same), go ls low a above),
  elim (eq_says new.client k) [ inl x ↦ rw x.0 refl | inr x ↦ absurd (x.1 same) ],
  (λ j ne. elim (eq_says new.client j) [ inl x ↦ absurd (ne (sym x.1 ∙ same)) | inr x ↦ rw x.0 refl ]),
)
  where
    go : (ls : List Lined) (low : ℕ) → AreLines low ls → High ls zero k → AreLines (suc new.client) ls
    go [] low a above = tt
    go (l ∷ ls) low a above = (omega (arith, same, above (omega arith) l), a.1)
insert_at [] low (suc n) k new a ge le below above same = absurd (omega (arith, le))
insert_at (l ∷ ls) low (suc n) k new a ge le below above same =
    let lt = head_low l ls n k low a le below in
    let r = insert_at ls (suc l.client) n k new a.1 (omega (arith, lt)) (omega (arith, le)) (low_tail l ls n k below) (high_tail l ls n k above) same in (
      (a.0, r.0),
      elim (eq_says l.client k) [ inl x ↦ absurd (omega (arith, x.1, lt)) | inr x ↦ rw x.0 r.1 ],
      (λ j ne. elim (eq_says l.client j) [ inl y ↦ rw y.0 refl | inr y ↦ rw y.0 (r.2 j ne) ]),
    )

pub line_insert : (ls : List Lined) (n k : ℕ) (new : Lined) → AreLines 0 ls → n ≤ length ls → IsBoundary (λ (l : Lined). nat_lt l.client k) ls n → (n < length ls → HoldsAt (IsOther k) ls n) → new.client ≡ k →
    AreLines 0 (insert ls n new) × (line_of (insert ls n new) k ≡ Some new) × ((j : ℕ) → j ≢ k → line_of (insert ls n new) j ≡ line_of ls j)
line_insert ls n k new a le b other same = insert_at ls 0 n k new a (omega arith) le (low_of ls n k b) (high_of ls n k b other) same

pub kept_all : (ls : List Lined) → KeepsLines ls ls
kept_all ls = record { entries = λ k. refl; nexts = λ k. refl; rooms = λ k. omega arith }

-- a client without a line gets one
pub keeps_insert : (ls : List Lined) (n k : ℕ) (new : Lined) → AreLines 0 ls → n ≤ length ls → IsBoundary (λ (l : Lined). nat_lt l.client k) ls n → (n < length ls → HoldsAt (IsOther k) ls n) →
    new.client ≡ k → new.entries ≡ [] → new.next ≡ 0 → KeepsLines ls (insert ls n new)
keeps_insert ls n k new a le b other same es ns =
    let r = line_insert ls n k new a le b other same in
    let none = line_missing ls n k a le b other in
    record {
      entries = λ j. elim (eq_says j k) [
        | inl x ↦ subst (λ m. entries_of (insert ls n new) m ≡ entries_of ls m) (sym x.1) (ap entries_in r.1 ∙ es ∙ sym (ap entries_in none))
        | inr x ↦ ap entries_in (r.2 j x.1)
      ];
      nexts = λ j. elim (eq_says j k) [
        | inl x ↦ subst (λ m. next_of (insert ls n new) m ≡ next_of ls m) (sym x.1) (ap next_in r.1 ∙ ns ∙ sym (ap next_in none))
        | inr x ↦ ap next_in (r.2 j x.1)
      ];
      rooms = λ j. elim (eq_says j k) [
        | inl x ↦ omega (arith, subst (λ m. room_of ls m ≡ 0) (sym x.1) (ap room_in none))
        | inr x ↦ omega (arith, ap room_in (r.2 j x.1))
      ];
    }

-- the seat of a line that was made
pub seat_insert : (ls : List Lined) (n k : ℕ) (new : Lined) → AreLines 0 ls → n ≤ length ls → IsBoundary (λ (l : Lined). nat_lt l.client k) ls n → (n < length ls → HoldsAt (IsOther k) ls n) →
    new.client ≡ k → new.entries ≡ [] → new.next ≡ 0 → IsSeat ls (insert ls n new) n k
seat_insert ls n k new a le b other same es ns = record {
  kept = keeps_insert ls n k new a le b other same es ns;
  lines = (line_insert ls n k new a le b other same).0;
  inside = omega (arith, le, length-insert ls n new le);
  found = λ d. ap (λ (l : Lined). l.client) (get_or-insert_at ls n new d le) ∙ same;
}

-- a line that is read, and one that is put in its place
module _ {old ls : List Lined} {i k : ℕ} (s : IsSeat old ls i k) {line : Lined} (read : line ≡ get_or ls i line) where
  pub seen : line_of ls k ≡ Some line
  seen = line_at ls 0 i k line s.lines s.inside (s.found line) ∙ ap Some (sym read)

  pub entries_seen : line.entries ≡ entries_of old k
  entries_seen = sym (ap entries_in seen) ∙ s.kept.entries k

  pub next_seen : line.next ≡ next_of old k
  next_seen = sym (ap next_in seen) ∙ s.kept.nexts k

  pub room_seen : room_of old k ≤ line.room
  room_seen = omega (arith, s.kept.rooms k, ap room_in seen)

  same_client : (new : Lined) → new.client ≡ line.client → new.client ≡ k
  same_client new e = e ∙ ap (λ (l : Lined). l.client) read ∙ s.found line

  put : (new : Lined) → new.client ≡ line.client → AreLines 0 (set ls i new) × (line_of (set ls i new) k ≡ Some new) × ((j : ℕ) → j ≢ k → line_of (set ls i new) j ≡ line_of ls j)
  put new e = line_set ls 0 i k new line s.lines s.inside (s.found line) (same_client new e)

  pub put_lines : (new : Lined) → new.client ≡ line.client → AreLines 0 (set ls i new)
  put_lines new e = (put new e).0

  pub put_changes : (new : Lined) (es : List Entry) (n : ℕ) → new.client ≡ line.client → new.entries ≡ es → new.next ≡ n → Changes old (set ls i new) k es n
  put_changes new es n e f g =
      let r = put new e in
      record {
        entries_are = ap entries_in r.1 ∙ f;
        next_is = ap next_in r.1 ∙ g;
        other_entries = λ j ne. ap entries_in (r.2 j ne) ∙ s.kept.entries j;
        other_nexts = λ j ne. ap next_in (r.2 j ne) ∙ s.kept.nexts j;
      }

  pub put_room : (new : Lined) → new.client ≡ line.client → room_of (set ls i new) k ≡ new.room
  put_room new e = ap room_in (put new e).1

  pub put_other_room : (new : Lined) → new.client ≡ line.client → (j : ℕ) → j ≢ k → room_of old j ≤ room_of (set ls i new) j
  put_other_room new e j ne = omega (arith, s.kept.rooms j, ap room_in ((put new e).2 j ne))

  pub put_keeps : (new : Lined) → new.client ≡ line.client → new.entries ≡ line.entries → new.next ≡ line.next → line.room ≤ new.room → KeepsLines old (set ls i new)
  put_keeps new e f g h =
      let r = put new e in
      record {
        entries = λ j. elim (eq_says j k) [
          | inl x ↦ subst (λ m. entries_of (set ls i new) m ≡ entries_of old m) (sym x.1) (ap entries_in r.1 ∙ f ∙ entries_seen)
          | inr x ↦ ap entries_in (r.2 j x.1) ∙ s.kept.entries j
        ];
        nexts = λ j. elim (eq_says j k) [
          | inl x ↦ subst (λ m. next_of (set ls i new) m ≡ next_of old m) (sym x.1) (ap next_in r.1 ∙ g ∙ next_seen)
          | inr x ↦ ap next_in (r.2 j x.1) ∙ s.kept.nexts j
        ];
        rooms = λ j. elim (eq_says j k) [
          | inl x ↦ subst (λ m. room_of old m ≤ room_of (set ls i new) m) (sym x.1) (omega (arith, h, room_seen, put_room new e))
          | inr x ↦ put_other_room new e j x.1
        ];
      }

  pub put_pops : (new : Lined) (last : Entry) → new.client ≡ line.client → line.entries ≡ new.entries ++ last ∷ [] → new.next ≡ last.clock → Pops old (set ls i new) k last
  put_pops new last e f g =
      let ch = put_changes new new.entries new.next e refl refl in
      record {
        entries_are = sym entries_seen ∙ f ∙ ap (λ es. es ++ last ∷ []) (sym ch.entries_are);
        next_is = ch.next_is ∙ g;
        other_entries = ch.other_entries;
        other_nexts = ch.other_nexts;
      }

  -- no client loses room
  pub put_rooms : (new : Lined) → new.client ≡ line.client → line.room ≤ new.room → (j : ℕ) → room_of old j ≤ room_of (set ls i new) j
  put_rooms new e h j = elim (eq_says j k) [
    | inl x ↦ subst (λ m. room_of old m ≤ room_of (set ls i new) m) (sym x.1) (omega (arith, h, room_seen, put_room new e))
    | inr x ↦ put_other_room new e j x.1
  ]

pub on_err : {T E : Type 0} (r : Result T E) (P : Type 0) → P → OnErr r P
on_err (Ok x) P p = tt
on_err (Err e) P p = p
