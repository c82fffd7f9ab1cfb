-- The walk puts each scanned row on the side of the new row where the line has it.
use Rattle.std.proofs.Common.{◌≡◌, ◌≢◌, ℕ, zero, suc, ◌<◌, ◌≤◌, Bool, List, [], ◌∷◌, ◌++◌, ◌⊎◌, inl, inr, Some, None, Option, refl, sym, ap, ◌∙◌, subst, arith}
use Rattle.std.specs.Prelude.{IfSome}
use Rattle.yd_words.specs.Test.{is_some_and}
use Rattle.yd_words.specs.Member.{IsIn}
use Rattle.yd_words.proofs.TestLemmas.{Says, split, nat_lt_says}
use Rattle.yd_words.proofs.MemberLemmas.{in_left_part, in_right_part, in_parts, in_with_last}
use Rattle.yd_words.proofs.OptionLemmas.{some_is}
use Rattle.yd_ids.specs.declared.id.Id.{Id}
use Rattle.yd_ids.specs.Ids.{is_same, is_same_neighbour, has_id}
use Rattle.yd_ids.proofs.IdLemmas.{same_says, greater_client_zero, has_says}
use Rattle.yd_origins.specs.Scan.{Verdict, stops, moves, stays, verdict, walk}
use Rattle.yd_origins.proofs.MemberLemmas.{place, Rising}
use Rattle.yd_origins.proofs.LineLemmas.{Line, same_left_says, which_first}
use Rattle.yd_origins.proofs.SideLemmas.{Sides, sides}
use Rattle.yd_origins.proofs.WalkLemmas.{Setting, walk-stops, walk-moves, walk-stays}

module _ (left right : Id → Option Id) (before : Id → Id → Bool) (height : Id → ℕ) (P : Id → Type 0) (l : Line before P) (rows : List Id) (o : Id)
    (s : Setting left right before height P l rows o) where
  abbrev pub left_pos : Id → ℕ
  left_pos x = place l.pos 0 (left x)

  abbrev pub right_pos : Id → ℕ
  right_pos x = place l.pos l.end (right x)

  abbrev pub R : Id → Type 0
  R x = IsIn x rows

  -- on which side of o the scanned rows stand
  at_side : Sides left right before height P l rows o s
  at_side = sides left right before height P l rows o s

  right_at : (x : Id) (z : Option Id) → right x ≡ z → right_pos x ≡ place l.pos l.end z
  right_at x z e = ap (place l.pos l.end) e

  left_at : (x : Id) (z : Option Id) → left x ≡ z → left_pos x ≡ place l.pos 0 z
  left_at x z e = ap (place l.pos 0) e

  -- why a scanned row is conflicting: it has o's left and a greater client, or its left is conflicting
  abbrev pub IsConflicting : List Id → Id → Type 0
  IsConflicting conflicting y = (left_pos y ≡ left_pos o) × (o.client.0 < y.client.0) ⊎ ((z : Id) × (left y ≡ Some z) × IsIn z conflicting)

  -- what holds where the scan stands
  pub record State (passed conflicting rest : List Id) : Type 0 where
    pub passed_in : (y : Id) → IsIn y passed → R y
    pub conflicting_in : (y : Id) → IsIn y conflicting → R y
    pub rest_in : (y : Id) → IsIn y rest → R y
    pub passed_low : (y : Id) → IsIn y passed → left_pos o < l.pos y
    pub conflicting_low : (y : Id) → IsIn y conflicting → left_pos o < l.pos y
    pub rest_low : (y : Id) → IsIn y rest → left_pos o < l.pos y
    pub passed_before : (y : Id) → IsIn y passed → l.pos y < l.pos o
    pub conflicting_high : (y : Id) → IsIn y conflicting → l.pos y < right_pos o
    pub conflicting_why : (y : Id) → IsIn y conflicting → IsConflicting conflicting y
    pub passed_first : (y z : Id) → IsIn y passed → IsIn z conflicting → l.pos y < l.pos z
    pub passed_rest : (y z : Id) → IsIn y passed → IsIn z rest → l.pos y < l.pos z
    pub conflicting_rest : (y z : Id) → IsIn y conflicting → IsIn z rest → l.pos y < l.pos z
    pub rest_rising : Rising l.pos rest
    pub cover : (z : Id) → R z → left_pos o < l.pos z → IsIn z passed ⊎ (IsIn z conflicting ⊎ IsIn z rest)

  -- once all of the rest stands behind o, so do the conflicting ones
  settles_step : (passed conflicting rest : List Id) → State passed conflicting rest → ((z : Id) → IsIn z rest → l.pos o < l.pos z) →
      (y : Id) → IsIn y conflicting →
      ((t : Id) → IsIn t conflicting → height t < height y → l.pos o < l.pos t) →
      (w : Option Id) → right y ≡ w → IfSome w (λ y. IsIn y rows) → IfSome w (λ x. height x < height y) →
      l.pos y < l.pos o → IsConflicting conflicting y → ⊥
  settles_step passed conflicting rest st later y k ih w ew jw mw f (inr c) =
      let lower : height c.0 < height y = rw c.1 at (s.low_left y (s.member y (st.conflicting_in y k))) in
      omega (arith, ih c.0 c.2 lower, left_at y (Some c.0) c.1, s.after_left y (s.member y (st.conflicting_in y k)))
  settles_step passed conflicting rest st later y k ih None ew jw mw f (inl c) =
      omega (arith, at_side.reasons y (st.conflicting_in y k) f, right_at y None ew, l.high o s.o_in, greater_client_zero y o c.1, st.conflicting_low y k)
  settles_step passed conflicting rest st later y k ih (Some t) ew jw mw f (inl c) = elim (at_side.either t jw) [
    | inr g ↦ omega (arith, at_side.reasons y (st.conflicting_in y k) f, right_at y (Some t) ew, greater_client_zero y o c.1, st.conflicting_low y k)
    | inl g ↦ let up : l.pos y < l.pos t = omega (arith, right_at y (Some t) ew, s.before_right y (s.member y (st.conflicting_in y k))) in
        elim (st.cover t jw (omega (arith, st.conflicting_low y k))) [
          | inl a ↦ omega (arith, st.passed_first t y a k)
          | inr (inl a) ↦ omega (arith, ih t a mw)
          | inr (inr a) ↦ omega (arith, later t a)
        ]
  ]

  settles_within : (passed conflicting rest : List Id) → State passed conflicting rest → ((z : Id) → IsIn z rest → l.pos o < l.pos z) →
      (n : ℕ) (y : Id) → IsIn y conflicting → height y < n → l.pos o < l.pos y
  settles_within passed conflicting rest st later zero y k small = absurd (omega arith)
  settles_within passed conflicting rest st later (suc n) y k small = elim (at_side.either y (st.conflicting_in y k)) [
    | inl f ↦ absurd (settles_step passed conflicting rest st later y k (λ t a lt. settles_within passed conflicting rest st later n t a (omega arith))
        (right y) refl (s.rows_right y (st.conflicting_in y k)) (s.low_right y (s.member y (st.conflicting_in y k))) f (st.conflicting_why y k))
    | inr f ↦ f
  ]

  settles : (passed conflicting rest : List Id) → State passed conflicting rest → ((z : Id) → IsIn z rest → l.pos o < l.pos z) → (y : Id) → IsIn y conflicting →
      l.pos o < l.pos y
  settles passed conflicting rest st later y k = settles_within passed conflicting rest st later (suc (height y)) y k (omega arith)

  -- the tests of the scan
  right_says : (x : Id) → R x → (z : Option Id) → IfSome z (λ y. IsIn y rows) →
      Says (is_some_and (is_same x) z) (l.pos x ≡ place l.pos l.end z) (l.pos x ≢ place l.pos l.end z)
  right_says x i None j = inr (refl, omega (arith, l.high x (s.member x i)))
  right_says x i (Some r) j = elim (same_says x r) [
    | inl e ↦ inl (e.0, ap l.pos e.1)
    | inr e ↦ inr (
      e.0,
      elim (which_first before P l x r (s.member x i) (s.member r j)) [
        | inl f ↦ omega (arith, f)
        | inr (inl f) ↦ absurd (e.1 f)
        | inr (inr f) ↦ omega (arith, f)
      ],
    )
  ]

  same_right_says : (z w : Option Id) → IfSome z (λ y. IsIn y rows) → IfSome w (λ y. IsIn y rows) →
      Says (is_same_neighbour z w) (place l.pos l.end z ≡ place l.pos l.end w) (Unit {0})
  same_right_says None None i j = inl (refl, refl)
  same_right_says None (Some y) i j = inr (refl, tt)
  same_right_says (Some x) None i j = inr (refl, tt)
  same_right_says (Some x) (Some y) i j = elim (same_says x y) [ inl e ↦ inl (e.0, ap l.pos e.1) | inr e ↦ inr (e.0, tt) ]

  list_says : (list : List Id) (z : Option Id) →
      Says (is_some_and (has_id list) z) ((y : Id) × (z ≡ Some y) × IsIn y list) ((y : Id) → z ≡ Some y → IsIn y list → ⊥)
  list_says list None = inr (refl, λ y e i. absurd (none_some y e))
    where
      none_some : (y : Id) → ◌≡◌ {A = Option Id} None (Some y) → ⊥
      none_some y e = cc
  list_says list (Some x) = elim (has_says list x) [
    | inl e ↦ inl (e.0, (x, refl, e.1))
    | inr e ↦ inr (e.0, λ y f i. e.1 (subst (λ v. IsIn v list) (sym (some_is x y f)) i))
  ]

  -- a scanned row that is not o's right stands before it
  inside : (passed conflicting xs : List Id) (x : Id) → State passed conflicting (x ∷ xs) → l.pos x ≢ right_pos o → l.pos x < right_pos o
  inside passed conflicting xs x st ne = go (right o) refl s.o_right
    where
      go : (z : Option Id) → right o ≡ z → IfSome z (λ y. IsIn y rows) → l.pos x < right_pos o
      go None e i = omega (arith, right_at o None e, l.high x (s.member x (st.rest_in x (inl refl))))
      go (Some r) e i = elim (st.cover r i (omega (arith, right_at o (Some r) e, s.after_left o s.o_in, s.before_right o s.o_in))) [
        | inl a ↦ absurd (omega (arith, st.passed_before r a, right_at o (Some r) e, s.before_right o s.o_in))
        | inr (inl a) ↦ absurd (omega (arith, st.conflicting_high r a, right_at o (Some r) e))
        | inr (inr (inl a)) ↦ absurd (ne (ap l.pos (sym a) ∙ sym (right_at o (Some r) e)))
        | inr (inr (inr a)) ↦ omega (arith, st.rest_rising.0 r a, right_at o (Some r) e)
      ]

  -- what a verdict says
  abbrev Judged : List Id → Id → Verdict → Type 0
  Judged conflicting x v = (v ≡ stops) × (l.pos o < l.pos x) ⊎ ((v ≡ moves) × (l.pos x < l.pos o) ⊎ (v ≡ stays) × (l.pos x < right_pos o) × IsConflicting conflicting x)

  judged : (passed conflicting xs : List Id) (x : Id) → State passed conflicting (x ∷ xs) → Judged conflicting x (verdict left right o passed conflicting x)
  judged passed conflicting xs x st = elim (right_says x i (right o) s.o_right) [
    | inl e ↦ rw (e.0) (inl (refl, omega (arith, e.1, s.before_right o s.o_in)))
    | inr e ↦ rw (e.0, verdict) (elim (same_left_says before P l (left x) (left o) (s.in_left x (s.member x i)) (s.in_left o s.o_in)) [
      | inl f ↦ rw f.0 (elim (nat_lt_says x.client.0 o.client.0) [
        | inl g ↦ rw g.0 (inr (inl (refl, at_side.smaller_client x i f.1 g.1 (inside passed conflicting xs x st e.1))))
        | inr g ↦ rw g.0 (elim (same_right_says (right x) (right o) (s.rows_right x i) s.o_right) [
          | inl k ↦ rw k.0 (inl (refl, at_side.greater_client x i f.1 k.1 (other g.1 e.1) low))
          | inr k ↦ rw k.0 (inr (inr (refl, inside passed conflicting xs x st e.1, inl (f.1, other g.1 e.1))))
        ])
      ])
      | inr f ↦ rw f.0 (elim (list_says conflicting (left x)) [
        | inl g ↦ rw g.0 (inr (inr (refl, inside passed conflicting xs x st e.1, inr g.1)))
        | inr g ↦ rw g.0 (elim (list_says passed (left x)) [
          | inl k ↦ rw k.0 (inr (inl (refl, at_side.follower x k.1.0 i k.1.1 (st.passed_low k.1.0 k.1.2) (st.passed_before k.1.0 k.1.2) (inside passed conflicting xs x st e.1))))
          | inr k ↦ rw k.0 (inl (refl, at_side.earlier_left x i (not_scanned (left x) refl (s.rows_left x i) f.1 g.1 k.1) low))
        ])
      ])
    ])
  ]
    where
      i : IsIn x rows
      i = st.rest_in x (inl refl)

      low : left_pos o < l.pos x
      low = st.rest_low x (inl refl)

      other : o.client.0 ≤ x.client.0 → l.pos x ≢ right_pos o → o.client.0 < x.client.0
      other c ne = let differ : x.client.0 ≢ o.client.0 = s.alone x i low (inside passed conflicting xs x st ne) in omega arith

      not_scanned : (z : Option Id) → left x ≡ z → IfSome z (λ y. IsIn y rows) → left_pos x ≢ left_pos o →
          ((y : Id) → left x ≡ Some y → IsIn y conflicting → ⊥) → ((y : Id) → left x ≡ Some y → IsIn y passed → ⊥) → left_pos x < left_pos o
      not_scanned None e j ne nk nm = omega (arith, left_at x None e)
      not_scanned (Some y) e j ne nk nm = elim (split (l.pos y) (left_pos o)) [
        | inl a ↦ omega (arith, left_at x (Some y) e)
        | inr a ↦ absurd (elim (st.cover y j a) [
          | inl b ↦ nm y e b
          | inr (inl b) ↦ nk y e b
          | inr (inr (inl b)) ↦ omega (arith, ap l.pos b, left_at x (Some y) e, s.after_left x (s.member x i))
          | inr (inr (inr b)) ↦ omega (arith, st.rest_rising.0 y b, left_at x (Some y) e, s.after_left x (s.member x i))
        ])
      ]

  -- the members of passed ++ conflicting ++ x ∷ []
  in_three : (passed conflicting : List Id) (x y : Id) → IsIn y (passed ++ conflicting ++ x ∷ []) → IsIn y passed ⊎ (IsIn y conflicting ⊎ (y ≡ x))
  in_three passed conflicting x y i = elim (in_with_last (passed ++ conflicting) x y i) [
    | inl a ↦ elim (in_parts y passed conflicting a) [ inl b ↦ inl b | inr b ↦ inr (inl b) ]
    | inr e ↦ inr (inr e)
  ]

  -- x is scanned, and the place moves behind it
  moved_on : (passed conflicting xs : List Id) (x : Id) → State passed conflicting (x ∷ xs) → l.pos x < l.pos o → State (passed ++ conflicting ++ x ∷ []) [] xs
  moved_on passed conflicting xs x st lt = record {
    passed_in = λ y i. elim (in_three passed conflicting x y i) [ inl a ↦ st.passed_in y a | inr (inl a) ↦ st.conflicting_in y a | inr (inr a) ↦ st.rest_in y (inl a) ];
    conflicting_in = λ y i. absurd i;
    rest_in = λ y i. st.rest_in y (inr i);
    passed_low = λ y i. elim (in_three passed conflicting x y i) [
      | inl a ↦ st.passed_low y a
      | inr (inl a) ↦ st.conflicting_low y a
      | inr (inr a) ↦ st.rest_low y
          (inl a)
    ];
    conflicting_low = λ y i. absurd i;
    rest_low = λ y i. st.rest_low y (inr i);
    passed_before = λ y i. elim (in_three passed conflicting x y i) [
      | inl a ↦ st.passed_before y a
      | inr (inl a) ↦ omega
          (arith, st.conflicting_rest y x a (inl refl))
      | inr (inr a) ↦ rw a lt
    ];
    conflicting_high = λ y i. absurd i;
    conflicting_why = λ y i. absurd i;
    passed_first = λ y z i j. absurd j;
    passed_rest = λ y z i j. elim (in_three passed conflicting x y i) [
      | inl a ↦ st.passed_rest y z a (inr j)
      | inr (inl a) ↦ st.conflicting_rest y z a (inr j)
      | inr
          (inr a) ↦ rw a (st.rest_rising.0 z j)
    ];
    conflicting_rest = λ y z i j. absurd i;
    rest_rising = st.rest_rising.1;
    cover = λ z i low. elim (st.cover z i low) [
      | inl a ↦ inl (in_left_part z (passed ++ conflicting) (x ∷ []) (in_left_part z passed conflicting a))
      | inr (inl a) ↦ inl (in_left_part z (passed ++ conflicting) (x ∷ []) (in_right_part z passed conflicting a))
      | inr (inr (inl a)) ↦ inl (in_right_part z (passed ++ conflicting) (x ∷ []) (inl a))
      | inr (inr (inr a)) ↦ inr (inr a)
    ];
  }

  conflicting_more : (conflicting : List Id) (x y : Id) → IsConflicting conflicting y → IsConflicting (conflicting ++ x ∷ []) y
  conflicting_more conflicting x y (inl a) = inl a
  conflicting_more conflicting x y (inr a) = inr (a.0, a.1, in_left_part a.0 conflicting (x ∷ []) a.2)

  -- x is scanned, and the place stays
  stayed_on : (passed conflicting xs : List Id) (x : Id) → State passed conflicting (x ∷ xs) → l.pos x < right_pos o → IsConflicting conflicting x →
      State passed (conflicting ++ x ∷ []) xs
  stayed_on passed conflicting xs x st lt reason = record {
    passed_in = st.passed_in;
    conflicting_in = λ y i. elim (in_with_last conflicting x y i) [ inl a ↦ st.conflicting_in y a | inr a ↦ st.rest_in y (inl a) ];
    rest_in = λ y i. st.rest_in y (inr i);
    passed_low = st.passed_low;
    conflicting_low = λ y i. elim (in_with_last conflicting x y i) [ inl a ↦ st.conflicting_low y a | inr a ↦ st.rest_low y (inl a) ];
    rest_low = λ y i. st.rest_low y (inr i);
    passed_before = st.passed_before;
    conflicting_high = λ y i. elim (in_with_last conflicting x y i) [ inl a ↦ st.conflicting_high y a | inr a ↦ rw a lt ];
    conflicting_why = λ y i. elim (in_with_last conflicting x y i) [
      | inl a ↦ conflicting_more conflicting x y
          (st.conflicting_why y a)
      | inr a ↦ conflicting_more conflicting x y (rw a reason)
    ];
    passed_first = λ y z i j. elim (in_with_last conflicting x z j) [ inl a ↦ st.passed_first y z i a | inr a ↦ rw a (st.passed_rest y x i (inl refl)) ];
    passed_rest = λ y z i j. st.passed_rest y z i (inr j);
    conflicting_rest = λ y z i j. elim (in_with_last conflicting x y i) [ inl a ↦ st.conflicting_rest y z a (inr j) | inr a ↦ rw a (st.rest_rising.0 z j) ];
    rest_rising = st.rest_rising.1;
    cover = λ z i low. elim (st.cover z i low) [
      | inl a ↦ inl a
      | inr (inl a) ↦ inr (inl (in_left_part z conflicting (x ∷ []) a))
      | inr (inr (inl a)) ↦ inr (inl (in_right_part z conflicting (x ∷ []) (inl a)))
      | inr (inr (inr a)) ↦ inr (inr a)
    ];
  }

  -- what comes to stand before o is before it, and what comes to stand behind o is behind it
  abbrev pub AreOnSides : List Id × List Id → Type 0
  AreOnSides parts = ((y : Id) → IsIn y parts.0 → l.pos y < l.pos o) × ((y : Id) → IsIn y parts.1 → l.pos o < l.pos y)

  pub walk_places : (rest passed conflicting : List Id) → State passed conflicting rest → AreOnSides (walk left right o passed conflicting rest)
  walk_places [] passed conflicting st = (st.passed_before, settles passed conflicting [] st (λ z i. absurd i))
  walk_places (x ∷ xs) passed conflicting st = elim (judged passed conflicting xs x st) [
    | inl e ↦ subst AreOnSides (sym (walk-stops left right o passed conflicting xs x e.0)) (
      st.passed_before,
      λ y i. elim (in_parts y conflicting (x ∷ xs) i) [
        | inl a ↦ settles passed conflicting (x ∷ xs) st (later e.1) y a
        | inr a ↦ later e.1 y a
      ],
    )
    | inr (inl e) ↦ subst AreOnSides (sym (walk-moves left right o passed conflicting xs x e.0))
        (walk_places xs (passed ++ conflicting ++ x ∷ []) [] (moved_on passed conflicting xs x st e.1))
    | inr (inr e) ↦ subst AreOnSides (sym (walk-stays left right o passed conflicting xs x e.0))
        (walk_places xs passed (conflicting ++ x ∷ []) (stayed_on passed conflicting xs x st e.1 e.2))
  ]
    where
      later : l.pos o < l.pos x → (z : Id) → IsIn z (x ∷ xs) → l.pos o < l.pos z
      later lt z (inl a) = rw a lt
      later lt z (inr a) = omega (arith, st.rest_rising.0 z a)
