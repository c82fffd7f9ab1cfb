-- A stretch cut in two, and pieces that are put behind others.
use Rattle.std.proofs.Common.{◌≡◌, ℕ, zero, suc, ◌+◌, ◌-◌, ◌<◌, List, [], ◌∷◌, ◌++◌, inl, inr, Some, Option, refl, sym, ap, ap₂, ◌∙◌, subst, append_assoc, arith, tests, true, false, nat_lt}
use Rattle.std.specs.Prelude.{if◌then◌else◌}
use Rattle.yd_words.specs.Member.{IsIn}
use Rattle.yd_words.proofs.EachLemmas.{each_append}
use Rattle.yd_words.proofs.MemberLemmas.{each_in, in_with_last}
use Rattle.yd_ids.specs.declared.id.Id.{Id}
use Rattle.yd_ops.specs.Operation.{later_id}
use Rattle.yd_ops.proofs.OperationLemmas.{later_none}
use Rattle.yd_origins.specs.Table.{OriginTable}
use Rattle.yd_order.specs.Stretch.{EndsAtClock, rows_from, rows_of_stretch, rows_of_stretches}
use Rattle.yd_order.specs.declared.stretch.Stretch.{Stretch}
use Rattle.yd_firsts.specs.Firsts.{HaveStarts}
use Rattle.yd_firsts.specs.Pieces.{HasUnits, firsts_of, ArePiecesOf, CutsOff, PutsPieces, rest_behind, with_rest}
use Rattle.yd_firsts.proofs.PieceLemmas.{later_one, first_piece}

-- ---- one stretch in two

rows_cut : (a : ℕ) (id : Id) (left right : Option Id) (n b : ℕ) → n ≡ suc a + b →
    rows_from id left right (suc a) ++ rows_from (later_id id (suc a)) (Some (later_id id a)) right b ≡ rows_from id left right n
rows_cut zero id left right n b e = ap (λ (x : Id). record { id = id; left = left; right = right } ∷ rows_from (later_id id 1) (Some x) right b) (later_none id)
    ∙ ap (rows_from id left right) {x = suc b} {y = n} (omega (arith, e))
rows_cut (suc a) id left right n b e =
    ap₂ (λ (x y : Id). record { id = id; left = left; right = right } ∷ (rows_from (later_id id 1) (Some id) right (suc a) ++ rows_from x (Some y) right b))
    (sym (later_one id (suc a))) (sym (later_one id a))
    ∙ ap (λ (rows : OriginTable). record { id = id; left = left; right = right } ∷ rows) (rows_cut a (later_id id 1) (Some id) right (suc a + b) b refl)
    ∙ ap (rows_from id left right) {x = suc (suc a + b)} {y = n} (omega (arith, e))

-- the front of a stretch
abbrev pub front_of : Stretch → ℕ → Stretch
front_of s count = record { id = s.id; len = count; left = s.left; right = s.right }

cut_rows : (s : Stretch) (count : ℕ) → 0 < count → count < s.len → rows_of_stretch (front_of s count) ++ rows_of_stretch (rest_behind s count) ≡ rows_of_stretch s
cut_rows s zero some lt = absurd (omega (arith, some))
cut_rows s (suc a) some lt = ap (λ (m : ℕ). rows_from s.id s.left s.right (suc a) ++ rows_from (later_id s.id (suc a)) (Some (later_id s.id m)) s.right (s.len - suc a))
    {x = suc a - 1} {y = a} (omega arith)
    ∙ rows_cut a s.id s.left s.right s.len (s.len - suc a) (omega (arith, lt))

-- ---- behind others

pub rows_push : (old : List Stretch) (s : Stretch) → rows_of_stretches (old ++ s ∷ []) ≡ rows_of_stretches old ++ rows_of_stretch s
rows_push [] s = none (rows_of_stretch s)
  where
    none : (rows : OriginTable) → rows ++ [] ≡ rows
    none [] = refl
    none (row ∷ rows) = ap (λ (rs : OriginTable). row ∷ rs) (none rows)
rows_push (p ∷ ps) s = ap (λ (rows : OriginTable). rows_of_stretch p ++ rows) (rows_push ps s)
    ∙ sym (append_assoc (rows_of_stretch p) (rows_of_stretches ps) (rows_of_stretch s))

firsts_push : (old : List Stretch) (s : Stretch) (x : Id) → IsIn x (firsts_of old) → IsIn x (firsts_of (old ++ s ∷ []))
firsts_push [] s x i = absurd i
firsts_push (p ∷ ps) s x (inl e) = inl e
firsts_push (p ∷ ps) s x (inr i) = inr (firsts_push ps s x i)

first_pushed : (old : List Stretch) (s : Stretch) → IsIn s.id (firsts_of (old ++ s ∷ []))
first_pushed [] s = inl refl
first_pushed (p ∷ ps) s = inr (first_pushed ps s)

pub cuts_none : (old : List Stretch) (all : Stretch) → CutsOff old old all all
cuts_none old all = record { rows = refl; clocks = λ e f. e; end = λ e. e; units = λ u. u; kept = λ x i. i; start = inl refl }

pub cuts_front : (old new : List Stretch) (all : Stretch) (count : ℕ) → 0 < count → count < all.len → new ≡ old ++ front_of all count ∷ [] →
    CutsOff old new all (rest_behind all count)
cuts_front old new all count some lt e = subst (λ (ps : List Stretch). CutsOff old ps all (rest_behind all count)) (sym e) (record {
  rows = ap (λ (rows : OriginTable). rows ++ rows_of_stretch (rest_behind all count)) (rows_push old (front_of all count))
      ∙ append_assoc (rows_of_stretches old) (rows_of_stretch (front_of all count)) (rows_of_stretch (rest_behind all count))
      ∙ ap (λ (rows : OriginTable). rows_of_stretches old ++ rows) (cut_rows all count some lt);
  clocks = λ c f. each_append EndsAtClock old (front_of all count ∷ []) c (omega (arith, f, lt), tt);
  end = λ f. omega (arith, f, lt);
  units = λ u. each_append HasUnits old (front_of all count ∷ []) u (some, tt);
  kept = firsts_push old (front_of all count);
  start = inr (first_pushed old (front_of all count));
})

pub cuts_both : (a b c : List Stretch) (all rest last : Stretch) → CutsOff a b all rest → CutsOff b c rest last → CutsOff a c all last
cuts_both a b c all rest last f g = record {
  rows = g.rows ∙ f.rows;
  clocks = λ e end. g.clocks (f.clocks e end) (f.end end);
  end = λ e. g.end (f.end e);
  units = λ u. g.units (f.units u);
  kept = λ x i. g.kept x (f.kept x i);
  start = elim f.start [
    | inl e ↦ elim g.start [ inl h ↦ inl (h ∙ e) | inr i ↦ inr (subst (λ (s : Stretch). IsIn s.id (firsts_of c)) e i) ]
    | inr i ↦ inr (g.kept all.id i)
  ];
}

-- the rest, too, is put behind
pub puts_rest : (old now : List Stretch) (all rest : Stretch) → CutsOff old now all rest → EndsAtClock all → PutsPieces old (with_rest now rest) all
puts_rest old now all rest f end = go rest.len refl
  where
    go : (n : ℕ) → rest.len ≡ n → PutsPieces old (with_rest now rest) all
    go zero e = subst (λ (ps : List Stretch). PutsPieces old ps all) (sym none) (record {
      rows = sym (no_rows (rows_of_stretches now)) ∙ sym (ap (λ (n : ℕ). rows_of_stretches now ++ rows_from rest.id rest.left rest.right n) e) ∙ f.rows;
      clocks = λ c. f.clocks c end;
      units = f.units;
      kept = f.kept;
      start = λ some. elim f.start [ inl one ↦ absurd (omega (arith, some, e, ap (λ (s : Stretch). s.len) one)) | inr i ↦ i ];
    })
      where
        none : with_rest now rest ≡ now
        none = ap (λ b. if b then now ++ rest ∷ [] else now) (test rest.len e)
          where
            test : (m : ℕ) → m ≡ 0 → nat_lt 0 m ≡ false
            test m is = grind (arith, tests)

        no_rows : (rows : OriginTable) → rows ++ [] ≡ rows
        no_rows [] = refl
        no_rows (row ∷ rows) = ap (λ (rs : OriginTable). row ∷ rs) (no_rows rows)
    go (suc n) e = subst (λ (ps : List Stretch). PutsPieces old ps all) (sym some) (record {
      rows = rows_push now rest ∙ f.rows;
      clocks = λ c. each_append EndsAtClock now (rest ∷ []) (f.clocks c end) (f.end end, tt);
      units = λ u. each_append HasUnits now (rest ∷ []) (f.units u) (omega (arith, e), tt);
      kept = λ x i. firsts_push now rest x (f.kept x i);
      start = λ some. elim f.start [
        | inl one ↦ subst (λ (s : Stretch). IsIn s.id (firsts_of (now ++ rest ∷ []))) one (first_pushed now rest)
        | inr i ↦ firsts_push now rest all.id i
      ];
    })
      where
        some : with_rest now rest ≡ now ++ rest ∷ []
        some = ap (λ b. if b then now ++ rest ∷ [] else now) (test rest.len e)
          where
            test : (m : ℕ) → m ≡ suc n → nat_lt 0 m ≡ true
            test m is = grind (arith, tests)

-- ---- all stretches

pub pieces_none : ArePiecesOf [] []
pieces_none = record { rows = refl; clocks = tt; units = tt; starts = λ s i. absurd i }

pub pieces_more : (old new seen more : List Stretch) (stretch : Stretch) → ArePiecesOf old seen → PutsPieces old new stretch → more ≡ seen ++ stretch ∷ [] →
    ArePiecesOf new more
pieces_more old new seen more stretch are puts e = subst (ArePiecesOf new) (sym e) (record {
  rows = puts.rows ∙ ap (λ (rows : OriginTable). rows ++ rows_of_stretch stretch) are.rows ∙ sym (rows_push seen stretch);
  clocks = puts.clocks are.clocks;
  units = puts.units are.units;
  starts = λ s i some. elim (in_with_last seen stretch s i) [
    | inl j ↦ puts.kept s.id (are.starts s j some)
    | inr one ↦ subst (λ (q : Stretch). IsIn q.id (firsts_of new)) (sym one) (puts.start (subst (λ (q : Stretch). 0 < q.len) one some))
  ];
})

-- what each piece begins with, each stretch begins with
pub starts_through : (pieces stretches : List Stretch) (ids : List Id) → ArePiecesOf pieces stretches → HaveStarts pieces ids → HaveStarts stretches ids
starts_through pieces stretches ids are starts s i some = let (q, j, e) = first_piece pieces s.id (are.starts s i some) in
    subst (λ (x : Id). IsIn x ids) e (starts q j (each_in HasUnits pieces are.units q j))
