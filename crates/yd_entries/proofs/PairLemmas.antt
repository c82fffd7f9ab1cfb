-- A pair that a cut parts: it is made an entry of its own, torn, and split.
use Rattle.std.proofs.Common.{◌≡◌, ℕ, zero, suc, ◌+◌, ◌-◌, ◌<◌, false, List, [], ◌∷◌, length, take, drop, map, Some, ◌⊎◌, inl, inr, refl, sym, ap, ◌∙◌, subst, arith}
use Rattle.std.specs.Prelude.{slice_get, slice_index}
use Rattle.yd_words.specs.Each.{Each}
use Rattle.yd_words.proofs.MemberLemmas.{each_in}
use Rattle.yd_words.proofs.OptionLemmas.{some_is}
use Rattle.yd_words.proofs.TestLemmas.{split}
use Rattle.yd_ids.specs.declared.id.Id.{Id}
use Rattle.yd_units.specs.Half.{IsHigh, IsLow}
use Rattle.yd_ops.specs.declared.runs.Run.{Run}
use Rattle.yd_ops.specs.Operation.{UnitContent, text_unit, units_of_content, later_id}
use Rattle.yd_ops.specs.Value.{ContentValue, json, binary, string, embed, nested, any, deleted, format}
use Rattle.yd_ops.specs.View.{content_value}
use Rattle.yd_ops.proofs.OperationLemmas.{later_later}
use Rattle.yd_entries.specs.declared.entry.Entry.{Entry}
use Rattle.yd_entries.specs.Entries.{PartsPair, operations_in, IsTakenOf, AreInOrder}
use Rattle.yd_entries.specs.Lowering.{IsBeside}
use Rattle.yd_entries.specs.Splitting.{IsSplittable, front_of, back_told, split_in, split_behind, place_behind, PartsPairOf, KeepsTwo}
use Rattle.yd_entries.specs.Staying.{KeepsPlaces}
use Rattle.yd_entries.proofs.ChangeLemmas.{entry_got}
use Rattle.yd_entries.proofs.OwnLemmas.{told_of}
use Rattle.yd_entries.proofs.SplitLemmas.{split_order, split_others, split_operations, split_taken, split_first, split_second}
use Rattle.yd_entries.proofs.StayingLemmas.{stays_none, stays_more, stays_split}
use Rattle.yd_entries.proofs.TakenLemmas.{grow_none}
use Rattle.yd_entries.proofs.UnitLemmas.{later_same}

-- ---- cuts

-- no two cuts in a row part a pair
pub no_two_cuts : (content : ContentValue) (k m : ℕ) → PartsPair content k → PartsPair content m → m ≡ k + 1 → ⊥
no_two_cuts (json values) k m cut next e = cut
no_two_cuts (binary blob) k m cut next e = cut
no_two_cuts (string units) k m cut next e =
    let same : m - 1 ≡ k = omega (arith, e) in
    absurd (omega (arith, cut.low.0, (subst (λ i. IsHigh (slice_index units i)) same next.high).1))
no_two_cuts (embed t) k m cut next e = cut
no_two_cuts (format key t) k m cut next e = cut
no_two_cuts (nested kind) k m cut next e = cut
no_two_cuts (any ts) k m cut next e = cut
no_two_cuts (deleted count) k m cut next e = cut

-- the two units that a cut parts
two_units : (units : List ℕ) (k : ℕ) → suc k < length units → take 2 (drop k (map text_unit units)) ≡ text_unit (slice_index units k) ∷ text_unit (slice_index units (suc k)) ∷ []
two_units [] k lt = absurd (omega arith)
two_units (a ∷ []) zero lt = absurd (omega arith)
two_units (a ∷ b ∷ us) zero lt = refl
two_units (a ∷ us) (suc k) lt = two_units us k (omega arith)

pub record HasHalves (units : List UnitContent) : Type 0 where
  pub first : ℕ
  pub second : ℕ
  pub are : units ≡ text_unit first ∷ text_unit second ∷ []
  pub is_high : IsHigh first
  pub is_low : IsLow second

pub two_halves : (content : ContentValue) (k m : ℕ) → PartsPair content m → m ≡ k + 1 → HasHalves (take 2 (drop k (units_of_content content)))
two_halves (json values) k m cut e = absurd cut
two_halves (binary blob) k m cut e = absurd cut
two_halves (string units) k m cut e =
    let before : m - 1 ≡ k = omega (arith, e) in
    let here : m ≡ suc k = omega (arith, e) in
    record {
      first = slice_index units k;
      second = slice_index units (suc k);
      are = two_units units k (omega (arith, e, cut.inside.1));
      is_high = subst (λ i. IsHigh (slice_index units i)) before cut.high;
      is_low = subst (λ i. IsLow (slice_index units i)) here cut.low;
    }
two_halves (embed t) k m cut e = absurd cut
two_halves (format key t) k m cut e = absurd cut
two_halves (nested kind) k m cut e = absurd cut
two_halves (any ts) k m cut e = absurd cut
two_halves (deleted count) k m cut e = absurd cut

-- ---- an entry that can be split

pub splittable : (runs : List Run) (t : Entry) (n : ℕ) → IsTakenOf runs t → 0 < n → n < t.len → IsSplittable t n
splittable runs t n is some fewer = record { some = some; fewer = fewer; end = is.end; fits = λ e. (told_of runs t is e).fits }

-- where a cut parts a pair, none beside it does
beside_whole : (runs : List Run) (t : Entry) (k m : ℕ) → PartsPairOf runs t k → PartsPairOf runs t m → (m ≡ k + 1) ⊎ (k ≡ m + 1) → ⊥
beside_whole runs t k m (e, (run, there, cut)) (f, (other, also, next)) side =
    let same : other ≡ run = some_is other run (sym also ∙ there) in
    elim side [
      | inl one ↦ no_two_cuts (content_value run.content) (t.offset + k) (t.offset + m) cut (subst (λ (r : Run). PartsPair (content_value r.content) (t.offset + m)) same next) (omega (arith, one))
      | inr one ↦ no_two_cuts (content_value run.content) (t.offset + m) (t.offset + k) (subst (λ (r : Run). PartsPair (content_value r.content) (t.offset + m)) same next) cut (omega (arith, one))
    ]

-- ---- one step after another

-- the same units are there, and a pair that is to be parted stands at the front of an entry
pub record IsFront (runs : List Run) (old ts : List Entry) (p : ℕ) (x : Id) : Type 0 where
  pub entry : Entry
  pub there : slice_get ts p ≡ Some entry
  pub same : operations_in runs ts ≡ operations_in runs old
  pub each : Each (IsTakenOf runs) ts
  pub in_order : AreInOrder ts
  pub others : (y : Id) → Each (IsBeside y) old → Each (IsBeside y) ts
  pub places : KeepsPlaces runs old runs ts
  pub behind : x ≡ later_id entry.id 1
  pub parts : PartsPairOf runs entry 1
  pub more : 1 < entry.len

module _ (runs : List Run) (ts : List Entry) (at : ℕ) (t : Entry) (there : slice_get ts at ≡ Some t) (each : Each (IsTakenOf runs) ts) (order : AreInOrder ts) where
  is : IsTakenOf runs t
  is = each_in (IsTakenOf runs) ts each t (entry_got ts at t there)

  pub to_front : (n : ℕ) → 0 < n → n < t.len → PartsPairOf runs t n → IsFront runs ts (split_behind at (n - 1) ts) (place_behind at (n - 1)) (later_id t.id n)
  to_front zero some fewer parts = absurd (omega arith)
  to_front (suc zero) some fewer parts = record {
    entry = t;
    there = there;
    same = refl;
    each = each;
    in_order = order;
    others = λ y e. e;
    places = stays_none runs ts;
    behind = refl;
    parts = parts;
    more = fewer;
  }
  to_front (suc (suc m)) some fewer parts = subst (λ k. IsFront runs ts (split_behind at k ts) (place_behind at k) (later_id t.id (suc (suc m)))) less (record {
    entry = back_told false t (suc m);
    there = ap (λ k. slice_get (split_in at (suc m) ts) k) next ∙ split_second ts at (suc m) t there ∙ ap Some (ap (λ b. back_told b t (suc m)) parts.0);
    same = split_operations t (suc m) can runs is ts at there;
    each = split_taken t (suc m) can runs is (λ whole. beside_whole runs t (suc m) (suc (suc m)) whole parts (inl (omega arith))) ts at there each;
    in_order = split_order t (suc m) can ts at there order;
    others = λ y e. split_others t (suc m) can y ts at there e;
    places = stays_split t (suc m) can runs is ts at there;
    behind = later_same t.id (suc (suc m)) (suc m + 1) (omega arith) ∙ sym (later_later t.id (suc m) 1);
    parts = (parts.0, (parts.1.0, parts.1.1, subst (PartsPair (content_value parts.1.0.content)) sum parts.1.2));
    more = omega (arith, fewer);
  })
    where
      can : IsSplittable t (suc m)
      can = splittable runs t (suc m) is (omega arith) (omega (arith, fewer))

      next : at + 1 ≡ suc at
      next = omega arith

      less : suc m ≡ suc (suc m) - 1
      less = omega arith

      sum : t.offset + suc (suc m) ≡ t.offset + suc m + 1
      sum = omega arith

-- the pair alone, which is an entry of its own
pub front_alone : (runs : List Run) (old ts kept : List Entry) (p : ℕ) (x : Id) → IsFront runs old ts p x → KeepsTwo ts kept p →
    (front : IsFront runs old kept p x) × (front.entry.len ≡ 2)
front_alone runs old ts kept p x front keeps = elim (split front.entry.len 2) [
  | inl few ↦ let same : kept ≡ ts = keeps.no_more front.entry front.there few in
      subst (λ us. (f : IsFront runs old us p x) × (f.entry.len ≡ 2)) (sym same) (front, omega (arith, few, front.more))
  | inr many ↦ let same : kept ≡ split_in p 2 ts = keeps.more front.entry front.there many in
      subst (λ us. (f : IsFront runs old us p x) × (f.entry.len ≡ 2)) (sym same) (alone many, refl)
]
  where
    is : IsTakenOf runs front.entry
    is = each_in (IsTakenOf runs) ts front.each front.entry (entry_got ts p front.entry front.there)

    alone : 2 < front.entry.len → IsFront runs old (split_in p 2 ts) p x
    alone many = record {
      entry = front_of front.entry 2;
      there = split_first ts p 2 front.entry front.there;
      same = split_operations front.entry 2 (can many) runs is ts p front.there ∙ front.same;
      each = split_taken front.entry 2 (can many) runs is (λ whole. beside_whole runs front.entry 1 2 front.parts whole (inl refl)) ts p front.there front.each;
      in_order = split_order front.entry 2 (can many) ts p front.there front.in_order;
      others = λ y e. split_others front.entry 2 (can many) y ts p front.there (front.others y e);
      places = stays_more runs runs runs old ts (split_in p 2 ts) (grow_none runs) front.places (stays_split front.entry 2 (can many) runs is ts p front.there);
      behind = front.behind;
      parts = front.parts;
      more = omega arith;
    }
      where
        can : 2 < front.entry.len → IsSplittable front.entry 2
        can many = splittable runs front.entry 2 is (omega arith) many
