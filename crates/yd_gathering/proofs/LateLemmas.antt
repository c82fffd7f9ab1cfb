-- What is put off stands for what was taken, at each step, and is read again.
use Rattle.std.proofs.Common.{◌≡◌, ◌∙◌, ℕ, ◌+◌, ◌-◌, ◌<◌, ◌≤◌, List, [], ◌∷◌, ◌++◌, map, take, drop, length, get_or, Ok, Err, refl, sym, ap, ap₂, subst, arith}
use Rattle.std.specs.Prelude.{None, slice_range}
use Rattle.std.proofs.Math.Seq.{drop-append_seam}
use Rattle.std.proofs.lemmas.List.{drop-append-le, length-append, length-drop, map-append, take-append-le, take_all, take_more}
use Rattle.yd_words.specs.Each.{Each}
use Rattle.yd_words.proofs.EachLemmas.{each_append}
use Rattle.yd_ops.specs.Valid.{IsValidUpdate}
use Rattle.yd_ops.specs.Value.{UpdateValue}
use Rattle.yd_parts.specs.Fault.{Fault, IsFaultOf}
use Rattle.yd_parts.specs.declared.fault.ReadError.{ReadError}
use Rattle.yd_parts.specs.declared.fault.ReadError.TheVariants as errors
use Rattle.yd_fields.specs.UpdatePlan.{update_plan}
use Rattle.yd_v1.specs.Grammar.{StandsForV1}
use Rattle.yd_v1.specs.Log.{TakesMore, TakesV1}
use Rattle.yd_v1.specs.Reading.{v1_reading}
use Rattle.yd_v1.proofs.FileLemmas.{fills_whole}
use Rattle.yd_gathering.specs.Late.{HasLate, IsBodyAt, IsWant, KeepsBody, body_at, update_at, update_or_none}
use Rattle.yd_gathering.specs.Row.{HasRow}
use Rattle.yd_gathering.specs.declared.late.Late.{Late}
use Rattle.yd_gathering.specs.declared.late.Place.{Place}
use Rattle.yd_gathering.specs.declared.row.Row.{Row}

-- ---- slices

-- what lies within bytes stays where more are appended
slice_stays : (xs ys : List ℕ) (from to : ℕ) → from ≤ to → to ≤ length xs → slice_range (xs ++ ys) from to ≡ slice_range xs from to
slice_stays xs ys from to le within = ap (λ zs. take (to - from) zs) (drop-append-le from xs ys (omega (arith, le, within)))
    ∙ take-append-le (to - from) (drop from xs) ys (omega (arith, le, within, length-drop from xs))

-- and those lie behind
slice_behind : (xs ys : List ℕ) → slice_range (xs ++ ys) (length xs) (length (xs ++ ys)) ≡ ys
slice_behind xs ys = ap (λ zs. take (length (xs ++ ys) - length xs) zs) (drop-append_seam xs ys)
    ∙ take_all (length (xs ++ ys) - length xs) ys (omega (arith, length-append xs ys))

-- ---- bodies

body_stays : (bytes more : List ℕ) (place : Place) → IsBodyAt bytes place → body_at (bytes ++ more) place ≡ body_at bytes place
body_stays bytes more place is = slice_stays bytes more place.from place.to is.within.0 is.within.1

update_stays : (bytes more : List ℕ) (place : Place) → IsBodyAt bytes place → update_at (bytes ++ more) place ≡ update_at bytes place
unfolding update_at
update_stays bytes more place is = ap (λ body. update_or_none (v1_reading body)) (body_stays bytes more place is)

is_body_still : (bytes more : List ℕ) (place : Place) → IsBodyAt bytes place → IsBodyAt (bytes ++ more) place
is_body_still bytes more place is = record {
  within = (is.within.0, omega (arith, is.within.1, length-append bytes more));
  read = ap v1_reading (body_stays bytes more place is) ∙ is.read ∙ ap Ok (sym (update_stays bytes more place is));
  valid = subst IsValidUpdate (sym (update_stays bytes more place is)) is.valid;
}

bodies_still : (bytes more : List ℕ) (places : List Place) → Each (IsBodyAt bytes) places → Each (IsBodyAt (bytes ++ more)) places
bodies_still bytes more [] each = tt
bodies_still bytes more (place ∷ places) each = (is_body_still bytes more place each.0, bodies_still bytes more places each.1)

updates_still : (bytes more : List ℕ) (places : List Place) → Each (IsBodyAt bytes) places → map (update_at (bytes ++ more)) places ≡ map (update_at bytes) places
updates_still bytes more [] each = refl
updates_still bytes more (place ∷ places) each = ap₂ (λ u us. u ∷ us) (update_stays bytes more place each.0) (updates_still bytes more places each.1)

-- what is read at a place is the update there
update_is : (bytes : List ℕ) (place : Place) (body : List ℕ) (u : UpdateValue) → body_at bytes place ≡ body → v1_reading body ≡ Ok u → update_at bytes place ≡ u
unfolding update_at
update_is bytes place body u at read = ap (λ b. update_or_none (v1_reading b)) at ∙ ap update_or_none read

-- a body that is appended
body_behind : (bytes body : List ℕ) (place : Place) → place.from ≡ length bytes → place.to ≡ length (bytes ++ body) → body_at (bytes ++ body) place ≡ body
body_behind bytes body place from to = rw (from, to) (slice_behind bytes body)

is_body_behind : (bytes body : List ℕ) (place : Place) (u : UpdateValue) → place.from ≡ length bytes → place.to ≡ length (bytes ++ body) → v1_reading body ≡ Ok u → IsValidUpdate u → IsBodyAt (bytes ++ body) place
is_body_behind bytes body place u from to read valid =
    let at = body_behind bytes body place from to in
    let is = update_is (bytes ++ body) place body u at read in
    record {
      within = (omega (arith, from, to, length-append bytes body), omega (arith, to));
      read = ap v1_reading at ∙ read ∙ ap Ok (sym is);
      valid = subst IsValidUpdate (sym is) valid;
    }

-- ---- lemmas for callers

-- an update is put off
pub put_off : (old new : Late) (body : List ℕ) (u : UpdateValue) → v1_reading body ≡ Ok u → IsValidUpdate u → KeepsBody body old new → TakesV1 body (HasLate old) (HasLate new)
put_off old new body u read valid keeps =
    let front = old.bytes.items in
    let place = keeps.place in
    let to : place.to ≡ length (front ++ body) = keeps.to ∙ ap length keeps.bytes in
    record {
      update = u;
      read = read;
      valid = valid;
      taken = λ before has. record {
        bodies = rw (keeps.bytes, keeps.places) (each_append (IsBodyAt (front ++ body)) old.places.items (place ∷ []) (bodies_still front body old.places.items has.bodies)
            (is_body_behind front body place u keeps.from to read valid, tt));
        are = ap (λ us. us ++ u ∷ []) has.are ∙ sym (rw (keeps.bytes, keeps.places) (map-append (update_at (front ++ body)) old.places.items (place ∷ [])
            ∙ ap₂ (λ us v. us ++ v ∷ []) (updates_still front body old.places.items has.bodies) (update_is (front ++ body) place body u (body_behind front body place keeps.from to) read)));
      };
    }

-- and so is one that was written in V1
pub put_written : (old new : Late) (body : List ℕ) (u : UpdateValue) → StandsForV1 body u → TakesV1 body (HasLate old) (HasLate new) → TakesMore (HasLate old) (HasLate new) (u ∷ [])
put_written old new body u stands t =
    let same : update_or_none (v1_reading body) ≡ u = ap update_or_none (fills_whole (update_plan None) body u stands) in
    let read : update_or_none (v1_reading body) ≡ t.update = ap update_or_none t.read in
    subst (λ (v : UpdateValue). TakesMore (HasLate old) (HasLate new) (v ∷ [])) (sym read ∙ same) t.taken

-- where bytes stand for an update, nothing but memory can be wanting
pub only_want : (body : List ℕ) (u : UpdateValue) (error : ReadError) → v1_reading body ≡ Ok u → IsFaultOf (v1_reading body) error → IsWant error
only_want body u errors.NoMemory read fault = tt
only_want body u (errors.Fault cause spot) read fault = absurd (apart (sym read ∙ fault))
  where
    apart : {f : Fault} → Ok u ≡ Err f → ⊥
    apart e = cc

pub only_want_written : (body : List ℕ) (u : UpdateValue) (error : ReadError) → StandsForV1 body u → IsFaultOf (v1_reading body) error → IsWant error
only_want_written body u error stands = only_want body u error (fills_whole (update_plan None) body u stands)

-- so many places were gathered, and now one more
pub row_more : (bytes : List ℕ) (places : List Place) (i : ℕ) (d : Place) (old new : Row) → i < length places → HasRow old (map (update_at bytes) (take i places)) →
    TakesV1 (body_at bytes (get_or places i d)) (HasRow old) (HasRow new) → HasRow new (map (update_at bytes) (take (i + 1) places))
row_more bytes places i d old new lt has t =
    let place = get_or places i d in
    let front = map (update_at bytes) (take i places) in
    let longer : map (update_at bytes) (take (i + 1) places) ≡ front ++ update_at bytes place ∷ [] =
    ap (map (update_at bytes)) (take_more places i d lt) ∙ map-append (update_at bytes) (take i places) (place ∷ []) in
    subst (HasRow new) (ap (λ u. front ++ u ∷ []) (sym (update_is bytes place (body_at bytes place) t.update refl t.read)) ∙ sym longer) (t.taken front has)

-- the updates that are put off are valid
pub late_valid : (bytes : List ℕ) (places : List Place) → Each (IsBodyAt bytes) places → Each IsValidUpdate (map (update_at bytes) places)
late_valid bytes [] each = tt
late_valid bytes (place ∷ places) each = (each.0.valid, late_valid bytes places each.1)
