-- A run whose text became longer: the entries of it tell what they told.
use Rattle.std.proofs.Common.{◌≡◌, ℕ, zero, suc, ◌+◌, ◌-◌, ◌<◌, ◌≤◌, Bool, true, false, List, [], ◌∷◌, ◌++◌, nat_eq, length, get_or, take, drop, set, map, Option, Some, refl, sym, ap, ap₂, ◌∙◌, subst, arith, tests, length-append}
use Rattle.std.specs.Bool.{OnTrue}
use Rattle.std.specs.Prelude.{slice_get, IfSome}
use Rattle.std.proofs.lemmas.Bool.{OnTrue_from}
use Rattle.std.proofs.lemmas.Option.{slice_get_read}
use Rattle.std.proofs.lemmas.List.{length-map, map-append, length-set, get_or_append_left}
use Rattle.yd_words.proofs.OptionLemmas.{some_is}
use Rattle.yd_ids.specs.declared.id.Client.{Client}
use Rattle.yd_units.specs.Half.{IsHigh, IsCut}
use Rattle.yd_ops.specs.declared.runs.Run.{Run}
use Rattle.yd_ops.specs.declared.contents.Content.{Content}
use Rattle.yd_ops.specs.Operation.{text_unit, operations_from}
use Rattle.yd_ops.specs.Value.{string, len_of}
use Rattle.yd_ops.specs.Valid.{CarriesList, IsValidContent}
use Rattle.yd_ops.specs.View.{content_value}
use Rattle.yd_ops.proofs.OperationLemmas.{length-units_of_content}
use Rattle.yd_ops.proofs.PartLemmas.{joined-valid}
use Rattle.yd_entries.specs.declared.entry.Entry.{Entry}
use Rattle.yd_entries.specs.Entries.{units_of, list_at, carried_of, PartsPair, operations_told, operations_of_taken, TellsRight, IsTakenOf}
use Rattle.yd_entries.specs.Joining.{EndsRun, with_text, AppendsText, MovesText}
use Rattle.yd_entries.proofs.TakenLemmas.{slice_get-append}

-- of the run at a place all stays, but more may be told behind its end
pub record IsLonger (old new : Option Run) : Type 0 where
  pub more : length (units_of old) ≤ length (units_of new)
  pub units : (n count : ℕ) → n + count ≤ length (units_of old) → take count (drop n (units_of new)) ≡ take count (drop n (units_of old))
  pub list : (n : ℕ) → list_at new n ≡ list_at old n
  pub client : (client : Client) → IfSome old (λ (run : Run). run.id.client ≡ client) → IfSome new (λ (run : Run). run.id.client ≡ client)
  pub content : IfSome old (λ (run : Run). IsValidContent (content_value run.content)) → IfSome new (λ (run : Run). IsValidContent (content_value run.content))
  pub whole : (n : ℕ) → n ≤ length (units_of old) → IfSome old (λ (run : Run). PartsPair (content_value run.content) n → ⊥) →
      IfSome new (λ (run : Run). PartsPair (content_value run.content) n → ⊥)

same_longer : (run : Option Run) → IsLonger run run
same_longer run = record {
  more = omega arith;
  units = λ n count le. refl;
  list = λ n. refl;
  client = λ client is. is;
  content = λ valid. valid;
  whole = λ n le whole. whole;
}

-- ---- a longer text

part_of_first : {X : Type 0} (n count : ℕ) (xs ys : List X) → n + count ≤ length xs → take count (drop n (xs ++ ys)) ≡ take count (drop n xs)
part_of_first zero zero xs ys le = refl
part_of_first zero (suc count) [] ys le = absurd (omega arith)
part_of_first zero (suc count) (x ∷ xs) ys le = ap (λ zs. x ∷ zs) (part_of_first zero count xs ys (omega arith))
part_of_first (suc n) count [] ys le = absurd (omega arith)
part_of_first (suc n) count (x ∷ xs) ys le = part_of_first n count xs ys (omega arith)

-- whole units have no cut at their end, whatever comes behind
uncut : (units more : List ℕ) (n : ℕ) → IsValidContent (string units) → n ≤ length units → (IsCut units n → ⊥) → IsCut (units ++ more) n → ⊥
uncut units more n valid le none cut = none (subst (IsCut units) before (valid.1.highs (n - 1) (subst IsHigh (get_or_append_left units more 0 (n - 1) (omega (arith, cut.inside.0, le))) cut.high)))
  where
    before : n - 1 + 1 ≡ n
    before = omega (arith, cut.inside.0)

text_longer : (run : Run) (units more : List ℕ) → IsValidContent (string units) → IsValidContent (string more) →
    IsLonger (Some (with_text run units)) (Some (with_text run (units ++ more)))
text_longer run units more valid also = record {
  more = omega (arith, length-map units text_unit, length-map (units ++ more) text_unit, length-append units more);
  units = λ n count le. ap (λ us. take count (drop n us)) (map-append text_unit units more) ∙ part_of_first n count (map text_unit units) (map text_unit more) le;
  list = list;
  client = λ client is. is;
  content = λ valid. joined-valid (string units) (string more) refl valid also;
  whole = λ n le none. uncut units more n valid (omega (arith, le, length-map units text_unit)) none;
}
  where
    list : (n : ℕ) → list_at (Some (with_text run (units ++ more))) n ≡ list_at (Some (with_text run units)) n
    list zero = refl
    list (suc n) = refl

pub run_longer : (run last longer : Run) → AppendsText run last longer → IsValidContent (content_value run.content) → IsValidContent (content_value last.content) →
    IsLonger (Some run) (Some longer)
run_longer run last longer appends valid also =
    subst (λ r. IsLonger (Some run) (Some r)) (sym appends.appended)
    (subst (λ r. IsLonger (Some r) (Some (with_text run (appends.units ++ appends.more)))) (sym is_text)
    (text_longer run appends.units appends.more (subst (λ c. IsValidContent (content_value c)) appends.text valid) (subst (λ c. IsValidContent (content_value c)) appends.other_text also)))
  where
    is_text : run ≡ with_text run appends.units
    is_text = ap (λ (c : Content). record { id = run.id; left = run.left; right = run.right; list = run.list; content = c }) appends.text

-- ---- in a list

set_longer : (runs : List Run) (to i : ℕ) (run longer : Run) → slice_get runs to ≡ Some run → IsLonger (Some run) (Some longer) →
    IsLonger (slice_get runs i) (slice_get (set runs to longer) i)
set_longer [] to i run longer e is = absurd cc
set_longer (r ∷ rs) zero zero run longer e is = subst (λ s. IsLonger (Some s) (Some longer)) (sym (some_is r run e)) is
set_longer (r ∷ rs) zero (suc i) run longer e is = same_longer (slice_get rs i)
set_longer (r ∷ rs) (suc to) zero run longer e is = same_longer (Some r)
set_longer (r ∷ rs) (suc to) (suc i) run longer e is = set_longer rs to i run longer e is

module _ (old new : List Run) (to : ℕ) (moves : MovesText old new to) where
  pub runs_fewer : suc (length new) ≡ length old
  runs_fewer = omega (arith, ap length moves.moved, length-set moves.others to moves.longer, ap length moves.was, length-append moves.others (moves.last ∷ []))

  pub run_stays : (i : ℕ) → suc i < length old → slice_get old i ≡ slice_get moves.others i
  run_stays i lt = ap (λ runs. slice_get runs i) moves.was
      ∙ slice_get-append moves.others (moves.last ∷ []) i (omega (arith, lt, ap length moves.was, length-append moves.others (moves.last ∷ [])))

  pub moves_longer : IsLonger (Some moves.run) (Some moves.longer) → (i : ℕ) → suc i < length old → IsLonger (slice_get old i) (slice_get new i)
  moves_longer is i lt = subst (λ r. IsLonger r (slice_get new i)) (sym (run_stays i lt))
      (subst (λ runs. IsLonger (slice_get moves.others i) (slice_get runs i)) (sym moves.moved) (set_longer moves.others to i moves.run moves.longer moves.there is))

-- ---- an entry of such a run

module _ (old new : List Run) (t : Entry) (is : IsTakenOf old t) (longer : IsLonger (slice_get old t.run) (slice_get new t.run)) where
  pub longer_operations : operations_of_taken new t ≡ operations_of_taken old t
  longer_operations = go t.is_gone is.told
    where
      go : (gone : Bool) → TellsRight gone old t → operations_told gone new t ≡ operations_told gone old t
      go true told = refl
      go false told = ap₂ (λ list units. operations_from t.id t.left t.right list units) (longer.list t.offset) (longer.units t.offset t.len told.within)

  pub longer_carried : carried_of new t ≡ carried_of old t
  longer_carried = go t.is_gone refl
    where
      go : (gone : Bool) → t.is_gone ≡ gone → carried_of new t ≡ carried_of old t
      go true e = rw e refl
      go false e = rw e (longer.list t.offset)

  pub longer_taken : t.run < length new → IsTakenOf new t
  longer_taken there = record {
    run_there = there;
    client = longer.client t.id.client is.client;
    has_units = is.has_units;
    id = is.id;
    end = is.end;
    left = is.left;
    right = is.right;
    told = go t.is_gone is.told;
  }
    where
      go : (gone : Bool) → TellsRight gone old t → TellsRight gone new t
      go true told = record { left = told.left; right = told.right }
      go false told = record {
        within = omega (arith, told.within, longer.more);
        fits = told.fits;
        list = subst (CarriesList t.left t.right) (sym (longer.list t.offset)) told.list;
        content = longer.content told.content;
        begins_whole = longer.whole t.offset (omega (arith, told.within)) told.begins_whole;
        ends_whole = longer.whole (t.offset + t.len) told.within told.ends_whole;
      }

-- ---- an entry that ends its run

pub ends_its_run : (runs : List Run) (t : Entry) (run : Run) (size : ℕ) → t.run < length runs → run ≡ get_or runs t.run run → size ≡ len_of (content_value run.content) →
    OnTrue (nat_eq (t.offset + t.len) size) (EndsRun runs t)
ends_its_run runs t run size inside is long = OnTrue_from (nat_eq (t.offset + t.len) size) (EndsRun runs t) (λ e.
    equal e ∙ long ∙ sym (length-units_of_content (content_value run.content)) ∙ ap (λ z. length (units_of z)) (sym (slice_get_read runs (length runs) t.run run refl inside is)))
  where
    equal : nat_eq (t.offset + t.len) size ≡ true → t.offset + t.len ≡ size
    equal e = grind (arith, tests)
