-- The two parts of an entry that is split: what they tell, and that they are taken of the runs.
use Rattle.std.proofs.Common.{◌≡◌, ℕ, zero, suc, ◌+◌, ◌-◌, ◌<◌, ◌≤◌, Bool, true, false, List, [], ◌∷◌, ◌++◌, take, drop, Option, Some, None, refl, sym, ap, ◌∙◌, subst, arith, length-drop}
use Rattle.std.specs.Prelude.{slice_get, IfSome}
use Rattle.std.proofs.lemmas.List.{take-append-drop, drop-take, take_all}
use Rattle.yd_words.proofs.OptionLemmas.{if_some_each}
use Rattle.yd_ids.specs.declared.id.Id.{Id}
use Rattle.yd_ops.specs.declared.lists.List.{List as DocList}
use Rattle.yd_ops.specs.declared.runs.Run.{Run}
use Rattle.yd_ops.specs.Operation.{UnitContent, later_id, gone_from, operations_from}
use Rattle.yd_ops.specs.Valid.{CarriesList}
use Rattle.yd_ops.specs.View.{content_value}
use Rattle.yd_ops.proofs.OperationLemmas.{later_none}
use Rattle.yd_entries.specs.declared.entry.Entry.{Entry}
use Rattle.yd_entries.specs.Entries.{units_of, list_at, PartsPair, operations_told, operations_of_taken, TellsRight, IsTakenOf}
use Rattle.yd_entries.specs.Splitting.{IsSplittable, front_of, back_told, back_of, PartsPairOf}
use Rattle.yd_entries.specs.Taking.{left_at, list_from}
use Rattle.yd_entries.proofs.UnitLemmas.{take_from, drop_from, gone_part, length-gone_from}

-- ---- parts of a list

take_less : {X : Type 0} (n len : ℕ) (xs : List X) → n ≤ len → take n (take len xs) ≡ take n xs
take_less zero len xs le = refl
take_less (suc n) zero xs le = absurd (omega arith)
take_less (suc n) (suc len) [] le = refl
take_less (suc n) (suc len) (x ∷ xs) le = ap (λ ys. x ∷ ys) (take_less n len xs (omega arith))

drop_nil : {X : Type 0} (n : ℕ) → drop {A = X} n [] ≡ []
drop_nil zero = refl
drop_nil (suc n) = refl

drop_sum : {X : Type 0} (n m : ℕ) (xs : List X) → drop m (drop n xs) ≡ drop (n + m) xs
drop_sum zero m xs = ap (λ k. drop k xs) (omega arith)
drop_sum (suc n) m [] = drop_nil m ∙ sym (drop_nil (suc n + m))
drop_sum (suc n) m (x ∷ xs) = drop_sum n m xs ∙ ap (λ k. drop k (x ∷ xs)) next
  where
    next : suc (n + m) ≡ suc n + m
    next = omega arith

drop_less : {X : Type 0} (n len : ℕ) (xs : List X) → n ≤ len → drop n (take len xs) ≡ take (len - n) (drop n xs)
drop_less n len xs le = ap (λ k. drop n (take k xs)) (omega (arith, le)) ∙ drop-take n (len - n) xs

pub list_none : (run : Option Run) (n : ℕ) → 0 < n → list_at run n ≡ None
list_none None n some = refl
list_none (Some run) zero some = absurd (omega arith)
list_none (Some run) (suc n) some = refl

from_none : (list : Option DocList) (n : ℕ) → 0 < n → list_from list n ≡ None
from_none list zero some = absurd (omega arith)
from_none list (suc n) some = refl

left_before : (id : Id) (left : Option Id) (n : ℕ) → 0 < n → left_at id left n ≡ Some (later_id id (n - 1))
left_before id left zero some = absurd (omega arith)
left_before id left (suc n) some = ap (λ k. Some (later_id id k)) same
  where
    same : n ≡ suc n - 1
    same = omega arith

-- ---- the second part, by what it tells

pub back-id : (t : Entry) (n : ℕ) → (back_of t n).id ≡ later_id t.id n
back-id t n = go t.is_gone
  where
    go : (gone : Bool) → (back_told gone t n).id ≡ later_id t.id n
    go true = refl
    go false = refl

pub back-len : (t : Entry) (n : ℕ) → (back_of t n).len ≡ t.len - n
back-len t n = go t.is_gone
  where
    go : (gone : Bool) → (back_told gone t n).len ≡ t.len - n
    go true = refl
    go false = refl

module _ (runs : List Run) (t : Entry) (n : ℕ) (is : IsTakenOf runs t) (can : IsSplittable t n) where
  abbrev units : List UnitContent
  units = units_of (slice_get runs t.run)

  front_told : (gone : Bool) → operations_told gone runs (front_of t n) ≡ take n (operations_told gone runs t)
  front_told true = sym (gone_part 0 n t.id t.len (omega (arith, can.fewer)) ∙ ap (λ x. gone_from x n) none)
    where
      none : later_id t.id 0 ≡ t.id
      none = later_none t.id
  front_told false =
      ap (λ us. operations_from t.id t.left t.right (list_at (slice_get runs t.run) t.offset) us) (sym (take_less n t.len (drop t.offset units) (omega (arith, can.fewer))))
      ∙ sym (take_from n t.id t.left t.right (list_at (slice_get runs t.run) t.offset) (take t.len (drop t.offset units)))

  pub front_operations : operations_of_taken runs (front_of t n) ≡ take n (operations_of_taken runs t)
  front_operations = front_told t.is_gone

  back_units : drop n (take t.len (drop t.offset units)) ≡ take (t.len - n) (drop (t.offset + n) units)
  back_units = drop_less n t.len (drop t.offset units) (omega (arith, can.fewer)) ∙ ap (λ us. take (t.len - n) us) (drop_sum t.offset n units)

  back_is : (gone : Bool) → t.is_gone ≡ gone → operations_told (back_told gone t n).is_gone runs (back_told gone t n) ≡ drop n (operations_told gone runs t)
  back_is true e = ap (λ b. operations_told b runs (back_told true t n)) e
      ∙ sym (gone_part n (t.len - n) t.id t.len (omega (arith, can.fewer)))
      ∙ take_all (t.len - n) (drop n (gone_from t.id t.len)) (omega (arith, length-drop n (gone_from t.id t.len), length-gone_from t.id t.len))
  back_is false e = ap (λ b. operations_told b runs (back_told false t n)) e ∙ sym (
      drop_from n t.id t.left t.right (list_at (slice_get runs t.run) t.offset) (take t.len (drop t.offset units))
      ∙ ap (λ left. operations_from (later_id t.id n) left t.right (list_from (list_at (slice_get runs t.run) t.offset) n) (drop n (take t.len (drop t.offset units))))
      (left_before t.id t.left n can.some)
      ∙ ap (λ list. operations_from (later_id t.id n) (Some (later_id t.id (n - 1))) t.right list (drop n (take t.len (drop t.offset units))))
      (from_none (list_at (slice_get runs t.run) t.offset) n can.some ∙ sym (list_none (slice_get runs t.run) (t.offset + n) (omega (arith, can.some))))
      ∙ ap (λ us. operations_from (later_id t.id n) (Some (later_id t.id (n - 1))) t.right (list_at (slice_get runs t.run) (t.offset + n)) us) back_units
      )

  pub back_operations : operations_of_taken runs (back_of t n) ≡ drop n (operations_of_taken runs t)
  back_operations = back_is t.is_gone refl

  pub both_operations : operations_of_taken runs (front_of t n) ++ operations_of_taken runs (back_of t n) ≡ operations_of_taken runs t
  both_operations = ap (λ os. os ++ operations_of_taken runs (back_of t n)) front_operations ∙ ap (λ os. take n (operations_of_taken runs t) ++ os) back_operations
      ∙ take-append-drop n (operations_of_taken runs t)

  -- ---- they are taken of the runs, where no pair is parted

  whole_at : (PartsPairOf runs t n → ⊥) → t.is_gone ≡ false → IfSome (slice_get runs t.run) (λ (run : Run). PartsPair (content_value run.content) (t.offset + n) → ⊥)
  whole_at whole e = if_some_each (λ (run : Run). PartsPair (content_value run.content) (t.offset + n) → ⊥) (slice_get runs t.run) (λ run there cut. whole (e, (run, there, cut)))

  pub front_taken : (PartsPairOf runs t n → ⊥) → IsTakenOf runs (front_of t n)
  front_taken whole = record {
    run_there = is.run_there;
    client = is.client;
    has_units = can.some;
    id = is.id;
    end = omega (arith, is.end, can.fewer);
    left = is.left;
    right = is.right;
    told = told t.is_gone refl is.told;
  }
    where
      told : (gone : Bool) → t.is_gone ≡ gone → TellsRight gone runs t → TellsRight gone runs (front_of t n)
      told true e k = record { left = k.left; right = k.right }
      told false e k = record {
        within = omega (arith, k.within, can.fewer);
        fits = omega (arith, k.fits, can.fewer);
        list = k.list;
        content = k.content;
        begins_whole = k.begins_whole;
        ends_whole = whole_at whole e;
      }

  back_right : (whole : PartsPairOf runs t n → ⊥) (gone : Bool) → t.is_gone ≡ gone → TellsRight gone runs t → IsTakenOf runs (back_told gone t n)
  back_right whole true e k = record {
    run_there = is.run_there;
    client = is.client;
    has_units = omega (arith, can.fewer);
    id = record { client = is.id.client; clock = omega (arith, is.end, can.fewer) };
    end = omega (arith, is.end, can.fewer);
    left = is.left;
    right = is.right;
    told = subst (λ b. TellsRight b runs (back_told true t n)) (sym e) (record { left = k.left; right = k.right });
  }
  back_right whole false e k = record {
    run_there = is.run_there;
    client = is.client;
    has_units = omega (arith, can.fewer);
    id = record { client = is.id.client; clock = omega (arith, is.end, can.fewer) };
    end = omega (arith, is.end, can.fewer);
    left = record { client = is.id.client; clock = omega (arith, is.end, can.fewer) };
    right = is.right;
    told = subst (λ b. TellsRight b runs (back_told false t n)) (sym e) (record {
      within = omega (arith, k.within, can.fewer);
      fits = omega (arith, k.fits, can.fewer);
      list = subst (CarriesList (Some (later_id t.id (n - 1))) t.right) (sym (list_none (slice_get runs t.run) (t.offset + n) (omega (arith, can.some)))) tt;
      content = k.content;
      begins_whole = whole_at whole e;
      ends_whole = subst (λ m. IfSome (slice_get runs t.run) (λ (run : Run). PartsPair (content_value run.content) m → ⊥)) same k.ends_whole;
    });
  }
    where
      same : t.offset + t.len ≡ t.offset + n + (t.len - n)
      same = omega (arith, can.fewer)

  pub back_taken : (PartsPairOf runs t n → ⊥) → IsTakenOf runs (back_of t n)
  back_taken whole = back_right whole t.is_gone refl is.told
