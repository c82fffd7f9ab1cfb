-- An entry begins at an id, or none has units on both sides of it: in each of the three ways of the code.
use Rattle.std.proofs.Common.{◌≡◌, ℕ, ◌-◌, ◌<◌, List, map, Some, sym, ap, ◌∙◌, subst, arith}
use Rattle.std.specs.Prelude.{slice_get}
use Rattle.yd_words.specs.Each.{Each}
use Rattle.yd_words.proofs.MemberLemmas.{each_in}
use Rattle.yd_words.proofs.OptionLemmas.{some_is}
use Rattle.yd_ids.specs.declared.id.Id.{Id}
use Rattle.yd_ids.proofs.IdLemmas.{same_numbers}
use Rattle.yd_ops.specs.declared.runs.Run.{Run}
use Rattle.yd_ops.specs.Operation.{later_id}
use Rattle.yd_entries.specs.declared.entry.Entry.{Entry}
use Rattle.yd_entries.specs.Entries.{operations_in, IsTakenOf, AreInOrder}
use Rattle.yd_entries.specs.Lowering.{torn_at, IsBeside, Begins}
use Rattle.yd_entries.specs.Splitting.{IsAstride, IsSplittable, split_in, PartsPairOf, SplitsPair}
use Rattle.yd_entries.proofs.BorderLemmas.{torn_none}
use Rattle.yd_entries.proofs.ChangeLemmas.{entry_got}
use Rattle.yd_entries.proofs.PairLemmas.{splittable}
use Rattle.yd_entries.proofs.SplitLemmas.{split_order, split_others, split_beside, split_operations, split_taken}
use Rattle.yd_entries.proofs.StayingLemmas.{stays_none, stays_split}

-- the id is that of the unit so many behind the first
astride_id : (x : Id) (t : Entry) (n : ℕ) → IsAstride x t → n ≡ x.clock - t.id.clock → later_id t.id n ≡ x
astride_id x t n is e = same_numbers (later_id t.id n) x (ap (λ c. c.0) is.client) (omega (arith, e, is.begins))

pub astride_some : (x : Id) (t : Entry) (n : ℕ) → IsAstride x t → n ≡ x.clock - t.id.clock → 0 < n
astride_some x t n is e = omega (arith, e, is.begins)

pub astride_fewer : (x : Id) (t : Entry) (n : ℕ) → IsAstride x t → n ≡ x.clock - t.id.clock → n < t.len
astride_fewer x t n is e = omega (arith, e, is.begins, is.ends)

pub begins_none : (runs : List Run) (ts : List Entry) (x : Id) → Each (IsTakenOf runs) ts → AreInOrder ts → Each (IsBeside x) ts → Begins runs ts runs ts x
begins_none runs ts x each order beside = record {
  operations = sym (torn_none runs ts x each beside);
  each = each;
  in_order = order;
  beside = beside;
  others = λ y e. e;
  places = stays_none runs ts;
}

module _ (runs : List Run) (ts : List Entry) (x : Id) (at : ℕ) (t : Entry) (there : slice_get ts at ≡ Some t) (is : IsAstride x t) (n : ℕ) (e : n ≡ x.clock - t.id.clock) where
  pub begins_split : (taken : List Entry) → Each (IsTakenOf runs) ts → AreInOrder ts → (PartsPairOf runs t n → ⊥) → taken ≡ split_in at n ts → Begins runs ts runs taken x
  begins_split taken each order whole same = subst (λ us. Begins runs ts runs us x) (sym same) (record {
    operations = sym (torn_none runs (split_in at n ts) x each_split beside_split) ∙ ap (λ os. map (torn_at x) os) (split_operations t n can runs of ts at there);
    each = each_split;
    in_order = split_order t n can ts at there order;
    beside = beside_split;
    others = λ y b. split_others t n can y ts at there b;
    places = stays_split t n can runs of ts at there;
  })
    where
      of : IsTakenOf runs t
      of = each_in (IsTakenOf runs) ts each t (entry_got ts at t there)

      can : IsSplittable t n
      can = splittable runs t n of (astride_some x t n is e) (astride_fewer x t n is e)

      each_split : Each (IsTakenOf runs) (split_in at n ts)
      each_split = split_taken t n can runs of whole ts at there each

      beside_split : Each (IsBeside x) (split_in at n ts)
      beside_split = subst (λ y. Each (IsBeside y) (split_in at n ts)) (astride_id x t n is e) (split_beside t n can ts at there order)

  pub begins_pair : (new : List Run) (taken : List Entry) → SplitsPair runs ts new taken at n → Begins runs ts new taken x
  begins_pair new taken splits =
      let entry : splits.entry ≡ t = some_is splits.entry t (sym splits.there ∙ there) in
      let id : later_id splits.entry.id n ≡ x = ap (λ (s : Entry). later_id s.id n) entry ∙ astride_id x t n is e in
      record {
        operations = splits.recuts.operations ∙ ap (λ y. map (torn_at y) (operations_in runs ts)) id;
        each = splits.recuts.each;
        in_order = splits.recuts.in_order;
        beside = subst (λ y. Each (IsBeside y) taken) id splits.beside;
        others = splits.recuts.others;
        places = splits.recuts.places;
      }
