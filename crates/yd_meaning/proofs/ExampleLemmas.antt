-- The updates of the small documents are valid, and a set in which one operation stands alone is honest.
use Rattle.std.proofs.Common.{Some, inl, inr, sym, ◌∙◌, subst, ℕ, zero, suc, ◌≡◌, ◌<◌, ◌^◌, List, [], ◌∷◌, Option, None, refl, arith}
use Rattle.std.specs.Prelude.{IfSome, slice_index}
use Rattle.yd_units.specs.Half.{AreUnits, IsWhole}
use Rattle.yd_ids.specs.declared.id.Id.{Id}
use Rattle.yd_ids.specs.declared.id.Span.{Span}
use Rattle.yd_ids.specs.Set.{AreMaximal}
use Rattle.yd_ids.specs.Id.{IsId}
use Rattle.yd_ops.specs.declared.lists.List.{List as DocList}
use Rattle.yd_ops.specs.Value.{ContentValue, len_of}
use Rattle.yd_ops.specs.Valid.{CarriesList, IsValidContent, IsValidUpdate}
use Rattle.yd_words.specs.Member.{IsIn}
use Rattle.yd_ops.specs.Operation.{Operation}
use Rattle.yd_origins.specs.Before.{is_before, IsLeftFirst}
use Rattle.yd_origins.specs.Operations.{table_of_all}
use Rattle.yd_ops.specs.Received.{IsWritten}
use Rattle.yd_ops.proofs.WritingLemmas.{written_agrees}
use Rattle.yd_meaning.specs.Held.{needs, standing}
use Rattle.yd_meaning.specs.Order.{operation_set, IsPast, of_need, of_past, MeetsRules, AreHonest}
use Rattle.yd_meaning.proofs.NeedLemmas.{left_needed}
use Rattle.yd_meaning.specs.Example.{first_id, first_update}
use Rattle.yd_meaning.specs.Collected.{gone_update}

-- ---- lemmas for callers

pub first_is_id : (client : ℕ) → client < 2 ^ 53 → IsId (first_id client)
first_is_id client lt = record { client = lt; clock = omega arith }

-- one unit that is no half
pub unit_is_whole : (unit : ℕ) → unit < 0xD800 → AreUnits (unit ∷ []) × IsWhole (unit ∷ [])
unit_is_whole unit lt = (
  (λ i. let below = is_below i in omega (arith, below)),
  record {
    highs = λ i high. let below = is_below i in absurd (omega (arith, below, high));
    lows = λ i low. let below = is_below i in absurd (omega (arith, below, low));
  },
)
  where
    is_below : (i : ℕ) → slice_index (unit ∷ []) i < 0xD800
    is_below zero = lt
    is_below (suc i) = omega arith

-- units that are no halves
pub units_are_whole : (units : List ℕ) → ((i : ℕ) → slice_index units i < 0xD800) → AreUnits units × IsWhole units
units_are_whole units is_below = (
  (λ i. let below = is_below i in omega (arith, below)),
  record {
    highs = λ i high. let below = is_below i in absurd (omega (arith, below, high));
    lows = λ i low. let below = is_below i in absurd (omega (arith, below, low));
  },
)

-- an update of one run of valid content, which begins at clock 0
pub run_valid : (client : ℕ) (left : Option Id) (list : Option DocList) (content : ContentValue) → client < 2 ^ 53 → IfSome left IsId →
    CarriesList left None list → (n : ℕ) → 0 < n → n < 2 ^ 53 → len_of content ≡ n → IsValidContent content → IsValidUpdate (first_update client left list content)
run_valid client left list content lt is carries n some small one valid = record {
  blocks = (
    record {
      client = lt;
      clock = omega arith;
      structs = (record { begins = refl; has_units = omega (arith, one, some); left = is; right = tt; list = carries; content = valid }, omega (arith, one, small), tt);
    },
    tt,
  );
  deletes = tt;
}

-- of one unit
pub first_valid : (client : ℕ) (left : Option Id) (list : Option DocList) (content : ContentValue) → client < 2 ^ 53 → IfSome left IsId →
    CarriesList left None list → len_of content ≡ 1 → IsValidContent content → IsValidUpdate (first_update client left list content)
first_valid client left list content lt is carries one valid = run_valid client left list content lt is carries 1 (omega arith) (omega arith) one valid

-- an update of one gone unit
pub gone_valid : (client : ℕ) (deletes : List Span) → client < 2 ^ 53 → AreMaximal deletes → IsValidUpdate (gone_update client deletes)
gone_valid client deletes lt maximal = record { blocks = (record { client = lt; clock = omega arith; structs = (omega arith, omega arith, tt) }, tt); deletes = maximal }

-- ---- honest sets

-- an operation that needs nothing has no past
no_past : (held : List Operation) → IsWritten held → (o : Operation) → IsIn o held → ((x : Id) → IsIn x (needs o) → ⊥) → {x y : Id} → IsPast held x y → x ≡ o.id → ⊥
no_past held w o i none (of_need {y = y} p j e k) same = none y (subst (λ (q : Operation). IsIn y (needs q)) (written_agrees held w p o j i (e ∙ same)) k)
no_past held w o i none (of_past p q) same = no_past held w o i none p same

-- so a set in which it alone stands is honest
pub lone_honest : (held : List Operation) → IsWritten held → (o : Operation) → IsIn o held → ((x : Id) → IsIn x (needs o) → ⊥) → standing held ≡ o ∷ [] → AreHonest held
lone_honest held w o i none alone p j = elim (subst (λ ps. IsIn p ps) alone j) [
  | inl e ↦ subst (λ q. MeetsRules held q) (sym e) record {
    one_list = λ l r f g. absurd (none l (left_needed o l f));
    left_first = first o.left_origin (λ l f. none l (left_needed o l f));
    past_outside = λ y f past same between. no_past held w o i none past refl;
  }
  | inr k ↦ absurd k
]
  where
    first : (left : Option Id) → ((l : Id) → left ≡ Some l → ⊥) → IsLeftFirst (is_before (table_of_all (operation_set (standing held)))) left o.right_origin
    first None absent = tt
    first (Some l) absent = absurd (absent l refl)
