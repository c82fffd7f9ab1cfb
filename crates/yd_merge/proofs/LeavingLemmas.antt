-- How many first units of an entry a cut leaves out: where it would part a pair, and where it begins.
use Rattle.std.specs.Prelude.{Decides, IfSome, nat_le, nat_lt, slice_get, slice_index, if◌then◌else◌}
use Rattle.std.proofs.Common.{◌≡◌, ℕ, ◌+◌, ◌-◌, ◌<◌, ◌≤◌, Bool, true, false, ◌&&◌, List, ◌⊎◌, inl, inr, Option, Some, None, length, refl, sym, ◌∙◌, subst, arith, tests, true≢false}
use Rattle.std.proofs.lemmas.Bool.Decides.{Decides-and, Decides-like}
use Rattle.yd_words.proofs.OptionLemmas.{some_is}
use Rattle.yd_words.proofs.TestLemmas.{split}
use Rattle.yd_units.specs.Half.{IsCut}
use Rattle.yd_ops.specs.Operation.{text_unit}
use Rattle.yd_ops.specs.Value.{ContentValue, any, binary, deleted, embed, format, json, nested, string}
use Rattle.yd_ops.specs.View.{content_value}
use Rattle.yd_ops.specs.declared.runs.Run.{Run}
use Rattle.yd_ops.specs.Pairs.{is_high, is_low}
use Rattle.yd_ops.proofs.PartnerLemmas.{high_unit, low_unit}
use Rattle.yd_entries.specs.Entries.{IsTakenOf, PartsPair}
use Rattle.yd_entries.specs.Splitting.{PartsPairOf}
use Rattle.yd_entries.specs.declared.entry.Entry.{Entry}
use Rattle.yd_entries.proofs.OwnLemmas.{told_of}
use Rattle.yd_entries.proofs.PairLemmas.{no_two_cuts}
use Rattle.yd_merge.specs.Cutting.{left_out, parts_content, parts_entry, parts_run, parts_text, parts_told}

-- ---- where a cut parts a pair

never : {P : Type 0} → false ≡ true → P
never e = absurd (true≢false (sym e))

less_decides : (m n : ℕ) → Decides (nat_lt m n) (m < n)
less_decides m n = ((λ e. grind (arith, tests)), (λ lt. grind (arith, tests)))

text_decides : (units : List ℕ) (n : ℕ) → Decides (parts_text units n) (IsCut units n)
text_decides units n = Decides-like (parts_text units n)
    (λ facts. record { inside = (facts.0.0.0, facts.0.0.1); high = facts.0.1; low = facts.1 })
    (λ cut. (((cut.inside.0, cut.inside.1), cut.high), cut.low))
    (Decides-and (nat_lt 0 n && nat_lt n (length units) && is_high (slice_index units (n - 1))) (is_low (slice_index units n))
    (Decides-and (nat_lt 0 n && nat_lt n (length units)) (is_high (slice_index units (n - 1)))
    (Decides-and (nat_lt 0 n) (nat_lt n (length units)) (less_decides 0 n) (less_decides n (length units)))
    (high_unit (text_unit (slice_index units (n - 1)))))
    (low_unit (text_unit (slice_index units n))))

content_decides : (content : ContentValue) (n : ℕ) → Decides (parts_content content n) (PartsPair content n)
content_decides (json values) n = (never, λ cut. absurd cut)
content_decides (binary blob) n = (never, λ cut. absurd cut)
content_decides (string units) n = text_decides units n
content_decides (embed t) n = (never, λ cut. absurd cut)
content_decides (format key t) n = (never, λ cut. absurd cut)
content_decides (nested kind) n = (never, λ cut. absurd cut)
content_decides (any ts) n = (never, λ cut. absurd cut)
content_decides (deleted count) n = (never, λ cut. absurd cut)

entry_decides : (runs : List Run) (t : Entry) (n : ℕ) → Decides (parts_entry runs t n) (PartsPairOf runs t n)
entry_decides runs t n = go t.is_gone refl
  where
    at_run : (r : Option Run) → t.is_gone ≡ false → slice_get runs t.run ≡ r → Decides (parts_run r (t.offset + n)) (PartsPairOf runs t n)
    at_run None told here = (never, λ parts. absurd (none_there parts.1.0 (sym here ∙ parts.1.1)))
      where
        none_there : (run : Run) → None ≡ Some run → ⊥
        none_there run e = absurd cc
    at_run (Some run) told here = Decides-like (parts_content (content_value run.content) (t.offset + n)) (λ cut. (told, (run, here, cut)))
        (λ parts. subst (λ (r : Run). PartsPair (content_value r.content) (t.offset + n)) (some_is parts.1.0 run (sym parts.1.1 ∙ here)) parts.1.2)
        (content_decides (content_value run.content) (t.offset + n))

    go : (gone : Bool) → t.is_gone ≡ gone → Decides (parts_told gone runs t n) (PartsPairOf runs t n)
    go true e = (never, λ parts. absurd (true≢false (sym e ∙ parts.0)))
    go false e = at_run (slice_get runs t.run) e refl

-- at neither end of an entry a pair is parted, and not at two cuts in a row
module _ (runs : List Run) (t : Entry) (is : IsTakenOf runs t) where
  first_whole : PartsPairOf runs t 0 → ⊥
  first_whole (e, (run, there, cut)) = subst (λ r. IfSome r (λ (run : Run). PartsPair (content_value run.content) t.offset → ⊥)) there (told_of runs t is e).begins_whole
      (subst (PartsPair (content_value run.content)) same cut)
    where
      same : t.offset + 0 ≡ t.offset
      same = omega arith

  last_whole : PartsPairOf runs t t.len → ⊥
  last_whole (e, (run, there, cut)) = subst (λ r. IfSome r (λ (run : Run). PartsPair (content_value run.content) (t.offset + t.len) → ⊥)) there (told_of runs t is e).ends_whole cut

  before_whole : (k m : ℕ) → PartsPairOf runs t k → PartsPairOf runs t m → m ≡ k + 1 → ⊥
  before_whole k m (e, (run, there, cut)) (f, (other, also, next)) one = no_two_cuts (content_value run.content) (t.offset + k) (t.offset + m) cut
      (subst (λ (r : Run). PartsPair (content_value r.content) (t.offset + m)) (some_is other run (sym also ∙ there)) next) (omega (arith, one))

-- ---- how many units are left out

-- so many first units are not in the cut at a clock, and the others are: they are below it, but the high half of a pair that it parts
pub record IsLeftOut (runs : List Run) (clock : ℕ) (t : Entry) (n : ℕ) : Type 0 where
  pub within : n ≤ t.len
  pub whole : PartsPairOf runs t n → ⊥
  pub below : (i : ℕ) → i < n → (t.id.clock + i < clock) × (t.id.clock + i + 1 ≡ clock → i + 1 ≡ n)
  pub above : (i : ℕ) → n ≤ i → i < t.len → (clock ≤ t.id.clock + i) ⊎ ((t.id.clock + i + 1 ≡ clock) × PartsPairOf runs t (i + 1))

module _ (runs : List Run) (clock : ℕ) (t : Entry) (is : IsTakenOf runs t) where
  all_in : clock ≤ t.id.clock → IsLeftOut runs clock t 0
  all_in le = record {
    within = omega arith;
    whole = first_whole runs t is;
    below = λ i lt. absurd (omega (arith, lt));
    above = λ i more lt. inl (omega (arith, le));
  }

  none_in : t.id.clock + t.len ≤ clock → IsLeftOut runs clock t t.len
  none_in le = record {
    within = omega arith;
    whole = last_whole runs t is;
    below = λ i lt. (omega (arith, le, lt), λ e. omega (arith, e, le, lt));
    above = λ i more lt. absurd (omega (arith, more, lt));
  }

  some_in : t.id.clock < clock → clock < t.id.clock + t.len → (parts : Bool) → parts_entry runs t (clock - t.id.clock) ≡ parts →
      IsLeftOut runs clock t (if parts then clock - t.id.clock - 1 else clock - t.id.clock)
  some_in low high true e = record {
    within = omega (arith, low, high);
    whole = λ cut. before_whole runs t is (clock - t.id.clock - 1) (clock - t.id.clock) cut here (omega (arith, low));
    below = λ i lt. (omega (arith, lt, low), λ f. absurd (omega (arith, f, lt, low)));
    above = λ i more lt. elim (split clock (t.id.clock + i)) [
      | inl le ↦ inl le
      | inr less ↦ inr (omega (arith, less, more, low), subst (PartsPairOf runs t) (omega (arith, less, more, low)) here)
    ];
  }
    where
      here : PartsPairOf runs t (clock - t.id.clock)
      here = (entry_decides runs t (clock - t.id.clock)).0 e
  some_in low high false e = record {
    within = omega (arith, high);
    whole = λ cut. true≢false (sym ((entry_decides runs t (clock - t.id.clock)).1 cut) ∙ e);
    below = λ i lt. (omega (arith, lt), λ f. omega (arith, f, low));
    above = λ i more lt. inl (omega (arith, more, low));
  }

  pub is_left_out : IsLeftOut runs clock t (left_out runs clock t)
  is_left_out = go (nat_le clock t.id.clock) refl
    where
      inside : (b : Bool) → t.id.clock < clock → nat_le (t.id.clock + t.len) clock ≡ b →
          IsLeftOut runs clock t (if b then t.len else if parts_entry runs t (clock - t.id.clock) then clock - t.id.clock - 1 else clock - t.id.clock)
      inside true low e = none_in (grind (arith, tests))
      inside false low e = some_in low (grind (arith, tests)) (parts_entry runs t (clock - t.id.clock)) refl

      go : (b : Bool) → nat_le clock t.id.clock ≡ b → IsLeftOut runs clock t (if b then 0 else if nat_le (t.id.clock + t.len) clock then t.len
          else if parts_entry runs t (clock - t.id.clock) then clock - t.id.clock - 1 else clock - t.id.clock)
      go true e = all_in (grind (arith, tests))
      go false e = inside (nat_le (t.id.clock + t.len) clock) (grind (arith, tests)) refl
