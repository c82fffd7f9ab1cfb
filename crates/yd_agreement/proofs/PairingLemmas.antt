-- The pairs of a run: a high half and its low half stand where a cut would part them.
use Rattle.std.proofs.Common.{◌≡◌, ◌↔◌, ℕ, suc, ◌+◌, ◌-◌, ◌<◌, ◌≤◌, Some, refl, sym, ap, ◌∙◌, subst, arith}
use Rattle.yd_words.specs.Member.{IsIn}
use Rattle.yd_ids.specs.declared.id.Id.{Id}
use Rattle.yd_ids.proofs.IdLemmas.{same_client, same_numbers}
use Rattle.yd_ops.specs.Cutting.{PartsPair}
use Rattle.yd_ops.specs.Operation.{ArePartners, IsHighUnit, IsLowUnit, Operation, UnitContent, any_unit, bytes, deleted_unit, embedded, gone_unit, json_unit, later_id, mark, nested_type, operations_of_run, text_unit}
use Rattle.yd_ops.specs.Value.{ContentValue, RunValue, any, binary, deleted, embed, format, json, len_of, nested, string}
use Rattle.yd_entries.specs.Taking.{left_at}
use Rattle.yd_ops.proofs.PartnerLemmas.{partners_decide}
use Rattle.yd_agreement.specs.Differing.{Place}
use Rattle.yd_agreement.specs.Parting.{HasPair}
use Rattle.yd_agreement.specs.Units.{kind_of_content, kind_of_unit, unit_of}
use Rattle.yd_agreement.proofs.DifferLemmas.{unit_in}
use Rattle.yd_agreement.proofs.PlaceLemmas.{placed_in}
use Rattle.yd_agreement.proofs.SweepLemmas.{HasId, id_of, with_id}
use Rattle.yd_agreement.proofs.UnitLemmas.{kind_at, text_at}

-- ---- halves are of texts

high_kind : (unit : UnitContent) → IsHighUnit unit → kind_of_unit unit ≡ 2
high_kind (text_unit unit) high = refl
high_kind (any_unit value) high = absurd high
high_kind (json_unit value) high = absurd high
high_kind (bytes blob) high = absurd high
high_kind (embedded value) high = absurd high
high_kind (mark key value) high = absurd high
high_kind (nested_type kind) high = absurd high
high_kind deleted_unit high = absurd high
high_kind gone_unit high = absurd high

-- a content with a high half is a text
of_text : (content : ContentValue) (k : ℕ) → k < len_of content → IsHighUnit (unit_of content k) → kind_of_content content ≡ 2
of_text content k lt high = sym (kind_at content k lt) ∙ high_kind (unit_of content k) high

cut_between : (content : ContentValue) (k : ℕ) → kind_of_content content ≡ 2 → suc k < len_of content → IsHighUnit (unit_of content k) → IsLowUnit (unit_of content (suc k)) →
    PartsPair (k + 1) content
cut_between (string units) k kind lt high low = let before : k + 1 - 1 ≡ k = omega arith in let next : k + 1 ≡ suc k = omega arith in record {
  inside = (omega arith, omega (arith, lt));
  high = rw before (subst IsHighUnit (text_at units k (omega (arith, lt))) high);
  low = rw next (subst IsLowUnit (text_at units (suc k) lt) low);
}
cut_between (json units) k kind lt high low = absurd (omega (arith, kind))
cut_between (binary blob) k kind lt high low = absurd (omega (arith, kind))
cut_between (embed t) k kind lt high low = absurd (omega (arith, kind))
cut_between (format key t) k kind lt high low = absurd (omega (arith, kind))
cut_between (nested other) k kind lt high low = absurd (omega (arith, kind))
cut_between (any ts) k kind lt high low = absurd (omega (arith, kind))
cut_between (deleted count) k kind lt high low = absurd (omega (arith, kind))

-- the two units between which a cut parts a pair
abbrev AreHalves : ContentValue → ℕ → Type 0
AreHalves content k = (suc k < len_of content) × IsHighUnit (unit_of content k) × IsLowUnit (unit_of content (suc k))

halves_of : (content : ContentValue) (k : ℕ) → PartsPair (k + 1) content → AreHalves content k
halves_of (string units) k cut = let before : k + 1 - 1 ≡ k = omega arith in let next : k + 1 ≡ suc k = omega arith in (
  omega (arith, cut.inside.1),
  subst IsHighUnit (sym (text_at units k (omega (arith, cut.inside.1)))) (rw before at cut.high),
  subst IsLowUnit (sym (text_at units (suc k) (omega (arith, cut.inside.1)))) (rw next at cut.low),
)
halves_of (json units) k cut = absurd cut
halves_of (binary blob) k cut = absurd cut
halves_of (embed t) k cut = absurd cut
halves_of (format key t) k cut = absurd cut
halves_of (nested kind) k cut = absurd cut
halves_of (any ts) k cut = absurd cut
halves_of (deleted count) k cut = absurd cut

-- ---- the pair at an id

module _ (run : RunValue) (x : Id) (client : run.id.client.0 ≡ x.client.0) (begins : run.id.clock ≤ x.clock) where
  pair_cut : HasPair run x → PartsPair (x.clock - run.id.clock + 1) run.content
  pair_cut p =
      let u = unit_in run p.high p.high_there in
      let v = unit_in run p.low p.low_there in
      let pair = (partners_decide p.high p.low).0 p.partners in
      let at : u.place ≡ x.clock - run.id.clock = omega (arith, begins, ap (λ (y : Id). y.clock) (sym u.id ∙ p.id)) in
      let next : v.place ≡ suc u.place = omega (arith, ap (λ (y : Id). y.clock) (sym v.id ∙ pair.next_clock), ap (λ (y : Id). y.clock) u.id) in
      let high : IsHighUnit (unit_of run.content u.place) = subst IsHighUnit u.content pair.high_half in
      subst (λ (n : ℕ). PartsPair (n + 1) run.content) at
      (cut_between run.content u.place (of_text run.content u.place u.inside high) (omega (arith, next, v.inside)) high
      (subst (λ (n : ℕ). IsLowUnit (unit_of run.content n)) next (subst IsLowUnit v.content pair.low_half)))

  halves_pair : (k : ℕ) → k ≡ x.clock - run.id.clock → AreHalves run.content k → HasPair run x
  halves_pair k is (inside, high, low) = go
      (with_id run x (record { client = same_client run.id x client; begins = begins; ends = omega (arith, inside, is, begins) }))
      (with_id run (later_id x 1) (record { client = same_client run.id x client; begins = omega (arith, begins); ends = omega (arith, inside, is, begins) }))
    where
      go : (q : Operation) × IsIn q (operations_of_run run) × (q.id ≡ x) → (p : Operation) × IsIn p (operations_of_run run) × (p.id ≡ later_id x 1) → HasPair run x
      go (q, i, e) (p, j, f) = record { high = q; low = p; high_there = i; low_there = j; id = e; partners = (partners_decide q p).1 pair }
        where
          at : (unit_in run q i).place ≡ k
          at = omega (arith, is, begins, ap (λ (y : Id). y.clock) (sym (unit_in run q i).id ∙ e))

          next : (unit_in run p j).place ≡ suc k
          next = omega (arith, is, begins, ap (λ (y : Id). y.clock) (sym (unit_in run p j).id ∙ f))

          next_place : (placed_in run p j).place ≡ suc k
          next_place = omega (arith, is, begins, ap (λ (y : Id). y.clock) (sym (placed_in run p j).id ∙ f))

          left : p.left_origin ≡ left_at run.id run.left (suc k)
          left = ap (λ (t : Place). t.left) (placed_in run p j).is ∙ ap (left_at run.id run.left) next_place

          pair : ArePartners q p
          pair = record {
            high_half = subst IsHighUnit (sym ((unit_in run q i).content ∙ ap (unit_of run.content) at)) high;
            low_half = subst IsLowUnit (sym ((unit_in run p j).content ∙ ap (unit_of run.content) next)) low;
            next_clock = f ∙ ap (λ (y : Id). later_id y 1) (sym e);
            behind = left ∙ ap (λ (y : Id). Some y) (same_numbers (later_id run.id k) q.id (client ∙ ap (λ (y : Id). y.client.0) (sym e))
                (omega (arith, is, begins, ap (λ (y : Id). y.clock) e)));
          }

  -- ---- lemmas for callers

  pub pair_parts : (n : ℕ) → n ≡ x.clock - run.id.clock + 1 → PartsPair n run.content ↔ HasPair run x
  pair_parts n is = (
    (λ cut. halves_pair (x.clock - run.id.clock) refl (halves_of run.content (x.clock - run.id.clock) (subst (λ (m : ℕ). PartsPair m run.content) is cut))),
    (λ pair. subst (λ (m : ℕ). PartsPair m run.content) (sym is) (pair_cut pair)),
  )

pub pair_id : (run : RunValue) (x : Id) → HasPair run x → HasId run x
pair_id run x p = subst (HasId run) p.id (id_of run p.high p.high_there)
