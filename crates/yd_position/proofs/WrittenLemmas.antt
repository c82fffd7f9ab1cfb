-- What is written of a position stands for it.
use Rattle.std.proofs.Common.{◌≡◌, ◌∙◌, ◌<◌, ◌^◌, ◌+◌, ◌/◌, Bool, true, false, cond, nat_lt, ℕ, ℤ, pos, negsuc, List, [], ◌∷◌, ◌++◌, Some, Ok, refl, ap, subst, sym, arith, unsigned_abs}
use Rattle.std.proofs.lemmas.List.{append-nil}
use Rattle.yd_ids.specs.declared.id.Id.{Id}
use Rattle.yd_ids.specs.Id.{IsId}
use Rattle.yd_num.proofs.WritingLemmas.{groups-last}
use Rattle.yd_num.specs.declared.signed.Signed.{Signed}
use Rattle.yd_num.specs.Writing.{shortest, shortest_signed, shortest_blob, first_bits}
use Rattle.yd_parts.proofs.ReadsLemmas.{PartReads, ReadsAs, part_signed, part_text, part_unsigned, reads_last, reads_want}
use Rattle.yd_parts.specs.AnyBytes.{signed_of}
use Rattle.yd_parts.specs.AnyPlan.{whole_number}
use Rattle.yd_parts.specs.Part as part
use Rattle.yd_parts.specs.Part.{Unread, all_of, last_spot, part_at}
use Rattle.yd_parts.specs.declared.fault.Column.TheVariants.{Whole}
use Rattle.yd_position.specs.declared.position.Position.{Position}
use Rattle.yd_position.specs.declared.position.Target.{Target}
use Rattle.yd_position.specs.declared.position.Target.TheVariants.{Unit as UnitOf, Root, Item}
use Rattle.yd_position.specs.Grammar.{StandsForPosition}
use Rattle.yd_position.specs.Reading.{of_assoc, of_target, position_reading, with_bytes}
use Rattle.yd_position.specs.Target.{behind_form, id_plan, of_id, target_plan}
use Rattle.yd_position.specs.Writing.{IsWritableTarget, bytes_of_position, bytes_of_target}
use Rattle.yd_position.proofs.PositionLemmas.{positions_read}

-- ---- targets

-- a number of one byte
form_reads : (form : ℕ) → form < 128 → PartReads part.unsigned (form ∷ []) form
unfolding shortest
form_reads form small = subst (λ (bytes : List ℕ). PartReads part.unsigned bytes form) (groups-last 7 form small) (part_unsigned form (omega (arith, small)))

id_reads : (form : ℕ) (id : Id) → IsId id → ReadsAs (id_plan form) (shortest id.client.0 ++ shortest id.clock) (Some (of_id form id))
id_reads form id is = reads_want part.unsigned _ (shortest id.client.0) (shortest id.clock) id.client.0 (Some (of_id form id)) (part_unsigned id.client.0 is.client)
    (λ spot. reads_last part.unsigned _ (shortest id.clock) id.clock (Some (of_id form id)) (part_unsigned id.clock is.clock) (λ at. refl))

target_reads : (target : Target) → IsWritableTarget target → ReadsAs target_plan (bytes_of_target target) (Some target)
unfolding target_plan
target_reads (UnitOf id) is = reads_want part.unsigned (λ form spot. behind_form form) (0 ∷ []) (shortest id.client.0 ++ shortest id.clock) 0 (Some (UnitOf id)) (form_reads 0 (omega arith))
    (λ spot. id_reads 0 id is)
target_reads (Root name) is = reads_want part.unsigned (λ form spot. behind_form form) (1 ∷ []) (shortest_blob name) 1 (Some (Root name)) (form_reads 1 (omega arith))
    (λ spot. reads_last part.text _ (shortest_blob name) name (Some (Root name)) (part_text name is) (λ at. refl))
target_reads (Item id) is = reads_want part.unsigned (λ form spot. behind_form form) (2 ∷ []) (shortest id.client.0 ++ shortest id.clock) 2 (Some (Item id)) (form_reads 2 (omega arith))
    (λ spot. id_reads 2 id is)

-- ---- associations

whole_is : (assoc : ℤ) → whole_number (signed_of assoc) ≡ assoc
whole_is (pos n) = refl
whole_is (negsuc n) = refl

size_is : (assoc : ℤ) → (signed_of assoc).size ≡ unsigned_abs assoc
size_is (pos n) = refl
size_is (negsuc n) = refl

some_signed : (number : Signed) → (b : ℕ) × (bytes : List ℕ) × (shortest_signed number ≡ b ∷ bytes)
unfolding shortest_signed
some_signed number = go (nat_lt number.size 64)
  where
    go : (small : Bool) → (b : ℕ) × (bytes : List ℕ)
        × (cond small (first_bits number ∷ []) ((first_bits number + 128) ∷ shortest (number.size / 64)) ≡ b ∷ bytes)
    go true = (first_bits number, [], refl)
    go false = (first_bits number + 128, shortest (number.size / 64), refl)

-- a number that is all that is left is the association
assoc_read : (target : Target) (number : Signed) (left : Unread) → number.size < 2 ^ 55 → left.bytes ≡ shortest_signed number →
    with_bytes target left left.bytes ≡ Ok (record { target = target; assoc = whole_number number })
assoc_read target number left fits is =
    let (b, bytes, some) = some_signed number in
    let (rest, got, none) = part_signed number fits left [] (is ∙ sym (append-nil (shortest_signed number))) in
    ap (with_bytes target left) (is ∙ some) ∙ ap (of_assoc target) got ∙ rw none refl

-- ---- for callers

-- what is written of a position stands for it
pub written_stands : (p : Position) → IsWritableTarget p.target → unsigned_abs p.assoc < 2 ^ 53 → StandsForPosition (bytes_of_position p) p
unfolding position_reading
written_stands p is fits =
    let number = signed_of p.assoc in
    let (left, got, rest) = target_reads p.target is (all_of Whole (bytes_of_position p)) (shortest_signed number) refl in
    (positions_read.positions (bytes_of_position p) p).0
    (ap of_target got ∙ assoc_read p.target number left (omega (arith, size_is p.assoc, fits)) rest ∙ ap (λ z. Ok (record { target = p.target; assoc = z })) (whole_is p.assoc))
