-- Positions are read exactly: what is read is what the bytes stand for, and their first deviation is the one that is read.
use Rattle.std.proofs.Common.{◌≡◌, ◌≢◌, ◌∙◌, ◌<◌, ◌^◌, ℕ, ℤ, List, [], ◌∷◌, Option, Some, None, Result, Ok, Err, inl, inr, refl, ap, subst, sym}
use Rattle.yd_num.proofs.ReadingLemmas.{ok_value}
use Rattle.yd_cols.proofs.RangeLemmas.{signed_in_range, unsigned_in_range}
use Rattle.yd_num.specs.Number.{unsigned_at}
use Rattle.yd_num.specs.Reading.{Cause as NumCause}
use Rattle.yd_num.specs.Signed.{signed_at}
use Rattle.yd_num.specs.declared.signed.Signed.{Signed}
use Rattle.yd_parts.specs.AnyPlan.{whole_number}
use Rattle.yd_parts.proofs.ExactLemmas.{failed_read, given_read, plan_fails, plan_gives}
use Rattle.yd_parts.proofs.PartExactLemmas.{parts_exact}
use Rattle.yd_parts.specs.Fault.{Fault}
use Rattle.yd_parts.specs.Part.{Unread, all_of, behind, last_spot, part_at, placed, signed, unsigned}
use Rattle.yd_parts.specs.PartGrammar.{FailsPart, StandsPart}
use Rattle.yd_parts.specs.Plan.{and_then, read_by}
use Rattle.yd_parts.specs.declared.fault.Column.TheVariants.{Whole}
use Rattle.yd_position.specs.declared.fault.PositionFault.{PositionFault}
use Rattle.yd_position.specs.declared.fault.PositionFault.TheVariants as faults
use Rattle.yd_position.specs.declared.position.Position.{Position}
use Rattle.yd_position.specs.declared.position.Target.{Target}
use Rattle.yd_position.specs.Grammar.{BeginsWith, DeviatesBehind, HasAssoc, HasFirstDeviation, IsNumberFault, StandsForPosition, assoc_plan}
use Rattle.yd_position.specs.Law.{PositionsAreOne, PositionsAreRead}
use Rattle.yd_position.specs.Reading.{ended, number_fault, of_assoc, of_target, position_reading, with_assoc, with_bytes}
use Rattle.yd_position.specs.Target.{target_plan}
use Rattle.yd_position.proofs.FaultLemmas.{fault_is, plan_fault, wants_assoc, wants_target}

-- ---- the association

-- the number at the front, as a plan
read_number : (left : Unread) → read_by part_at last_spot assoc_plan left ≡ part_at signed left
unfolding assoc_plan read_by
read_number left = go (part_at signed left)
  where
    go : (got : Result (Signed × Unread) Fault) → and_then got (λ read. Ok (read.0, read.1)) ≡ got
    go (Ok read) = refl
    go (Err fault) = refl

ended_ok : (target : Target) (number : Signed) (place : ℕ) (bytes : List ℕ) (p : Position) → ended target number place bytes ≡ Ok p →
    (bytes ≡ []) × (p ≡ record { target = target; assoc = whole_number number })
ended_ok target number place [] p is = (refl, sym (ok_value {E = PositionFault} _ p is))
ended_ok target number place (b ∷ bytes) p is = absurd cc

ended_err : (target : Target) (number : Signed) (place : ℕ) (bytes : List ℕ) (fault : PositionFault) → ended target number place bytes ≡ Err fault →
    (bytes ≢ []) × (fault ≡ faults.Trailing place)
ended_err target number place [] fault is = absurd cc
ended_err target number place (b ∷ bytes) fault is = let same : faults.Trailing place ≡ fault = cc in (λ none. absurd cc, sym same)

ends_err : (target : Target) (number : Signed) (place : ℕ) (bytes : List ℕ) → bytes ≢ [] → ended target number place bytes ≡ Err (faults.Trailing place)
ends_err target number place [] some = absurd (some refl)
ends_err target number place (b ∷ bytes) some = refl

-- numbers that are read are in range
pub unsigned_part_in_range : (left : Unread) (v : ℕ) (next : Unread) → part_at unsigned left ≡ Ok (v, next) → v < 2 ^ 53
unsigned_part_in_range left v next is = go (unsigned_at left.bytes) refl is
  where
    go : (got : Result (ℕ × List ℕ) NumCause) → unsigned_at left.bytes ≡ got → placed left got ≡ Ok (v, next) → v < 2 ^ 53
    go (Ok read) there gives =
        let same : read.0 ≡ v = ap (λ (q : ℕ × Unread). q.0) (ok_value {E = Fault} (read.0, behind left read.1) (v, next) gives) in
        subst (λ n. n < 2 ^ 53) same (unsigned_in_range left.bytes read.0 read.1 there)
    go (Err cause) there gives = absurd cc

pub number_in_range : (left : Unread) (number : Signed) (next : Unread) → part_at signed left ≡ Ok (number, next) → number.size < 2 ^ 55
number_in_range left number next is = go (signed_at left.bytes) refl is
  where
    go : (got : Result (Signed × List ℕ) NumCause) → signed_at left.bytes ≡ got → placed left got ≡ Ok (number, next) → number.size < 2 ^ 55
    go (Ok read) there gives =
        let same : read.0 ≡ number = ap (λ (q : Signed × Unread). q.0) (ok_value {E = Fault} (read.0, behind left read.1) (number, next) gives) in
        subst (λ (n : Signed). n.size < 2 ^ 55) same (signed_in_range left.bytes read.0 read.1 there)
    go (Err cause) there gives = absurd cc

-- what is made of a number that is read
assoc_ok : (target : Target) (left : Unread) (p : Position) → left.bytes ≢ [] → of_assoc target (part_at signed left) ≡ Ok p → (p.target ≡ target) × HasAssoc left p.assoc
assoc_ok target left p some is = after (part_at signed left) refl is
  where
    after : (got : Result (Signed × Unread) Fault) → part_at signed left ≡ got → of_assoc target got ≡ Ok p → (p.target ≡ target) × HasAssoc left p.assoc
    after (Ok read) there gives =
        let end = ended_ok target read.0 read.1.place read.1.bytes p gives in (
          ap (λ (q : Position). q.target) end.1,
          inr (
            some,
            (
              read.0,
              read.1,
              plan_gives part_at last_spot StandsPart FailsPart parts_exact assoc_plan left read.0 read.1 (read_number left ∙ there),
              end.0,
              ap (λ (q : Position). q.assoc) end.1,
            ),
          ),
        )
    after (Err fault) there gives = absurd cc

assoc_err : (target : Target) (left : Unread) (fault : PositionFault) → left.bytes ≢ [] → of_assoc target (part_at signed left) ≡ Err fault → DeviatesBehind (Some target) left fault
assoc_err target left fault some is = after (part_at signed left) refl is
  where
    after : (got : Result (Signed × Unread) Fault) → part_at signed left ≡ got → of_assoc target got ≡ Err fault → DeviatesBehind (Some target) left fault
    after (Ok read) there gives =
        let end = ended_err target read.0 read.1.place read.1.bytes fault gives in (
          some,
          inr (
            read.0,
            read.1,
            plan_gives part_at last_spot StandsPart FailsPart parts_exact assoc_plan left read.0 read.1 (read_number left ∙ there),
            end.0,
            end.1,
          ),
        )
    after (Err inner) there gives =
        let same : faults.Number (number_fault inner.cause inner.spot.at) ≡ fault = cc in
        let fails = plan_fails part_at last_spot StandsPart FailsPart parts_exact assoc_plan left inner (read_number left ∙ there) in
        (some, inl (inner, fails, subst (IsNumberFault inner.cause inner.spot.at) same (plan_fault assoc_plan left inner wants_assoc fails)))

-- ---- behind a target

target_ok : (target : Target) (left : Unread) (p : Position) → with_assoc target left ≡ Ok p → (p.target ≡ target) × HasAssoc left p.assoc
target_ok target left p is = go left.bytes refl is
  where
    go : (bytes : List ℕ) → left.bytes ≡ bytes → with_bytes target left bytes ≡ Ok p → (p.target ≡ target) × HasAssoc left p.assoc
    go [] none gives = let same = ok_value {E = PositionFault} _ p gives in (sym (ap (λ (q : Position). q.target) same), inl (none, sym (ap (λ (q : Position). q.assoc) same)))
    go (b ∷ bytes) some gives = assoc_ok target left p (λ none. cannot (sym some ∙ none)) gives
      where
        cannot : (b ∷ bytes) ≡ [] → ⊥
        cannot e = cc

some_bytes : (target : Target) (left : Unread) → left.bytes ≢ [] → with_assoc target left ≡ of_assoc target (part_at signed left)
some_bytes target left some = go left.bytes refl
  where
    go : (bytes : List ℕ) → left.bytes ≡ bytes → with_bytes target left bytes ≡ of_assoc target (part_at signed left)
    go [] none = absurd (some none)
    go (b ∷ bytes) is = refl

ok_target : (target : Target) (left : Unread) (assoc : ℤ) → HasAssoc left assoc → with_assoc target left ≡ Ok (record { target = target; assoc = assoc })
ok_target target left assoc (inl none) = rw (none.0, none.1) refl
ok_target target left assoc (inr more) =
    let (number, rest, gives, none, is) = more.1 in
    let read = sym (read_number left) ∙ given_read part_at last_spot StandsPart FailsPart parts_exact assoc_plan left number rest gives in
    some_bytes target left more.0 ∙ ap (of_assoc target) read ∙ rw (none, is) refl

target_err : (target : Target) (left : Unread) (fault : PositionFault) → with_assoc target left ≡ Err fault → DeviatesBehind (Some target) left fault
target_err target left fault is = go left.bytes refl is
  where
    go : (bytes : List ℕ) → left.bytes ≡ bytes → with_bytes target left bytes ≡ Err fault → DeviatesBehind (Some target) left fault
    go [] none gives = absurd cc
    go (b ∷ bytes) some gives = assoc_err target left fault (λ none. cannot (sym some ∙ none)) gives
      where
        cannot : (b ∷ bytes) ≡ [] → ⊥
        cannot e = cc

err_target : (target : Target) (left : Unread) (fault : PositionFault) → DeviatesBehind (Some target) left fault → with_assoc target left ≡ Err fault
err_target target left fault (some, inl front) =
    let read = sym (read_number left) ∙ failed_read part_at last_spot StandsPart FailsPart parts_exact assoc_plan left front.0 front.1 in
    some_bytes target left some ∙ ap (of_assoc target) read ∙ ap (λ f. Err f) (fault_is front.0.cause front.0.spot.at fault front.2)
err_target target left fault (some, inr more) =
    let read = sym (read_number left) ∙ given_read part_at last_spot StandsPart FailsPart parts_exact assoc_plan left more.0 more.1 more.2 in
    some_bytes target left some ∙ ap (of_assoc target) read ∙ ends_err target more.0 more.1.place more.1.bytes more.3 ∙ ap (λ f. Err f) (sym more.4)

-- ---- a position

position_ok : (bytes : List ℕ) (p : Position) → position_reading bytes ≡ Ok p → StandsForPosition bytes p
unfolding position_reading
position_ok bytes p is = after (read_by part_at last_spot target_plan (all_of Whole bytes)) refl is
  where
    after : (got : Result (Option Target × Unread) Fault) → read_by part_at last_spot target_plan (all_of Whole bytes) ≡ got → of_target got ≡ Ok p → StandsForPosition bytes p
    after (Ok (None, left)) there gives = absurd cc
    after (Ok (Some target, left)) there gives =
        let (same, has) = target_ok target left p gives in (
          left,
          subst (λ (t : Target). BeginsWith bytes (Some t) left) (sym same)
              (plan_gives part_at last_spot StandsPart FailsPart parts_exact target_plan (all_of Whole bytes) (Some target) left there),
          has,
        )
    after (Err fault) there gives = absurd cc

ok_position : (bytes : List ℕ) (p : Position) → StandsForPosition bytes p → position_reading bytes ≡ Ok p
unfolding position_reading
ok_position bytes p stands =
    let there = given_read part_at last_spot StandsPart FailsPart parts_exact target_plan (all_of Whole bytes) (Some p.target) stands.0 stands.1 in
    ap of_target there ∙ ok_target p.target stands.0 p.assoc stands.2

position_err : (bytes : List ℕ) (fault : PositionFault) → position_reading bytes ≡ Err fault → HasFirstDeviation bytes fault
unfolding position_reading
position_err bytes fault is = after (read_by part_at last_spot target_plan (all_of Whole bytes)) refl is
  where
    after : (got : Result (Option Target × Unread) Fault) → read_by part_at last_spot target_plan (all_of Whole bytes) ≡ got → of_target got ≡ Err fault → HasFirstDeviation bytes fault
    after (Ok (None, left)) there gives =
        let same : faults.BadForm 0 ≡ fault = cc in
        inr (None, left, plan_gives part_at last_spot StandsPart FailsPart parts_exact target_plan (all_of Whole bytes) None left there, sym same)
    after (Ok (Some target, left)) there gives =
        inr (Some target, left, plan_gives part_at last_spot StandsPart FailsPart parts_exact target_plan (all_of Whole bytes) (Some target) left there, target_err target left fault gives)
    after (Err inner) there gives =
        let same : faults.Number (number_fault inner.cause inner.spot.at) ≡ fault = cc in
        let fails = plan_fails part_at last_spot StandsPart FailsPart parts_exact target_plan (all_of Whole bytes) inner there in
        inl (inner, fails, subst (IsNumberFault inner.cause inner.spot.at) same (plan_fault target_plan (all_of Whole bytes) inner wants_target fails))

err_position : (bytes : List ℕ) (fault : PositionFault) → HasFirstDeviation bytes fault → position_reading bytes ≡ Err fault
unfolding position_reading
err_position bytes fault (inl front) =
    let there = failed_read part_at last_spot StandsPart FailsPart parts_exact target_plan (all_of Whole bytes) front.0 front.1 in
    ap of_target there ∙ ap (λ f. Err f) (fault_is front.0.cause front.0.spot.at fault front.2)
err_position bytes fault (inr (None, left, begins, is)) =
    let there = given_read part_at last_spot StandsPart FailsPart parts_exact target_plan (all_of Whole bytes) None left begins in
    ap of_target there ∙ ap (λ f. Err f) (sym is)
err_position bytes fault (inr (Some target, left, begins, deviates)) =
    let there = given_read part_at last_spot StandsPart FailsPart parts_exact target_plan (all_of Whole bytes) (Some target) left begins in
    ap of_target there ∙ err_target target left fault deviates

-- ---- for callers

pub positions_read : PositionsAreRead
positions_read = record {
  positions = λ bytes p. (position_ok bytes p, ok_position bytes p);
  faults = λ bytes fault. (position_err bytes fault, err_position bytes fault);
}

pub positions_one : PositionsAreOne
positions_one = record {
  positions = λ bytes p other one two. ok_value {E = PositionFault} p other (sym (ok_position bytes p one) ∙ ok_position bytes other two);
  faults = λ bytes fault other one two. let first = err_position bytes fault one in let second = err_position bytes other two in cc;
  apart = λ bytes p fault stands deviates. let found = ok_position bytes p stands in let failed = err_position bytes fault deviates in cc;
}
