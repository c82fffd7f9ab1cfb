-- A half that a cut before an id parts from its partner; and an operation after so many from an id on were lowered.
use Rattle.std.proofs.Common.{◌≡◌, ℕ, ◌<◌, ◌≤◌, Bool, true, false, ◌&&◌, ◌||◌, ◌⊎◌, inl, inr, refl, sym, ap, ◌∙◌, arith, tests, true≢false}
use Rattle.std.specs.Prelude.{Decides, nat_lt}
use Rattle.std.proofs.lemmas.Bool.{cases_Bool, false_from_ne_true}
use Rattle.std.proofs.lemmas.Bool.Decides.{Decides-or, Decides-and}
use Rattle.yd_ids.specs.declared.id.Id.{Id}
use Rattle.yd_ids.specs.Ids.{is_same}
use Rattle.yd_ids.proofs.IdLemmas.{same_numbers}
use Rattle.yd_ops.specs.Operation.{Operation, later_id, level_of, as_level, IsHighUnit, IsLowUnit}
use Rattle.yd_ops.specs.Pairs.{is_high, is_low, is_text_and, as_torn}
use Rattle.yd_ops.proofs.LevelLemmas.{half_full, as_level-id, as_level-torn}
use Rattle.yd_ops.proofs.PartnerLemmas.{AreOnePair, IsHalf, high_unit, low_unit, same_decides, one_half, high_partner, low_partner}
use Rattle.yd_ops.proofs.MendingLemmas.{as_torn-id, torn_no_half}
use Rattle.yd_entries.specs.Lowering.{is_among, torn_at, lowered_at, lowered_with}

-- ---- a cut before an id

-- the operation is a half that a cut before the id parts from its partner
abbrev pub IsBorder : Id → Operation → Type 0
IsBorder x o = (IsHighUnit o.content × (later_id o.id 1 ≡ x)) ⊎ (IsLowUnit o.content × (o.id ≡ x))

border_decides : (x : Id) (o : Operation) →
    Decides ((is_text_and is_high o.content && is_same (later_id o.id 1) x) || (is_text_and is_low o.content && is_same o.id x)) (IsBorder x o)
border_decides x o = Decides-or (is_text_and is_high o.content && is_same (later_id o.id 1) x) (is_text_and is_low o.content && is_same o.id x)
    (Decides-and (is_text_and is_high o.content) (is_same (later_id o.id 1) x) (high_unit o.content) (same_decides (later_id o.id 1) x))
    (Decides-and (is_text_and is_low o.content) (is_same o.id x) (low_unit o.content) (same_decides o.id x))

pub border_half : (x : Id) (o : Operation) → IsBorder x o → IsHalf o.content
border_half x o (inl h) = inl h.0
border_half x o (inr l) = inr l.0

pub torn_at_border : (x : Id) (o : Operation) → IsBorder x o → torn_at x o ≡ as_torn true o
torn_at_border x o border = ap (λ t. as_torn t o) ((border_decides x o).1 border)

pub torn_at_other : (x : Id) (o : Operation) → (IsBorder x o → ⊥) → torn_at x o ≡ o
torn_at_other x o none = ap (λ t. as_torn t o) (false_from_ne_true _ (λ e. none ((border_decides x o).0 e)))

-- it is torn, or as it was
pub torn_at_either : (x : Id) (o : Operation) → (torn_at x o ≡ o) ⊎ ((torn_at x o ≡ as_torn true o) × IsBorder x o)
torn_at_either x o = elim (cases_Bool ((is_text_and is_high o.content && is_same (later_id o.id 1) x) || (is_text_and is_low o.content && is_same o.id x))) [
  | inl e ↦ inr (ap (λ t. as_torn t o) e, (border_decides x o).0 e)
  | inr e ↦ inl (ap (λ t. as_torn t o) e)
]

pub torn_at-id : (x : Id) (o : Operation) → (torn_at x o).id ≡ o.id
torn_at-id x o = as_torn-id ((is_text_and is_high o.content && is_same (later_id o.id 1) x) || (is_text_and is_low o.content && is_same o.id x)) o

torn_stays : (x : Id) (o : Operation) → torn_at x (as_torn true o) ≡ as_torn true o
torn_stays x o = torn_at_other x (as_torn true o) (λ border. torn_no_half o (border_half x (as_torn true o) border))

-- ---- lowering

pub lowered_at-id : (id : Id) (count level : ℕ) (o : Operation) → (lowered_at id count level o).id ≡ o.id
lowered_at-id id count level o = elim (cases_Bool (is_among id count o.id && nat_lt level (level_of o.content))) [
  | inl e ↦ rw e (as_level-id level o)
  | inr e ↦ rw e refl
]

pub lowered_here : (id : Id) (count level : ℕ) (o : Operation) → is_among id count o.id ≡ true → level < level_of o.content → lowered_at id count level o ≡ as_level level o
lowered_here id count level o among less = rw (among, less_is level (level_of o.content) less) refl
  where
    less_is : (m n : ℕ) → m < n → nat_lt m n ≡ true
    less_is m n lt = grind (arith, tests)

pub lowered_low : (id : Id) (count level : ℕ) (o : Operation) → level_of o.content ≤ level → lowered_at id count level o ≡ o
lowered_low id count level o le = rw (and_false (is_among id count o.id) (nat_lt level (level_of o.content)) (not_less level (level_of o.content) le)) refl
  where
    not_less : (m n : ℕ) → n ≤ m → nat_lt m n ≡ false
    not_less m n le = grind (arith, tests)

    and_false : (s t : Bool) → t ≡ false → (s && t) ≡ false
    and_false true t e = e
    and_false false t e = refl

pub lowered_away : (id : Id) (count level : ℕ) (o : Operation) → is_among id count o.id ≡ false → lowered_at id count level o ≡ o
lowered_away id count level o away = rw away refl

-- ---- all together

module _ (id : Id) (count level : ℕ) (some : 0 < count) (low : level < 2) where
  -- the operation is a half beside those that are lowered
  abbrev pub IsBordering : Operation → Type 0
  IsBordering o = (IsHighUnit o.content × (later_id o.id 1 ≡ id)) ⊎ (IsLowUnit o.content × (o.id ≡ later_id id count))

  pub with_id : (o : Operation) → (lowered_with id count level o).id ≡ o.id
  with_id o = lowered_at-id id count level (torn_at (later_id id count) (torn_at id o)) ∙ torn_at-id (later_id id count) (torn_at id o) ∙ torn_at-id id o

  torn_twice : (o : Operation) → (torn_at (later_id id count) (torn_at id o) ≡ o) ⊎ ((torn_at (later_id id count) (torn_at id o) ≡ as_torn true o) × IsHalf o.content)
  torn_twice o = elim (torn_at_either id o) [
    | inl same ↦ elim (torn_at_either (later_id id count) o) [
      | inl also ↦ inl (ap (λ p. torn_at (later_id id count) p) same ∙ also)
      | inr (torn, border) ↦ inr (ap (λ p. torn_at (later_id id count) p) same ∙ torn, border_half (later_id id count) o border)
    ]
    | inr (torn, border) ↦ inr (ap (λ p. torn_at (later_id id count) p) torn ∙ torn_stays (later_id id count) o, border_half id o border)
  ]

  pub with_here : (o : Operation) → is_among id count o.id ≡ true → level < level_of o.content → lowered_with id count level o ≡ as_level level o
  with_here o among less = elim (torn_twice o) [
    | inl same ↦ ap (λ p. lowered_at id count level p) same ∙ lowered_here id count level o among less
    | inr (torn, half) ↦ ap (λ p. lowered_at id count level p) torn ∙ lowered_here id count level (as_torn true o) among low ∙ as_level-torn level o low
  ]

  pub with_low : (o : Operation) → level_of o.content ≤ level → lowered_with id count level o ≡ o
  with_low o le = elim (torn_twice o) [
    | inl same ↦ ap (λ p. lowered_at id count level p) same ∙ lowered_low id count level o le
    | inr (torn, half) ↦ absurd (omega (arith, half_full o.content half, le, low))
  ]

  first_among : is_among id count id ≡ true
  first_among = grind (arith, tests)

  last_among : (x : Id) → later_id x 1 ≡ later_id id count → is_among id count x ≡ true
  last_among x e = let client = ap (λ (y : Id). y.client.0) e in let clock = ap (λ (y : Id). y.clock) e in grind (arith, tests)

  end_differs : (x : Id) → x ≡ id → x ≡ later_id id count → ⊥
  end_differs x e f = absurd (omega (arith, ap (λ (y : Id). y.clock) e, ap (λ (y : Id). y.clock) f))

  pub with_torn : (o : Operation) → is_among id count o.id ≡ false → IsBordering o → lowered_with id count level o ≡ as_torn true o
  with_torn o away (inl (high, next)) =
      ap (λ p. lowered_at id count level p) (ap (λ p. torn_at (later_id id count) p) (torn_at_border id o (inl (high, next))) ∙ torn_stays (later_id id count) o)
      ∙ lowered_away id count level (as_torn true o) away
  with_torn o away (inr (is_low, end)) =
      ap (λ p. lowered_at id count level p) (ap (λ p. torn_at (later_id id count) p) (torn_at_other id o (λ border. elim border [
        | inl h ↦ one_half o.content h.0 is_low
        | inr l ↦ end_differs o.id l.1 end
      ])) ∙ torn_at_border (later_id id count) o (inr (is_low, end)))
      ∙ lowered_away id count level (as_torn true o) away

  pub with_other : (o : Operation) → is_among id count o.id ≡ false → (IsBordering o → ⊥) → lowered_with id count level o ≡ o
  with_other o away none =
      ap (λ p. lowered_at id count level p) (ap (λ p. torn_at (later_id id count) p) (torn_at_other id o (λ border. elim border [
        | inl h ↦ none (inl h)
        | inr l ↦ true≢false (sym first_among ∙ ap (λ x. is_among id count x) (sym l.1) ∙ away)
      ])) ∙ torn_at_other (later_id id count) o (λ border. elim border [
        | inl h ↦ true≢false (sym (last_among o.id h.1) ∙ away)
        | inr l ↦ none (inr l)
      ]))
      ∙ lowered_away id count level o away

  -- ---- beside those that are lowered

  next_first : (x : Id) → is_among id count x ≡ false → is_among id count (later_id x 1) ≡ true → later_id x 1 ≡ id
  next_first x away among = same_numbers (later_id x 1) id (grind (arith, tests)) (grind (arith, tests))

  next_end : (x y : Id) → y ≡ later_id x 1 → is_among id count x ≡ true → is_among id count y ≡ false → y ≡ later_id id count
  next_end x y e among away =
      let client = ap (λ (z : Id). z.client.0) e in let clock = ap (λ (z : Id). z.clock) e in
      same_numbers y (later_id id count) (grind (arith, tests)) (grind (arith, tests))

  -- a half whose partner alone is among those that are lowered stands beside them
  pub partner_beside : (o p : Operation) → AreOnePair o p → is_among id count o.id ≡ false → is_among id count p.id ≡ true → IsBordering o
  partner_beside o p (inl pair) away among = inl (pair.high_half, next_first o.id away (ap (λ x. is_among id count x) (sym pair.next_clock) ∙ among))
  partner_beside o p (inr pair) away among = inr (pair.low_half, next_end p.id o.id pair.next_clock among away)

  -- and one whose partner is not among them does not
  pub partner_away : (o p : Operation) → AreOnePair o p → is_among id count p.id ≡ false → IsBordering o → ⊥
  partner_away o p pair away (inl (high, next)) =
      true≢false (sym first_among ∙ ap (λ x. is_among id count x) (sym ((high_partner o p high pair).next_clock ∙ next)) ∙ away)
  partner_away o p pair away (inr (is_low, end)) = true≢false (sym (last_among p.id (sym (low_partner o p is_low pair).next_clock ∙ end)) ∙ away)
