-- An index parts a pair exactly where the units beside it are its halves by their ids, since pairs are whole.
use Rattle.std.proofs.Common.{◌≡◌, ◌<◌, ◌-◌, ℕ, zero, suc, Bool, true, false, ◌&&◌, List, [], ◌∷◌, Option, Some, inl, inr, refl, sym, ap, ap₂, ◌∙◌, subst, arith, true≢false}
use Rattle.std.specs.Prelude.{not, if◌then◌else◌}
use Rattle.yd_words.specs.Member.{IsIn}
use Rattle.yd_words.proofs.FilterLemmas.{kept_one}
use Rattle.yd_ids.specs.declared.id.Id.{Id}
use Rattle.yd_ids.specs.Ids.{is_same, is_same_neighbour}
use Rattle.yd_ids.proofs.IdLemmas.{same_is, same_itself, written_differs}
use Rattle.yd_ops.specs.declared.lists.List.{List as DocList}
use Rattle.yd_ops.specs.Operation.{Operation, later_id}
use Rattle.yd_ops.specs.ReceivedLaw.{ArePaired}
use Rattle.yd_ops.specs.Pairs.{is_high, is_low, is_text_and, are_partners}
use Rattle.yd_ops.specs.Received.{IsWritten}
use Rattle.yd_meaning.specs.Document.{Document}
use Rattle.yd_meaning.specs.Text.{live_units}
use Rattle.yd_shown.specs.Shown.{is_counted}
use Rattle.yd_editing.specs.Refused.{has_high}
use Rattle.yd_editing.specs.TextEdit.{counted_units, unit_at, parts_pair}
use Rattle.yd_text.specs.Halves.{are_halves}

-- of one id there is one operation
one_of_id : (os : List Operation) → IsWritten os → (o p : Operation) → IsIn o os → IsIn p os → o.id ≡ p.id → o ≡ p
one_of_id [] w o p i j e = absurd i
one_of_id (q ∷ qs) w o p (inl f) (inl g) e = f ∙ sym g
one_of_id (q ∷ qs) w o p (inl f) (inr j) e = absurd (written_differs q.id p.id (w.0 p j) (ap (λ (r : Operation). r.id) (sym f) ∙ e))
one_of_id (q ∷ qs) w o p (inr i) (inl g) e = absurd (written_differs q.id o.id (w.0 o i) (ap (λ (r : Operation). r.id) (sym g) ∙ sym e))
one_of_id (q ∷ qs) w o p (inr i) (inr j) e = one_of_id qs w.1 o p i j e

module _ (received : List Operation) (w : IsWritten received) (paired : ArePaired received) where
  high_is : (list : List Operation) → ((o : Operation) → IsIn o list → IsIn o received) → (o : Operation) → IsIn o list → has_high list o.id ≡ is_text_and is_high o.content
  high_is [] among o i = absurd i
  high_is (p ∷ ps) among o i = go (is_same p.id o.id) refl i (λ j. high_is ps (λ q k. among q (inr k)) o j)
    where
      go : (t : Bool) → is_same p.id o.id ≡ t → IsIn o (p ∷ ps) → (IsIn o ps → has_high ps o.id ≡ is_text_and is_high o.content) →
          (if t then is_text_and is_high p.content else has_high ps o.id) ≡ is_text_and is_high o.content
      go true e j rest = ap (λ (q : Operation). is_text_and is_high q.content) (one_of_id received w p o (among p (inl refl)) (among o i) (same_is p.id o.id e))
      go false e (inl f) rest = absurd (true≢false (sym (subst (λ (q : Operation). is_same p.id q.id ≡ true) (sym f) (same_itself p.id)) ∙ e))
      go false e (inr j) rest = rest j

  module _ (list : List Operation) (among : (o : Operation) → IsIn o list → IsIn o received) where
    pair_is : (o p : Operation) → IsIn o list → IsIn p list → are_partners o p ≡ are_halves list (Some o.id) (Some p.id)
    pair_is o p i j = go (is_text_and is_high o.content) refl (is_same p.id (later_id o.id 1)) refl
        ∙ ap (λ h. is_same p.id (later_id o.id 1) && h) (sym (high_is list among o i))
      where
        low : Bool
        low = is_text_and is_low p.content

        near : Bool
        near = is_same_neighbour p.left_origin (Some o.id)

        -- the partner of a first half is the unit with the next id
        partner : is_text_and is_high o.content ≡ true → is_same p.id (later_id o.id 1) ≡ true → are_partners o p ≡ true
        partner h s = let (q, k, e) = paired.high o (among o i) h in
            subst (λ (r : Operation). are_partners o r ≡ true) (one_of_id received w q p k (among p j) (next q e ∙ sym (same_is p.id (later_id o.id 1) s))) e
          where
            next : (q : Operation) → are_partners o q ≡ true → q.id ≡ later_id o.id 1
            next q e = same_is q.id (later_id o.id 1) (third (is_text_and is_high o.content) (is_text_and is_low q.content) (is_same q.id (later_id o.id 1))
                (is_same_neighbour q.left_origin (Some o.id)) e)
              where
                third : (a b c d : Bool) → (a && b && c && d) ≡ true → c ≡ true
                third true true true d f = refl
                third true true false d f = f
                third true false c d f = absurd (true≢false (sym f))
                third false b c d f = absurd (true≢false (sym f))

        go : (h : Bool) → is_text_and is_high o.content ≡ h → (s : Bool) → is_same p.id (later_id o.id 1) ≡ s →
            are_partners o p ≡ (is_same p.id (later_id o.id 1) && is_text_and is_high o.content)
        go true e true f = partner e f ∙ sym (ap₂ (λ a b. a && b) f e)
        go true e false f = ap₂ (λ a b. a && low && b && near) e f ∙ none low near ∙ sym (ap₂ (λ a b. a && b) f e)
          where
            none : (a b : Bool) → (true && a && false && b) ≡ false
            none true b = refl
            none false b = refl
        go false e s f = ap (λ a. a && low && is_same p.id (later_id o.id 1) && near) e ∙ sym (ap₂ (λ a b. a && b) f e ∙ no s)
          where
            no : (a : Bool) → (a && false) ≡ false
            no true = refl
            no false = refl

    parted_is : (units : List Operation) → ((o : Operation) → IsIn o units → IsIn o list) → (k : ℕ) →
        parts_pair units (suc k) ≡ are_halves list (unit_at units k) (unit_at units (suc k))
    parted_is [] within k = refl
    parted_is (o ∷ []) within zero = refl
    parted_is (o ∷ p ∷ ps) within zero = pair_is o p (within o (inl refl)) (within p (inr (inl refl)))
    parted_is (o ∷ os) within (suc k) = parted_is os (λ q i. within q (inr i)) k

-- ---- lemmas for callers

-- at the front none is parted
pub none_parted : (units : List Operation) (index : ℕ) → index ≡ 0 → false ≡ parts_pair units index
none_parted [] index e = refl
none_parted (o ∷ os) zero e = refl
none_parted (o ∷ os) (suc index) e = absurd (omega (arith, e))

-- behind it the units before the index and at it say so
pub index_parts : (received : List Operation) → IsWritten received → ArePaired received → (document : Document) (name : DocList) →
    ((o : Operation) → IsIn o (document.units name) → IsIn o received) → (index : ℕ) → 0 < index → (before behind : Option Id) →
    before ≡ unit_at (counted_units document name) (index - 1) → behind ≡ unit_at (counted_units document name) index →
    are_halves (document.units name) before behind ≡ parts_pair (counted_units document name) index
index_parts received w paired document name among zero some before behind e f = absurd (omega (arith, some))
index_parts received w paired document name among (suc k) some before behind e f =
    ap₂ (are_halves (document.units name)) (e ∙ ap (unit_at (counted_units document name)) same) f
    ∙ sym (parted_is received w paired (document.units name) among (counted_units document name) within k)
  where
    same : suc k - 1 ≡ k
    same = omega arith

    within : (o : Operation) → IsIn o (counted_units document name) → IsIn o (document.units name)
    within o i = (kept_one (λ (p : Operation). not (document.deleted p.id)) (document.units name) o
        (kept_one (λ (p : Operation). is_counted p.content) (live_units document name) o i).1).1
