-- What stands before the last unit of a list, run by run from the back.
use Rattle.std.proofs.Common.{◌≡◌, ◌≢◌, ℕ, suc, ◌-◌, ◌<◌, inl, inr, List, [], ◌∷◌, ◌++◌, Option, Some, None, length, refl, sym, ap, ◌∙◌, subst, arith}
use Rattle.std.proofs.lemmas.List.{append_assoc, length-append}
use Rattle.yd_words.specs.Member.{IsIn, AreDistinct}
use Rattle.yd_words.proofs.MemberLemmas.{in_left_part, in_right_part, in_parts}
use Rattle.yd_words.proofs.OptionLemmas.{some_is}
use Rattle.yd_ids.specs.declared.id.Id.{Id}
use Rattle.yd_ids.specs.declared.id.Span.{Span}
use Rattle.yd_ids.specs.Span.{InSpan}
use Rattle.yd_ids.specs.Set.{HasId}
use Rattle.yd_origins.specs.Deleted as last
use Rattle.yd_chains.specs.Chain.{last_of, before}
use Rattle.yd_chains.proofs.ChainLemmas.{distinct_out}
use Rattle.yd_scan.specs.declared.stretch.Stretch.{Stretch}
use Rattle.yd_scan.specs.Stretches.{stretch_at, units_from, units_of, last_unit, units_at}
use Rattle.yd_scan.proofs.UnitLemmas.{units_last, units_in}
use Rattle.yd_arena.specs.Lists.{AreLists}
use Rattle.yd_arena.specs.Arena.{runs_of, count_of, places_in}
use Rattle.yd_kept.specs.Kept.{KeptValue}
use Rattle.yd_listing.specs.Falling.{units_of_list, IsOutlived}
use Rattle.yd_listing.specs.Steps.{span_of, last_of_span, InSpanBut, Adds, IsOther}
use Rattle.yd_listing.proofs.AddingLemmas.{adds_none, adds_wider, adds_both}
use Rattle.yd_listing.proofs.RunLemmas.{unit_in_span, span_has_unit, before_part, place_last, none_last, units_append, list_last}

-- how many places are still to be passed
abbrev pub places_to_pass : List ℕ → Option ℕ → ℕ
places_to_pass places None = 0
places_to_pass places (Some p) = suc (length (before p places))

-- what stands behind the next place is among the spans, but for the last unit
pub record IsBacking (it : KeptValue) (n : ℕ) (end : Id) (old new : List Span) (next : Option ℕ) : Type 0 where
  pub front : List ℕ
  pub rest : List ℕ
  pub parts : places_in it.store.placed n ≡ front ++ rest
  pub next_is : next ≡ last_of front
  pub adds : Adds (IsOther (units_of_list it n)) old new
  pub passed : (x : Id) → IsIn x (units_at (runs_of it.store.placed) rest) → x ≢ end → HasId new x

none_behind : {X : Type 0} (xs : List X) → xs ++ [] ≡ xs
none_behind [] = refl
none_behind (x ∷ xs) = ap (λ ys. x ∷ ys) (none_behind xs)

pub backing_begins : (it : KeptValue) (n : ℕ) (end : Id) (old : List Span) (next : Option ℕ) → next ≡ last_of (places_in it.store.placed n) → IsBacking it n end old old next
backing_begins it n end old next e = record {
  front = places_in it.store.placed n;
  rest = [];
  parts = sym (none_behind (places_in it.store.placed n));
  next_is = e;
  adds = adds_none (IsOther (units_of_list it n)) old;
  passed = λ x i. absurd i;
}

-- what is not the last unit does not stand last
pub not_end : (units : List Id) (end x : Id) → last.last_of units ≡ Some end → x ≢ end → last.last_of units ≢ Some x
not_end units end x e other f = other (some_is x end (sym f ∙ e))

pub other_end : (units : List Id) (end x : Id) → last.last_of units ≡ Some end → last.last_of units ≢ Some x → x ≢ end
other_end units end x e other f = other (e ∙ ap (λ (y : Id). Some y) (sym f))

module _ (it : KeptValue) (deleted : List Span) (n : ℕ) (end : Id) (old : List Span) (sound : AreLists it.store.placed.linked) (lt : n < count_of it.store.placed)
    (ends : last.last_of (units_of_list it n) ≡ Some end) where
  abbrev runs : List Stretch
  runs = runs_of it.store.placed

  abbrev places : List ℕ
  places = places_in it.store.placed n

  module _ (mid : List Span) (p : ℕ) (was : IsBacking it n end old mid (Some p)) where
    abbrev front : List ℕ
    front = (place_last was.front p (sym was.next_is)).0

    parts : places ≡ front ++ p ∷ was.rest
    parts = was.parts ∙ ap (λ ps. ps ++ was.rest) (place_last was.front p (sym was.next_is)).1 ∙ append_assoc front (p ∷ []) was.rest

    pub back_on_list : IsIn p places
    back_on_list = subst (IsIn p) (sym parts) (in_right_part p front (p ∷ was.rest) (inl refl))

    out : IsIn p (front ++ was.rest) → ⊥
    out = distinct_out p front was.rest (subst AreDistinct parts (sound.distinct n lt))

    before_is : before p places ≡ front
    before_is = ap (before p) parts ∙ before_part p front was.rest (λ i. out (in_left_part p front was.rest i))

    -- a run whose last unit was deleted ends it
    pub backing_stops : HasId deleted (last_of_span (span_of (stretch_at runs p))) → IsOutlived deleted mid (units_of_list it n)
    backing_stops h =
        let run = stretch_at runs p in
        let filled : 0 < run.len = sound.filled n p lt back_on_list in
        let own : List Id = units_from run.id.client run.id.clock (run.len - 1) in
        inr (
          last_unit run,
          record {
            front = units_at runs front ++ own;
            back = units_at runs was.rest;
            parts = ap (units_at runs) parts ∙ units_append runs front (p ∷ was.rest)
                ∙ ap (λ us. units_at runs front ++ (us ++ units_at runs was.rest)) (units_last run filled)
                ∙ ap (λ us. units_at runs front ++ us) (append_assoc own (last_unit run ∷ []) (units_at runs was.rest))
                ∙ sym (append_assoc (units_at runs front) own (last_unit run ∷ units_at runs was.rest));
            was = h;
            gone = λ x i other. was.passed x i (other_end (units_of_list it n) end x ends other);
          },
        )

    module _ (new : List Span) (after : Option ℕ) (adds : Adds (InSpanBut (span_of (stretch_at runs p)) end) mid new)
        (all : (x : Id) → InSpanBut (span_of (stretch_at runs p)) end x → HasId new x)
        (value : (k : ℕ) → k < count_of it.store.placed → IsIn p (places_in it.store.placed k) → after ≡ last_of (before p (places_in it.store.placed k))) where
      after_is : after ≡ last_of front
      after_is = value n lt back_on_list ∙ ap last_of before_is

      other : (x : Id) → InSpanBut (span_of (stretch_at runs p)) end x → IsOther (units_of_list it n) x
      other x i = (units_in runs places x p back_on_list (span_has_unit (stretch_at runs p) x i.0), not_end (units_of_list it n) end x ends i.1)

      pub backing_goes_on : IsBacking it n end old new after
      backing_goes_on = record {
        front = front;
        rest = p ∷ was.rest;
        parts = parts;
        next_is = after_is;
        adds = adds_both (IsOther (units_of_list it n)) old mid new was.adds
            (adds_wider (InSpanBut (span_of (stretch_at runs p)) end) (IsOther (units_of_list it n)) mid new other adds);
        passed = λ x i not_last. elim (in_parts x (units_of (stretch_at runs p)) (units_at runs was.rest) i) [
          | inl j ↦ all x (unit_in_span (stretch_at runs p) x j, not_last)
          | inr j ↦ adds.kept x (was.passed x j not_last)
        ];
      }

      pub fewer_to_pass : places_to_pass places after < places_to_pass places (Some p)
      fewer_to_pass = subst (λ z. places_to_pass places z < places_to_pass places (Some p)) (sym after_is) (go (last_of front) refl)
        where
          go : (z : Option ℕ) → last_of front ≡ z → places_to_pass places z < places_to_pass places (Some p)
          go None e = omega arith
          go (Some q) e =
              let ys = place_last front q e in
              let here : places ≡ ys.0 ++ q ∷ (p ∷ was.rest) = parts ∙ ap (λ ps. ps ++ p ∷ was.rest) ys.1 ∙ append_assoc ys.0 (q ∷ []) (p ∷ was.rest) in
              let gone : IsIn q (ys.0 ++ p ∷ was.rest) → ⊥ = distinct_out q ys.0 (p ∷ was.rest) (subst AreDistinct here (sound.distinct n lt)) in
              let rest : before q places ≡ ys.0 = ap (before q) here ∙ before_part q ys.0 (p ∷ was.rest) (λ i. gone (in_left_part q ys.0 (p ∷ was.rest) i)) in
              omega (arith, ap length rest, ap length before_is, ap length ys.1, length-append ys.0 (q ∷ []))

  pub backing_ends : (new : List Span) → IsBacking it n end old new None → IsOutlived deleted new (units_of_list it n)
  backing_ends new was = inl (λ x i other. was.passed x
      (subst (λ ps. IsIn x (units_at runs ps)) (was.parts ∙ ap (λ ps. ps ++ was.rest) (none_last was.front (sym was.next_is))) i)
      (other_end (units_of_list it n) end x ends other))

pub list_ends : (it : KeptValue) (n place : ℕ) → AreLists it.store.placed.linked → n < count_of it.store.placed → last_of (places_in it.store.placed n) ≡ Some place →
    IsIn place (places_in it.store.placed n) → last.last_of (units_of_list it n) ≡ Some (last_of_span (span_of (stretch_at (runs_of it.store.placed) place)))
list_ends it n place sound lt e i = list_last (runs_of it.store.placed) (places_in it.store.placed n) place e (sound.filled n place lt i)

-- more spans keep what is outlived
pub outlived_kept : (deleted old new : List Span) (units : List Id) → ((x : Id) → HasId old x → HasId new x) → IsOutlived deleted old units → IsOutlived deleted new units
outlived_kept deleted old new units kept (inl all) = inl (λ x i other. kept x (all x i other))
outlived_kept deleted old new units kept (inr (s, g)) = inr (s, record { front = g.front; back = g.back; parts = g.parts; was = g.was; gone = λ x i other. kept x (g.gone x i other) })

-- a list without a last place has no unit
pub none_there : (it : KeptValue) (n : ℕ) (x : Id) → last_of (places_in it.store.placed n) ≡ None → IsIn x (units_of_list it n) → ⊥
none_there it n x e i = subst (λ ps. IsIn x (units_at (runs_of it.store.placed) ps)) (none_last (places_in it.store.placed n) e) i

-- a span of a list but for its last unit has others alone
pub others_added : (units : List Id) (span : Span) (end : Id) (xs ys : List Span) → last.last_of units ≡ Some end → ((x : Id) → InSpan span x → IsIn x units) →
    Adds (InSpanBut span end) xs ys → Adds (IsOther units) xs ys
others_added units span end xs ys e there adds = adds_wider (InSpanBut span end) (IsOther units) xs ys (λ x i. (there x i.0, not_end units end x e i.1)) adds

pub end_is : (units : List Id) (end x : Id) → last.last_of units ≡ Some end → last.last_of units ≡ Some x → x ≡ end
end_is units end x e f = some_is x end (sym f ∙ e)
