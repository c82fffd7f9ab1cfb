-- The last of some units: of those that pass a test, and with one more behind them.
use Rattle.std.proofs.Common.{append_assoc, ◌≡◌, Bool, true, false, ◌&&◌, List, [], ◌∷◌, ◌++◌, map, Option, Some, None, inl, inr, refl, sym, ap, ◌∙◌, subst}
use Rattle.std.specs.Prelude.{filter, if◌then◌else◌}
use Rattle.yd_words.specs.Member.{IsIn}
use Rattle.yd_words.proofs.FilterLemmas.{kept_one}
use Rattle.yd_words.proofs.TestLemmas.{both_hold}
use Rattle.yd_ids.specs.declared.id.Id.{Id}
use Rattle.yd_ids.specs.declared.id.Span.{Span}
use Rattle.yd_ops.specs.Operation.{UnitContent, Operation}
use Rattle.yd_origins.specs.Deleted.{last_of}
use Rattle.yd_meaning.specs.Held.{is_named}
use Rattle.yd_state.specs.Lent.{lent}
use Rattle.yd_shown.specs.Shown.{last_unit}
use Rattle.yd_copying.specs.Content.{can_be_made}
use Rattle.yd_editing.specs.Made.{put_behind}
use Rattle.yd_editing.proofs.AroundLemmas.{last_view, put_after}
use Rattle.yd_editing.proofs.DeleteLemmas.{apart_parts}
use Rattle.yd_editing.proofs.IndexLemmas.{AreApart}
use Rattle.yd_remaking.specs.Last.{last_made}
use Rattle.yd_restoring.specs.Again.{IsAgain, AreAgain}

-- ---- the last one

pub last_is : (front : List Operation) (l : Operation) → last_unit (front ++ l ∷ []) ≡ Some l
last_is [] l = refl
last_is (o ∷ []) l = refl
last_is (o ∷ p ∷ ps) l = last_is (p ∷ ps) l

pub last_id_is : (front : List Operation) (l : Operation) → last_of (map (λ (o : Operation). o.id) (front ++ l ∷ [])) ≡ Some l.id
last_id_is [] l = refl
last_id_is (o ∷ []) l = refl
last_id_is (o ∷ p ∷ ps) l = last_id_is (p ∷ ps) l

pub last_there : (front : List Operation) (l : Operation) → IsIn l (front ++ l ∷ [])
last_there [] l = inl refl
last_there (o ∷ os) l = inr (last_there os l)

-- a unit behind the last one
pub put_last : (os : List Operation) (made : Operation) → AreApart os → put_behind (last_of (map (λ (o : Operation). o.id) os)) (made ∷ []) os ≡ os ++ made ∷ []
put_last os made apart = elim (last_view os) [
  | inl e ↦ subst (λ ps. put_behind (last_of (map (λ (o : Operation). o.id) ps)) (made ∷ []) ps ≡ ps ++ made ∷ []) (sym e) refl
  | inr (front, l, e) ↦ subst (λ ps. put_behind (last_of (map (λ (o : Operation). o.id) ps)) (made ∷ []) ps ≡ ps ++ made ∷ []) (sym e)
      (ap (λ p. put_behind p (made ∷ []) (front ++ l ∷ [])) (last_id_is front l)
      ∙ put_after (made ∷ []) l front [] (λ o i. apart_parts front (l ∷ []) (subst (λ ps. AreApart ps) e apart) o l i (inl refl))
      ∙ sym (append_assoc front (l ∷ []) (made ∷ [])))
]

-- ---- of those that pass a test

-- the last one's id, or what was before all
abbrev pub id_or : Option Id → Option Operation → Option Id
id_or before None = before
id_or before (Some o) = Some o.id

last_more : (before : Option Id) (o : Operation) (ps : List Operation) → id_or before (last_unit (o ∷ ps)) ≡ id_or (Some o.id) (last_unit ps)
last_more before o [] = refl
last_more before o (p ∷ ps) = some_last p ps
  where
    some_last : (q : Operation) (qs : List Operation) → id_or before (last_unit (q ∷ qs)) ≡ id_or (Some o.id) (last_unit (q ∷ qs))
    some_last q [] = refl
    some_last q (r ∷ rs) = some_last r rs

-- the last unit that is named and can be made
pub last_made_is : (named : List Span) (deleted : Id → Bool) (before : Option Id) (os : List Operation) →
    last_made named before (map (lent deleted) os) ≡ id_or before (last_unit (filter (λ o. is_named named o.id && can_be_made o.content) os))
last_made_is named deleted before [] = refl
last_made_is named deleted before (o ∷ os) = go (can_be_made o.content) (is_named named o.id) (λ b. last_made_is named deleted b os)
  where
    rest : List Operation
    rest = filter (λ p. is_named named p.id && can_be_made p.content) os

    go : (c n : Bool) → ((b : Option Id) → last_made named b (map (lent deleted) os) ≡ id_or b (last_unit (filter (λ p. is_named named p.id && can_be_made p.content) os))) →
        last_made named (if c then (if n then Some o.id else before) else before) (map (lent deleted) os)
        ≡ id_or before (last_unit (if n && c then o ∷ filter (λ p. is_named named p.id && can_be_made p.content) os
        else filter (λ p. is_named named p.id && can_be_made p.content) os))
    go true true again = again (Some o.id) ∙ sym (last_more before o rest)
    go true false again = again before
    go false true again = again before
    go false false again = again before

last_in : (os : List Operation) (o : Operation) → last_unit os ≡ Some o → IsIn o os
last_in [] o e = absurd cc
last_in (p ∷ []) o e = inl cc
last_in (p ∷ q ∷ qs) o e = inr (last_in (q ∷ qs) o e)

-- it is one of them, and passes the test
pub last_passes : (named : List Span) (os : List Operation) (o : Operation) → last_unit (filter (λ p. is_named named p.id && can_be_made p.content) os) ≡ Some o →
    IsIn o os × (is_named named o.id ≡ true) × (can_be_made o.content ≡ true)
last_passes named os o e = let k = kept_one (λ (p : Operation). is_named named p.id && can_be_made p.content) os o
    (last_in (filter (λ p. is_named named p.id && can_be_made p.content) os) o e) in
    let b = both_hold (is_named named o.id) (can_be_made o.content) k.0 in (k.1, b.0, b.1)

-- ---- one unit again

pub one_again : (us : List UnitContent) (c : UnitContent) → AreAgain us (c ∷ []) → (d : UnitContent) × (us ≡ d ∷ []) × IsAgain d c
one_again [] c f = absurd f
one_again (d ∷ []) c f = (d, refl, f.0)
one_again (d ∷ d2 ∷ ds) c f = absurd f.1
