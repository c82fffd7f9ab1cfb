-- What need be deleted need be so as more is held: what is closed in the whole is closed in a part.
use Rattle.std.proofs.Common.{◌≡◌, Bool, true, false, ◌&&◌, List, [], ◌∷◌, Some, refl, sym, ap, ◌∙◌, subst}
use Rattle.std.specs.Prelude.{filter, if◌then◌else◌}
use Rattle.yd_words.specs.Member.{IsIn}
use Rattle.yd_words.proofs.FilterLemmas.{kept_one}
use Rattle.yd_words.proofs.OptionLemmas.{some_is}
use Rattle.yd_words.proofs.TestLemmas.{both_hold, hold_both}
use Rattle.yd_ids.specs.declared.id.Id.{Id}
use Rattle.yd_ops.specs.declared.lists.List.{List as DocList}
use Rattle.yd_ops.specs.Operation.{Operation}
use Rattle.yd_origins.specs.Deleted.{last_of}
use Rattle.yd_ops.specs.Received.{has_operation}
use Rattle.yd_meaning.specs.Staying.{StaysHeld}
use Rattle.yd_meaning.specs.Deletions.{MustBeDeleted, for_name, for_loss, for_key, for_item, AreClosedDeletions, AreLeastDeletions}

cons_last : (y : Id) (xs : List Id) (x : Id) → last_of xs ≡ Some x → last_of (y ∷ xs) ≡ Some x
cons_last y [] x e = absurd cc
cons_last y (z ∷ zs) x e = e

-- what stands last and passes stands last of what passes
pub last_kept : (test : Id → Bool) (xs : List Id) (x : Id) → last_of xs ≡ Some x → test x ≡ true → last_of (filter test xs) ≡ Some x
last_kept test [] x e t = absurd cc
last_kept test (y ∷ []) x e t = let same = some_is y x e in subst (λ z. last_of (filter test (z ∷ [])) ≡ Some x) (sym same) (rw t refl)
last_kept test (y ∷ z ∷ zs) x e t = go (test y) (last_kept test (z ∷ zs) x e t)
  where
    go : (b : Bool) → last_of (filter test (z ∷ zs)) ≡ Some x → last_of (if b then y ∷ filter test (z ∷ zs) else filter test (z ∷ zs)) ≡ Some x
    go true h = cons_last y (filter test (z ∷ zs)) x h
    go false h = h

module _ (part held : List Operation) (stays : StaysHeld part held) (old_lists lists : DocList → List Id)
    (before : (list : DocList) → old_lists list ≡ filter (has_operation part) (lists list)) (named more : Id → Bool) (among : (x : Id) → named x ≡ true → more x ≡ true) where
  module _ (other : Id → Bool) (closed : AreClosedDeletions lists held more other) where
    -- of what is deleted in the whole, that which the part has
    abbrev in_part : Id → Bool
    in_part x = other x && has_operation part x

    there : (list : DocList) (x : Id) → IsIn x (old_lists list) → (has_operation part x ≡ true) × IsIn x (lists list)
    there list x i = kept_one (has_operation part) (lists list) x (subst (IsIn x) (before list) i)

    both : (x : Id) → other x ≡ true → has_operation part x ≡ true → in_part x ≡ true
    both x e f = hold_both (other x) (has_operation part x) e f

    all : (x : Id) → MustBeDeleted old_lists part named in_part x → in_part x ≡ true
    all x (for_name had by) = both x (closed.all x (for_name (stays.ids x had) (among x by))) had
    all x (for_loss lost) = both x (closed.all x (for_loss (stays.lost x lost))) (both_hold (has_operation part x) _ lost).0
    all x (for_key list i key not_last) = let (had, stays_in) = there list x i in
        both x (closed.all x (for_key list stays_in key (λ last. not_last (ap last_of (before list) ∙ last_kept (has_operation part) (lists list) x last had)))) had
    all x (for_item {y = y} list i item by) = let (had, stays_in) = there list x i in
        both x (closed.all x (for_item list stays_in item (both_hold (other y) (has_operation part y) by).0)) had

    closed_in_part : AreClosedDeletions old_lists part named in_part
    closed_in_part = record { all = all; only_held = λ x e. (both_hold (other x) (has_operation part x) e).1 }

  -- ---- lemmas for callers

  pub least_stays : (deleted : Id → Bool) → AreLeastDeletions old_lists part named deleted → (other : Id → Bool) → AreClosedDeletions lists held more other →
      (x : Id) → deleted x ≡ true → other x ≡ true
  least_stays deleted least other closed x e = (both_hold (other x) (has_operation part x) (least (in_part other closed) (closed_in_part other closed) x e)).0
