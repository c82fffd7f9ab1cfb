-- The number of an id is that of its entry.
use Rattle.std.proofs.Common.{◌≡◌, ℕ, zero, suc, ◌<◌, Bool, true, false, cond, ◌||◌, List, [], ◌∷◌, inl, inr, Some, None, length, get_or, set, refl, sym, ap, ◌∙◌, subst, arith, true≢false}
use Rattle.std.specs.Prelude.{is_some, filter, slice_get}
use Rattle.std.proofs.lemmas.Bool.{false_from_ne_true}
use Rattle.yd_words.specs.Each.{Each}
use Rattle.yd_words.proofs.OptionLemmas.{some_is}
use Rattle.yd_words.proofs.EachLemmas.{each_at}
use Rattle.yd_ids.specs.declared.id.Id.{Id}
use Rattle.yd_entries.specs.declared.entry.Entry.{Entry}
use Rattle.yd_entries.specs.declared.place.Place.{Place}
use Rattle.yd_entries.specs.declared.place.Place.TheVariants.{Waits, Lost, In}
use Rattle.yd_entries.specs.Entries.{covers, is_held, is_held_at, StandsBefore, AreInOrder}
use Rattle.yd_entries.specs.Taking.{is_covered}
use Rattle.yd_received.specs.Received.{with_place}
use Rattle.yd_entries.proofs.EntriesLemmas.{apart}
use Rattle.yd_words.specs.Member.{IsIn}
use Rattle.yd_words.proofs.MemberLemmas.{each_in}
use Rattle.yd_entries.proofs.LookupLemmas.{covered_begins, behind_covered}
use Rattle.yd_held.specs.Numbered.{list_at_place, number_of}

-- the number of an id is that of its entry
pub number_of-one : (ts : List Entry) → AreInOrder ts → (t : Entry) (x : Id) → IsIn t ts → covers t x ≡ true → number_of ts x ≡ list_at_place t.place
number_of-one [] order t x i e = absurd i
number_of-one (s ∷ ss) order t x (inl a) e = subst (λ u. number_of (u ∷ ss) x ≡ list_at_place t.place) a (rw e refl)
number_of-one (s ∷ ss) order t x (inr i) e = go (covers s x) refl (number_of-one ss order.1 t x i e)
  where
    go : (b : Bool) → covers s x ≡ b → number_of ss x ≡ list_at_place t.place → cond b (list_at_place s.place) (number_of ss x) ≡ list_at_place t.place
    go true f rest = absurd (apart s t x (each_in (StandsBefore s) ss order.0 t i) f e)
    go false f rest = rest

-- the number of an id is that of the entry that has it
pub number_of-entry : (ts : List Entry) (x : Id) (k : ℕ) (d : Entry) → AreInOrder ts → k < length ts → covers (get_or ts k d) x ≡ true →
    number_of ts x ≡ list_at_place (get_or ts k d).place
number_of-entry [] x k d order lt e = absurd (omega arith)
number_of-entry (t ∷ ts) x zero d order lt e = rw e refl
number_of-entry (t ∷ ts) x (suc k) d order lt e = go (covers t x) refl
    (number_of-entry ts x k d order.1 (omega arith) e)
  where
    go : (b : Bool) → covers t x ≡ b → number_of ts x ≡ list_at_place (get_or ts k d).place → cond b (list_at_place t.place) (number_of ts x) ≡ list_at_place (get_or ts k d).place
    go true f rest = absurd (behind_covered t (get_or ts k d) x (each_at (StandsBefore t) ts k d order.0 (omega arith)) f (covered_begins (get_or ts k d) x e))
    go false f rest = rest

-- an id with a number is covered
pub numbered_covered : (ts : List Entry) (x : Id) → is_some (number_of ts x) ≡ true → is_covered ts x ≡ true
numbered_covered [] x e = e
numbered_covered (t ∷ ts) x e = go (covers t x) e (numbered_covered ts x)
  where
    go : (b : Bool) → is_some (cond b (list_at_place t.place) (number_of ts x)) ≡ true → (is_some (number_of ts x) ≡ true → is_covered ts x ≡ true) → (b || is_covered ts x) ≡ true
    go true f rest = refl
    go false f rest = rest f

-- a place that another entry gets changes no number of the ids that it does not cover
pub number_of-set : (t : Entry) (p : Place) (ts : List Entry) (at : ℕ) → slice_get ts at ≡ Some t → (x : Id) → covers t x ≡ false →
    number_of (set ts at (with_place t p)) x ≡ number_of ts x
number_of-set t p [] at e x other = absurd cc
number_of-set t p (s ∷ ss) zero e x other = rw (other, ap (λ (u : Entry). covers u x) (some_is s t e) ∙ other) refl
number_of-set t p (s ∷ ss) (suc at) e x other = ap (λ z. cond (covers s x) (list_at_place s.place) z) (number_of-set t p ss at e x other)

-- what waits has no number, so the held entries alone tell it
pub number_of-held : (ts : List Entry) → AreInOrder ts → (x : Id) → number_of (filter is_held ts) x ≡ number_of ts x
number_of-held [] order x = refl
number_of-held (t ∷ ts) order x = go t.place refl (covers t x) refl (number_of-held ts order.1 x)
  where
    waits_none : list_at_place t.place ≡ None → covers t x ≡ true → number_of ts x ≡ None
    waits_none e c = nowhere ts order.0
      where
        nowhere : (ss : List Entry) → Each (StandsBefore t) ss → number_of ss x ≡ None
        nowhere [] each = refl
        nowhere (s ∷ ss) each = rw (false_from_ne_true (covers s x) (apart t s x each.0 c)) (nowhere ss each.1)

    keeps : is_held t ≡ true → number_of (filter is_held ts) x ≡ number_of ts x → number_of (filter is_held (t ∷ ts)) x ≡ number_of (t ∷ ts) x
    keeps held rest = rw held (ap (λ z. cond (covers t x) (list_at_place t.place) z) rest)

    go : (p : Place) → t.place ≡ p → (b : Bool) → covers t x ≡ b → number_of (filter is_held ts) x ≡ number_of ts x → number_of (filter is_held (t ∷ ts)) x ≡ number_of (t ∷ ts) x
    go Lost e b c rest = keeps (ap is_held_at e) rest
    go (In n) e b c rest = keeps (ap is_held_at e) rest
    go Waits e true c rest = let waits : is_held t ≡ false = ap is_held_at e in
        let none : list_at_place t.place ≡ None = ap list_at_place e in
        rw (waits, c) (rest ∙ waits_none none c ∙ sym none)
    go Waits e false c rest = let waits : is_held t ≡ false = ap is_held_at e in rw (waits, c) rest

-- ---- the place that is read

-- the number of an id is that of the place of the entry that is read
pub number_read : (ts seen : List Entry) (x : Id) (k : ℕ) (t : Entry) → seen ≡ ts → t ≡ get_or seen k t → AreInOrder ts → k < length ts → covers (get_or ts k t) x ≡ true →
    number_of ts x ≡ list_at_place t.place
number_read ts seen x k t same is order lt e = number_of-entry ts x k t order lt e ∙ ap (λ us. list_at_place (get_or us k t).place) (sym same) ∙ ap (λ (u : Entry). list_at_place u.place) (sym is)

pub numbered_place : (p : Place) → is_some (list_at_place p) ≡ true → ((n : ℕ) → p ≡ In n → ⊥) → ⊥
numbered_place Waits e other = true≢false (sym e)
numbered_place Lost e other = true≢false (sym e)
numbered_place (In n) e other = other n refl
