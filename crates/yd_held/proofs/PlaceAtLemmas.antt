-- The place of an id is that of its entry, and tells whether it is held and in which list.
use Rattle.std.proofs.Common.{◌≡◌, Bool, true, false, cond, List, [], ◌∷◌, inl, inr, refl, sym, ap, ◌∙◌, subst, true≢false}
use Rattle.std.specs.Prelude.{filter}
use Rattle.yd_words.specs.Member.{IsIn}
use Rattle.yd_words.proofs.TestLemmas.{one_answer}
use Rattle.yd_words.proofs.MemberLemmas.{each_in}
use Rattle.yd_ids.specs.declared.id.Id.{Id}
use Rattle.yd_ops.specs.Received.{has_operation}
use Rattle.yd_entries.specs.declared.entry.Entry.{Entry}
use Rattle.yd_entries.specs.declared.place.Place.{Place}
use Rattle.yd_entries.specs.declared.place.Place.TheVariants.{Waits}
use Rattle.yd_entries.specs.Entries.{covers, operations_in, StandsBefore, AreInOrder}
use Rattle.yd_received.specs.Received.{ReceivedValue, IsReceived}
use Rattle.yd_entries.proofs.EntriesLemmas.{apart}
use Rattle.yd_entries.specs.Staying.{place_at}
use Rattle.yd_held.specs.Numbered.{list_at_place, number_of}
use Rattle.yd_held.proofs.HeldEntryLemmas.{id_chosen, chosen_id}

pub number_of-place : (ts : List Entry) (x : Id) → number_of ts x ≡ list_at_place (place_at ts x)
number_of-place [] x = refl
number_of-place (t ∷ ts) x = go (covers t x) (number_of-place ts x)
  where
    go : (b : Bool) → number_of ts x ≡ list_at_place (place_at ts x) → cond b (list_at_place t.place) (number_of ts x) ≡ list_at_place (cond b t.place (place_at ts x))
    go true rest = refl
    go false rest = rest

-- the place of an id is that of its entry
pub place_at-one : (ts : List Entry) → AreInOrder ts → (t : Entry) (x : Id) → IsIn t ts → covers t x ≡ true → place_at ts x ≡ t.place
place_at-one [] order t x i e = absurd i
place_at-one (s ∷ ss) order t x (inl a) e = subst (λ u. place_at (u ∷ ss) x ≡ t.place) a (rw e refl)
place_at-one (s ∷ ss) order t x (inr i) e = go (covers s x) refl (place_at-one ss order.1 t x i e)
  where
    go : (b : Bool) → covers s x ≡ b → place_at ss x ≡ t.place → cond b s.place (place_at ss x) ≡ t.place
    go true f rest = absurd (apart s t x (each_in (StandsBefore s) ss order.0 t i) f e)
    go false f rest = rest

-- an id at a place that waiting units have not is of an entry at that place
pub place_entry : (test : Place → Bool) → test Waits ≡ false → (ts : List Entry) (x : Id) → test (place_at ts x) ≡ true →
    (t : Entry) × IsIn t ts × (covers t x ≡ true) × (place_at ts x ≡ t.place)
place_entry test waits [] x e = absurd (true≢false (sym e ∙ waits))
place_entry test waits (t ∷ ts) x e = go (covers t x) refl e (place_entry test waits ts x)
  where
    go : (b : Bool) → covers t x ≡ b → test (cond b t.place (place_at ts x)) ≡ true → (test (place_at ts x) ≡ true → (s : Entry) × IsIn s ts × (covers s x ≡ true) × (place_at ts x ≡ s.place)) →
        (s : Entry) × IsIn s (t ∷ ts) × (covers s x ≡ true) × (cond b t.place (place_at ts x) ≡ s.place)
    go true c f rest = (t, inl refl, c, refl)
    go false c f rest = let (s, i, d, p) = rest f in (s, inr i, d, p)

-- an operation with the id is of the entries at some places exactly where the id is at one of them
pub chosen_place : (test : Place → Bool) → test Waits ≡ false → (r : ReceivedValue) → IsReceived r → (x : Id) →
    has_operation (operations_in r.runs (filter (λ t. test t.place) r.entries)) x ≡ test (place_at r.entries x)
chosen_place test waits r is x = one_answer _ _ ((λ e. e), (λ e. e)) (
  (λ e. let (t, i, c, p) = place_entry test waits r.entries x e in chosen_id (λ t. test t.place) r is t x i (sym (ap test p) ∙ e) c),
  (λ e. let (t, i, passes, c) = id_chosen (λ t. test t.place) r is x e in ap test (place_at-one r.entries is.in_order t x i c) ∙ passes),
)
