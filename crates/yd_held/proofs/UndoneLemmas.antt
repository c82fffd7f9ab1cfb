-- Units that are held and put to wait again are as they were.
use Rattle.std.proofs.Common.{◌≡◌, ℕ, zero, suc, ◌≤◌, false, List, [], ◌∷◌, inl, inr, Some, map, set, refl, sym, ap, ◌∙◌, arith}
use Rattle.std.specs.Prelude.{slice_get}
use Rattle.yd_words.proofs.OptionLemmas.{some_is}
use Rattle.yd_words.proofs.TestLemmas.{same_or_other}
use Rattle.yd_ids.specs.declared.id.Client.{Client}
use Rattle.yd_ids.specs.Vector.{clock_of}
use Rattle.yd_entries.specs.declared.entry.Entry.{Entry}
use Rattle.yd_entries.specs.declared.place.Place.{Place}
use Rattle.yd_received.specs.Received.{is_below, with_place, undone}
use Rattle.yd_held.specs.Holding.{HoldsEntry}
use Rattle.yd_held.proofs.HoldingLemmas.{above_not}

map-set : {X Y : Type 0} (f : X → Y) (xs : List X) (at : ℕ) (x y : X) → slice_get xs at ≡ Some x → f y ≡ f x → map f (set xs at y) ≡ map f xs
map-set f [] at x y e same = refl
map-set f (z ∷ zs) zero x y e same = ap (λ w. w ∷ map f zs) (same ∙ ap f (sym (some_is z x e)))
map-set f (z ∷ zs) (suc at) x y e same = ap (λ ws. f z ∷ ws) (map-set f zs at x y e same)

undone_place : (vector : List (Client × ℕ)) (t : Entry) (p : Place) → is_below vector t.id ≡ false → undone vector (with_place t p) ≡ undone vector t
undone_place vector t p e = rw e refl

module _ (first : List (Client × ℕ)) (at : ℕ) (ts new : List Entry) (vector raised : List (Client × ℕ)) (h : HoldsEntry at ts new vector raised)
    (rises : (client : ℕ) → clock_of first client ≤ clock_of vector client) where
  pub undone_after : h.entry.id.clock ≡ clock_of vector h.entry.id.client.0 → map (undone first) new ≡ map (undone first) ts
  undone_after begins = ap (map (undone first)) h.placed
      ∙ map-set (undone first) ts at h.entry (with_place h.entry h.place) h.there
      (undone_place first h.entry h.place (above_not first h.entry.id (omega (arith, rises h.entry.id.client.0, begins))))

  pub rises_after : (client : ℕ) → clock_of first client ≤ clock_of raised client
  rises_after client = elim (same_or_other client h.entry.id.client.0) [
    | inl same ↦ omega (arith, rises client, h.raises.this_client, ap (clock_of vector) same, ap (clock_of raised) same)
    | inr other ↦ omega (arith, rises client, h.raises.other_clients client other)
  ]
