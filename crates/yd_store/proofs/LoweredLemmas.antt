-- Operations of a store that are told anew, and a span that is told less.
use Rattle.std.proofs.Common.{◌≡◌, ℕ, ◌+◌, ◌<◌, inl, inr, List, [], ◌∷◌, ◌++◌, map, length, refl, sym, ap, ◌∙◌, subst, arith}
use Rattle.std.specs.Prelude.{flat_map}
use Rattle.std.proofs.lemmas.List.{map-append}
use Rattle.yd_ids.specs.declared.id.Span.{Span}
use Rattle.yd_words.specs.Member.{IsIn}
use Rattle.yd_ops.specs.Operation.{Operation}
use Rattle.yd_arena.specs.Lists.{AreLists}
use Rattle.yd_arena.specs.Arena.{Placed, runs_of, places_in}
use Rattle.yd_arena.specs.Marks.{Marked, IsBorder}
use Rattle.yd_store.specs.declared.level.Level.{Level}
use Rattle.yd_store.specs.Contents.{Contented, told_of}
use Rattle.yd_store.specs.Store.{Stored, AreTold}
use Rattle.yd_store.specs.Units.{operations_at, operations_in, HasOperation, KeepsUnits}
use Rattle.yd_store.specs.Lowering.{number_of, LowersSpan, lowered_in, MapsUnits}
use Rattle.yd_store.proofs.KeepingLemmas.{lists_same}
use Rattle.yd_store.proofs.LoweringLemmas.{at_place, map_none}

in_map : (f : Operation → Operation) (os : List Operation) (q : Operation) → IsIn q (map f os) → (p : Operation) × IsIn p os × (q ≡ f p)
in_map f [] q h = absurd h
in_map f (o ∷ os) q (inl e) = (o, inl refl, e)
in_map f (o ∷ os) q (inr h) = (let r = in_map f os q h in (r.0, inr r.1, r.2))

map_in : (f : Operation → Operation) (os : List Operation) (p : Operation) → IsIn p os → IsIn (f p) (map f os)
map_in f [] p h = absurd h
map_in f (o ∷ os) p (inl e) = inl (ap f e)
map_in f (o ∷ os) p (inr h) = inr (map_in f os p h)

map_twice : (f g : Operation → Operation) (os : List Operation) → map g (map f os) ≡ map (λ o. g (f o)) os
map_twice f g [] = refl
map_twice f g (o ∷ os) = ap (λ xs. g (f o) ∷ xs) (map_twice f g os)

each_mapped : (f : Operation → Operation) (g : ℕ → List Operation) (places : List ℕ) → flat_map (λ i. map f (g i)) places ≡ map f (flat_map g places)
each_mapped f g [] = refl
each_mapped f g (i ∷ is) = ap (λ os. map f (g i) ++ os) (each_mapped f g is) ∙ sym (map-append f (g i) (flat_map g is))

-- ---- one after another

pub maps_kept : (old mid new : Stored) (f : Operation → Operation) → KeepsUnits old mid → MapsUnits mid new f → MapsUnits old new f
maps_kept old mid new f k m = record {
  count = m.count ∙ k.count;
  lists = λ list lt. m.lists list (omega (arith, lt, k.count)) ∙ ap (map f) (k.lists list lt);
  units = λ list lt. m.units list (omega (arith, lt, k.count)) ∙ k.units list lt;
  rows = λ list lt. m.rows list (omega (arith, lt, k.count)) ∙ k.rows list lt;
  was = λ o h. (let r = m.was o h in (r.0, (k.operations r.0).0 r.1, r.2));
  is = λ p h. m.is p ((k.operations p).1 h);
  marks = λ id. ((λ h. (k.marks id).0 ((m.marks id).0 h)), (λ h. (m.marks id).1 ((k.marks id).1 h)));
  live = m.live ∙ k.live;
  nexts = λ client. m.nexts client ∙ k.nexts client;
  borders = λ client clock border. m.borders client clock (k.borders client clock border);
}

pub maps_both : (old mid new : Stored) (f g : Operation → Operation) → MapsUnits old mid f → MapsUnits mid new g → MapsUnits old new (λ o. g (f o))
maps_both old mid new f g a b = record {
  count = b.count ∙ a.count;
  lists = λ list lt. b.lists list (omega (arith, lt, a.count)) ∙ ap (map g) (a.lists list lt) ∙ map_twice f g (operations_in old list);
  units = λ list lt. b.units list (omega (arith, lt, a.count)) ∙ a.units list lt;
  rows = λ list lt. b.rows list (omega (arith, lt, a.count)) ∙ a.rows list lt;
  was = λ o h. (let r = b.was o h in let s = a.was r.0 r.1 in (s.0, s.1, r.2 ∙ ap g s.2));
  is = λ p h. b.is (f p) (a.is p h);
  marks = λ id. ((λ h. (a.marks id).0 ((b.marks id).0 h)), (λ h. (b.marks id).1 ((a.marks id).1 h)));
  live = b.live ∙ a.live;
  nexts = λ client. b.nexts client ∙ a.nexts client;
  borders = λ client clock border. b.borders client clock (a.borders client clock border);
}

-- nothing is told anew
pub maps_none : (it : Stored) (f : Operation → Operation) → ((o : Operation) → f o ≡ o) → MapsUnits it it f
maps_none it f same = record {
  count = refl;
  lists = λ list lt. sym (map_none f (operations_in it list) (λ o h. same o));
  units = λ list lt. refl;
  rows = λ list lt. refl;
  was = λ o h. (o, h, sym (same o));
  is = λ p h. subst (HasOperation it) (sym (same p)) h;
  marks = λ id. ((λ h. h), (λ h. h));
  live = refl;
  nexts = λ client. refl;
  borders = λ client clock border. border;
}

-- ---- place by place

-- nothing but what runs hold is changed
module _ (it : Stored) (contents : Contented) (f : Operation → Operation) (lists : AreLists it.placed.linked)
    (each : (i : ℕ) → i < length (runs_of it.placed) → operations_at (runs_of it.placed) (told_of contents) i ≡ map f (operations_at (runs_of it.placed) (told_of it.contents) i)) where
  abbrev was : ℕ → List Operation
  was = operations_at (runs_of it.placed) (told_of it.contents)

  abbrev now : ℕ → List Operation
  now = operations_at (runs_of it.placed) (told_of contents)

  maps_places : MapsUnits it (record { placed = it.placed; marks = it.marks; contents = contents }) f
  maps_places = record {
    count = refl;
    lists = λ list lt. lists_same (λ i. map f (was i)) now (places_in it.placed list) (λ i h. each i (lists.within list i lt h)) ∙ each_mapped f was (places_in it.placed list);
    units = λ list lt. refl;
    rows = λ list lt. refl;
    was = λ o h. (let r = in_map f (was h.place) o (subst (IsIn o) (each h.place h.within) h.member) in
        (r.0, record { place = h.place; within = h.within; member = r.1 }, r.2));
    is = λ p h. record { place = h.place; within = h.within; member = subst (IsIn (f p)) (sym (each h.place h.within)) (map_in f (was h.place) p h.member) };
    marks = λ id. ((λ h. h), (λ h. h));
    live = refl;
    nexts = λ client. refl;
    borders = λ client clock border. border;
  }

-- the store that has these parts
pub maps_store : (it new : Stored) (f : Operation → Operation) → AreLists it.placed.linked →
    ((i : ℕ) → i < length (runs_of it.placed) → operations_at (runs_of it.placed) (told_of new.contents) i ≡ map f (operations_at (runs_of it.placed) (told_of it.contents) i)) →
    new.placed ≡ it.placed → new.marks ≡ it.marks → MapsUnits it new f
maps_store it new f lists each placed marks =
    subst (λ (p : Placed). MapsUnits it (record { placed = p; marks = new.marks; contents = new.contents }) f) (sym placed)
    (subst (λ (m : Marked). MapsUnits it (record { placed = it.placed; marks = m; contents = new.contents }) f) (sym marks)
    (maps_places it new.contents f lists each))

-- a span is told less, where it parts no run
pub lowers_store : (it new : Stored) (span : Span) (level : Level) → AreTold (runs_of it.placed) (told_of it.contents) → AreLists it.placed.linked →
    IsBorder (runs_of it.placed) span.client.0 span.clock → IsBorder (runs_of it.placed) span.client.0 (span.clock + span.len) →
    LowersSpan (runs_of it.placed) level (told_of it.contents) (told_of new.contents) span → new.placed ≡ it.placed → new.marks ≡ it.marks → MapsUnits it new (lowered_in span (number_of level))
lowers_store it new span level told lists front back lowers placed marks =
    maps_store it new (lowered_in span (number_of level)) lists (at_place (runs_of it.placed) level (told_of it.contents) (told_of new.contents) span told front back lowers) placed marks
