-- A gatherer stands for what it took, at each step.
use Rattle.std.proofs.Common.{◌≡◌, ◌∙◌, ℕ, List, [], ◌∷◌, ◌++◌, map, refl, sym, ap, subst, append-nil, append_assoc}
use Rattle.yd_ops.specs.Value.{UpdateValue}
use Rattle.yd_v1.specs.Log.{TakesMore, TakesV1}
use Rattle.yd_gathering.specs.Gathered.{StandsAs}
use Rattle.yd_gathering.specs.Gatherer.{Gathers}
use Rattle.yd_gathering.specs.Late.{HasLate, update_at, updates_late}
use Rattle.yd_gathering.specs.Row.{HasRow}
use Rattle.yd_gathering.specs.Said.{SaysInTurn}
use Rattle.yd_gathering.specs.Settled.{Settles}
use Rattle.yd_gathering.specs.declared.gatherer.Gatherer.{Gatherer}
use Rattle.yd_gathering.specs.declared.late.Late.{Late}
use Rattle.yd_gathering.proofs.StandingLemmas.{says_stands}

-- where no place is, nothing is put off
none_late : (late : Late) → late.places.items ≡ [] → updates_late late ≡ []
none_late late none = ap (map (update_at late.bytes.items)) none

-- ---- lemmas for callers

-- an update is gathered at once
pub gathers_row : (old new : Gatherer) (u : UpdateValue) → old.late.places.items ≡ [] → new.late ≡ old.late → TakesMore (HasRow old.row) (HasRow new.row) (u ∷ []) → TakesMore (Gathers old) (Gathers new) (u ∷ [])
gathers_row old new u none late takes = λ taken g.
    let none_now : updates_late new.late ≡ [] = ap updates_late late ∙ none_late old.late none in
    let front : taken ≡ g.front = g.all ∙ ap (λ us. g.front ++ us) (none_late old.late none) ∙ append-nil g.front in
    record {
      front = g.front ++ u ∷ [];
      row = takes g.front g.row;
      bodies = rw late g.bodies;
      all = ap (λ us. us ++ u ∷ []) front ∙ sym (ap (λ us. (g.front ++ u ∷ []) ++ us) none_now ∙ append-nil (g.front ++ u ∷ []));
    }

-- or put off
pub gathers_late : (old new : Gatherer) (u : UpdateValue) → new.row ≡ old.row → TakesMore (HasLate old.late) (HasLate new.late) (u ∷ []) → TakesMore (Gathers old) (Gathers new) (u ∷ [])
gathers_late old new u row takes = λ taken g.
    let has = takes (updates_late old.late) (record { bodies = g.bodies; are = refl }) in
    record {
      front = g.front;
      row = rw row g.row;
      bodies = has.bodies;
      all = ap (λ us. us ++ u ∷ []) g.all ∙ append_assoc g.front (updates_late old.late) (u ∷ []) ∙ ap (λ us. g.front ++ us) has.are;
    }

-- and so it is of an update in V1
pub gathers_row_v1 : (old new : Gatherer) (bytes : List ℕ) → old.late.places.items ≡ [] → new.late ≡ old.late → TakesV1 bytes (HasRow old.row) (HasRow new.row) → TakesV1 bytes (Gathers old) (Gathers new)
gathers_row_v1 old new bytes none late t = record { update = t.update; read = t.read; valid = t.valid; taken = gathers_row old new t.update none late t.taken }

pub gathers_late_v1 : (old new : Gatherer) (bytes : List ℕ) → new.row ≡ old.row → TakesV1 bytes (HasLate old.late) (HasLate new.late) → TakesV1 bytes (Gathers old) (Gathers new)
gathers_late_v1 old new bytes row t = record { update = t.update; read = t.read; valid = t.valid; taken = gathers_late old new t.update row t.taken }

-- the end, where nothing was put off
pub finished_row : (g : Gatherer) (kept taken : List UpdateValue) → g.late.places.items ≡ [] → ((front : List UpdateValue) → HasRow g.row front → SaysInTurn front kept) → Gathers g taken → StandsAs taken kept
finished_row g kept taken none says gathers = subst (λ us. StandsAs us kept) (sym (gathers.all ∙ ap (λ us. gathers.front ++ us) (none_late g.late none) ∙ append-nil gathers.front))
    (says_stands gathers.front kept (says gathers.front gathers.row))

-- and where something was
pub finished_late : (g : Gatherer) (kept behind taken : List UpdateValue) → ((front : List UpdateValue) → HasRow g.row front → SaysInTurn front kept) → Settles kept g.late behind → Gathers g taken →
    StandsAs taken (kept ++ behind)
finished_late g kept behind taken says settles gathers = subst (λ us. StandsAs us (kept ++ behind)) (sym gathers.all) (settles gathers.front (says gathers.front gathers.row))
