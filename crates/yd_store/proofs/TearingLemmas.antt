-- A half that becomes U+FFFD, and which halves do where a span is told less.
use Rattle.std.proofs.Common.{◌≡◌, ◌≢◌, ℕ, zero, suc, ◌+◌, ◌-◌, ◌<◌, ◌≤◌, inl, inr, true, List, [], ◌∷◌, Option, Some, None, map, set, length, refl, sym, ap, ◌∙◌, subst, arith}
use Rattle.std.specs.Prelude.{IfSome, IfNone}
use Rattle.std.proofs.lemmas.List.{get_or-set_same, get_or-set_other}
use Rattle.yd_ids.specs.declared.id.Id.{Id}
use Rattle.yd_ids.specs.declared.id.Client.{Client}
use Rattle.yd_ids.specs.declared.id.Span.{Span}
use Rattle.yd_ids.specs.Ids.{is_same}
use Rattle.yd_ids.specs.Span.{InSpan}
use Rattle.yd_ids.proofs.IdLemmas.{same_itself, same_says, other_id}
use Rattle.yd_words.specs.Member.{IsIn}
use Rattle.yd_ops.specs.declared.lists.List.{List as DocList}
use Rattle.yd_ops.specs.Value.{RunValue}
use Rattle.yd_ops.specs.Operation.{UnitContent, text_unit, Operation, level_of, later_id, units_of_content, operations_from, gone_from}
use Rattle.yd_ops.proofs.OperationLemmas.{length-units_of_content}
use Rattle.yd_scan.specs.declared.stretch.Stretch.{Stretch}
use Rattle.yd_scan.specs.Stretches.{stretch_at}
use Rattle.yd_index.proofs.LineLemmas.{lt_says}
use Rattle.yd_index.proofs.LinesLemmas.{eq_says}
use Rattle.yd_arena.specs.Arena.{runs_of, IsArena, HasUnit}
use Rattle.yd_arena.specs.Lists.{AreLists}
use Rattle.yd_arena.proofs.ArenaLemmas.{units_stand_once}
use Rattle.yd_arena.specs.Marks.{IsBorder}
use Rattle.yd_store.specs.Contents.{told_of, run_at}
use Rattle.yd_store.specs.Store.{Stored, IsRunOf, AreTold}
use Rattle.yd_store.specs.Units.{operations_told, operations_at, KeepsUnits}
use Rattle.yd_store.specs.Lowering.{lowered_in, lowered_to, MapsUnits, TellsLess}
use Rattle.yd_store.specs.Halves.{HasPair, LosesPartner, first_id, end_id, torn, torn_at, IsKnown, IsAlone, told_as}
use Rattle.yd_store.proofs.LoweringLemmas.{map_none, lowered_inside, lowered_outside}
use Rattle.yd_store.proofs.LoweredLemmas.{maps_store}
use Rattle.yd_store.proofs.HalvesLemmas.{has_unit, stands_at, in_at}

-- ---- the run of a half

client_is : (a b : ℕ) → a ≡ b → ◌≡◌ {A = Client} (record { 0 = a }) (record { 0 = b })
client_is a b e = ap (λ n. record { 0 = n }) e

id_is : (a b : Id) → a.client.0 ≡ b.client.0 → a.clock ≡ b.clock → a ≡ b
id_is a b client clock = (let c : a.client ≡ b.client = client_is a.client.0 b.client.0 client in rw (c, clock) refl)

gone_level : (id : Id) (n : ℕ) (o : Operation) → IsIn o (gone_from id n) → level_of o.content ≡ 0
gone_level id zero o h = absurd h
gone_level id (suc n) o (inl e) = ap (λ (p : Operation). level_of p.content) e
gone_level id (suc n) o (inr h) = gone_level (later_id id 1) n o h

torn_here : (id : Id) (o : Operation) → o.id ≡ id → torn_at (Some id) o ≡ torn o
torn_here id o e = (let same : is_same o.id id ≡ true = subst (λ (x : Id). is_same o.id x ≡ true) e (same_itself o.id) in rw same refl)

torn_other : (id : Id) (o : Operation) → o.id ≢ id → torn_at (Some id) o ≡ o
torn_other id o ne = rw (other_id o.id id ne) refl

-- one unit is U+FFFD
one_torn : (id first : Id) (left right : Option Id) (list : Option DocList) (us : List UnitContent) → length us ≡ 1 → first ≡ id →
    operations_from first left right list (text_unit 0xFFFD ∷ []) ≡ map (torn_at (Some id)) (operations_from first left right list us)
one_torn id first left right list [] one e = absurd (omega (arith, one))
one_torn id first left right list (u ∷ []) one e = ap (λ o. o ∷ []) (sym (torn_here id (record { id = first; left_origin = left; right_origin = right; list = list; content = u }) e))
one_torn id first left right list (u ∷ v ∷ us) one e = absurd (omega (arith, one))

known_torn : (stretch : Stretch) (z : Option RunValue) (id : Id) (o : Operation) → IfSome z (λ run. IsRunOf stretch run) → stretch.len ≡ 1 → stretch.id ≡ id → IsIn o (operations_told stretch z) → (unit : ℕ) → o.content ≡ text_unit unit →
    operations_told stretch (told_as (0xFFFD ∷ []) z) ≡ map (torn_at (Some id)) (operations_told stretch z)
known_torn stretch None id o of one e h unit known = absurd (omega (arith, ap level_of known, gone_level stretch.id stretch.len o h))
known_torn stretch (Some run) id o of one e h unit known =
    one_torn id run.id run.left run.right run.list (units_of_content run.content) (length-units_of_content run.content ∙ of.len_is ∙ one) (of.id_is ∙ e)

module _ (it new : Stored) (place : ℕ) (id : Id) (arena : IsArena it.placed.lines (runs_of it.placed)) (are : AreTold (runs_of it.placed) (told_of it.contents)) (lists : AreLists it.placed.linked)
    (has : HasUnit (runs_of it.placed) place 0 id) (alone : (stretch_at (runs_of it.placed) place).len ≡ 1) (known : IsKnown it id)
    (told : told_of new.contents ≡ set (told_of it.contents) place (told_as (0xFFFD ∷ []) (run_at (told_of it.contents) place))) where
  abbrev runs : List Stretch
  runs = runs_of it.placed

  first : (stretch_at runs place).id ≡ id
  first = id_is (stretch_at runs place).id id (ap (λ (c : Client). c.0) has.client) (omega (arith, has.clock))

  torn_place : operations_at runs (told_of new.contents) place ≡ map (torn_at (Some id)) (operations_at runs (told_of it.contents) place)
  torn_place =
      ap (λ (ts : List (Option RunValue)). operations_at runs ts place) told
      ∙ ap (operations_told (stretch_at runs place)) (get_or-set_same (told_of it.contents) place (told_as (0xFFFD ∷ []) (run_at (told_of it.contents) place)) None (omega (arith, has.within, are.each)))
      ∙ known_torn (stretch_at runs place) (run_at (told_of it.contents) place) id known.operation (are.fits place has.within) alone first
      (in_at (operations_at runs (told_of it.contents) place) 0 known.operation (stands_at it place 0 id known.operation arena are has known.there known.id_is)) known.unit known.known

  other_place : (i : ℕ) → i < length runs → i ≢ place → operations_at runs (told_of new.contents) i ≡ map (torn_at (Some id)) (operations_at runs (told_of it.contents) i)
  other_place i lt ne =
      ap (λ (ts : List (Option RunValue)). operations_at runs ts i) told
      ∙ ap (operations_told (stretch_at runs i)) (get_or-set_other (told_of it.contents) place i (told_as (0xFFFD ∷ []) (run_at (told_of it.contents) place)) None ne)
      ∙ sym (map_none (torn_at (Some id)) (operations_at runs (told_of it.contents) i) (λ o h. torn_other id o (λ e.
      let u = has_unit it o are (record { place = i; within = lt; member = h }) in
      ne (units_stand_once it.placed.lines runs id i (o.id.clock - (stretch_at runs i).id.clock) place 0 arena (subst (λ (x : Id). HasUnit runs i (o.id.clock - (stretch_at runs i).id.clock) x) e u) has).0)))

  tears : new.placed ≡ it.placed → new.marks ≡ it.marks → MapsUnits it new (torn_at (Some id))
  tears placed marks = maps_store it new (torn_at (Some id)) lists
      (λ i lt. elim (eq_says i place) [
        | inl y ↦ subst (λ j. operations_at runs (told_of new.contents) j ≡ map (torn_at (Some id)) (operations_at runs (told_of it.contents) j)) (sym y.1) torn_place
        | inr y ↦ other_place i lt y.1
      ])
      placed marks

-- a unit that no run shares with another has its run alone
alone_len : (runs : List Stretch) (place before : ℕ) (id : Id) → HasUnit runs place before id → IsBorder runs id.client.0 id.clock → IsBorder runs id.client.0 (id.clock + 1) → (before ≡ 0) × ((stretch_at runs place).len ≡ 1)
alone_len runs place before id has front back =
    let own = ap (λ (c : Client). c.0) has.client in
    let start : id.clock ≤ (stretch_at runs place).id.clock = elim (front place has.within own) [ inl y ↦ absurd (omega (arith, y, has.clock, has.inside)) | inr y ↦ y ] in
    let end : (stretch_at runs place).id.clock + (stretch_at runs place).len ≤ id.clock + 1 = elim (back place has.within own) [ inl y ↦ y | inr y ↦ absurd (omega (arith, y, has.clock)) ] in
    (omega (arith, start, has.clock), omega (arith, start, end, has.clock, has.inside))

pub half_len : (it : Stored) (place before : ℕ) (id : Id) → HasUnit (runs_of it.placed) place before id → IsAlone it id → (stretch_at (runs_of it.placed) place).len ≡ 1
half_len it place before id has alone = (alone_len (runs_of it.placed) place before id has alone.front alone.back).1

pub tears_half : (it new : Stored) (place before : ℕ) (id : Id) (units : List ℕ) → IsArena it.placed.lines (runs_of it.placed) → AreTold (runs_of it.placed) (told_of it.contents) → AreLists it.placed.linked →
    HasUnit (runs_of it.placed) place before id → IsAlone it id → units ≡ 0xFFFD ∷ [] → told_of new.contents ≡ set (told_of it.contents) place (told_as units (run_at (told_of it.contents) place)) →
    new.placed ≡ it.placed → new.marks ≡ it.marks → MapsUnits it new (torn_at (Some id))
tears_half it new place before id units arena are lists has alone one told placed marks =
    let l = alone_len (runs_of it.placed) place before id has alone.front alone.back in
    tears it new place id arena are lists (subst (λ n. HasUnit (runs_of it.placed) place n id) l.0 has) l.1 alone.known
    (subst (λ us. told_of new.contents ≡ set (told_of it.contents) place (told_as us (run_at (told_of it.contents) place))) one told) placed marks

-- ---- what is known of a half stays

pub known_kept : (old new : Stored) (id : Id) → KeepsUnits old new → IsKnown old id → IsKnown new id
known_kept old new id k known = record { operation = known.operation; there = (k.operations known.operation).1 known.there; id_is = known.id_is; unit = known.unit; known = known.known }

pub alone_kept : (old new : Stored) (id : Id) → KeepsUnits old new → IsAlone old id → IsAlone new id
alone_kept old new id k alone = record {
  known = known_kept old new id k alone.known;
  front = k.borders id.client.0 id.clock alone.front;
  back = k.borders id.client.0 (id.clock + 1) alone.back;
}

-- a text unit with the id that is told anew is one still, with that id
abbrev pub LeavesText : (Operation → Operation) → Id → Type 0
LeavesText told id = (o : Operation) (unit : ℕ) → o.id ≡ id → o.content ≡ text_unit unit → ((told o).id ≡ o.id) × (more : ℕ) × ((told o).content ≡ text_unit more)

pub torn_leaves : (z : Option Id) (id : Id) → LeavesText (torn_at z) id
torn_leaves None id o unit e known = (refl, unit, known)
torn_leaves (Some half) id o unit e known = elim (same_says o.id half) [
  | inl t ↦ rw t.0 (refl, 0xFFFD, refl)
  | inr f ↦ rw f.0 (refl, unit, known)
]

pub lowered_leaves : (span : Span) (level : ℕ) (id : Id) → (InSpan span id → ⊥) → LeavesText (lowered_in span level) id
lowered_leaves span level id out o unit e known =
    let same : lowered_in span level o ≡ o = lowered_outside span level o (λ s. out (subst (InSpan span) e s)) in
    (ap (λ (p : Operation). p.id) same, unit, ap (λ (p : Operation). p.content) same ∙ known)

pub alone_mapped : (old new : Stored) (told : Operation → Operation) (id : Id) → MapsUnits old new told → LeavesText told id → IsAlone old id → IsAlone new id
alone_mapped old new told id m leaves alone =
    let k = alone.known in
    let t = leaves k.operation k.unit k.id_is k.known in
    record {
      known = record { operation = told k.operation; there = m.is k.operation k.there; id_is = t.0 ∙ k.id_is; unit = t.1; known = t.2 };
      front = m.borders id.client.0 id.clock alone.front;
      back = m.borders id.client.0 (id.clock + 1) alone.back;
    }

-- ---- which halves

pub if_some : {X : Type 0} (z : Option X) (P : X → Type 0) → ((x : X) → z ≡ Some x → P x) → IfSome z P
if_some None P f = tt
if_some (Some x) P f = f x refl

pair_next : (it : Stored) (high low : Id) → HasPair it high low → low ≡ later_id high 1
pair_next it high low p = sym p.second_id ∙ p.partners.next_clock ∙ ap (λ (x : Id). later_id x 1) p.first_id

stays : (z : Option Id) (o : Operation) → IfSome z (λ half. o.id ≢ half) → torn_at z o ≡ o
stays None o ne = refl
stays (Some half) o ne = torn_other half o ne

becomes : (z : Option Id) (o : Operation) → ((h : Id) → z ≡ Some h → o.id ≡ h) → (z ≡ None → ⊥) → torn_at z o ≡ torn o
becomes None o is none = absurd (none refl)
becomes (Some half) o is none = torn_here half o (is half refl)

module _ (old : Stored) (span : Span) (some : 0 < span.len) (before behind : Option Id) (found_before : IfSome before (λ half. HasPair old half (first_id span))) (none_before : IfNone before ((half : Id) → HasPair old half (first_id span) → ⊥))
    (found_behind : IfSome behind (λ half. (half ≡ end_id span) × (high : Id) × HasPair old high half)) (none_behind : IfNone behind ((high : Id) → HasPair old high (end_id span) → ⊥)) where
  -- the half before the span stands directly before it
  is_before : (h : Id) → before ≡ Some h → HasPair old h (first_id span)
  is_before h e = subst (λ z. IfSome z (λ half. HasPair old half (first_id span))) e found_before

  before_clock : (h : Id) → before ≡ Some h → (h.client.0 ≡ span.client.0) × (h.clock + 1 ≡ span.clock)
  before_clock h e = (let n = pair_next old h (first_id span) (is_before h e) in (sym (ap (λ (x : Id). x.client.0) n), sym (ap (λ (x : Id). x.clock) n)))

  is_behind : (h : Id) → behind ≡ Some h → (h ≡ end_id span) × (high : Id) × HasPair old high h
  is_behind h e = subst (λ z. IfSome z (λ half. (half ≡ end_id span) × (high : Id) × HasPair old high half)) e found_behind

  no_before : before ≡ None → (h : Id) → HasPair old h (first_id span) → ⊥
  no_before e = subst (λ z. IfNone z ((half : Id) → HasPair old half (first_id span) → ⊥)) e none_before

  no_behind : behind ≡ None → (h : Id) → HasPair old h (end_id span) → ⊥
  no_behind e = subst (λ z. IfNone z ((high : Id) → HasPair old high (end_id span) → ⊥)) e none_behind

  not_before : (o : Operation) → ((h : Id) → before ≡ Some h → o.id ≢ h) → torn_at before o ≡ o
  not_before o ne = stays before o (if_some before (λ h. o.id ≢ h) ne)

  not_behind : (o : Operation) → ((h : Id) → behind ≡ Some h → o.id ≢ h) → torn_at behind o ≡ o
  not_behind o ne = stays behind o (if_some behind (λ h. o.id ≢ h) ne)

  -- what each operation is told as
  abbrev told : ℕ → Operation → Operation
  told level o = lowered_in span level (torn_at behind (torn_at before o))

  unless_before : (o : Operation) → (o.id.clock + 1 ≢ span.clock) → torn_at before o ≡ o
  unless_before o ne = not_before o (λ h e is. ne (ap (λ (x : Id). x.clock + 1) is ∙ (before_clock h e).1))

  unless_behind : (o : Operation) → (o.id.clock ≢ span.clock + span.len) → torn_at behind o ≡ o
  unless_behind o ne = not_behind o (λ h e is. ne (ap (λ (x : Id). x.clock) (is ∙ (is_behind h e).0)))

  inside_told : (level : ℕ) (o : Operation) → InSpan span o.id → told level o ≡ lowered_to level o
  inside_told level o s =
      let a = unless_before o (λ e. omega (arith, e, s.1)) in
      let b = unless_behind o (λ e. omega (arith, e, s.2)) in
      ap (lowered_in span level) (ap (torn_at behind) a ∙ b) ∙ lowered_inside span level o s

  -- the partner is the span's first unit
  front_told : (level : ℕ) (o : Operation) (partner : Id) → (InSpan span o.id → ⊥) → InSpan span partner → HasPair old o.id partner → told level o ≡ torn o
  front_told level o partner out s p =
      let n = pair_next old o.id partner p in
      let client : span.client.0 ≡ o.id.client.0 = s.0 ∙ ap (λ (x : Id). x.client.0) n in
      let clock : partner.clock ≡ o.id.clock + 1 = ap (λ (x : Id). x.clock) n in
      let at : o.id.clock + 1 ≡ span.clock = elim (lt_says o.id.clock span.clock) [ inl y ↦ omega (arith, y.1, s.1, clock) | inr y ↦ absurd (out (client, y.1, omega (arith, clock, s.2))) ] in
      let first : partner ≡ first_id span = id_is partner (first_id span) (sym s.0) (clock ∙ at) in
      let pair : HasPair old o.id (first_id span) = subst (HasPair old o.id) first p in
      let a : torn_at before o ≡ torn o = becomes before o (λ h e. id_is o.id h (sym client ∙ sym (before_clock h e).0) (omega (arith, at, (before_clock h e).1))) (λ e. no_before e o.id pair) in
      let b : torn_at behind (torn o) ≡ torn o = unless_behind (torn o) (λ e. omega (arith, e, at)) in
      ap (lowered_in span level) (ap (torn_at behind) a ∙ b) ∙ lowered_outside span level (torn o) out

  -- the partner is its last one
  back_told : (level : ℕ) (o : Operation) (partner : Id) → (InSpan span o.id → ⊥) → InSpan span partner → HasPair old partner o.id → told level o ≡ torn o
  back_told level o partner out s p =
      let n = pair_next old partner o.id p in
      let client : span.client.0 ≡ o.id.client.0 = s.0 ∙ sym (ap (λ (x : Id). x.client.0) n) in
      let clock : o.id.clock ≡ partner.clock + 1 = ap (λ (x : Id). x.clock) n in
      let at : o.id.clock ≡ span.clock + span.len = elim (lt_says o.id.clock (span.clock + span.len)) [ inl y ↦ absurd (out (client, omega (arith, clock, s.1), y.1)) | inr y ↦ omega (arith, y.1, clock, s.2) ] in
      let last : o.id ≡ end_id span = id_is o.id (end_id span) (sym client) at in
      let pair : HasPair old partner (end_id span) = subst (HasPair old partner) last p in
      let a : torn_at before o ≡ o = unless_before o (λ e. omega (arith, e, at)) in
      let b : torn_at behind o ≡ torn o = becomes behind o (λ h e. last ∙ sym (is_behind h e).0) (λ e. no_behind e partner pair) in
      ap (lowered_in span level) (ap (torn_at behind) a ∙ b) ∙ lowered_outside span level (torn o) out

  others_told : (level : ℕ) (o : Operation) → (InSpan span o.id → ⊥) → (LosesPartner old span o.id → ⊥) → told level o ≡ o
  others_told level o out whole =
      let a : torn_at before o ≡ o = not_before o (λ h e is. whole (record {
        outside = out;
        partner = first_id span;
        inside = (refl, omega arith, omega (arith, some));
        pair = inl (subst (λ (x : Id). HasPair old x (first_id span)) (sym is) (is_before h e));
      })) in
      let b : torn_at behind o ≡ o = not_behind o (λ h e is.
      let w = is_behind h e in
      let n : end_id span ≡ later_id w.1 1 = sym w.0 ∙ pair_next old w.1 h w.2 in
      whole (record {
        outside = out;
        partner = w.1;
        inside = (ap (λ (x : Id). x.client.0) n, omega (arith, some, ap (λ (x : Id). x.clock) n), omega (arith, ap (λ (x : Id). x.clock) n));
        pair = inr (subst (HasPair old w.1) (sym is) w.2);
      })) in
      ap (lowered_in span level) (ap (torn_at behind) a ∙ b) ∙ lowered_outside span level o out

  pub tells_less : (level : ℕ) (o : Operation) → TellsLess old span level o (told level o)
  tells_less level o = record {
    inside = inside_told level o;
    parted = λ l. elim l.pair [ inl p ↦ front_told level o l.partner l.outside l.inside p | inr p ↦ back_told level o l.partner l.outside l.inside p ];
    others = others_told level o;
  }

-- a span without units
pub tells_none : (old : Stored) (span : Span) (level : ℕ) (o : Operation) → span.len ≡ 0 → TellsLess old span level o o
tells_none old span level o none = record {
  inside = λ s. absurd (omega (arith, none, s.1, s.2));
  parted = λ l. absurd (omega (arith, none, l.inside.1, l.inside.2));
  others = λ out whole. refl;
}
