-- The index of an arena where the last run is one with the one before it in its list.
use Rattle.std.proofs.Common.{◌≡◌, ◌≢◌, ◌^◌, ℕ, ◌+◌, ◌-◌, ◌<◌, inl, inr, List, [], ◌∷◌, length, refl, sym, ap, ap₂, ◌∙◌, subst, arith}
use Rattle.yd_ids.specs.declared.id.Id.{Id}
use Rattle.yd_words.specs.Member.{IsIn}
use Rattle.yd_scan.specs.declared.stretch.Stretch.{Stretch}
use Rattle.yd_scan.specs.Stretches.{stretch_at}
use Rattle.yd_index.specs.declared.line.Entry.{Entry}
use Rattle.yd_index.specs.Line.{Lined, Begins, without_cut}
use Rattle.yd_index.specs.Lines.{entries_of, next_of, Uncuts}
use Rattle.yd_index.specs.Holding.{IsStretchOf, StretchesFill, entry_for, front_of, rest_of, cut_stretches}
use Rattle.yd_index.proofs.LinesLemmas.{eq_says}
use Rattle.yd_index.proofs.RowLemmas.{entry_above, entry_run}
use Rattle.yd_index.proofs.HoldingLemmas.{below_or_last}
use Rattle.yd_index.proofs.CuttingLemmas.{cut_len, cut_front, cut_rest, cut_other, cut_id}
use Rattle.yd_arena.specs.Lists.{Linked, AreLists, PutsBehind}
use Rattle.yd_arena.specs.Arena.{Placed, IsArena, HasUnit, CutsRun}
use Rattle.yd_arena.specs.Joining.{IsJoint, JoinsLast}
use Rattle.yd_arena.proofs.ArenaLemmas.{unit_entry, unit_id, own_unit, unit_clock, nexts_same, units_stand_once}
use Rattle.yd_arena.proofs.UnitsLemmas.{cuts_keep_units}
use Rattle.yd_arena.proofs.JoiningLemmas.{joint_filled, joined_len, joined_inside}

-- an entry that begins at another clock stays
stays_in : (es : List Entry) (clock : ℕ) (x : Entry) → IsIn x es → x.clock ≢ clock → IsIn x (without_cut es clock)
stays_in [] clock x h ne = absurd h
stays_in (e ∷ es) clock x h ne = elim (eq_says e.clock clock) [
  | inl y ↦ rw y.0 (elim h [ inl s ↦ absurd (ne (ap (λ (z : Entry). z.clock) s ∙ y.1)) | inr m ↦ m ])
  | inr y ↦ rw y.0 (elim h [ inl s ↦ inl s | inr m ↦ inr (stays_in es clock x m ne) ])
]

-- ---- the entries of the client

-- the two runs, and the one that they are
module _ (runs one : List Stretch) (place n : ℕ) (within : place < length one) (some : 0 < n) (inside : n < (stretch_at one place).len) (cut : runs ≡ cut_stretches one place n) where
  abbrev last : ℕ
  last = length one

  abbrev clock : ℕ
  clock = (stretch_at one place).id.clock + n

  abbrev client : ℕ
  client = (stretch_at one place).id.client.0

  runs_len : length runs ≡ length one + 1
  runs_len = ap length cut ∙ cut_len one place n within

  front_is : stretch_at runs place ≡ front_of (stretch_at one place) n
  front_is = ap (λ rs. stretch_at rs place) cut ∙ cut_front one place n within

  rest_is : stretch_at runs last ≡ rest_of (stretch_at one place) n
  rest_is = ap (λ rs. stretch_at rs last) cut ∙ cut_rest one place n within

  other_is : (i : ℕ) → i < length one → i ≢ place → stretch_at one i ≡ stretch_at runs i
  other_is i lt ne = sym (ap (λ rs. stretch_at rs i) cut ∙ cut_other one place n within i lt ne)

  first_clock : (stretch_at runs place).id.clock ≡ (stretch_at one place).id.clock
  first_clock = ap (λ (r : Stretch). r.id.clock) front_is

  last_clock : (stretch_at runs last).id.clock ≡ clock
  last_clock = ap (λ (r : Stretch). r.id.clock) rest_is

  first_len : (stretch_at runs place).len ≡ n
  first_len = ap (λ (r : Stretch). r.len) front_is

  last_len : (stretch_at runs last).len ≡ (stretch_at one place).len - n
  last_len = ap (λ (r : Stretch). r.len) rest_is

  -- neither of the two
  abbrev IsOther : ℕ → Type 0
  IsOther i = (i ≢ place) × (i ≢ last)

  other_run : (i : ℕ) → i < length runs → IsOther i → (i < length one) × (stretch_at one i ≡ stretch_at runs i)
  other_run i lt ne = elim (below_or_last i (length one) (omega (arith, lt, runs_len))) [
    | inl low ↦ (low, other_is i low ne.0)
    | inr e ↦ absurd (ne.1 e)
  ]

  -- the other runs are where they were
  other_kept : (k from : ℕ) (e : Entry) → IsStretchOf runs k from e → IsOther e.place → IsStretchOf one k from e
  other_kept k from e o ne =
      let s = other_run e.place o.within ne in
      record {
        begins = o.begins;
        within = s.0;
        client_is = ap (λ (r : Stretch). r.id.client.0) s.1 ∙ o.client_is;
        clock_is = ap (λ (r : Stretch). r.id.clock) s.1 ∙ o.clock_is;
        filled = subst (λ (r : Stretch). 0 < r.len) (sym s.1) o.filled;
      }

  others_kept : (k : ℕ) (es : List Entry) (from next : ℕ) → StretchesFill runs k from es next → ((x : Entry) → IsIn x es → IsOther x.place) → StretchesFill one k from es next
  others_kept k [] from next f ne = f
  others_kept k (e ∷ es) from next f ne = (
    other_kept k from e f.0 (ne e (inl refl)),
    subst (λ m. StretchesFill one k (from + m) es next) (sym (ap (λ (r : Stretch). r.len) (other_run e.place f.0.within (ne e (inl refl))).1))
        (others_kept k es (from + (stretch_at runs e.place).len) next f.1 (λ x h. ne x (inr h))),
  )

  -- an entry of the client that begins elsewhere is of neither
  begins_elsewhere : (from : ℕ) (e : Entry) → IsStretchOf runs client from e → from ≢ (stretch_at one place).id.clock → from ≢ clock → IsOther e.place
  begins_elsewhere from e o ne nl = (
    (λ s. ne (sym o.clock_is ∙ ap (λ i. (stretch_at runs i).id.clock) s ∙ first_clock)),
    (λ s. nl (sym o.clock_is ∙ ap (λ i. (stretch_at runs i).id.clock) s ∙ last_clock)),
  )

  -- ---- the entries from the first of the two on

  behind_first : (es : List Entry) (from next : ℕ) → from ≡ clock → IsIn (entry_for runs last) es → StretchesFill runs client from es next →
      StretchesFill one client ((stretch_at one place).id.clock + (stretch_at one place).len) (without_cut es clock) next
  behind_first [] from next at q f = absurd q
  behind_first (h ∷ hs) from next at (inl e) f = elim (eq_says h.clock clock) [
    | inr y ↦ absurd (y.1 (omega (arith, ap (λ (x : Entry). x.clock) e, last_clock)))
    | inl y ↦ (let len : (stretch_at runs h.place).len ≡ (stretch_at one place).len - n = ap (λ (x : Entry). (stretch_at runs x.place).len) (sym e) ∙ last_len in
        let end : from + (stretch_at runs h.place).len ≡ (stretch_at one place).id.clock + (stretch_at one place).len = omega (arith, at, len, inside) in
        let rest : StretchesFill runs client ((stretch_at one place).id.clock + (stretch_at one place).len) hs next = subst (λ m. StretchesFill runs client m hs next) end f.1 in
        rw y.0 (others_kept client hs ((stretch_at one place).id.clock + (stretch_at one place).len) next rest (λ x m.
        let above = entry_above runs client hs ((stretch_at one place).id.clock + (stretch_at one place).len) next x rest m in
        begins_elsewhere x.clock x (entry_run runs client hs ((stretch_at one place).id.clock + (stretch_at one place).len) next x rest m)
        (λ s. omega (arith, above, s, inside)) (λ s. omega (arith, above, s, inside)))))
  ]
  behind_first (h ∷ hs) from next at (inr m) f =
      absurd (omega (arith, entry_above runs client hs (from + (stretch_at runs h.place).len) next (entry_for runs last) f.1 m, last_clock, at, f.0.filled))

  -- the entries, with those of both
  pub uncut_fill : (es : List Entry) (from next : ℕ) → IsIn (entry_for runs place) es → IsIn (entry_for runs last) es → StretchesFill runs client from es next → StretchesFill one client from (without_cut es clock) next
  uncut_fill [] from next p q f = absurd p
  uncut_fill (g ∷ gs) from next (inl e) q f =
      let at : g.clock ≡ (stretch_at one place).id.clock = ap (λ (x : Entry). x.clock) (sym e) ∙ first_clock in
      let of : g.place ≡ place = ap (λ (x : Entry). x.place) (sym e) in
      let begins : from ≡ (stretch_at one place).id.clock = sym f.0.begins ∙ at in
      elim (eq_says g.clock clock) [
        | inl y ↦ absurd (omega (arith, y.1, at, some))
        | inr y ↦ (let later : IsIn (entry_for runs last) gs = elim q [ inl s ↦ absurd (omega (arith, ap (λ (x : Entry). x.clock) s, at, last_clock, some)) | inr m ↦ m ] in
            let len : (stretch_at runs g.place).len ≡ n = ap (λ i. (stretch_at runs i).len) of ∙ first_len in
            let rest = behind_first gs (from + (stretch_at runs g.place).len) next (omega (arith, begins, len)) later f.1 in
            let end : (stretch_at one place).id.clock + (stretch_at one place).len ≡ from + (stretch_at one g.place).len = omega (arith, begins, ap (λ i. (stretch_at one i).len) of) in
            let own : IsStretchOf one client from g = record {
              begins = f.0.begins;
              within = omega (arith, within, of);
              client_is = ap (λ i. (stretch_at one i).id.client.0) of;
              clock_is = ap (λ i. (stretch_at one i).id.clock) of ∙ sym begins;
              filled = subst (λ i. 0 < (stretch_at one i).len) (sym of) (omega (arith, inside));
            } in
            rw y.0 (own, subst (λ m. StretchesFill one client m (without_cut gs clock) next) end rest))
      ]
  uncut_fill (g ∷ gs) from next (inr m) q f =
      let above = entry_above runs client gs (from + (stretch_at runs g.place).len) next (entry_for runs place) f.1 m in
      let low : from < (stretch_at one place).id.clock = omega (arith, above, f.0.filled, first_clock) in
      elim (eq_says g.clock clock) [
        | inl y ↦ absurd (omega (arith, y.1, f.0.begins, low))
        | inr y ↦ (let later : IsIn (entry_for runs last) gs = elim q [ inl s ↦ absurd (omega (arith, ap (λ (x : Entry). x.clock) s, last_clock, f.0.begins, low)) | inr k ↦ k ] in
            let other = begins_elsewhere from g f.0 (λ s. omega (arith, s, low)) (λ s. omega (arith, s, low)) in
            let rest = uncut_fill gs (from + (stretch_at runs g.place).len) next m later f.1 in
            rw y.0 (other_kept client from g f.0 other, subst (λ k. StretchesFill one client (from + k) (without_cut gs clock) next) (sym (ap (λ (r : Stretch). r.len) (other_run g.place f.0.within other).1)) rest))
      ]

-- ---- the arena

module _ (old new : List Lined) (runs one : List Stretch) (place n : ℕ) (arena : IsArena old runs) (within : place < length one) (some : 0 < n) (inside : n < (stretch_at one place).len) (cut : runs ≡ cut_stretches one place n)
    (id : Id) (is_id : id ≡ (stretch_at runs (length one)).id) (undone : Uncuts old new id) where
  abbrev own : ℕ
  own = (stretch_at one place).id.client.0

  same_client : id.client.0 ≡ own
  same_client = ap (λ (i : Id). i.client.0) is_id ∙ ap (λ (r : Stretch). r.id.client.0) (rest_is runs one place n within some inside cut)

  same_clock : id.clock ≡ (stretch_at one place).id.clock + n
  same_clock = ap (λ (i : Id). i.clock) is_id ∙ last_clock runs one place n within some inside cut

  len_is : length runs ≡ length one + 1
  len_is = runs_len runs one place n within some inside cut

  nexts_are : (k : ℕ) → next_of new k ≡ next_of old k
  nexts_are = nexts_same old new id.client.0 _ undone

  entries_are : entries_of new own ≡ without_cut (entries_of old own) ((stretch_at one place).id.clock + n)
  entries_are = ap (entries_of new) (sym same_client) ∙ undone.entries_are ∙ ap₂ (λ k c. without_cut (entries_of old k) c) same_client same_clock

  has_first : IsIn (entry_for runs place) (entries_of old own)
  has_first =
      subst (λ k. IsIn (entry_for runs place) (entries_of old k)) (ap (λ (r : Stretch). r.id.client.0) (front_is runs one place n within some inside cut))
      (arena.holds.each place (omega (arith, within, len_is)) (omega (arith, some, first_len runs one place n within some inside cut)))

  has_last : IsIn (entry_for runs (length one)) (entries_of old own)
  has_last =
      subst (λ k. IsIn (entry_for runs (length one)) (entries_of old k)) (ap (λ (r : Stretch). r.id.client.0) (rest_is runs one place n within some inside cut))
      (arena.holds.each (length one) (omega (arith, len_is)) (omega (arith, inside, last_len runs one place n within some inside cut)))

  own_fills : StretchesFill one own 0 (entries_of new own) (next_of new own)
  own_fills =
      subst (λ m. StretchesFill one own 0 (entries_of new own) m) (sym (nexts_are own)) (subst (λ es. StretchesFill one own 0 es (next_of old own)) (sym entries_are)
      (uncut_fill runs one place n within some inside cut (entries_of old own) 0 (next_of old own) has_first has_last (arena.holds.fills own)))

  -- the entries of another client are of other runs
  not_own : (k : ℕ) (x : Entry) → k ≢ own → IsIn x (entries_of old k) → (x.place ≢ place) × (x.place ≢ length one)
  not_own k x ne h =
      let of = (entry_run runs k (entries_of old k) 0 (next_of old k) x (arena.holds.fills k) h).client_is in (
        (λ s. ne (sym of ∙ ap (λ i. (stretch_at runs i).id.client.0) s ∙ ap (λ (r : Stretch). r.id.client.0) (front_is runs one place n within some inside cut))),
        (λ s. ne (sym of ∙ ap (λ i. (stretch_at runs i).id.client.0) s ∙ ap (λ (r : Stretch). r.id.client.0) (rest_is runs one place n within some inside cut))),
      )

  other_entries : (k : ℕ) → k ≢ own → entries_of new k ≡ entries_of old k
  other_entries k ne = undone.other_entries k (λ s. ne (s ∙ same_client))

  other_fills : (k : ℕ) → k ≢ own → StretchesFill one k 0 (entries_of new k) (next_of new k)
  other_fills k ne =
      subst (λ m. StretchesFill one k 0 (entries_of new k) m) (sym (nexts_are k)) (subst (λ es. StretchesFill one k 0 es (next_of old k)) (sym (other_entries k ne))
      (others_kept runs one place n within some inside cut k (entries_of old k) 0 (next_of old k) (arena.holds.fills k) (λ x h. not_own k x ne h)))

  -- each run begins where it began, and has its entry
  abbrev Has : ℕ → Id → Type 0
  Has i r = IsIn (record { clock = r.clock; place = i }) (entries_of new r.client.0)

  same_id : (i : ℕ) → i < length one → (stretch_at runs i).id ≡ (stretch_at one i).id
  same_id i lt = ap (λ rs. (stretch_at rs i).id) cut ∙ cut_id one place n within i lt

  was_filled : (i : ℕ) → i < length one → 0 < (stretch_at one i).len → 0 < (stretch_at runs i).len
  was_filled i lt pos = elim (eq_says i place) [
    | inl y ↦ subst (λ j. 0 < (stretch_at runs j).len) (sym y.1) (omega (arith, some, first_len runs one place n within some inside cut))
    | inr y ↦ subst (λ (r : Stretch). 0 < r.len) (other_is runs one place n within some inside cut i lt y.1) pos
  ]

  -- no other run begins where the last one did
  begins_once : (i : ℕ) → i < length one → 0 < (stretch_at runs i).len → (stretch_at runs i).id.client.0 ≡ own → (stretch_at runs i).id.clock ≢ (stretch_at one place).id.clock + n
  begins_once i lt pos client at =
      let end : Id = (stretch_at runs (length one)).id in
      let here : HasUnit runs i 0 end = record {
        within = omega (arith, lt, len_is);
        inside = pos;
        client = ap (λ k. record { 0 = k }) (client ∙ sym (ap (λ (r : Stretch). r.id.client.0) (rest_is runs one place n within some inside cut)));
        clock = omega (arith, at, last_clock runs one place n within some inside cut);
      } in
      let there : HasUnit runs (length one) 0 end = record {
        within = omega (arith, len_is);
        inside = omega (arith, inside, last_len runs one place n within some inside cut);
        client = refl;
        clock = omega arith;
      } in
      omega (arith, lt, (units_stand_once old runs end i 0 (length one) 0 arena here there).0)

  has_entry : (i : ℕ) → i < length one → 0 < (stretch_at runs i).len → Has i (stretch_at runs i).id
  has_entry i lt pos = elim (eq_says (stretch_at runs i).id.client.0 own) [
    | inl y ↦ subst (λ k. IsIn (entry_for runs i) (entries_of new k)) (sym y.1) (subst (IsIn (entry_for runs i)) (sym entries_are)
        (stays_in (entries_of old own) ((stretch_at one place).id.clock + n) (entry_for runs i)
        (subst (λ k. IsIn (entry_for runs i) (entries_of old k)) y.1 (arena.holds.each i (omega (arith, lt, len_is)) pos)) (begins_once i lt pos y.1)))
    | inr y ↦ subst (IsIn (entry_for runs i)) (sym (other_entries (stretch_at runs i).id.client.0 y.1)) (arena.holds.each i (omega (arith, lt, len_is)) pos)
  ]

  pub arena_joined : IsArena new one
  arena_joined = record {
    holds = record {
      fills = λ k. elim (eq_says k own) [
        | inl y ↦ subst (λ j. StretchesFill one j 0 (entries_of new j) (next_of new j)) (sym y.1) own_fills
        | inr y ↦ other_fills k y.1
      ];
      each = λ i lt pos. subst (Has i) (same_id i lt) (has_entry i lt (was_filled i lt pos));
    };
    clocks = λ k. rw (nexts_are k) (arena.clocks k);
  }

-- ---- a joint

module _ (lines : List Lined) (it : Linked) (place : ℕ) (arena : IsArena lines it.stretches) (lists : AreLists it) (j : IsJoint it place) where
  filled : (0 < (stretch_at it.stretches place).len) × (0 < (stretch_at it.stretches j.last).len)
  filled = joint_filled it place lists j

  end_is : (stretch_at it.stretches j.last).id.clock ≡ (stretch_at it.stretches place).id.clock + (stretch_at it.stretches place).len
  end_is = ap (λ (i : Id). i.clock) j.continues.begins

  -- the last run begins an entry, which is not the first of its client
  pub joint_begins : (read : Stretch) (at : ℕ) → at ≡ length it.stretches - 1 → read ≡ stretch_at it.stretches at → Begins (entries_of lines read.id.client.0) (next_of lines read.id.client.0) read.id.clock
  joint_begins read at is_last is =
      let same : at ≡ j.last = omega (arith, is_last, j.is_last) in
      subst (λ (r : Stretch). Begins (entries_of lines r.id.client.0) (next_of lines r.id.client.0) r.id.clock) (sym (is ∙ ap (stretch_at it.stretches) same)) (record {
        entry = entry_for it.stretches j.last;
        found = unit_entry lines it.stretches arena.holds j.last 0 (stretch_at it.stretches j.last).id
            (record { within = omega (arith, j.is_last); inside = filled.1; client = refl; clock = omega arith });
        begins = refl;
        later = omega (arith, end_is, filled.0);
      })

  -- both together have fewer than 2^64 units
  pub joint_fits : (stretch_at it.stretches place).len + (stretch_at it.stretches (length it.stretches - 1)).len < 2 ^ 64
  joint_fits =
      let last : length it.stretches - 1 ≡ j.last = omega (arith, j.is_last) in
      let low = unit_clock lines it.stretches arena j.last ((stretch_at it.stretches j.last).len - 1) (omega (arith, j.is_last)) (omega (arith, filled.1)) in
      omega (arith, low, filled.1, end_is, ap (λ i. (stretch_at it.stretches i).len) last)

module _ (old new : Placed) (place at : ℕ) (read : Stretch) (arena : IsArena old.lines old.linked.stretches) (j : IsJoint old.linked place) (is_last : at ≡ length old.linked.stretches - 1) (is : read ≡ stretch_at old.linked.stretches at)
    (undone : Uncuts old.lines new.lines read.id) (within : place < length new.linked.stretches) (cut : old.linked.stretches ≡ cut_stretches new.linked.stretches place (stretch_at old.linked.stretches place).len)
    (puts : PutsBehind new.linked.lists old.linked.lists place (length new.linked.stretches)) (were : AreLists old.linked) (are : AreLists new.linked) where
  abbrev size : ℕ
  size = (stretch_at old.linked.stretches place).len

  both_filled : (0 < size) × (0 < (stretch_at old.linked.stretches j.last).len)
  both_filled = joint_filled old.linked place were j

  last_place : j.last ≡ length new.linked.stretches
  last_place = omega (arith, j.is_last, joined_len old.linked.stretches new.linked.stretches place size cut)

  more : size < (stretch_at new.linked.stretches place).len
  more = joined_inside old.linked.stretches new.linked.stretches place size within cut (subst (λ i. 0 < (stretch_at old.linked.stretches i).len) last_place both_filled.1)

  read_id : read.id ≡ (stretch_at old.linked.stretches (length new.linked.stretches)).id
  read_id =
      let same : at ≡ length new.linked.stretches = omega (arith, is_last, j.is_last, last_place) in
      ap (λ (r : Stretch). r.id) (is ∙ ap (stretch_at old.linked.stretches) same)

  pub still_arena : IsArena new.lines new.linked.stretches
  still_arena = arena_joined old.lines new.lines old.linked.stretches new.linked.stretches place size arena within both_filled.0 more cut read.id read_id undone

  pub joins_last : JoinsLast old new place
  joins_last =
      let cuts : CutsRun new old place size = record {
        runs = cut;
        lists = puts;
        nexts = λ k. sym (nexts_same old.lines new.lines read.id.client.0 _ undone k);
        units = cuts_keep_units new.linked old.linked place size are within (omega (arith, more)) cut puts;
      } in
      record { id = unit_id new.linked.stretches place size; before = size; has = own_unit new.linked.stretches place size within more; later = both_filled.0; cuts = cuts }
