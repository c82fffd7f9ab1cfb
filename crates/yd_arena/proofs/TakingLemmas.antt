-- The last run of a client is taken out: its list loses its place, and the index its entry.
use Rattle.std.proofs.Common.{◌≡◌, ◌≢◌, ℕ, ◌+◌, ◌<◌, inl, inr, List, [], ◌∷◌, ◌++◌, Some, None, length, get_or, set, refl, sym, ap, ◌∙◌, subst, arith}
use Rattle.std.proofs.lemmas.List.{length-set, get_or-set_same, get_or-set_other}
use Rattle.yd_ids.specs.Id.{IsClock}
use Rattle.yd_words.specs.Member.{IsIn, AreDistinct}
use Rattle.yd_words.proofs.MemberLemmas.{in_with_last}
use Rattle.yd_chains.specs.Chain.{before, behind, without}
use Rattle.yd_chains.specs.Link.{Chained, AreSound}
use Rattle.yd_chains.proofs.ChainLemmas.{has_place, around, in_middle, distinct_out}
use Rattle.yd_scan.specs.declared.stretch.Stretch.{Stretch}
use Rattle.yd_scan.specs.Stretches.{no_stretch, stretch_at}
use Rattle.yd_index.specs.declared.line.Entry.{Entry}
use Rattle.yd_index.specs.Line.{Lined}
use Rattle.yd_index.specs.Lines.{entries_of, next_of, Pops}
use Rattle.yd_index.specs.Holding.{front_of, IsStretchOf, StretchesFill, entry_for}
use Rattle.yd_index.proofs.LineLemmas.{end_above}
use Rattle.yd_index.proofs.LinesLemmas.{eq_says}
use Rattle.yd_index.proofs.RowLemmas.{fills_of, entry_run}
use Rattle.yd_index.proofs.HoldingLemmas.{fills_kept}
use Rattle.yd_arena.specs.Lists.{AreKept, TakesOut, emptied}
use Rattle.yd_arena.specs.Arena.{Placed, IsArena, TakesLast}

-- ---- a place that is taken out of its list

pub takes_out : (old new : List (List ℕ)) (place k : ℕ) → k < length old → IsIn place (get_or old k []) → ((j : ℕ) → j < length old → IsIn place (get_or old j []) → Some k ≡ Some j) →
    new ≡ set old k (without place (get_or old k [])) → TakesOut old new place
takes_out old new place k kl has only e =
    let xs = without place (get_or old k []) in
    record {
      count = ap length e ∙ length-set old k xs;
      own = λ j jl h.
          let same : Some k ≡ Some j = only j jl h in
          let is : k ≡ j = cc in
          ap (λ ys. get_or ys j []) e ∙ ap (λ m. get_or (set old k xs) m []) (sym is) ∙ get_or-set_same old k xs [] kl ∙ ap (λ m. without place (get_or old m [])) is;
      others = λ j jl out. ap (λ ys. get_or ys j []) e ∙ get_or-set_other old k j xs [] (λ s. out (subst (λ m. IsIn place (get_or old m [])) (sym s) has));
    }

pub takes_none : (old : List (List ℕ)) (place : ℕ) → ((j : ℕ) → j < length old → IsIn place (get_or old j []) → None ≡ Some j) → TakesOut old old place
takes_none old place only = record {
  count = refl;
  own = λ j jl h. let no : None ≡ Some j = only j jl h in absurd cc;
  others = λ j jl out. refl;
}

-- what a list has then, it had, and it is another place
pub still_in : (old new : List (List ℕ)) (place k i : ℕ) → TakesOut old new place → AreDistinct (get_or old k []) → k < length old → IsIn i (get_or new k []) → IsIn i (get_or old k []) × (i ≢ place)
still_in old new place k i takes distinct kl h = elim (has_place place (get_or old k [])) [
  | inl m ↦
      let xs = get_or old k [] in
      let w : IsIn i (before place xs ++ behind (Some place) xs) = subst (IsIn i) (takes.own k kl m) h in (
        subst (IsIn i) (around place xs m) (in_middle i place (before place xs) (behind (Some place) xs) w),
        (λ e. distinct_out place (before place xs) (behind (Some place) xs) (subst AreDistinct (sym (around place xs m)) distinct) (subst (λ j. IsIn j (before place xs ++ behind (Some place) xs)) e w)),
      )
  | inr m ↦ (let w = subst (IsIn i) (takes.others k kl m) h in (w, (λ e. m (subst (λ j. IsIn j (get_or old k [])) e w))))
]

pub kept_taken : (chains more : Chained) (stretches : List Stretch) (marks : List ℕ) (counter most place : ℕ) → AreSound chains → AreKept chains stretches marks counter most → TakesOut chains.chains more.chains place → more.count ≡ chains.count →
    AreKept more (emptied stretches place) marks counter most
kept_taken chains more stretches marks counter most place sound kept takes count =
    let front = front_of (stretch_at stretches place) 0 in
    let len = length-set stretches place front in
    record {
      placed = omega (arith, kept.placed, count, len);
      marked = omega (arith, kept.marked, len);
      bound = omega (arith, kept.bound, len);
      low = kept.low;
      within = λ k i kl h.
          let ko : k < length chains.chains = omega (arith, kl, takes.count) in
          omega (arith, kept.within k i ko (still_in chains.chains more.chains place k i takes (sound.distinct k ko) ko h).0, len);
      filled = λ k i kl h.
          let ko : k < length chains.chains = omega (arith, kl, takes.count) in
          let o = still_in chains.chains more.chains place k i takes (sound.distinct k ko) ko h in
          subst (λ (r : Stretch). 0 < r.len) (sym (get_or-set_other stretches place i front no_stretch o.1)) (kept.filled k i ko o.0);
    }

-- ---- the entry of the last run

module _ (runs : List Stretch) (k : ℕ) where
  fills_split : (es : List Entry) (from next : ℕ) (e : Entry) → StretchesFill runs k from (es ++ e ∷ []) next →
      StretchesFill runs k from es e.clock × IsStretchOf runs k e.clock e × (e.clock + (stretch_at runs e.place).len ≡ next)
  fills_split [] from next e f = (sym f.0.begins, subst (λ c. IsStretchOf runs k c e) (sym f.0.begins) f.0, omega (arith, f.0.begins, f.1))
  fills_split (g ∷ gs) from next e f =
      let r = fills_split gs (from + (stretch_at runs g.place).len) next e f.1 in
      ((f.0, r.0), r.1, r.2)

  entry_below : (es : List Entry) (from next : ℕ) (x : Entry) → StretchesFill runs k from es next → IsIn x es → x.clock < next
  entry_below [] from next x f h = absurd h
  entry_below (e ∷ es) from next x f (inl s) =
      omega (arith, ap (λ (y : Entry). y.clock) s, f.0.begins, f.0.filled, end_above es (from + (stretch_at runs e.place).len) next (fills_of runs k es (from + (stretch_at runs e.place).len) next f.1))
  entry_below (e ∷ es) from next x f (inr h) = entry_below es (from + (stretch_at runs e.place).len) next x f.1 h

module _ (old new : List Lined) (runs : List Stretch) (client : ℕ) (last : Entry) (arena : IsArena old runs) (pops : Pops old new client last) where
  abbrev left : List Stretch
  left = emptied runs last.place

  split : StretchesFill runs client 0 (entries_of new client) last.clock × IsStretchOf runs client last.clock last × (last.clock + (stretch_at runs last.place).len ≡ next_of old client)
  split = fills_split runs client (entries_of new client) 0 (next_of old client) last (subst (λ es. StretchesFill runs client 0 es (next_of old client)) pops.entries_are (arena.holds.fills client))

  left_len : length left ≡ length runs
  left_len = length-set runs last.place (front_of (stretch_at runs last.place) 0)

  other_run : (i : ℕ) → i ≢ last.place → stretch_at left i ≡ stretch_at runs i
  other_run i ne = get_or-set_other runs last.place i (front_of (stretch_at runs last.place) 0) no_stretch ne

  this_run : stretch_at left last.place ≡ front_of (stretch_at runs last.place) 0
  this_run = get_or-set_same runs last.place (front_of (stretch_at runs last.place) 0) no_stretch split.1.within

  -- the other entries of the client begin before it, and those of others are not its
  own_other : (x : Entry) → IsIn x (entries_of new client) → x.place ≢ last.place
  own_other x h e =
      let o = entry_run runs client (entries_of new client) 0 last.clock x split.0 h in
      omega (arith, entry_below runs client (entries_of new client) 0 last.clock x split.0 h, o.clock_is, split.1.clock_is, ap (λ i. (stretch_at runs i).id.clock) e)

  not_own : (k : ℕ) (x : Entry) → k ≢ client → IsIn x (entries_of old k) → x.place ≢ last.place
  not_own k x ne h e =
      let o = entry_run runs k (entries_of old k) 0 (next_of old k) x (arena.holds.fills k) h in
      ne (sym o.client_is ∙ ap (λ i. (stretch_at runs i).id.client.0) e ∙ split.1.client_is)

  own_fills : StretchesFill left client 0 (entries_of new client) (next_of new client)
  own_fills = subst (λ n. StretchesFill left client 0 (entries_of new client) n) (sym pops.next_is)
      (fills_kept runs left client (entries_of new client) 0 last.clock split.0 (omega (arith, left_len)) (λ x h. other_run x.place (own_other x h)))

  other_fills : (k : ℕ) → k ≢ client → StretchesFill left k 0 (entries_of new k) (next_of new k)
  other_fills k ne = subst (λ n. StretchesFill left k 0 (entries_of new k) n) (sym (pops.other_nexts k ne)) (subst (λ es. StretchesFill left k 0 es (next_of old k)) (sym (pops.other_entries k ne))
      (fills_kept runs left k (entries_of old k) 0 (next_of old k) (arena.holds.fills k) (omega (arith, left_len)) (λ x h. other_run x.place (not_own k x ne h))))

  has_entry : (i : ℕ) → i < length runs → 0 < (stretch_at runs i).len → i ≢ last.place → IsIn (entry_for runs i) (entries_of new (stretch_at runs i).id.client.0)
  has_entry i lt pos ne = elim (eq_says (stretch_at runs i).id.client.0 client) [
    | inl y ↦ subst (λ k. IsIn (entry_for runs i) (entries_of new k)) (sym y.1)
        (elim (in_with_last (entries_of new client) last (entry_for runs i) (subst (IsIn (entry_for runs i)) pops.entries_are (subst (λ k. IsIn (entry_for runs i) (entries_of old k)) y.1 (arena.holds.each i lt pos)))) [
          | inl h ↦ h
          | inr e ↦ absurd (ne (ap (λ (x : Entry). x.place) e))
        ])
    | inr y ↦ subst (IsIn (entry_for runs i)) (sym (pops.other_entries (stretch_at runs i).id.client.0 y.1)) (arena.holds.each i lt pos)
  ]

  abbrev Has : ℕ → Stretch → Type 0
  Has i r = IsIn (record { clock = r.id.clock; place = i }) (entries_of new r.id.client.0)

  pub arena_taken : IsArena new left
  arena_taken = record {
    holds = record {
      fills = λ k. elim (eq_says k client) [
        | inl y ↦ subst (λ j. StretchesFill left j 0 (entries_of new j) (next_of new j)) (sym y.1) own_fills
        | inr y ↦ other_fills k y.1
      ];
      each = λ i lt pos. elim (eq_says i last.place) [
        | inl y ↦ absurd (omega (arith, pos, ap (λ j. (stretch_at left j).len) y.1, ap (λ (r : Stretch). r.len) this_run))
        | inr y ↦ subst (Has i) (sym (other_run i y.1)) (has_entry i (omega (arith, lt, left_len)) (subst (λ (r : Stretch). 0 < r.len) (other_run i y.1) pos) y.1)
      ];
    };
    clocks = λ k. elim (eq_says k client) [
      | inl y ↦ subst (λ j. IsClock (next_of new j)) (sym y.1) (omega (arith, pops.next_is, split.2, arena.clocks client))
      | inr y ↦ subst (λ m. IsClock m) (sym (pops.other_nexts k y.1)) (arena.clocks k)
    ];
  }

  pub last_within : last.place < length runs
  last_within = split.1.within

  pub takes_last : (one more : Placed) → one.lines ≡ old → more.lines ≡ new → one.linked.stretches ≡ runs → more.linked.stretches ≡ left → TakesOut one.linked.lists more.linked.lists last.place → TakesLast one more client last.place
  takes_last one more ol nl os ns lists = record {
    within = subst (λ rs. last.place < length rs) (sym os) split.1.within;
    own = subst (λ rs. (stretch_at rs last.place).id.client.0 ≡ client) (sym os) split.1.client_is;
    filled = subst (λ rs. 0 < (stretch_at rs last.place).len) (sym os) split.1.filled;
    ends = ap (λ rs. (stretch_at rs last.place).id.clock + (stretch_at rs last.place).len) os ∙ omega (arith, split.1.clock_is, split.2) ∙ ap (λ ls. next_of ls client) (sym ol);
    runs = ns ∙ ap (λ rs. emptied rs last.place) (sym os);
    lists = lists;
    next = ap (λ ls. next_of ls client) nl ∙ pops.next_is ∙ sym split.1.clock_is ∙ ap (λ rs. (stretch_at rs last.place).id.clock) (sym os);
    other_nexts = λ k ne. ap (λ ls. next_of ls k) nl ∙ pops.other_nexts k ne ∙ ap (λ ls. next_of ls k) (sym ol);
  }
