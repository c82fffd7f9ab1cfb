-- A column of bytes is read whole: the bytes that are left are those that reading gives.
use Rattle.std.proofs.Common.{◌≡◌, ◌∙◌, ◌+◌, ℕ, zero, suc, Bool, true, false, List, [], ◌∷◌, ◌++◌, length, replicate, Ok, refl, ap, sym, subst, inl, inr, append_assoc, if◌then◌else◌}
use Rattle.yd_cols.proofs.ByteTakenLemmas.{byte_again, byte_taken}
use Rattle.yd_cols.proofs.RunStandLemmas.{ends_runs, first_same, runs_end}
use Rattle.yd_cols.specs.Column.{SpellsByteRun, SpellsBytes}
use Rattle.yd_cols.specs.Law.{IsReadWhole}
use Rattle.yd_cols.specs.Reading.{BytesLeft, RunsLeft, end_of_bytes, end_of_runs, next_byte}
use Rattle.yd_cols.specs.Run.{AreSpelled, SpellsRuns, values_of}
use Rattle.yd_cols.specs.Standing.{BytesStand}
use Rattle.yd_cols.specs.Taking.{TakesByte, TakesRun}
use Rattle.yd_cols.specs.declared.run.Run.{Run}

-- ---- one more run

-- a run and others behind it
spells-cons : (front : List ℕ) (run : Run ℕ) (back values : List ℕ) → SpellsByteRun front run → SpellsRuns SpellsByteRun back values → SpellsRuns SpellsByteRun (front ++ back) (replicate (suc run.more) run.value ++ values)
spells-cons front run back values first others = record {
  runs = run ∷ others.runs;
  spelled = record { front = front; back = back; is_front = first; is_back = others.spelled; joined = refl };
  cut = ap (λ vs. replicate (suc run.more) run.value ++ vs) others.cut;
}

-- a run and a column behind it
bytes-cons : (front : List ℕ) (run : Run ℕ) (back values : List ℕ) → SpellsByteRun front run → SpellsBytes back values → SpellsBytes (front ++ back) (replicate (suc run.more) run.value ++ values)
bytes-cons front run back values first (inl others) = inl (spells-cons front run back values first others)
bytes-cons front run back values first (inr ends) = inr (record {
  front = front ++ ends.front;
  before = replicate (suc run.more) run.value ++ ends.before;
  last = ends.last;
  more = ends.more;
  spelled = spells-cons front run ends.front ends.before first ends.spelled;
  bytes_are = ap (λ b. front ++ b) ends.bytes_are ∙ sym (append_assoc front ends.front (ends.last ∷ []));
  values_are = ap (λ vs. replicate (suc run.more) run.value ++ vs) ends.values_are ∙ sym (append_assoc (replicate (suc run.more) run.value) ends.before (replicate (suc ends.more) ends.last));
})

-- ---- one value less

-- the next byte is taken, and these are left behind it
abbrev Given : BytesLeft → ℕ → List ℕ → Type 0
Given left v vs = (next : BytesLeft) × TakesByte left v next × BytesStand next vs

-- the runs behind a run
abbrev behind : RunsLeft ℕ → Run ℕ → List ℕ → List ℕ → RunsLeft ℕ
behind left run front rest = record { value = run.value; more = run.more; at = left.place; place = left.place + length front; bytes = rest }

-- a run with a count is opened
opens : (left : BytesLeft) (v : ℕ) (vs : List ℕ) (run : Run ℕ) (front rest values : List ℕ) → left.is_open ≡ false → left.runs.more ≡ 0 → SpellsByteRun front run → left.runs.bytes ≡ front ++ rest →
    SpellsBytes rest values → replicate (suc run.more) run.value ++ values ≡ v ∷ vs → Given left v vs
opens left v vs run front rest values closed none spelled joined others all =
    let same = first_same run.value v (replicate run.more run.value ++ values) vs all in (
      record { is_open = false; runs = behind left.runs run front rest },
      inr (inl (record { closed = closed; still_closed = refl; taken = inr (record { none = none; run = run; front = front; rest = rest; spelled = spelled; joined = joined; value = sym same.0; next_is = refl }) })),
      inr (record { closed = refl; behind = values; spelled = others; all = sym same.1 }),
    )

-- the first run of a column is opened
first_run : (left : BytesLeft) (v : ℕ) (vs : List ℕ) → left.is_open ≡ false → left.runs.more ≡ 0 → SpellsBytes left.runs.bytes (v ∷ vs) → Given left v vs
first_run left v vs closed none (inl column) = by_runs column.runs column.spelled column.cut
  where
    by_runs : (runs : List (Run ℕ)) → AreSpelled SpellsByteRun runs left.runs.bytes → values_of runs ≡ v ∷ vs → Given left v vs
    by_runs [] spelled all = absurd cc
    by_runs (run ∷ runs) spelled all = opens left v vs run spelled.front spelled.back (values_of runs) closed none spelled.is_front spelled.joined (inl (record { runs = runs; spelled = spelled.is_back; cut = refl })) all
first_run left v vs closed none (inr ends) = by_runs ends.spelled.runs ends.spelled.spelled (ap (λ b. b ++ replicate (suc ends.more) ends.last) ends.spelled.cut ∙ sym ends.values_are)
  where
    by_runs : (runs : List (Run ℕ)) → AreSpelled SpellsByteRun runs ends.front → values_of runs ++ replicate (suc ends.more) ends.last ≡ v ∷ vs → Given left v vs
    by_runs [] spelled all =
        let same = first_same ends.last v (replicate ends.more ends.last) vs all in
        let only : left.runs.bytes ≡ v ∷ [] = ends.bytes_are ∙ ap (λ f. f ++ ends.last ∷ []) spelled ∙ ap (λ b. b ∷ []) same.0 in (
          record { is_open = true; runs = record { value = v; more = 0; at = left.runs.place; place = suc left.runs.place; bytes = [] } },
          inr (inr (record { closed = closed; none = none; only = only; next_is = refl })),
          inl (record { opened = refl; count = ends.more; values_are = sym same.1 ∙ ap (λ b. replicate ends.more b) same.0 }),
        )
    by_runs (run ∷ runs) spelled all =
        opens left v vs run spelled.front (spelled.back ++ ends.last ∷ []) (values_of runs ++ replicate (suc ends.more) ends.last) closed none spelled.is_front
        (ends.bytes_are ∙ ap (λ f. f ++ ends.last ∷ []) spelled.joined ∙ append_assoc spelled.front spelled.back (ends.last ∷ []))
        (inr (record { front = spelled.back; before = values_of runs; last = ends.last; more = ends.more; spelled = record { runs = runs; spelled = spelled.is_back; cut = refl }; bytes_are = refl; values_are = refl }))
        (sym (append_assoc (replicate (suc run.more) run.value) (values_of runs) (replicate (suc ends.more) ends.last)) ∙ all)

byte_given : (left : BytesLeft) (v : ℕ) (vs : List ℕ) → BytesStand left (v ∷ vs) → Given left v vs
byte_given left v vs (inl stands) = by_count stands.count stands.values_are
  where
    by_count : (count : ℕ) → v ∷ vs ≡ replicate count left.runs.value → Given left v vs
    by_count zero all = absurd cc
    by_count (suc count) all =
        let same = first_same v left.runs.value vs (replicate count left.runs.value) all in
        (left, inl (record { opened = stands.opened; value = same.0; next_is = refl }), inl (record { opened = stands.opened; count = count; values_are = same.1 }))
byte_given left v vs (inr stand) = by_more left.runs.more refl stand.all
  where
    by_more : (more : ℕ) → left.runs.more ≡ more → v ∷ vs ≡ replicate more left.runs.value ++ stand.behind → Given left v vs
    by_more zero none all = first_run left v vs stand.closed none (subst (λ values. SpellsBytes left.runs.bytes values) (sym all) stand.spelled)
    by_more (suc more) there all =
        let same = first_same v left.runs.value vs (replicate more left.runs.value ++ stand.behind) all in (
          record { is_open = false; runs = record { value = left.runs.value; more = more; at = left.runs.at; place = left.runs.place; bytes = left.runs.bytes } },
          inr (inl (record { closed = stand.closed; still_closed = refl; taken = inl (record { more = more; there = there; value = same.0; next_is = refl }) })),
          inr (record { closed = refl; behind = stand.behind; spelled = stand.spelled; all = same.1 }),
        )

-- ---- one value more

-- no reader is both
both : (left : BytesLeft) → left.is_open ≡ true → left.is_open ≡ false → ⊥
both left opened closed = let same : true ≡ false = sym opened ∙ closed in absurd cc

byte_before : (left : BytesLeft) (v : ℕ) (next : BytesLeft) (vs : List ℕ) → TakesByte left v next → BytesStand next vs → BytesStand left (v ∷ vs)
byte_before left v next vs (inl takes) (inl stands) = inl (record {
  opened = takes.opened;
  count = suc stands.count;
  values_are = ap (λ x. x ∷ vs) takes.value ∙ ap (λ xs. left.runs.value ∷ xs) (stands.values_are ∙ ap (λ n. replicate stands.count n.runs.value) takes.next_is);
})
byte_before left v next vs (inl takes) (inr stand) = absurd (both left takes.opened (ap (λ n. n.is_open) (sym takes.next_is) ∙ stand.closed))
byte_before left v next vs (inr (inl takes)) (inl stands) = absurd (both next stands.opened takes.still_closed)
byte_before left v next vs (inr (inl takes)) (inr stand) = by_taken takes.taken
  where
    by_taken : TakesRun SpellsByteRun left.runs v next.runs → BytesStand left (v ∷ vs)
    by_taken (inl hand) = inr (record {
      closed = takes.closed;
      behind = stand.behind;
      spelled = subst (λ n. SpellsBytes n.bytes stand.behind) hand.next_is stand.spelled;
      all = ap (λ x. x ∷ vs) hand.value ∙ ap (λ xs. left.runs.value ∷ xs) (stand.all ∙ ap (λ n. replicate n.more n.value ++ stand.behind) hand.next_is)
          ∙ sym (ap (λ more. replicate more left.runs.value ++ stand.behind) hand.there);
    })
    by_taken (inr opens) =
        let rest : SpellsBytes opens.rest stand.behind = subst (λ n. SpellsBytes n.bytes stand.behind) opens.next_is stand.spelled in
        let values : replicate (suc opens.run.more) opens.run.value ++ stand.behind ≡ v ∷ vs = sym (ap (λ x. x ∷ vs) opens.value ∙ ap (λ xs. opens.run.value ∷ xs) (stand.all ∙ ap (λ n. replicate n.more n.value ++ stand.behind) opens.next_is)) in
        inr (record {
          closed = takes.closed;
          behind = v ∷ vs;
          spelled = subst (λ b. SpellsBytes b (v ∷ vs)) (sym opens.joined) (subst (λ values. SpellsBytes (opens.front ++ opens.rest) values) values (bytes-cons opens.front opens.run opens.rest stand.behind opens.spelled rest));
          all = sym (ap (λ more. replicate more left.runs.value ++ v ∷ vs) opens.none);
        })
byte_before left v next vs (inr (inr takes)) (inl stands) = inr (record {
  closed = takes.closed;
  behind = v ∷ vs;
  spelled = inr (record {
    front = [];
    before = [];
    last = v;
    more = stands.count;
    spelled = record { runs = []; spelled = refl; cut = refl };
    bytes_are = takes.only;
    values_are = ap (λ xs. v ∷ xs) (stands.values_are ∙ ap (λ n. replicate stands.count n.runs.value) takes.next_is);
  });
  all = sym (ap (λ more. replicate more left.runs.value ++ v ∷ vs) takes.none);
})
byte_before left v next vs (inr (inr takes)) (inr stand) = absurd (both next (ap (λ n. n.is_open) takes.next_is) stand.closed)

-- ---- the end

bytes_end : (left : BytesLeft) → end_of_bytes left ≡ Ok tt → BytesStand left []
bytes_end left ends = by_open left.is_open refl ends
  where
    by_open : (is_open : Bool) → left.is_open ≡ is_open → (if is_open then Ok tt else end_of_runs left.runs) ≡ Ok tt → BytesStand left []
    by_open true opened e = inl (record { opened = opened; count = 0; values_are = refl })
    by_open false closed e = let stand = runs_end SpellsByteRun left.runs e in inr (record { closed = closed; behind = stand.behind; spelled = inl stand.spelled; all = stand.all })

-- a byte is more than none
some_byte : (more value : ℕ) (before : List ℕ) (last : ℕ) (others : List ℕ) → [] ≡ replicate more value ++ (before ++ last ∷ others) → ⊥
some_byte zero value [] last others same = absurd cc
some_byte zero value (b ∷ before) last others same = absurd cc
some_byte (suc more) value before last others same = absurd cc

ends_bytes : (left : BytesLeft) → BytesStand left [] → end_of_bytes left ≡ Ok tt
ends_bytes left (inl stands) = ap (λ o. if o then Ok tt else end_of_runs left.runs) stands.opened
ends_bytes left (inr stand) = ap (λ o. if o then Ok tt else end_of_runs left.runs) stand.closed ∙ by_column stand.spelled
  where
    by_column : SpellsBytes left.runs.bytes stand.behind → end_of_runs left.runs ≡ Ok tt
    by_column (inl column) = ends_runs SpellsByteRun left.runs (record { behind = stand.behind; spelled = column; all = stand.all })
    by_column (inr ends) = absurd (some_byte left.runs.more left.runs.value ends.before ends.last (replicate ends.more ends.last) (stand.all ∙ ap (λ b. replicate left.runs.more left.runs.value ++ b) ends.values_are))

-- ---- lemmas for callers

pub byte_whole : IsReadWhole (λ left. Unit {0}) next_byte end_of_bytes BytesStand
byte_whole = record {
  given = λ left v vs sound stand. let given = byte_given left v vs stand in (given.0, byte_again left v given.0 given.1, tt, given.2);
  taken = λ left v next vs sound read stand. byte_before left v next vs (byte_taken left v next read) stand;
  end = λ left. (bytes_end left, ends_bytes left);
}
