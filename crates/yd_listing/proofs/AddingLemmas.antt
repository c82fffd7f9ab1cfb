-- Spans that come to spans: which ids they add.
use Rattle.std.proofs.Common.{◌≡◌, ℕ, ◌+◌, ◌<◌, ◌≤◌, ◌⊎◌, inl, inr, List, [], ◌∷◌, ◌++◌, sym, ap, ◌∙◌, subst, arith}
use Rattle.yd_words.proofs.EachLemmas.{each_append}
use Rattle.yd_words.proofs.TestLemmas.{split}
use Rattle.yd_ids.specs.declared.id.Id.{Id}
use Rattle.yd_ids.specs.declared.id.Span.{Span}
use Rattle.yd_ids.specs.Id.{IsSpan}
use Rattle.yd_ids.specs.Span.{InSpan}
use Rattle.yd_ids.specs.Set.{HasId, AreMaximal}
use Rattle.yd_ids.proofs.IdLemmas.{same_numbers}
use Rattle.yd_listing.specs.Falling.{IsGone}
use Rattle.yd_listing.specs.Steps.{span_below, span_behind, InSpanBut, Adds, AddsAll}

-- ---- one span more

has_before : (xs : List Span) (s : Span) (x : Id) → HasId xs x → HasId (xs ++ s ∷ []) x
has_before [] s x h = absurd h
has_before (y ∷ ys) s x (inl i) = inl i
has_before (y ∷ ys) s x (inr h) = inr (has_before ys s x h)

has_last : (xs : List Span) (s : Span) (x : Id) → InSpan s x → HasId (xs ++ s ∷ []) x
has_last [] s x i = inl i
has_last (y ∷ ys) s x i = inr (has_last ys s x i)

has_parts : (xs : List Span) (s : Span) (x : Id) → HasId (xs ++ s ∷ []) x → HasId xs x ⊎ InSpan s x
has_parts [] s x (inl i) = inr i
has_parts [] s x (inr h) = absurd h
has_parts (y ∷ ys) s x (inl i) = inl (inl i)
has_parts (y ∷ ys) s x (inr h) = elim (has_parts ys s x h) [ inl g ↦ inl (inr g) | inr i ↦ inr i ]

pub pushed_adds : (xs ys : List Span) (s : Span) → IsSpan s → ys ≡ xs ++ s ∷ [] → Adds (InSpan s) xs ys
pushed_adds xs ys s is e = subst (Adds (InSpan s) xs) (sym e) (record {
  kept = has_before xs s;
  only = has_parts xs s;
  spans = λ each. each_append IsSpan xs (s ∷ []) each (is, tt);
})

pub pushed_all : (xs ys : List Span) (s : Span) → ys ≡ xs ++ s ∷ [] → (x : Id) → InSpan s x → HasId ys x
pushed_all xs ys s e x i = subst (λ zs. HasId zs x) (sym e) (has_last xs s x i)

-- ---- several

pub adds_none : (P : Id → Type 0) (xs : List Span) → Adds P xs xs
adds_none P xs = record { kept = λ x h. h; only = λ x h. inl h; spans = λ each. each }

pub adds_wider : (P Q : Id → Type 0) (xs ys : List Span) → ((x : Id) → P x → Q x) → Adds P xs ys → Adds Q xs ys
adds_wider P Q xs ys wider a = record {
  kept = a.kept;
  only = λ x h. elim (a.only x h) [ inl g ↦ inl g | inr p ↦ inr (wider x p) ];
  spans = a.spans;
}

pub adds_both : (P : Id → Type 0) (xs ys zs : List Span) → Adds P xs ys → Adds P ys zs → Adds P xs zs
adds_both P xs ys zs a b = record {
  kept = λ x h. b.kept x (a.kept x h);
  only = λ x h. elim (b.only x h) [ inl g ↦ a.only x g | inr p ↦ inr p ];
  spans = λ each. b.spans (a.spans each);
}

pub gone_kept : (P : Id → Type 0) (deleted xs ys : List Span) (x : Id) → Adds P xs ys → IsGone deleted xs x → IsGone deleted ys x
gone_kept P deleted xs ys x a (inl h) = inl h
gone_kept P deleted xs ys x a (inr h) = inr (a.kept x h)

-- ---- parts of a span

pub in_below : (span : Span) (clock : ℕ) (x : Id) → InSpan (span_below span clock) x → InSpan span x × (x.clock < clock)
in_below span clock x i = ((i.0, i.1, omega (arith, i.2)), omega (arith, i.1, i.2))

pub below_in : (span : Span) (clock : ℕ) (x : Id) → InSpan span x → x.clock < clock → InSpan (span_below span clock) x
below_in span clock x i lt = (i.0, i.1, omega (arith, i.1, i.2, lt))

pub below_is_span : (span : Span) (clock : ℕ) → IsSpan span → IsSpan (span_below span clock)
below_is_span span clock is = record { client = is.client; end = omega (arith, is.end) }

pub behind_is_span : (span : Span) (clock : ℕ) → IsSpan span → clock < span.clock + span.len → IsSpan (span_behind span clock)
behind_is_span span clock is lt = record { client = is.client; end = omega (arith, is.end, lt) }

pub in_behind : (span : Span) (clock : ℕ) (x : Id) → span.clock ≤ clock → InSpan (span_behind span clock) x → InSpan span x × (clock < x.clock)
in_behind span clock x le i = ((i.0, omega (arith, i.1, le), omega (arith, i.1, i.2)), omega (arith, i.1))

pub behind_in : (span : Span) (clock : ℕ) (x : Id) → InSpan span x → clock < x.clock → InSpan (span_behind span clock) x
behind_in span clock x i lt = (i.0, omega (arith, lt), omega (arith, i.2, lt))

-- an id of a span is another one, in front of it, or behind it
pub three_ways : (span : Span) (last x : Id) → InSpan span last → InSpan span x → (x ≡ last) ⊎ InSpan (span_below span last.clock) x ⊎ InSpan (span_behind span last.clock) x
three_ways span last x l i = elim (split last.clock x.clock) [
  | inr lt ↦ inr (inl (below_in span last.clock x i lt))
  | inl le ↦ elim (split x.clock last.clock) [
    | inr lt ↦ inr (inr (behind_in span last.clock x i lt))
    | inl more ↦ inl (same_numbers x last (sym i.0 ∙ l.0) (omega (arith, le, more)))
  ]
]

but_adds_so : (span : Span) (last : Id) (xs ys zs : List Span) → InSpan span last → Adds (InSpan (span_below span last.clock)) xs ys →
    Adds (InSpan (span_behind span last.clock)) ys zs → Adds (InSpanBut span last) xs zs
but_adds_so span last xs ys zs l a b = adds_both (InSpanBut span last) xs ys zs
    (adds_wider (InSpan (span_below span last.clock)) (InSpanBut span last) xs ys
    (λ x i. let p = in_below span last.clock x i in (p.0, (λ e. let lt : x.clock < last.clock = p.1 in absurd (omega (arith, lt, ap (λ (y : Id). y.clock) e))))) a)
    (adds_wider (InSpan (span_behind span last.clock)) (InSpanBut span last) ys zs
    (λ x i. let p = in_behind span last.clock x l.1 i in (p.0, (λ e. let lt : last.clock < x.clock = p.1 in absurd (omega (arith, lt, ap (λ (y : Id). y.clock) e))))) b)

but_all_so : (span : Span) (last : Id) (P : Id → Type 0) (ys zs : List Span) → InSpan span last → ((x : Id) → InSpan (span_below span last.clock) x → HasId ys x) →
    Adds P ys zs → ((x : Id) → InSpan (span_behind span last.clock) x → HasId zs x) → (x : Id) → InSpanBut span last x → HasId zs x
but_all_so span last P ys zs l front adds back x i = elim (three_ways span last x l i.0) [
  | inl e ↦ absurd (i.1 e)
  | inr w ↦ elim w [ inl f ↦ adds.kept x (front x f) | inr b ↦ back x b ]
]

-- a span's ids but for one come as two spans
module _ (span front back : Span) (last : Id) (xs ys zs : List Span) (l : InSpan span last) (before : front ≡ span_below span last.clock)
    (behind : back ≡ span_behind span last.clock) (first : Adds (InSpan front) xs ys) (second : Adds (InSpan back) ys zs) where
  pub but_adds : Adds (InSpanBut span last) xs zs
  but_adds = but_adds_so span last xs ys zs l (subst (λ s. Adds (InSpan s) xs ys) before first) (subst (λ s. Adds (InSpan s) ys zs) behind second)

  pub but_all : ((x : Id) → InSpan front x → HasId ys x) → ((x : Id) → InSpan back x → HasId zs x) → (x : Id) → InSpanBut span last x → HasId zs x
  but_all all more = but_all_so span last (InSpan back) ys zs l (subst (λ s. (x : Id) → InSpan s x → HasId ys x) before all) second
      (subst (λ s. (x : Id) → InSpan s x → HasId zs x) behind more)

pub but_whole : (span : Span) (last : Id) (xs ys : List Span) → (InSpan span last → ⊥) → Adds (InSpan span) xs ys → Adds (InSpanBut span last) xs ys
but_whole span last xs ys out adds = adds_wider (InSpan span) (InSpanBut span last) xs ys (λ x i. (i, (λ e. out (subst (InSpan span) e i)))) adds

-- ---- what is held of spans, one after another

-- of the spans up to the rest, what passes is added
pub record IsAdding (deleted spans rest old new : List Span) (test : Id → Type 0) : Type 0 where
  pub adds : Adds (λ x. HasId spans x × test x) old new
  pub all : (x : Id) → HasId spans x → test x → HasId rest x ⊎ IsGone deleted new x
  pub among : (x : Id) → HasId rest x → HasId spans x
  pub maximal : AreMaximal rest

pub adding_begins : (deleted spans rest old : List Span) (test : Id → Type 0) → rest ≡ spans → AreMaximal spans → IsAdding deleted spans rest old old test
adding_begins deleted spans rest old test e maximal = record {
  adds = adds_none (λ x. HasId spans x × test x) old;
  all = λ x h t. inl (subst (λ ss. HasId ss x) (sym e) h);
  among = λ x h. subst (λ ss. HasId ss x) e h;
  maximal = subst AreMaximal (sym e) maximal;
}

pub next_span : (deleted spans rest old new : List Span) (test : Id → Type 0) (span : Span) (more : List Span) → IsAdding deleted spans rest old new test →
    rest ≡ span ∷ more → IsSpan span
next_span deleted spans rest old new test span more was e = (subst AreMaximal e was.maximal).0

pub adding_goes_on : (deleted spans rest old mid new : List Span) (test : Id → Type 0) (span : Span) (more : List Span) → IsAdding deleted spans rest old mid test →
    rest ≡ span ∷ more → AddsAll deleted (λ x. InSpan span x × test x) mid new → IsAdding deleted spans more old new test
adding_goes_on deleted spans rest old mid new test span more was e adds_more =
    let adds = adds_wider (λ x. InSpan span x × test x) (λ x. HasId spans x × test x) mid new
    (λ x p. (was.among x (subst (λ ss. HasId ss x) (sym e) (inl p.0)), p.1)) adds_more.adds in record {
      adds = adds_both (λ x. HasId spans x × test x) old mid new was.adds adds;
      all = λ x h t. elim (was.all x h t) [
        | inr g ↦ inr (gone_kept (λ x. HasId spans x × test x) deleted mid new x adds g)
        | inl r ↦ elim (subst (λ ss. HasId ss x) e r) [ inl i ↦ inr (adds_more.all x (i, t)) | inr b ↦ inl b ]
      ];
      among = λ x h. was.among x (subst (λ ss. HasId ss x) (sym e) (inr h));
      maximal = (subst AreMaximal e was.maximal).3;
    }

pub adding_ends : (deleted spans rest old new : List Span) (test : Id → Type 0) → rest ≡ [] → IsAdding deleted spans rest old new test →
    AddsAll deleted (λ x. HasId spans x × test x) old new
adding_ends deleted spans rest old new test e was = record {
  adds = was.adds;
  all = λ x p. elim (was.all x p.0 p.1) [ inl r ↦ absurd (subst (λ ss. HasId ss x) e r) | inr g ↦ g ];
}

held_adds_so : (deleted xs ys : List Span) (span : Span) (next : ℕ) (clocks : ℕ → ℕ) → next ≡ clocks span.client.0 → Adds (InSpan (span_below span next)) xs ys →
    ((x : Id) → InSpan (span_below span next) x → IsGone deleted ys x) → AddsAll deleted (λ x. InSpan span x × (x.clock < clocks x.client.0)) xs ys
held_adds_so deleted xs ys span next clocks e adds all = record {
  adds = adds_wider (InSpan (span_below span next)) (λ x. InSpan span x × (x.clock < clocks x.client.0)) xs ys
      (λ x i. let p = in_below span next x i in (p.0, subst (λ n. x.clock < n) (e ∙ ap clocks p.0.0) p.1)) adds;
  all = λ x p. all x (below_in span next x p.0 (subst (λ n. x.clock < n) (sym (e ∙ ap clocks p.0.0)) p.1));
}

-- what is held of a span is added, or was deleted
pub held_adds : (deleted xs ys : List Span) (span held : Span) (next : ℕ) (clocks : ℕ → ℕ) → held ≡ span_below span next → next ≡ clocks span.client.0 →
    Adds (InSpan held) xs ys → ((x : Id) → InSpan held x → IsGone deleted ys x) → AddsAll deleted (λ x. InSpan span x × (x.clock < clocks x.client.0)) xs ys
held_adds deleted xs ys span held next clocks is e adds all = held_adds_so deleted xs ys span next clocks e
    (subst (λ s. Adds (InSpan s) xs ys) is adds) (subst (λ s. (x : Id) → InSpan s x → IsGone deleted ys x) is all)
