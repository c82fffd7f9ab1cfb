-- Items that have lists, where names come and go, and the first of them in a span.
use Rattle.std.proofs.Common.{◌≡◌, ◌∙◌, ℕ, zero, suc, ◌+◌, ◌-◌, ◌*◌, ◌<◌, ◌≤◌, ◌⊎◌, nat_lt, get_or, le_of_eq, true, false, true≢false, List, [], ◌∷◌, ◌++◌, Option, Some, None, Result, Ok, Err, inl, inr, refl, sym, ap, subst, arith, tests, Less}
use Rattle.std.specs.Prelude.{IfSome, slice_get, IsTrue, IsSome, OnOk, OnErr, take, length}
use Rattle.std.specs.Result.{is_ok, is_err}
use Rattle.std.specs.Option.{option_to_list}
use Rattle.std.specs.Ordering.{nat_cmp, is_gt}
use Rattle.std.specs.BTreeSet.{BTreeSet, contains}
use Rattle.std.specs.List.Sorted.{IsPartitionedBy}
use Rattle.std.proofs.lemmas.List.{length-append}
use Rattle.yd_ids.specs.declared.id.Span.{Span}
use Rattle.yd_ids.specs.declared.id.Id.{Id}
use Rattle.yd_ids.specs.Id.{IsSpan}
use Rattle.yd_ids.specs.Span.{InSpan}
use Rattle.yd_ids.proofs.IdLemmas.{same_numbers}
use Rattle.yd_words.proofs.TestLemmas.{split}
use Rattle.yd_words.proofs.OptionLemmas.{some_is}
use Rattle.std.proofs.lemmas.Option.{slice_get_within, slice_get-get_or, get_or_from_slice_get}
use Rattle.std.specs.Option.{is_some}
use Rattle.yd_ops.specs.declared.lists.Parent.{Parent}
use Rattle.yd_ops.specs.declared.lists.Parent.TheVariants.{Root, Item}
use Rattle.yd_ops.specs.declared.lists.List.{List as DocList}
use Rattle.yd_meaning.specs.Names.{item_of_list, item_of_parent}
use Rattle.yd_names.specs.Items.{code_of_item, HasList, HasItems, IsRising, IsAt, IsOther, IsFirstFrom, IsFirstItem, IsFirstClock, IsLookedThrough, earlier, span_behind}
use Rattle.yd_names.specs.Names.{IsLastOf}
use Rattle.yd_names.proofs.CodesLemmas.{got_before}

-- ---- names that come and go

-- with a name more each item that has a list is known, where its own is
pub pushed_items : (names more : List DocList) (name : DocList) (old new : ℕ → Type 0) → more ≡ names ++ name ∷ [] → HasItems names old → ((code : ℕ) → old code → new code) →
    IfSome (item_of_parent name.parent) (λ id. new (code_of_item id)) → HasItems more new
pushed_items names more name old new e has kept added = subst (λ ns. HasItems ns new) (sym e) (λ item h. elim (got_before name names h.number h.list h.there) [
  | inl f ↦ kept (code_of_item item) (has item (record { number = h.number; list = h.list; there = f; own = h.own }))
  | inr (f, same) ↦ subst (λ z. IfSome z (λ id. new (code_of_item id))) (ap item_of_list same ∙ h.own) added
])

-- what holds where a call succeeds holds where it did
pub on_success : {T E P : Type 0} (z : Result T E) → is_ok z ≡ true → OnOk z P → P
on_success (Ok x) e p = p
on_success (Err x) e p = absurd (true≢false (sym e))

pub on_failure : {T E P : Type 0} (z : Result T E) → is_err z ≡ true → OnErr z P → P
on_failure (Ok x) e p = absurd (true≢false (sym e))
on_failure (Err x) e p = p

-- and what holds anyway holds where it fails
pub on_any : {T E P : Type 0} (z : Result T E) → P → OnErr z P
on_any (Ok x) p = tt
on_any (Err x) p = p

pub without_last : {X : Type 0} (xs ys : List X) (last : Option X) → xs ≡ ys ++ option_to_list last → IsSome last → ys ≡ take (length xs - 1) xs
without_last xs ys None e some = absurd (true≢false (sym some))
without_last {X = X} xs ys (Some x) e some = sym (ap (λ zs. take (length zs - 1) zs) e ∙ ap (λ n. take (n - 1) (ys ++ x ∷ [])) (length-append ys (x ∷ [])) ∙ front ys)
  where
    front : (zs : List X) → take (length zs + 1 - 1) (zs ++ x ∷ []) ≡ zs
    front zs = ap (λ n. take n (zs ++ x ∷ [])) (omega arith) ∙ go zs
      where
        go : (zs : List X) → take (length zs) (zs ++ x ∷ []) ≡ zs
        go [] = refl
        go (z ∷ zs) = ap (λ l. z ∷ l) (go zs)

take_less : {X : Type 0} (m n : ℕ) (xs : List X) → m ≤ n → take m (take n xs) ≡ take m xs
take_less zero n xs le = refl
take_less (suc m) zero xs le = absurd (omega (arith, le))
take_less (suc m) (suc n) [] le = refl
take_less (suc m) (suc n) (x ∷ xs) le = ap (λ ys. x ∷ ys) (take_less m n xs (omega (arith, le)))

pub front_stays : {X : Type 0} (k : ℕ) (xs ys : List X) → k < length xs → ys ≡ take (length xs - 1) xs → take k ys ≡ take k xs
front_stays k xs ys lt e = ap (λ zs. take k zs) e ∙ take_less k (length xs - 1) xs (omega (arith, lt))

-- ---- the first of a span

at_or_above : (a b : ℕ) → is_gt (nat_cmp a b) ≡ false → a ≤ b
at_or_above a b e = grind (arith, tests)

not_above : (a b : ℕ) → a ≤ b → is_gt (nat_cmp a b) ≡ false
not_above a b le = grind (arith, tests)

below : (a b : ℕ) → nat_cmp a b ≡ Less → a < b
below a b e = grind (arith, tests)

is_below : (a b : ℕ) → a < b → nat_cmp a b ≡ Less
is_below a b lt = grind (arith, tests)

-- a code is one of these, and between two bounds
abbrev IsBetween : BTreeSet ℕ → ℕ → ℕ → ℕ → Type 0
IsBetween items low high code = ((is_gt (nat_cmp low code) ≡ false) × (nat_cmp code high ≡ Less)) × IsTrue (contains nat_cmp items code)

module _ (items : BTreeSet ℕ) (span : Span) (low high : ℕ) (lowest : low ≡ span.client.0 * 18446744073709551616 + span.clock) (highest : high ≡ low + span.len) where
  pub first_known : (r : List ℕ) (code : ℕ) (rest : List ℕ) → r ≡ code ∷ rest → IfSome (slice_get r 0) (IsBetween items low high) →
      ((q : ℕ) → (is_gt (nat_cmp low q) ≡ false) × (nat_cmp q high ≡ Less) → IsTrue (contains nat_cmp items q) → IfSome (slice_get r 0) (λ k. is_gt (nat_cmp k q) ≡ false)) →
      IsFirstClock (IsOther items) span (Some (span.clock + (code - low)))
  first_known r code rest e is least =
      let first : IsBetween items low high code = subst (λ ks. IfSome (slice_get ks 0) (IsBetween items low high)) e is in
      let from : low ≤ code = at_or_above low code first.0.0 in
      let to : code < high = below code high first.0.1 in (
        omega arith,
        omega (arith, from, to, highest),
        (λ item known i.
            let up : low ≤ code_of_item item = omega (arith, lowest, i.0, i.1) in
            let down : code_of_item item < high = omega (arith, lowest, highest, i.0, i.2) in
            let le : code ≤ code_of_item item = at_or_above code (code_of_item item)
            (subst (λ ks. IfSome (slice_get ks 0) (λ k. is_gt (nat_cmp k (code_of_item item)) ≡ false)) e
            (least (code_of_item item) (not_above low (code_of_item item) up, is_below (code_of_item item) high down) known)) in
            omega (arith, lowest, i.0, from, le)),
      )

-- ---- the first that has a list

pub looking_begins : (names : List DocList) (span : Span) → IsSpan span → IsLookedThrough names span span
looking_begins names span is = record { is_span = is; among = λ item i. i; all = λ item h i. i }

module _ (names : List DocList) (known : ℕ → Type 0) (has : HasItems names known) (span rest : Span) (was : IsLookedThrough names span rest) where
  pub looking_ends : IsFirstClock known rest None → IsFirstItem names span None
  looking_ends none = λ item h i. none item (has item h) (was.all item h i)

  pub looking_finds : (item : Id) → item.client.0 ≡ rest.client.0 → IsFirstClock known rest (Some item.clock) → HasList names item → IsFirstItem names span (Some item)
  looking_finds item same first h = (
    was.among item (sym same, first.0, first.1),
    (λ other l i. first.2 other (has other l) (was.all other l i)),
    h,
  )

  pub looking_goes_on : (clock : ℕ) (more : Span) → IsFirstClock known rest (Some clock) → (HasList names (record { client = rest.client; clock = clock }) → ⊥) →
      more ≡ span_behind rest clock → IsLookedThrough names span more
  looking_goes_on clock more first none e = subst (IsLookedThrough names span) (sym e) (record {
    is_span = let is = was.is_span.end in record { client = was.is_span.client; end = omega (arith, is, first.1) };
    among = λ item i. was.among item (i.0, omega (arith, i.1, first.0), omega (arith, i.1, i.2));
    all = λ item h i. let r = was.all item h i in (r.0, above item h r (first.2 item (has item h) r), omega (arith, r.2, first.1));
  })
    where
      above : (item : Id) → HasList names item → InSpan rest item → clock ≤ item.clock → clock + 1 ≤ item.clock
      above item h r le = elim (split item.clock clock) [
        | inr lt ↦ omega (arith, lt)
        | inl more ↦ absurd (none (subst (HasList names) (same_numbers item (record { client = rest.client; clock = clock }) (sym r.0) (omega (arith, le, more))) h))
      ]

pub looking_smaller : (rest : Span) (clock : ℕ) → rest.clock ≤ clock → clock < rest.clock + rest.len → (span_behind rest clock).len < rest.len
looking_smaller rest clock low high = omega (arith, low, high)

-- ---- whether an item has a list

pub list_here : (names : List DocList) (item : Id) (top : ℕ) (last : Option ℕ) → IsLastOf names (Item item) top last → is_some last ≡ true → HasList names item
list_here names item top None is e = absurd (true≢false (sym e))
list_here names item top (Some n) is e = record { number = n; list = is.0.list; there = is.0.there; own = ap item_of_parent is.0.own }

pub list_nowhere : (names : List DocList) (item : Id) (last : Option ℕ) → IsLastOf names (Item item) (length names) last → is_some last ≡ false → HasList names item → ⊥
list_nowhere names item (Some n) is e h = true≢false e
list_nowhere names item None is e h = is h.number h.list (slice_get_within names h.number h.list h.there) h.there (parent_is h.list.parent item h.own)
  where
    parent_is : (p : Parent) (item : Id) → item_of_parent p ≡ Some item → p ≡ Item item
    parent_is (Root name) item e = (let w : None ≡ Some item = e in absurd cc)
    parent_is (Item id) item e = ap (λ (x : Id). Item x) (some_is id item e)

-- ---- codes that came in order

pub rising_more : (codes : List ℕ) (code : ℕ) → IsRising codes → ((n other : ℕ) → slice_get codes n ≡ Some other → other < code) → IsRising (codes ++ code ∷ [])
rising_more codes code rising behind m n a b less f g = elim (got_before code codes m a f) [
  | inl first ↦ elim (got_before code codes n b g) [
    | inl second ↦ rising m n a b less first second
    | inr (second, same) ↦ subst (λ b. a < b) same (behind m a first)
  ]
  | inr (first, same) ↦ absurd (let within = slice_get_within (codes ++ code ∷ []) n b g in let long = length-append codes (code ∷ []) in omega (arith, first, less, within, long))
]

-- the last is the greatest
pub last_greatest : (codes : List ℕ) (code last : ℕ) → IsRising codes → slice_get codes (length codes - 1) ≡ Some last → last < code →
    (n other : ℕ) → slice_get codes n ≡ Some other → other < code
last_greatest codes code last rising e lt n other f = elim (split (length codes - 1) n) [
  | inl le ↦ let within = slice_get_within codes n other f in let same : n ≡ length codes - 1 = omega (arith, le, within) in
      subst (λ o. o < code) (some_is last other (sym e ∙ ap (λ k. slice_get codes k) (sym same) ∙ f)) lt
  | inr less ↦ let below : other < last = rising n (length codes - 1) other last less f e in omega (arith, below, lt)
]

pub first_at : (codes : List ℕ) (low k : ℕ) (o : Option ℕ) → IsRising codes → k ≤ length codes → ((n other : ℕ) → slice_get codes n ≡ Some other → n < k → other < low) →
    ((other : ℕ) → slice_get codes k ≡ Some other → low ≤ other) → o ≡ slice_get codes k → IsFirstFrom codes low o
first_at codes low k None rising le front back e = λ other at. front at.0 other at.1 (elim (split k at.0) [
  | inl behind ↦ absurd (past codes k at.0 other behind (sym e) at.1)
  | inr before ↦ before
])
  where
    past : (xs : List ℕ) (k n other : ℕ) → k ≤ n → slice_get xs k ≡ None → slice_get xs n ≡ Some other → ⊥
    past [] k n other le e f = absurd cc
    past (x ∷ xs) zero n other le e f = absurd cc
    past (x ∷ xs) (suc k) zero other le e f = absurd (omega (arith, le))
    past (x ∷ xs) (suc k) (suc n) other le e f = past xs k n other (omega (arith, le)) e f
first_at codes low k (Some first) rising le front back e = (
  back first (sym e),
  (k, sym e),
  (λ other at up. elim (split k at.0) [
    | inl behind ↦ elim (split at.0 k) [
      | inl not_behind ↦ let same : at.0 ≡ k = omega (arith, behind, not_behind) in
          le_of_eq (some_is first other (e ∙ ap (λ n. slice_get codes n) (sym same) ∙ at.1))
      | inr less ↦ let below : first < other = rising k at.0 first other less (sym e) at.1 in omega (arith, below)
    ]
    | inr before ↦ absurd (let below : other < low = front at.0 other at.1 before in omega (arith, below, up))
  ]),
)

-- a search for a code parts them
pub rising_parted : (codes : List ℕ) (low : ℕ) → IsRising codes → IsPartitionedBy (λ code. nat_lt code low) codes
rising_parted codes low rising i j d le lt t = elim (split j i) [
  | inl ge ↦ let same : i ≡ j = omega (arith, le, ge) in rw same t
  | inr less ↦ let below : get_or codes i d < get_or codes j d = rising i j (get_or codes i d) (get_or codes j d) less (slice_get-get_or codes i d (omega (arith, lt, less))) (slice_get-get_or codes j d lt) in
      is_less (get_or codes i d) low (let under = less_than (get_or codes j d) low t in omega (arith, below, under))
]
  where
    is_less : (a b : ℕ) → a < b → nat_lt a b ≡ true
    is_less a b lt = grind (arith, tests)

    less_than : (a b : ℕ) → nat_lt a b ≡ true → a < b
    less_than a b e = grind (arith, tests)

pub front_less : (codes : List ℕ) (low k : ℕ) → ((n d : ℕ) → 0 ≤ n → n < k → nat_lt (get_or codes n d) low ≡ true) → (n other : ℕ) → slice_get codes n ≡ Some other → n < k → other < low
front_less codes low k front n other e lt = let is : get_or codes n 0 ≡ other = get_or_from_slice_get codes n other 0 e in let t = front n 0 (omega arith) lt in
    less_than other low (ap (λ o. nat_lt o low) (sym is) ∙ t)
  where
    less_than : (a b : ℕ) → nat_lt a b ≡ true → a < b
    less_than a b e = grind (arith, tests)

pub rest_greater : (codes : List ℕ) (low k : ℕ) → ((n d : ℕ) → k ≤ n → n < length codes → nat_lt (get_or codes n d) low ≡ false) → (other : ℕ) → slice_get codes k ≡ Some other → low ≤ other
rest_greater codes low k rest other e = let is : get_or codes k 0 ≡ other = get_or_from_slice_get codes k other 0 e in let t = rest k 0 (omega arith) (slice_get_within codes k other e) in
    not_less other low (ap (λ o. nat_lt o low) (sym is) ∙ t)
  where
    not_less : (a b : ℕ) → nat_lt a b ≡ false → b ≤ a
    not_less a b e = grind (arith, tests)

module _ (codes : List ℕ) (span : Span) (low : ℕ) (lowest : low ≡ span.client.0 * 18446744073709551616 + span.clock) where
  pub first_in : (code : ℕ) → IsFirstFrom codes low (Some code) → code - low < span.len → IsFirstClock (IsAt codes) span (Some (span.clock + (code - low)))
  first_in code first lt = (
    omega arith,
    omega (arith, lt),
    (λ item at i.
        let up : low ≤ code_of_item item = omega (arith, lowest, i.0, i.1) in
        let le : code ≤ code_of_item item = first.2 (code_of_item item) at up in
        omega (arith, lowest, i.0, first.0, le)),
  )

  pub none_in : (code : ℕ) → IsFirstFrom codes low (Some code) → span.len ≤ code - low → IsFirstClock (IsAt codes) span None
  none_in code first ge item at i =
      let up : low ≤ code_of_item item = omega (arith, lowest, i.0, i.1) in
      let le : code ≤ code_of_item item = first.2 (code_of_item item) at up in
      omega (arith, lowest, i.0, i.2, first.0, le, ge)

  pub none_from : IsFirstFrom codes low None → IsFirstClock (IsAt codes) span None
  none_from none item at i =
      let below : code_of_item item < low = none (code_of_item item) at in
      omega (arith, lowest, i.0, i.1, below)

-- the first of either kind
pub first_of_both : (one other : ℕ → Type 0) (span : Span) (a b : Option ℕ) → IsFirstClock one span a → IsFirstClock other span b → IsFirstClock (λ code. one code ⊎ other code) span (earlier a b)
first_of_both one other span None None f g = λ item known i. elim known [
  | inl k ↦ f item k i
  | inr k ↦ g item k i
]
first_of_both one other span None (Some y) f g = (
  g.0,
  g.1,
  λ item known i. elim known [
    | inl k ↦ absurd (f item k i)
    | inr k ↦ g.2 item k i
  ],
)
first_of_both one other span (Some x) None f g = (
  f.0,
  f.1,
  λ item known i. elim known [
    | inl k ↦ f.2 item k i
    | inr k ↦ absurd (g item k i)
  ],
)
first_of_both one other span (Some x) (Some y) f g = (
  omega (arith, f.0, g.0),
  omega (arith, f.1, g.1),
  λ item known i. elim known [
    | inl k ↦ let le : x ≤ item.clock = f.2 item k i in omega (arith, le)
    | inr k ↦ let le : y ≤ item.clock = g.2 item k i in omega (arith, le)
  ],
)
