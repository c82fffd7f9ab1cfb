-- The right origins that are found without lists that grow are those of the lists as the steps evolve them.
use Rattle.std.proofs.Common.{◌≡◌, ◌⊎◌, ◌<◌, ◌≤◌, ◌+◌, ℕ, Bool, true, false, ◌&&◌, ◌||◌, List, [], ◌∷◌, ◌++◌, Option, Some, None, length, inl, inr, refl, sym, ap, ap₂, ◌∙◌, subst, arith, tests, true≢false, append_assoc}
use Rattle.std.specs.Prelude.{IfSome, if◌then◌else◌}
use Rattle.std.proofs.lemmas.Bool.{cases_Bool}
use Rattle.yd_words.specs.Each.{Each}
use Rattle.yd_words.specs.Member.{IsIn}
use Rattle.yd_ids.specs.declared.id.Client.{Client}
use Rattle.yd_ids.specs.declared.id.Id.{Id}
use Rattle.yd_ids.specs.Ids.{is_same, is_same_neighbour}
use Rattle.yd_ids.proofs.IdLemmas.{same_is, same_itself, other_id, differs}
use Rattle.yd_ops.specs.declared.lists.List.{List as DocList}
use Rattle.yd_ops.specs.Value.{ContentValue, len_of, RunValue}
use Rattle.yd_ops.specs.Operation.{Operation, UnitContent, units_of_content, operations_from, operations_of_run}
use Rattle.yd_ops.proofs.OperationLemmas.{length-units_of_content}
use Rattle.yd_ops.specs.Received.{has_operation}
use Rattle.yd_ops.proofs.OneOfLemmas.{operation_with, none_has}
use Rattle.yd_entries.proofs.UnitLemmas.{has_parts}
use Rattle.yd_meaning.specs.Names.{same_list}
use Rattle.yd_meaning.specs.ListNames.{same_list_decides}
use Rattle.yd_editing.specs.Step.{Step, make, remove}
use Rattle.yd_editing.specs.Made.{units_up_to, units_behind, id_of_first, put_behind, list_where_alone, run_of_step, lists_with, runs_of, lists_after}
use Rattle.yd_editing.proofs.OrderLemmas.{units_parts}
use Rattle.yd_editing.proofs.TakenLemmas.{run_within}
use Rattle.yd_making.specs.Steps.{len_of_step}
use Rattle.yd_making.specs.Rights.{makes_at, latest_of, id_or, right_of, rights_from, right_first, rights_behind, runs_with}

-- ---- a list with more in it

first-append : (news others : List Operation) (first : Id) → id_of_first news ≡ Some first → id_of_first (news ++ others) ≡ Some first
first-append [] others first e = absurd cc
first-append (o ∷ os) others first e = e

behind-skip : (x : Id) (news others : List Operation) → has_operation news x ≡ false → units_behind (Some x) (news ++ others) ≡ units_behind (Some x) others
behind-skip x [] others e = refl
behind-skip x (o ∷ os) others e = go (is_same o.id x) e (behind-skip x os others)
  where
    go : (t : Bool) → (t || has_operation os x) ≡ false → (has_operation os x ≡ false → units_behind (Some x) (os ++ others) ≡ units_behind (Some x) others) →
        (if t then os ++ others else units_behind (Some x) (os ++ others)) ≡ units_behind (Some x) others
    go true f rest = absurd (true≢false f)
    go false f rest = rest f

first-put : (p : Id) (news os : List Operation) → has_operation os p ≡ true → id_of_first (put_behind (Some p) news os) ≡ id_of_first os
first-put p news [] e = absurd (true≢false (sym e))
first-put p news (o ∷ os) e = refl

-- what stands behind a unit, once more is put behind one: the first of that, where the two are one, and else what stood there
next_put : (p a : Option Id) (news os : List Operation) (first : Id) → id_of_first news ≡ Some first → IfSome p (λ y. has_operation os y ≡ true) →
    IfSome a (λ x. has_operation news x ≡ false) →
    id_of_first (units_behind a (put_behind p news os)) ≡ (if is_same_neighbour p a then Some first else id_of_first (units_behind a os))
next_put None None news os first e there new = first-append news os first e
next_put None (Some x) news os first e there new = ap id_of_first (behind-skip x news os new)
next_put (Some p) None news [] first e there new = absurd (true≢false (sym there))
next_put (Some p) None news (o ∷ os) first e there new = refl
next_put (Some p) (Some x) news [] first e there new = absurd (true≢false (sym there))
next_put (Some p) (Some x) news (o ∷ os) first e there new = go (is_same o.id p) refl (is_same o.id x) refl there (λ f. next_put (Some p) (Some x) news os first e f new)
  where
    one : (tp tx t : Bool) → is_same o.id p ≡ tp → is_same o.id x ≡ tx → (tp ≡ true) ⊎ (tx ≡ true) → tp && tx ≡ t → is_same p x ≡ t
    one true true t f g w h = ap₂ is_same (sym (same_is o.id p f)) (sym (same_is o.id x g)) ∙ same_itself o.id ∙ h
    one true false t f g w h = ap (λ y. is_same y x) (sym (same_is o.id p f)) ∙ g ∙ h
    one false true t f g w h = other_id p x (λ same. true≢false (sym (ap (is_same o.id) same ∙ g) ∙ f)) ∙ h
    one false false t f g (inl w) h = absurd (true≢false (sym w))
    one false false t f g (inr w) h = absurd (true≢false (sym w))

    chosen : (t : Bool) → is_same p x ≡ t → {X : Type 0} (u v : X) → (if t then u else v) ≡ (if is_same p x then u else v)
    chosen t f u v = ap (λ s. if s then u else v) (sym f)

    go : (tp : Bool) → is_same o.id p ≡ tp → (tx : Bool) → is_same o.id x ≡ tx → (tp || has_operation os p) ≡ true →
        (has_operation os p ≡ true → id_of_first (units_behind (Some x) (put_behind (Some p) news os)) ≡ (if is_same p x then Some first else id_of_first (units_behind (Some x) os))) →
        id_of_first (if tx then (if tp then [] else units_up_to (Some p) os) ++ (news ++ (if tp then os else units_behind (Some p) os))
        else units_behind (Some x) ((if tp then [] else units_up_to (Some p) os) ++ (news ++ (if tp then os else units_behind (Some p) os))))
        ≡ (if is_same p x then Some first else id_of_first (if tx then os else units_behind (Some x) os))
    go true f true g h rest = first-append news os first e ∙ chosen true (one true true true f g (inl refl) refl) (Some first) (id_of_first os)
    go true f false g h rest = ap id_of_first (behind-skip x news os new) ∙ chosen false (one true false false f g (inl refl) refl) (Some first) (id_of_first (units_behind (Some x) os))
    go false f true g h rest = first-put p news os h ∙ chosen false (one false true false f g (inr refl) refl) (Some first) (id_of_first os)
    go false f false g h rest = rest h

-- what is in a list is there with more in it
put_keeps : (p : Option Id) (news os : List Operation) (y : Id) → has_operation os y ≡ true → has_operation (put_behind p news os) y ≡ true
put_keeps p news os y e = has_parts (units_up_to p os) (news ++ units_behind p os) y
    ∙ ap (λ t. has_operation (units_up_to p os) y || t) (has_parts news (units_behind p os) y)
    ∙ either (has_operation (units_up_to p os) y) (has_operation news y) (has_operation (units_behind p os) y)
    (sym (has_parts (units_up_to p os) (units_behind p os) y) ∙ ap (λ l. has_operation l y) (units_parts p os) ∙ e)
  where
    either : (a b c : Bool) → (a || c) ≡ true → (a || (b || c)) ≡ true
    either true b c f = refl
    either false true c f = refl
    either false false c f = f

put_has : (p : Option Id) (news os : List Operation) (y : Id) → has_operation (put_behind p news os) y ≡ true → (has_operation news y ≡ true) ⊎ (has_operation os y ≡ true)
put_has p news os y e = either (has_operation (units_up_to p os) y) (has_operation news y) (has_operation (units_behind p os) y)
    (sym (has_parts (units_up_to p os) (news ++ units_behind p os) y ∙ ap (λ t. has_operation (units_up_to p os) y || t) (has_parts news (units_behind p os) y)) ∙ e)
    (sym (has_parts (units_up_to p os) (units_behind p os) y) ∙ ap (λ l. has_operation l y) (units_parts p os))
  where
    either : (a b c : Bool) → (a || (b || c)) ≡ true → (a || c) ≡ has_operation os y → (b ≡ true) ⊎ (has_operation os y ≡ true)
    either true b c f g = inr (sym g)
    either false true c f g = inl refl
    either false false c f g = inr (sym g ∙ f)

-- ---- steps at places

-- a step makes at least one unit behind one of its list
abbrev pub IsAt : (DocList → List Operation) → Step → Type 0
IsAt lists (make name after content) = IfSome after (λ y. has_operation (lists name) y ≡ true) × (0 < len_of content)
IsAt lists (remove spans) = Unit {0}

-- all units of the client that lists have are below a clock
abbrev pub AreBelow : Client → ℕ → (DocList → List Operation) → Type 0
AreBelow client clock lists = (name : DocList) (y : Id) → has_operation (lists name) y ≡ true → y.client.0 ≡ client.0 → y.clock < clock

-- the operations of a step's run
abbrev news_of : Client → ℕ → (DocList → List Operation) → DocList → Option Id → ContentValue → List Operation
news_of client clock lists name after content = operations_of_run (run_of_step client clock lists name after content)

news_first : (client : Client) (clock : ℕ) (lists : DocList → List Operation) (name : DocList) (after : Option Id) (content : ContentValue) → 0 < len_of content →
    id_of_first (news_of client clock lists name after content) ≡ Some (record { client = client; clock = clock })
news_first client clock lists name after content some = go (units_of_content content) (length-units_of_content content)
  where
    run : RunValue
    run = run_of_step client clock lists name after content

    go : (units : List UnitContent) → length units ≡ len_of content → id_of_first (operations_from run.id run.left run.right run.list units) ≡ Some (record { client = client; clock = clock })
    go [] e = absurd (omega (arith, e))
    go (u ∷ us) e = refl

has_news : (client : Client) (clock : ℕ) (lists : DocList → List Operation) (name : DocList) (after : Option Id) (content : ContentValue) (y : Id) →
    has_operation (news_of client clock lists name after content) y ≡ true → (y.client.0 ≡ client.0) × (clock ≤ y.clock) × (y.clock < clock + len_of content)
has_news client clock lists name after content y e =
    let (o, i, f) = operation_with (news_of client clock lists name after content) y e in
    let (c, low, high) = run_within (run_of_step client clock lists name after content) o i in
    (ap (λ (x : Id). x.client.0) (sym f) ∙ ap (λ (d : Client). d.0) c, subst (λ (x : Id). clock ≤ x.clock) f low, subst (λ (x : Id). x.clock < clock + len_of content) f high)

module _ (client : Client) (clock : ℕ) (lists : DocList → List Operation) (below : AreBelow client clock lists) (name : DocList) (after : Option Id) (content : ContentValue)
    (there : IfSome after (λ y. has_operation (lists name) y ≡ true)) (some : 0 < len_of content) where
  abbrev news : List Operation
  news = news_of client clock lists name after content

  abbrev then_lists : DocList → List Operation
  then_lists = lists_with lists name after news

  then_keeps : (other : DocList) (y : Id) → has_operation (lists other) y ≡ true → has_operation (then_lists other) y ≡ true
  then_keeps other y e = go (same_list other name)
    where
      go : (t : Bool) → has_operation (if t then put_behind after news (lists other) else lists other) y ≡ true
      go true = put_keeps after news (lists other) y e
      go false = e

  then_below : AreBelow client (clock + len_of content) then_lists
  then_below other y e own = go (same_list other name) e
    where
      go : (t : Bool) → has_operation (if t then put_behind after news (lists other) else lists other) y ≡ true → y.clock < clock + len_of content
      go true f = elim (put_has after news (lists other) y f) [
        | inl g ↦ (has_news client clock lists name after content y g).2
        | inr g ↦ let less = below other y g own in omega (arith, less)
      ]
      go false f = let less = below other y f own in omega (arith, less)

  then_at : (steps : List Step) → Each (IsAt lists) steps → Each (IsAt then_lists) steps
  then_at [] each = tt
  then_at (make other behind more ∷ steps) each = ((stays behind each.0.0, each.0.1), then_at steps each.1)
    where
      stays : (z : Option Id) → IfSome z (λ y. has_operation (lists other) y ≡ true) → IfSome z (λ y. has_operation (then_lists other) y ≡ true)
      stays None i = tt
      stays (Some y) i = then_keeps other y i
  then_at (remove spans ∷ steps) each = (tt, then_at steps each.1)

  not_new : (other : DocList) (z : Option Id) → IfSome z (λ y. has_operation (lists other) y ≡ true) → IfSome z (λ y. has_operation news y ≡ false)
  not_new other None i = tt
  not_new other (Some y) i = none (has_operation news y) refl
    where
      none : (t : Bool) → has_operation news y ≡ t → t ≡ false
      none true e = let (own, low, high) = has_news client clock lists name after content y e in let less = below other y i own in absurd (omega (arith, low, less))
      none false e = refl

  -- what stands behind a unit then
  then_next : (other : DocList) (a : Option Id) → IfSome a (λ y. has_operation (lists other) y ≡ true) →
      id_or (if makes_at (make name after content) other a then Some (record { client = client; clock = clock }) else None) (id_of_first (units_behind a (lists other)))
      ≡ id_of_first (units_behind a (then_lists other))
  then_next other a i = go (same_list other name) refl
    where
      first : Id
      first = record { client = client; clock = clock }

      or_what : (t : Bool) (z : Option Id) → id_or (if t then Some first else None) z ≡ (if t then Some first else z)
      or_what true z = refl
      or_what false z = refl

      go : (t : Bool) → same_list other name ≡ t →
          id_or (if t && is_same_neighbour after a then Some first else None) (id_of_first (units_behind a (lists other)))
          ≡ id_of_first (units_behind a (if t then put_behind after news (lists other) else lists other))
      go true e = or_what (is_same_neighbour after a) (id_of_first (units_behind a (lists other)))
          ∙ sym (next_put after a news (lists other) first (news_first client clock lists name after content some)
          (subst (λ (l : DocList). IfSome after (λ y. has_operation (lists l) y ≡ true)) (sym ((same_list_decides other name).0 e)) there) (not_new other a i))
      go false e = refl

-- ---- the latest run at a place

or_or : (a b c : Option Id) → id_or (id_or a b) c ≡ id_or a (id_or b c)
or_or None b c = refl
or_or (Some x) b c = refl

latest_or : (client : Client) (clock : ℕ) (steps : List Step) (name : DocList) (after found : Option Id) →
    latest_of client clock steps name after found ≡ id_or (latest_of client clock steps name after None) found
latest_or client clock [] name after found = refl
latest_or client clock (step ∷ steps) name after found = go (makes_at step name after) (λ z. latest_or client (clock + len_of_step step) steps name after z)
  where
    first : Option Id
    first = Some (record { client = client; clock = clock })

    go : (t : Bool) → ((z : Option Id) → latest_of client (clock + len_of_step step) steps name after z ≡ id_or (latest_of client (clock + len_of_step step) steps name after None) z) →
        latest_of client (clock + len_of_step step) steps name after (if t then first else found)
        ≡ id_or (latest_of client (clock + len_of_step step) steps name after (if t then first else None)) found
    go true rest = rest first ∙ sym (ap (λ z. id_or z found) (rest first) ∙ or_or (latest_of client (clock + len_of_step step) steps name after None) first found)
    go false rest = rest found

-- what stands next in the list as the steps evolve it is found so
right_is : (steps : List Step) (client : Client) (clock : ℕ) (lists : DocList → List Operation) → AreBelow client clock lists → Each (IsAt lists) steps →
    (name : DocList) (after : Option Id) → IfSome after (λ y. has_operation (lists name) y ≡ true) →
    id_or (latest_of client clock steps name after None) (id_of_first (units_behind after (lists name)))
    ≡ id_of_first (units_behind after (lists_after client clock lists steps name))
right_is [] client clock lists below each name after there = refl
right_is (make other behind content ∷ steps) client clock lists below each name after there =
    ap (λ z. id_or z (id_of_first (units_behind after (lists name))))
    (latest_or client (clock + len_of content) steps name after (if makes_at (make other behind content) name after then Some (record { client = client; clock = clock }) else None))
    ∙ or_or (latest_of client (clock + len_of content) steps name after None) _ (id_of_first (units_behind after (lists name)))
    ∙ ap (id_or (latest_of client (clock + len_of content) steps name after None)) (then_next client clock lists below other behind content each.0.0 each.0.1 name after there)
    ∙ right_is steps client (clock + len_of content) (then_lists client clock lists below other behind content each.0.0 each.0.1)
    (then_below client clock lists below other behind content each.0.0 each.0.1)
    (then_at client clock lists below other behind content each.0.0 each.0.1 steps each.1) name after (stays after there)
  where
    stays : (z : Option Id) → IfSome z (λ y. has_operation (lists name) y ≡ true) →
        IfSome z (λ y. has_operation (then_lists client clock lists below other behind content each.0.0 each.0.1 name) y ≡ true)
    stays None i = tt
    stays (Some y) i = then_keeps client clock lists below other behind content each.0.0 each.0.1 name y i
right_is (remove spans ∷ steps) client clock lists below each name after there =
    ap (λ k. id_or (latest_of client k steps name after None) (id_of_first (units_behind after (lists name)))) same
    ∙ right_is steps client clock lists below each.1 name after there
  where
    same : clock + 0 ≡ clock
    same = omega arith

-- ---- all runs

-- the clock behind what steps make
abbrev pub clock_after : ℕ → List Step → ℕ
clock_after clock [] = clock
clock_after clock (step ∷ steps) = clock_after (clock + len_of_step step) steps

clock_after-append : (clock : ℕ) (steps more : List Step) → clock_after clock (steps ++ more) ≡ clock_after (clock_after clock steps) more
clock_after-append clock [] more = refl
clock_after-append clock (step ∷ steps) more = clock_after-append (clock + len_of_step step) steps more

lists_after-append : (steps more : List Step) (client : Client) (clock : ℕ) (lists : DocList → List Operation) →
    lists_after client clock lists (steps ++ more) ≡ lists_after client (clock_after clock steps) (lists_after client clock lists steps) more
lists_after-append [] more client clock lists = refl
lists_after-append (make name after content ∷ steps) more client clock lists =
    lists_after-append steps more client (clock + len_of content) (lists_with lists name after (operations_of_run (run_of_step client clock lists name after content)))
lists_after-append (remove spans ∷ steps) more client clock lists = lists_after-append steps more client clock lists
    ∙ ap (λ k. lists_after client (clock_after k steps) (lists_after client clock lists steps) more) same
  where
    same : clock ≡ clock + 0
    same = omega arith

each-with : (P : Step → Type 0) (before : List Step) (step : Step) → Each P before → P step → Each P (before ++ step ∷ [])
each-with P [] step each one = (one, tt)
each-with P (s ∷ before) step each one = (each.0, each-with P before step each.1 one)

module _ (client : Client) (clock : ℕ) (lists : DocList → List Operation) (below : AreBelow client clock lists) where
  runs_behind : (steps before : List Step) → Each (IsAt lists) before → Each (IsAt lists) steps →
      runs_with client (clock_after clock before) (rights_from client clock lists before steps) steps
      ≡ runs_of client (clock_after clock before) (lists_after client clock lists before) steps
  runs_behind [] before done each = refl
  runs_behind (make name after content ∷ steps) before done each =
      ap₂ (λ (run : RunValue) (runs : List RunValue). run ∷ runs)
      (ap (λ right. record {
        id = record { client = client; clock = clock_after clock before };
        left = after;
        right = right;
        list = list_where_alone after right name;
        content = content;
      }) (right_is before client clock lists below done name after each.0.0))
      (subst (λ k. runs_with client k rest steps ≡ runs_of client k evolved steps) (clock_after-append clock before (step ∷ []))
      (subst (λ ls. runs_with client (clock_after clock (before ++ step ∷ [])) rest steps ≡ runs_of client (clock_after clock (before ++ step ∷ [])) ls steps)
      (lists_after-append before (step ∷ []) client clock lists)
      (runs_behind steps (before ++ step ∷ []) (each-with (IsAt lists) before step done each.0) each.1)))
    where
      step : Step
      step = make name after content

      rest : List (Option Id)
      rest = rights_from client clock lists (before ++ step ∷ []) steps

      evolved : DocList → List Operation
      evolved = lists_after client (clock_after clock before) (lists_after client clock lists before) (step ∷ [])
  runs_behind (remove spans ∷ steps) before done each =
      subst (λ k. runs_with client k rest steps ≡ runs_of client k (lists_after client clock lists before) steps)
      (clock_after-append clock before (step ∷ []) ∙ same)
      (subst (λ ls. runs_with client (clock_after clock (before ++ step ∷ [])) rest steps ≡ runs_of client (clock_after clock (before ++ step ∷ [])) ls steps)
      (lists_after-append before (step ∷ []) client clock lists)
      (runs_behind steps (before ++ step ∷ []) (each-with (IsAt lists) before step done tt) each.1))
    where
      step : Step
      step = remove spans

      rest : List (Option Id)
      rest = rights_from client clock lists (before ++ step ∷ []) steps

      same : clock_after clock before + 0 ≡ clock_after clock before
      same = omega arith

  -- the runs with the right origins that are found are those of the edit
  pub runs_are : (steps : List Step) → Each (IsAt lists) steps → runs_with client clock (rights_from client clock lists [] steps) steps ≡ runs_of client clock lists steps
  runs_are steps each = runs_behind steps [] tt each
