-- One client is tried: its next units are ready, or what they lack is noted, or it has none.
use Rattle.std.proofs.Common.{◌≡◌, ◌≢◌, ℕ, zero, suc, ◌+◌, ◌<◌, true, false, List, [], ◌∷◌, ◌++◌, inl, inr, Option, Some, None, length, take, get_or, sym, ap, ◌∙◌, subst, arith}
use Rattle.std.specs.Prelude.{HoldsAt, IfSome, IfNone, MatchOption, slice_get}
use Rattle.std.proofs.lemmas.List.{get_or_default}
use Rattle.yd_words.specs.Each.{Each}
use Rattle.yd_words.proofs.EachLemmas.{each_weaker}
use Rattle.yd_words.proofs.OptionLemmas.{some_is}
use Rattle.yd_ids.specs.declared.id.Client.{Client}
use Rattle.yd_ids.specs.declared.id.Id.{Id}
use Rattle.yd_ids.specs.Vector.{clock_of}
use Rattle.yd_ids.proofs.IdLemmas.{same_numbers}
use Rattle.yd_ops.specs.declared.runs.Run.{Run}
use Rattle.yd_entries.specs.declared.entry.Entry.{Entry}
use Rattle.yd_entries.specs.Entries.{is_held, IsTakenOf, AreInOrder}
use Rattle.yd_entries.proofs.EntriesLemmas.{entry_at}
use Rattle.yd_words.proofs.MemberLemmas.{each_in, in_parts}
use Rattle.yd_held.specs.declared.noting.Lack.{Lack}
use Rattle.yd_held.specs.Readiness.{lack_of, is_ready}
use Rattle.yd_held.specs.Noted.{with_lack, AreNoted, AreMissing, Finds}
use Rattle.yd_words.specs.Member.{IsIn}
use Rattle.yd_held.specs.Trying.{Tries, IsNext, AreWaiting}
use Rattle.yd_held.proofs.WalkLemmas.{each_came}
use Rattle.yd_held.proofs.NotedLemmas.{lacks_nothing, noted_among, noted_without, noted_more, missing_with}

-- ---- clients of runs

each_stays : {X Y : Type 0} (f : X → Y) (xs : List X) (ys more : List Y) → ((y : Y) → IsIn y ys → IsIn y more) →
    Each (λ x. IsIn (f x) ys) xs → Each (λ x. IsIn (f x) more) xs
each_stays f [] ys more stay each = tt
each_stays f (x ∷ xs) ys more stay each = (stay (f x) each.0, each_stays f xs ys more stay each.1)

-- what is true of each before a place and there is true of each up to the next place
each_next : {X : Type 0} (P : X → Type 0) (xs : List X) (k : ℕ) (x : X) → k < length xs → x ≡ get_or xs k x → Each P (take k xs) → P x → Each P (take (suc k) xs)
each_next P [] k x lt e each here = absurd (omega arith)
each_next P (y ∷ ys) zero x lt e each here = (subst P e here, tt)
each_next P (y ∷ ys) (suc k) x lt e each here = (each.0, each_next P ys k x (omega arith) e each.1 here)

-- the client of one more run is among the clients then
pub client_more : (runs : List Run) (k : ℕ) (run : Run) (clients more : List Client) → k < length runs → run ≡ get_or runs k run →
    Tries run.id.client clients more → Each (λ (r : Run). IsIn r.id.client clients) (take k runs) → Each (λ (r : Run). IsIn r.id.client more) (take (k + 1) runs)
client_more runs k run clients more lt is tries each =
    let next : suc k ≡ k + 1 = omega arith in
    subst (λ n. Each (λ (r : Run). IsIn r.id.client more) (take n runs)) next
    (each_next (λ (r : Run). IsIn r.id.client more) runs k run lt is (each_stays (λ (r : Run). r.id.client) (take k runs) clients more tries.stay each) tries.here)

-- the number of a client that is got
pub some_client : (a b : Client) → ◌≡◌ {A = Option Client} (Some a) (Some b) → a.0 ≡ b.0
some_client a b e = cc

-- what is got of a list stands in it
pub got_in : {X : Type 0} (xs : List X) (n : ℕ) (x : X) → slice_get xs n ≡ Some x → IsIn x xs
got_in [] n x e = absurd cc
got_in (y ∷ ys) zero x e = inl (sym (some_is y x e))
got_in (y ∷ ys) (suc n) x e = inr (got_in ys n x e)

-- the client of one more entry is among the clients then
pub entry_more : (ts : List Entry) (t : Entry) (clients more : List Client) → Tries t.id.client clients more →
    Each (λ (u : Entry). IsIn u.id.client clients) ts → Each (λ (u : Entry). IsIn u.id.client more) (ts ++ t ∷ [])
entry_more ts t clients more tries each = each_came (λ (u : Entry). IsIn u.id.client more) ts t
    (each_stays (λ (u : Entry). u.id.client) ts clients more tries.stay each) tries.here

-- ---- the next units of a client

pub next_is : (vector : List (Client × ℕ)) (client : Client) (clock : ℕ) (ts : List Entry) (z : Option ℕ) → clock ≡ clock_of vector client.0 →
    IfSome z (λ at. (at < length ts) × HoldsAt (λ (t : Entry). t.id ≡ record { client = client; clock = clock }) ts at) →
    IfNone z (Each (λ (t : Entry). t.id ≢ record { client = client; clock = clock }) ts) →
    MatchOption z (Each (λ t. IsNext vector client t → ⊥) ts) (λ at. (at < length ts) × HoldsAt (IsNext vector client) ts at)
next_is vector client clock ts None e found none = each_weaker (λ (t : Entry). t.id ≢ record { client = client; clock = clock }) (λ t. IsNext vector client t → ⊥)
    (λ t other next. other (same_numbers t.id (record { client = client; clock = clock }) (ap (λ (c : Client). c.0) next.of_client) (next.at_clock ∙ sym e))) ts none
next_is vector client clock ts (Some at) e found none = (
  found.0,
  (λ d. record { of_client = ap (λ (x : Id). x.client) (found.1 d); at_clock = ap (λ (x : Id). x.clock) (found.1 d) ∙ e }),
)

-- ---- the client that is tried

-- what the entry that is read lacks
pub lack_read : (vector : List (Client × ℕ)) (runs runs_seen : List Run) (ts seen : List Entry) (at : ℕ) (t : Entry) (z : Option Id) → runs_seen ≡ runs → seen ≡ ts → t ≡ get_or seen at t →
    lack_of vector runs_seen t ≡ z → lack_of vector runs (get_or ts at t) ≡ z
lack_read vector runs runs_seen ts seen at t z same_runs same is lacked =
    ap (λ rs. lack_of vector rs (get_or ts at t)) (sym same_runs) ∙ ap (λ us. lack_of vector runs_seen (get_or us at t)) (sym same) ∙ ap (lack_of vector runs_seen) (sym is) ∙ lacked

module _ (vector : List (Client × ℕ)) (runs : List Run) (ts : List Entry) (each : Each (IsTakenOf runs) ts) (order : AreInOrder ts) (waiting : AreWaiting vector ts)
    (lacks : List Lack) (tries rest : List Client) (client : Client) (popped : tries ≡ rest ++ client ∷ []) (noted : AreNoted vector runs lacks tries ts) where
  -- it stands last
  noted_popped : AreNoted vector runs lacks (client ∷ rest) ts
  noted_popped = noted_among vector runs lacks tries (client ∷ rest) ts (λ other i. elim (in_parts other rest (client ∷ []) (subst (IsIn other) popped i)) [
    | inl j ↦ inr j
    | inr (inl e) ↦ inl e
    | inr (inr none) ↦ absurd none
  ]) noted

  pub tried_without : Each (λ t. IsNext vector client t → ⊥) ts → AreNoted vector runs lacks rest ts
  tried_without none = noted_without vector runs lacks client rest ts none noted_popped

  module _ (at : ℕ) (lt : at < length ts) (next : HoldsAt (IsNext vector client) ts at) (d : Entry) where
    there : IsNext vector client (get_or ts at d)
    there = next d

    pub tried_noted : (x : Id) → lack_of vector runs (get_or ts at d) ≡ Some x → AreNoted vector runs (with_lack (record { id = x; client = client }) lacks) rest ts
    tried_noted x lacked = noted_more vector runs lacks client rest ts each order (get_or ts at d) (entry_at ts at d lt) there x lacked noted_popped

    pub tried_missing : (x : Id) → lack_of vector runs (get_or ts at d) ≡ Some x → AreMissing vector lacks → AreMissing vector (with_lack (record { id = x; client = client }) lacks)
    tried_missing x lacked missing = missing_with vector runs (get_or ts at d) x client lacks lacked missing

    pub tried_ready : lack_of vector runs (get_or ts at d) ≡ None → Finds vector runs ts lacks rest (Some at)
    tried_ready none = (lt, λ e. subst (λ u. (is_ready vector runs u ≡ true) × AreNoted vector runs lacks (u.id.client ∷ rest) ts) (get_or_default ts at d e lt) here)
      where
        at_clock : (get_or ts at d).id.clock ≡ clock_of vector (get_or ts at d).id.client.0
        at_clock = there.at_clock ∙ ap (λ (c : Client). clock_of vector c.0) (sym there.of_client)

        here : (is_ready vector runs (get_or ts at d) ≡ true) × AreNoted vector runs lacks ((get_or ts at d).id.client ∷ rest) ts
        here = (
          lacks_nothing vector runs (get_or ts at d) none
              (each_in (λ u. u.id.clock ≡ clock_of vector u.id.client.0 → is_held u ≡ false) ts waiting (get_or ts at d) (entry_at ts at d lt) at_clock) at_clock,
          subst (λ c. AreNoted vector runs lacks (c ∷ rest) ts) (sym there.of_client) noted_popped,
        )
