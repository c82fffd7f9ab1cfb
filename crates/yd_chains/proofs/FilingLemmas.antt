-- Which chain a place is in.
use Rattle.std.proofs.Common.{◌≡◌, ◌≢◌, ℕ, ◌<◌, inl, inr, List, [], ◌∷◌, ◌++◌, Option, Some, None, length, refl, sym, ap, ◌∙◌, subst, arith}
use Rattle.std.proofs.lemmas.List.{length-append}
use Rattle.std.specs.Prelude.{IfSome}
use Rattle.yd_chains.specs.declared.links.Link.{Link}
use Rattle.yd_chains.specs.declared.links.Ends.{Ends}
use Rattle.yd_words.specs.Member.{IsIn, AreDistinct}
use Rattle.yd_words.proofs.MemberLemmas.{in_left_part, in_right_part, in_parts}
use Rattle.yd_chains.specs.Chain.{first_of, last_of, up_to, behind, before, put_behind, without, LinksIn, LinksOver}
use Rattle.yd_chains.specs.Link.{no_link, no_ends, prev_of, next_of, chain_of, places_of, ends_at, IsChain, AreChains, AreFiled, IsLoose, Changes, Clears}
use Rattle.yd_chains.proofs.ChainLemmas.{same_place, in_middle, parts_are, around, distinct_out}
use Rattle.yd_chains.proofs.LinkLemmas.{places_are, still_chain, apart, some_in, behind_has, before_has, get_or_grown, grown_places}

some_is : (j k : ℕ) → Some j ≡ Some k → j ≡ k
some_is j k e = cc

-- ---- a place more

in_put : (i place : ℕ) (after : Option ℕ) (xs : List ℕ) → IsIn i xs → IsIn i (put_behind after place xs)
in_put i place after xs h = in_middle i place (up_to after xs) (behind after xs) (subst (IsIn i) (sym (parts_are after xs)) h)

pub inserted_filed : (old new : List Link) (ends more : List Ends) (k : ℕ) (after : Option ℕ) (place : ℕ) → AreChains old ends → AreFiled old ends → k < length ends →
    IfSome after (λ p. IsIn p (places_of old (ends_at ends k))) →
    LinksIn (prev_of old) (next_of old) (prev_of new) (next_of new) after (first_of (behind after (places_of old (ends_at ends k)))) place →
    chain_of new place ≡ Some k → ((i : ℕ) → i ≢ place → chain_of new i ≡ chain_of old i) →
    Changes old new ends more k (put_behind after place (places_of old (ends_at ends k))) → AreFiled new more
inserted_filed old new ends more k after place cs fl kl has ins here others ch =
    let xs = places_of old (ends_at ends k) in
    record {
      filed = λ i j e. elim (same_place i place) [
        | inl q ↦
            let is = some_is k j (sym here ∙ sym (ap (chain_of new) q.1) ∙ e) in
            subst (λ m. (m < length more) × IsIn i (places_of new (ends_at more m))) is
            (omega (arith, ch.ends_len, kl), subst (IsIn i) (sym ch.here) (subst (λ p. IsIn p (put_behind after place xs)) (sym q.1) (in_right_part place (up_to after xs) (place ∷ behind after xs) (inl refl))))
        | inr q ↦
            let f = fl.filed i j (sym (others i q.1) ∙ e) in (
              omega (arith, ch.ends_len, f.0),
              elim (same_place j k) [
                | inl s ↦ subst (λ m. IsIn i (places_of new (ends_at more m))) (sym s.1)
                    (subst (IsIn i) (sym ch.here) (in_put i place after xs (subst (λ m. IsIn i (places_of old (ends_at ends m))) s.1 f.1)))
                | inr s ↦ subst (IsIn i) (sym (ch.others j f.0 s.1)) f.1
              ],
            )
      ];
      loose = λ i e. elim (same_place i place) [
        | inl q ↦ let no : Some k ≡ None = sym here ∙ sym (ap (chain_of new) q.1) ∙ e in absurd cc
        | inr q ↦
            let none : chain_of old i ≡ None = sym (others i q.1) ∙ e in
            let out : IsIn i xs → ⊥ = (λ h. let no : Some k ≡ None = sym ((cs k kl).own i h).1 ∙ none in absurd cc) in
            (ins.other_prevs i q.1 (λ b. out (behind_has after xs i b)) ∙ (fl.loose i none).0, ins.other_nexts i q.1 (λ b. out (some_in xs after i has b)) ∙ (fl.loose i none).1)
      ];
    }

-- ---- a place less

module _ (old mid new : List Link) (ends more : List Ends) (k place : ℕ) (cs : AreChains old ends) (kl : k < length ends) (h : IsIn place (places_of old (ends_at ends k)))
    (ch : Changes old mid ends more k (without place (places_of old (ends_at ends k)))) (cl : Clears mid new place) where
  abbrev xs : List ℕ
  xs = places_of old (ends_at ends k)

  less_out : IsIn place (without place xs) → ⊥
  less_out = distinct_out place (before place xs) (behind (Some place) xs) (subst AreDistinct (sym (around place xs h)) (cs k kl).distinct)

  -- the place is in no chain any more
  gone : (j : ℕ) → j < length more → IsIn place (places_of mid (ends_at more j)) → ⊥
  gone j jl m = elim (same_place j k) [
    | inl s ↦ less_out (subst (IsIn place) ch.here (subst (λ n. IsIn place (places_of mid (ends_at more n))) s.1 m))
    | inr s ↦ let jo : j < length ends = omega (arith, jl, ch.ends_len) in apart old ends j k place cs jo kl s.1 (subst (IsIn place) (ch.others j jo s.1) m) h
  ]

  other : (j i : ℕ) → j < length more → IsIn i (places_of mid (ends_at more j)) → i ≢ place
  other j i jl m = λ q. gone j jl (subst (λ p. IsIn p (places_of mid (ends_at more j))) q m)

  still : (j : ℕ) → j < length more → IsChain new j (ends_at more j) (places_of mid (ends_at more j))
  still j jl = still_chain mid new j (ends_at more j) (places_of mid (ends_at more j)) (omega (arith, cl.len))
      (λ i m. ap (λ (l : Link). l.prev) (cl.others i (other j i jl m))) (λ i m. ap (λ (l : Link). l.next) (cl.others i (other j i jl m)))
      (λ i m. ap (λ (l : Link). l.chain) (cl.others i (other j i jl m))) (ch.are_chains j jl)

  same : (j : ℕ) → j < length more → places_of new (ends_at more j) ≡ places_of mid (ends_at more j)
  same j jl = places_are new j (ends_at more j) (places_of mid (ends_at more j)) (still j jl)

  pub cleared : Changes old new ends more k (without place xs)
  cleared = record {
    links_len = cl.len ∙ ch.links_len;
    ends_len = ch.ends_len;
    here = same k (omega (arith, kl, ch.ends_len)) ∙ ch.here;
    others = λ j jl n. same j (omega (arith, jl, ch.ends_len)) ∙ ch.others j jl n;
    are_chains = λ j jl. subst (IsChain new j (ends_at more j)) (sym (same j jl)) (still j jl);
  }

  pub removed_filed : AreFiled old ends → (b a : Option ℕ) → b ≡ last_of (before place xs) → a ≡ first_of (behind (Some place) xs) → LinksOver (prev_of old) (next_of old) (prev_of mid) (next_of mid) b a →
      ((i : ℕ) → chain_of mid i ≡ chain_of old i) → AreFiled new more
  removed_filed fl b a be ae over chains =
      let to_old : (i : ℕ) → i ≢ place → chain_of new i ≡ chain_of old i = λ i n. ap (λ (l : Link). l.chain) (cl.others i n) ∙ chains i in
      record {
        filed = λ i j e. elim (same_place i place) [
          | inl q ↦ let no : Some j ≡ None = sym e ∙ ap (chain_of new) q.1 ∙ ap (λ (l : Link). l.chain) cl.here in absurd cc
          | inr q ↦
              let f = fl.filed i j (sym (to_old i q.1) ∙ e) in
              let low : j < length more = omega (arith, f.0, ch.ends_len) in (
                low,
                subst (IsIn i) (sym (same j low)) (elim (same_place j k) [
                  | inl s ↦ subst (λ m. IsIn i (places_of mid (ends_at more m))) (sym s.1)
                      (subst (IsIn i) (sym ch.here) (less_in i q.1 (subst (λ m. IsIn i (places_of old (ends_at ends m))) s.1 f.1)))
                  | inr s ↦ subst (IsIn i) (sym (ch.others j f.0 s.1)) f.1
                ]),
              )
        ];
        loose = λ i e. elim (same_place i place) [
          | inl q ↦ (ap (prev_of new) q.1 ∙ ap (λ (l : Link). l.prev) cl.here, ap (next_of new) q.1 ∙ ap (λ (l : Link). l.next) cl.here)
          | inr q ↦
              let none : chain_of old i ≡ None = sym (to_old i q.1) ∙ e in
              let out : IsIn i xs → ⊥ = (λ m. let no : Some k ≡ None = sym ((cs k kl).own i m).1 ∙ none in absurd cc) in (
                ap (λ (l : Link). l.prev) (cl.others i q.1) ∙ over.other_prevs i (λ z. out (behind_has (Some place) xs i (sym ae ∙ z))) ∙ (fl.loose i none).0,
                ap (λ (l : Link). l.next) (cl.others i q.1) ∙ over.other_nexts i (λ z. out (before_has place xs i h (sym be ∙ z))) ∙ (fl.loose i none).1,
              )
        ];
      }
    where
      less_in : (i : ℕ) → i ≢ place → IsIn i xs → IsIn i (without place xs)
      less_in i n m = elim (in_parts i (before place xs) (place ∷ behind (Some place) xs) (subst (IsIn i) (sym (around place xs h)) m)) [
        | inl z ↦ in_left_part i (before place xs) (behind (Some place) xs) z
        | inr (inl z) ↦ absurd (n z)
        | inr (inr z) ↦ in_right_part i (before place xs) (behind (Some place) xs) z
      ]

-- ---- a place more, and a chain more

pub place_more_filed : (links : List Link) (ends : List Ends) → AreChains links ends → AreFiled links ends → AreFiled (links ++ no_link ∷ []) ends
place_more_filed links ends cs fl = record {
  filed = λ i k e.
      let f = fl.filed i k (sym (ap (λ (l : Link). l.chain) (get_or_grown links no_link i)) ∙ e) in
      (f.0, subst (IsIn i) (sym (grown_places links ends cs k f.0)) f.1);
  loose = λ i e.
      let l = fl.loose i (sym (ap (λ (l : Link). l.chain) (get_or_grown links no_link i)) ∙ e) in
      (ap (λ (l : Link). l.prev) (get_or_grown links no_link i) ∙ l.0, ap (λ (l : Link). l.next) (get_or_grown links no_link i) ∙ l.1);
}

pub chain_more_filed : (links : List Link) (ends : List Ends) → AreFiled links ends → AreFiled links (ends ++ no_ends ∷ [])
chain_more_filed links ends fl = record {
  filed = λ i k e.
      let f = fl.filed i k e in
      (omega (arith, f.0, length-append ends (no_ends ∷ [])), subst (λ (z : Ends). IsIn i (places_of links z)) (sym (get_or_grown ends no_ends k)) f.1);
  loose = fl.loose;
}

-- ---- what the calls ask

pub chain_member : (links : List Link) (ends : List Ends) (z : Option ℕ) (place : ℕ) → AreChains links ends → z ≡ chain_of links place →
    (k : ℕ) → k < length ends → IsIn place (places_of links (ends_at ends k)) → z ≡ Some k
chain_member links ends z place cs e = λ k kl m. e ∙ ((cs k kl).own place m).1

pub chain_found : (links : List Link) (ends : List Ends) (z : Option ℕ) (place : ℕ) → AreFiled links ends → z ≡ chain_of links place →
    IfSome z (λ k. (k < length ends) × IsIn place (places_of links (ends_at ends k)))
chain_found links ends None place fl e = tt
chain_found links ends (Some k) place fl e = fl.filed place k (sym e)

pub loose_links : (links : List Link) (ends : List Ends) (place : ℕ) → AreFiled links ends → IsLoose links ends place → (prev_of links place ≡ None) × (next_of links place ≡ None)
loose_links links ends place fl out = go (chain_of links place) refl
  where
    go : (z : Option ℕ) → chain_of links place ≡ z → (prev_of links place ≡ None) × (next_of links place ≡ None)
    go None e = fl.loose place e
    go (Some k) e = let f = fl.filed place k e in absurd (out k f.0 f.1)
