-- Lists by their parents, as lists come and go at the end.
use Rattle.std.proofs.Common.{◌≡◌, ◌≢◌, ◌∙◌, ℕ, suc, ◌<◌, ◌⊎◌, List, [], ◌∷◌, ◌++◌, Some, None, inl, inr, length, take, nat_lt, refl, sym, ap, arith}
use Rattle.std.specs.Prelude.{slice_get, filter}
use Rattle.std.proofs.lemmas.List.{take_all}
use Rattle.std.proofs.lemmas.Option.{slice_get_within}
use Rattle.yd_ops.specs.declared.lists.List.{List as DocList}
use Rattle.yd_words.proofs.OptionLemmas.{some_is}
use Rattle.yd_names.specs.Coding.{code_of_parent}
use Rattle.yd_names.specs.Crowds.{IsCrowd, IsJoined}
use Rattle.yd_names.specs.Groups.{GroupTable, with_place, with_group, KeepsFront}
use Rattle.yd_names.specs.Items.{IsAt}
use Rattle.yd_names.specs.Names.{IsOf, IsLastOf}
use Rattle.yd_names.specs.Order.{own_cmp}
use Rattle.yd_names.specs.Parents.{AreOwned, HasFirst}
use Rattle.yd_names.proofs.CodedLemmas.{same_long, in_front, less_is}
use Rattle.yd_names.proofs.CodesLemmas.{got_stays, got_before, got_last, got_front, take_whole, one_longer}
use Rattle.yd_names.proofs.CrowdsLemmas.{beside, shortened}
use Rattle.yd_names.proofs.InsertingLemmas.{passes_left}
use Rattle.yd_names.proofs.NamesLemmas.{front_has, got_in_front}
use Rattle.yd_names.proofs.ParentsLemmas.{place_within}

module _ (names : List DocList) (groups : GroupTable) (crowd : List ℕ) (o : AreOwned names groups crowd) where
  -- ---- one list more

  module _ (name : DocList) where
    -- the new list has the number of its parent's lists
    abbrev Fits : ℕ → Type 0
    Fits number = (n : ℕ) (list : DocList) → slice_get names n ≡ Some list →
        (list.parent ≡ name.parent → slice_get groups.numbers n ≡ Some number) × (slice_get groups.numbers n ≡ Some number → list.parent ≡ name.parent)

    stays : (n number : ℕ) (list : DocList) → slice_get names n ≡ Some list → slice_get (groups.numbers ++ number ∷ []) n ≡ slice_get groups.numbers n
    stays n number list e = got_front number groups.numbers n (place_within names groups crowd o n list e)

    here : (n number : ℕ) → n ≡ length names → slice_get (groups.numbers ++ number ∷ []) n ≡ Some number
    here n number e = got_last number groups.numbers n (e ∙ sym o.each)

    owned_more : (codes more : List ℕ) (number : ℕ) → Fits number → ((k code : ℕ) → slice_get groups.codes k ≡ Some code → slice_get codes k ≡ Some code) → ((n : ℕ) → IsAt crowd n → IsAt more n) →
        (slice_get codes number ≡ Some (code_of_parent name.parent)) ⊎ HasFirst (groups.numbers ++ number ∷ []) more (length names) number → IsCrowd own_cmp (names ++ name ∷ []) more →
        AreOwned (names ++ name ∷ []) (record { codes = codes; numbers = groups.numbers ++ number ∷ [] }) more
    owned_more codes more number fits kept others new order = record {
      each = one_longer number groups.numbers ∙ ap suc o.each ∙ sym (one_longer name names);
      one_group = λ m n a b e f own. elim (got_before name names m a e) [
        | inl there ↦ elim (got_before name names n b f) [
          | inl other ↦ stays m number a there ∙ o.one_group m n a b there other own ∙ sym (stays n number b other)
          | inr (last, same) ↦ stays m number a there ∙ (fits m a there).0 (own ∙ ap (λ (l : DocList). l.parent) (sym same)) ∙ sym (here n number last)
        ]
        | inr (last, same) ↦ elim (got_before name names n b f) [
          | inl other ↦ here m number last ∙ sym ((fits n b other).0 (sym own ∙ ap (λ (l : DocList). l.parent) (sym same))) ∙ sym (stays n number b other)
          | inr (also, as_well) ↦ here m number last ∙ sym (here n number also)
        ]
      ];
      one_parent = λ m n a b e f g. elim (got_before name names m a e) [
        | inl there ↦ elim (got_before name names n b f) [
          | inl other ↦ o.one_parent m n a b there other (sym (stays m number a there) ∙ g ∙ stays n number b other)
          | inr (last, same) ↦ (fits m a there).1 (sym (stays m number a there) ∙ g ∙ here n number last) ∙ ap (λ (l : DocList). l.parent) same
        ]
        | inr (last, same) ↦ elim (got_before name names n b f) [
          | inl other ↦ ap (λ (l : DocList). l.parent) (sym same) ∙ sym ((fits n b other).1 (sym (stays n number b other) ∙ sym g ∙ here m number last))
          | inr (also, as_well) ↦ ap (λ (l : DocList). l.parent) (sym same ∙ as_well)
        ]
      ];
      found = λ n k list e f. elim (got_before name names n list e) [
        | inl there ↦ elim (o.found n k list there (sym (stays n number list there) ∙ f)) [
          | inl coded ↦ inl (kept k (code_of_parent list.parent) coded)
          | inr h ↦ inr (record { first = h.first; at = others h.first h.at; upto = h.upto; same = got_stays groups.numbers (number ∷ []) h.first k h.same })
        ]
        | inr (last, same) ↦ newest n k list last same (some_is number k (sym (here n number last) ∙ f)) new
      ];
      in_order = order;
    }
      where
        newest : (n k : ℕ) (list : DocList) → n ≡ length names → name ≡ list → number ≡ k →
            (slice_get codes number ≡ Some (code_of_parent name.parent)) ⊎ HasFirst (groups.numbers ++ number ∷ []) more (length names) number →
            (slice_get codes k ≡ Some (code_of_parent list.parent)) ⊎ HasFirst (groups.numbers ++ number ∷ []) more n k
        newest n k list last same is (inl coded) = inl (ap (λ k. slice_get codes k) (sym is) ∙ coded ∙ ap (λ (l : DocList). Some (code_of_parent l.parent)) same)
        newest n k list last same is (inr h) = inr (record {
          first = h.first;
          at = h.at;
          upto = (let le = h.upto in omega arith);
          same = h.same ∙ ap (λ n. Some n) is;
        })

    -- a list more of a parent that has one
    pub owned_beside : (m number : ℕ) → IsOf names name.parent m → slice_get groups.numbers m ≡ Some number → AreOwned (names ++ name ∷ []) (with_place groups number) crowd
    owned_beside m number is e = owned_more groups.codes crowd number
        (λ n list there. (
          (λ own. o.one_group n m list is.list there is.there (own ∙ sym is.own) ∙ e),
          (λ f. o.one_parent n m list is.list there is.there (f ∙ sym e) ∙ is.own),
        ))
        (λ k code f. f) (λ n at. at)
        (elim (o.found m number is.list is.there e) [
          | inl coded ↦ inl (coded ∙ ap (λ p. Some (code_of_parent p)) is.own)
          | inr h ↦ inr (record {
            first = h.first;
            at = h.at;
            upto = (let le = h.upto in let lt = slice_get_within names m is.list is.there in omega arith);
            same = got_stays groups.numbers (number ∷ []) h.first number h.same;
          })
        ])
        (beside own_cmp names name crowd o.in_order)

    -- the first list of a parent
    owned_apart : (code : ℕ) (more : List ℕ) → ((n : ℕ) → slice_get groups.numbers n ≢ Some (length groups.codes)) → IsLastOf names name.parent (length names) None →
        ((n : ℕ) → IsAt crowd n → IsAt more n) → (code ≡ code_of_parent name.parent) ⊎ IsAt more (length names) → IsCrowd own_cmp (names ++ name ∷ []) more →
        AreOwned (names ++ name ∷ []) (with_group groups code) more
    owned_apart code more fresh none others new order = owned_more (groups.codes ++ code ∷ []) more (length groups.codes)
        (λ n list there. (
          (λ own. absurd (none n list (slice_get_within names n list there) there own)),
          (λ f. absurd (fresh n f)),
        ))
        (λ k c f. got_stays groups.codes (code ∷ []) k c f) others
        (elim new [
          | inl is ↦ inl (got_last code groups.codes (length groups.codes) refl ∙ ap (λ c. Some c) is)
          | inr at ↦ inr (record { first = length names; at = at; upto = omega arith; same = here (length names) (length groups.codes) refl })
        ])
        order

    pub owned_coded : (code : ℕ) → ((n : ℕ) → slice_get groups.numbers n ≢ Some (length groups.codes)) → IsLastOf names name.parent (length names) None →
        code ≡ code_of_parent name.parent → AreOwned (names ++ name ∷ []) (with_group groups code) crowd
    owned_coded code fresh none is = owned_apart code crowd fresh none (λ n at. at) (inl is) (beside own_cmp names name crowd o.in_order)

    pub owned_joined : (code : ℕ) (more : List ℕ) → ((n : ℕ) → slice_get groups.numbers n ≢ Some (length groups.codes)) → IsLastOf names name.parent (length names) None →
        IsJoined own_cmp names name crowd more → AreOwned (names ++ name ∷ []) (with_group groups code) more
    owned_joined code more fresh none j = owned_apart code more fresh none j.others (inr j.here) j.all

  -- ---- other groups

  -- as it was, where the groups of all lists stay
  owned_same : (less : GroupTable) → less.numbers ≡ groups.numbers → ((n k code : ℕ) → slice_get groups.numbers n ≡ Some k → slice_get groups.codes k ≡ Some code → slice_get less.codes k ≡ Some code) →
      AreOwned names less crowd
  owned_same less same kept = record {
    each = ap (λ (ns : List ℕ). length ns) same ∙ o.each;
    one_group = λ m n a b e f own. ap (λ ns. slice_get ns m) same ∙ o.one_group m n a b e f own ∙ ap (λ ns. slice_get ns n) (sym same);
    one_parent = λ m n a b e f g. o.one_parent m n a b e f (ap (λ ns. slice_get ns m) (sym same) ∙ g ∙ ap (λ ns. slice_get ns n) same);
    found = λ n k list e f. elim (o.found n k list e (ap (λ ns. slice_get ns n) (sym same) ∙ f)) [
      | inl coded ↦ inl (kept n k (code_of_parent list.parent) (ap (λ ns. slice_get ns n) (sym same) ∙ f) coded)
      | inr h ↦ inr (record { first = h.first; at = h.at; upto = h.upto; same = ap (λ ns. slice_get ns h.first) same ∙ h.same })
    ];
    in_order = o.in_order;
  }

  pub owned_kept : (less : GroupTable) → KeepsFront (length groups.numbers) groups less → AreOwned names less crowd
  owned_kept less f = owned_same less same (λ n k code e coded. f.kept n k (ap (λ ns. slice_get ns n) same ∙ e) ∙ coded)
    where
      same : less.numbers ≡ groups.numbers
      same = f.front ∙ take_all (length groups.numbers) groups.numbers (omega arith)

  -- also where a group came, and goes again
  pub owned_again : (code : ℕ) (less : GroupTable) → KeepsFront (length names) (with_group groups code) less → AreOwned names less crowd
  owned_again code less f = owned_same less same
      (λ n k c e coded. f.kept n k (ap (λ ns. slice_get ns n) same ∙ e) ∙ got_stays groups.codes (code ∷ []) k c coded)
    where
      same : less.numbers ≡ groups.numbers
      same = f.front ∙ ap (λ k. take k (groups.numbers ++ length groups.codes ∷ [])) (sym o.each) ∙ take_whole (length groups.codes) groups.numbers

  -- the first lists alone
  pub owned_front : (less : GroupTable) (len : ℕ) → KeepsFront len groups less → AreOwned (take len names) less (filter (λ n. nat_lt n len) crowd)
  owned_front less len f = record {
    each = ap (λ (ns : List ℕ). length ns) f.front ∙ same_long len groups.numbers names o.each;
    one_group = λ m n a b e g own. is_as m a e ∙ o.one_group m n a b (got_in_front len names m a e) (got_in_front len names n b g) own ∙ sym (is_as n b g);
    one_parent = λ m n a b e g h. o.one_parent m n a b (got_in_front len names m a e) (got_in_front len names n b g) (sym (is_as m a e) ∙ h ∙ is_as n b g);
    found = λ n k list e g. elim (o.found n k list (got_in_front len names n list e) (sym (is_as n list e) ∙ g)) [
      | inl coded ↦ inl (f.kept n k g ∙ coded)
      | inr h ↦ inr (record {
        first = h.first;
        at = passes_left (λ n. nat_lt n len) crowd h.first (less_is h.first len (under n list e h)) h.at;
        upto = h.upto;
        same = ap (λ ns. slice_get ns h.first) f.front ∙ front_has len groups.numbers h.first (under n list e h) ∙ h.same;
      })
    ];
    in_order = shortened own_cmp names crowd len o.in_order;
  }
    where
      below : (n : ℕ) (list : DocList) → slice_get (take len names) n ≡ Some list → n < len
      below n list e = in_front len n names (slice_get_within (take len names) n list e)

      is_as : (n : ℕ) (list : DocList) → slice_get (take len names) n ≡ Some list → slice_get less.numbers n ≡ slice_get groups.numbers n
      is_as n list e = ap (λ ns. slice_get ns n) f.front ∙ front_has len groups.numbers n (below n list e)

      under : {k : ℕ} (n : ℕ) (list : DocList) → slice_get (take len names) n ≡ Some list → (h : HasFirst groups.numbers crowd n k) → h.first < len
      under n list e h = let lt = below n list e in let le = h.upto in omega arith
