-- Places in groups, as groups and places come and go at the end.
use Rattle.std.proofs.Common.{◌≡◌, ◌≢◌, ◌∙◌, ℕ, suc, ◌+◌, ◌-◌, ◌<◌, List, [], ◌∷◌, ◌++◌, Option, Some, None, inl, inr, get_or, length, take, refl, sym, ap, subst, arith, le_refl, true≢false}
use Rattle.std.specs.Prelude.{slice_get, IfSome, IsSome}
use Rattle.std.specs.Option.{option_to_list}
use Rattle.std.proofs.lemmas.List.{take_all, take_more}
use Rattle.std.proofs.lemmas.Option.{slice_get-get_or}
use Rattle.yd_words.proofs.OptionLemmas.{some_is}
use Rattle.yd_words.proofs.TestLemmas.{split}
use Rattle.yd_names.specs.Codes.{last_place}
use Rattle.yd_names.specs.Slots.{bound_of, AreSlots}
use Rattle.yd_names.specs.Groups.{AreGrouped, GroupTable, KeepsCodes, KeepsFront, KeepsGroups}
use Rattle.yd_names.proofs.CodesLemmas.{got_stays, got_before, got_last, got_front, one_longer}
use Rattle.yd_names.proofs.NamesLemmas.{looked, has_code}
use Rattle.yd_names.proofs.SearchLemmas.{bound_same}

nowhere : (number : ℕ) (ks : List ℕ) → ((n : ℕ) → slice_get ks n ≡ Some number → ⊥) → last_place number ks ≡ None
nowhere number ks none = go (last_place number ks) (has_code number ks)
  where
    go : (o : Option ℕ) → IfSome o (λ n. slice_get ks n ≡ Some number) → o ≡ None
    go None i = refl
    go (Some n) i = absurd (none n i)

pub not_there : (code : ℕ) (codes : List ℕ) → last_place code codes ≡ None → (n : ℕ) → slice_get codes n ≡ Some code → ⊥
not_there code codes e n g = let lt : n < 0 = subst (λ o. n < bound_of o) e (looked code codes n g) in absurd (omega arith)

module _ (codes numbers heads before : List ℕ) (g : AreGrouped codes numbers heads before) where
  -- the last place of a group
  pub found_last : (number was : ℕ) (result : Option ℕ) → number < length codes → was ≡ get_or heads number was → bound_of result ≡ was →
      result ≡ last_place number numbers
  found_last number was result lt e is = bound_same result (last_place number numbers)
      (is ∙ some_is was _ (ap (λ n. Some n) e ∙ sym (slice_get-get_or heads number was within) ∙ g.places.latest number within))
    where
      within : number < length heads
      within = subst (λ n. number < n) (sym g.each) lt

  -- and the last one before another
  pub found_before : (place was : ℕ) (result : Option ℕ) → place < length numbers → was ≡ get_or before place was → bound_of result ≡ was →
      IfSome (slice_get numbers place) (λ number. result ≡ last_place number (take place numbers))
  found_before place was result lt e is = subst (λ o. IfSome o (λ number. result ≡ last_place number (take place numbers))) (sym there) is_last
    where
      there : slice_get numbers place ≡ Some (get_or numbers place 0)
      there = slice_get-get_or numbers place 0 lt

      is_last : result ≡ last_place (get_or numbers place 0) (take place numbers)
      is_last = bound_same result (last_place (get_or numbers place 0) (take place numbers))
          (is ∙ some_is was _ (ap (λ n. Some n) e ∙ sym (slice_get-get_or before place was (subst (λ n. place < n) (sym g.places.each) lt)) ∙ g.places.earlier place (get_or numbers place 0) there))

  -- one place more in a group
  pub placed : (number : ℕ) (more_heads more_before : List ℕ) → number < length codes → length more_heads ≡ length heads →
      AreSlots (numbers ++ number ∷ []) more_heads more_before → AreGrouped codes (numbers ++ number ∷ []) more_heads more_before
  placed number more_heads more_before lt size slots = record {
    each = size ∙ g.each;
    inside = λ n k e. elim (got_before number numbers n k e) [
      | inl f ↦ g.inside n k f
      | inr (f, same) ↦ subst (λ k. k < length codes) same lt
    ];
    places = slots;
  }

-- a group more has no place, and the codes of the others stay
pub one_group : (codes heads : List ℕ) (code : ℕ) → KeepsGroups codes (codes ++ code ∷ []) heads (heads ++ 0 ∷ [])
one_group codes heads code numbers before g = (
  record {
    each = one_longer 0 heads ∙ ap suc g.each ∙ sym (one_longer code codes);
    inside = λ n k e. let lt = g.inside n k e in let long = one_longer code codes in omega arith;
    places = record {
      each = g.places.each;
      latest = λ slot lt. elim (split (length heads) slot) [
        | inl le ↦ let long = one_longer 0 heads in let is : slot ≡ length heads = omega arith in
            got_last 0 heads slot is ∙ ap (λ o. Some (bound_of o)) (sym (nowhere slot numbers (λ n there. let less = g.inside n slot there in let each = g.each in absurd (omega arith))))
        | inr less ↦ got_front 0 heads slot less ∙ g.places.latest slot less
      ];
      earlier = g.places.earlier;
    };
  },
  (λ n number e. got_front code codes number (g.inside n number e)),
)

-- the last group goes where it has no place
one_group_less : (codes heads : List ℕ) (code : ℕ) → KeepsGroups (codes ++ code ∷ []) codes (heads ++ 0 ∷ []) heads
one_group_less codes heads code numbers before g = (
  record {
    each = each;
    inside = inside;
    places = record {
      each = g.places.each;
      latest = λ slot lt. sym (got_front 0 heads slot lt) ∙ g.places.latest slot (let long = one_longer 0 heads in omega arith);
      earlier = g.places.earlier;
    };
  },
  (λ n number e. sym (got_front code codes number (inside n number e))),
)
  where
    each : length heads ≡ length codes
    each = let e = g.each in let long = one_longer 0 heads in let also = one_longer code codes in omega arith

    none : last_place (length codes) numbers ≡ None
    none = bound_same (last_place (length codes) numbers) None (sym (some_is 0 _ (sym (got_last 0 heads (length codes) (sym each))
        ∙ g.places.latest (length codes) (let long = one_longer 0 heads in omega (arith, each, long)))))

    inside : (n k : ℕ) → slice_get numbers n ≡ Some k → k < length codes
    inside n k e =
        let lt = g.inside n k e in let long = one_longer code codes in
        let apart : k ≢ length codes = (λ same. not_there (length codes) numbers none n (e ∙ ap (λ k. Some k) same)) in omega arith

split_last : (codes : List ℕ) → 0 < length codes → codes ≡ take (length codes - 1) codes ++ get_or codes (length codes - 1) 0 ∷ []
split_last codes lt = sym (take_all (length codes) codes (le_refl (length codes))) ∙ ap (λ n. take n codes) on ∙ take_more codes (length codes - 1) 0 (omega arith)
  where
    on : length codes ≡ length codes - 1 + 1
    on = omega arith

-- so it is with what stands last
pub left_group : (codes heads less_heads : List ℕ) (number was : ℕ) (last : Option ℕ) → number < length heads → number + 1 ≡ length heads → was ≡ get_or heads number was → was ≡ 0 →
    heads ≡ less_heads ++ option_to_list last → IsSome last → KeepsGroups codes (take (length codes - 1) codes) heads less_heads
left_group codes heads less_heads number was None lt on e none split some numbers before g = absurd (true≢false (sym some))
left_group codes heads less_heads number was (Some x) lt on e none split some numbers before g =
    let kept = one_group_less (take (length codes - 1) codes) less_heads (get_or codes (length codes - 1) 0) numbers before
    (subst (λ cs. AreGrouped cs numbers (less_heads ++ 0 ∷ []) before) whole (subst (λ hs. AreGrouped codes numbers hs before) zeroed g)) in
    (kept.0, (λ n k e. kept.1 n k e ∙ ap (λ cs. slice_get cs k) (sym whole)))
  where
    whole : codes ≡ take (length codes - 1) codes ++ get_or codes (length codes - 1) 0 ∷ []
    whole = split_last codes (let each = g.each in omega arith)

    at_end : number ≡ length less_heads
    at_end = let long = ap (λ (l : List ℕ). length l) split in let longer = one_longer x less_heads in omega (arith, on, long, longer)

    zero_last : x ≡ 0
    zero_last = some_is x 0 (sym (got_last x less_heads number at_end) ∙ ap (λ l. slice_get l number) (sym split) ∙ slice_get-get_or heads number was lt
        ∙ ap (λ n. Some n) (sym e ∙ none))

    zeroed : heads ≡ less_heads ++ 0 ∷ []
    zeroed = split ∙ ap (λ x. less_heads ++ x ∷ []) zero_last

-- without the last place the others are known, also where its group goes
pub popped_group : (codes others numbers less heads less_heads other_heads before less_before : List ℕ) (number : ℕ) → AreGrouped codes numbers heads before → numbers ≡ less ++ number ∷ [] →
    length less_heads ≡ length heads → (AreSlots (less ++ number ∷ []) heads before → AreSlots less less_heads less_before) → KeepsGroups codes others less_heads other_heads →
    AreGrouped others less other_heads less_before × KeepsCodes codes others less
popped_group codes others numbers less heads less_heads other_heads before less_before number g e size popped kept = kept less less_before (record {
  each = size ∙ g.each;
  inside = λ n k f. g.inside n k (ap (λ ns. slice_get ns n) e ∙ got_stays less (number ∷ []) n k f);
  places = popped (subst (λ ns. AreSlots ns heads before) e g.places);
})

-- ---- the first places alone

pub kept_front : (old : GroupTable) (codes others numbers less : List ℕ) (len : ℕ) → ◌≡◌ {A = GroupTable} (record { codes = codes; numbers = numbers }) old → less ≡ take len numbers → KeepsCodes codes others less →
    KeepsFront len old (record { codes = others; numbers = less })
kept_front old codes others numbers less len is e kept = subst (λ g. KeepsFront len g (record { codes = others; numbers = less })) is (record { front = e; kept = kept })

-- all places stay
pub kept_all : (old : GroupTable) (codes others numbers less : List ℕ) → ◌≡◌ {A = GroupTable} (record { codes = codes; numbers = numbers }) old → less ≡ numbers → KeepsCodes codes others numbers →
    KeepsFront (length old.numbers) old (record { codes = others; numbers = less })
kept_all old codes others numbers less is e kept = kept_front old codes others numbers less (length old.numbers) is
    (e ∙ sym (take_all (length numbers) numbers (le_refl (length numbers))) ∙ ap (λ (g : GroupTable). take (length g.numbers) numbers) is)
    (λ n number f. kept n number (ap (λ ns. slice_get ns n) (sym e) ∙ f))

-- the first places are to stay, and the codes of their groups did
pub record IsShortened (len : ℕ) (old now : GroupTable) : Type 0 where
  pub front : take len now.numbers ≡ take len old.numbers
  pub kept : KeepsCodes old.codes now.codes (take len now.numbers)
