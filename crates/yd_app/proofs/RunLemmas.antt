-- What is promised of a run, read off its ending.
use Rattle.std.proofs.Common.{◌≡◌, ◌≢◌, ◌⊎◌, ℕ, List, [], ◌∷◌, Option, Result, Ok, Err, refl, inl, inr, arith}
use Rattle.yd_world.specs.Shelf.{Shelf}
use Rattle.yd_world.specs.Faults.{Rose}
use Rattle.yd_files.specs.Counts.{Count, RoseIn}
use Rattle.yd_files.specs.Files.{File}
use Rattle.yd_files.specs.Reading.{FailsAt}
use Rattle.yd_files.specs.Verdict.{Inputs, IsTold}
use Rattle.yd_app.proofs.DueLemmas.{due_offline, goes_online, weaker}
use Rattle.yd_app.proofs.MakingLemmas.{written_due}
use Rattle.yd_app.specs.Due.{Due, IsDue, IsDueIn, lacking, line_of_due, no_step_2, output, over_limit, refusal, status_of_due, statuses_of_due, usage}
use Rattle.yd_app.specs.Ending.{Ends}
use Rattle.yd_asking.specs.Command.{Command, IsOnline, serve, sync}
use Rattle.yd_ending.specs.Ending.{line_of, status_of}
use Rattle.yd_ending.specs.Lines.{link_fault_line, no_memory_line, read_fault_line, refusal_line, write_fault_line}
use Rattle.yd_app.specs.Link.{Link}
use Rattle.yd_app.specs.Online.{GoesOnline, LosesItsNetwork, LosesNetwork}
use Rattle.yd_app.specs.Run.{Comes, CutsOff, Follows, FollowsOnline, HasReason, IsLine, IsOfDue, TellsErr, Writes, WritesPart}
use Rattle.yd_asking.specs.Words.{AreOfNoForm, AsksFor}
use Rattle.yd_ending.specs.Status.{IsOneOf}
use Rattle.yd_ending.specs.Writing.{TakesAll, TakesFront, TakesPart}
use Rattle.yd_ending.specs.declared.stop.Stop.{Stop}
use Rattle.yd_ending.specs.declared.stop.Stop.TheVariants.{Usage, Refused, ReadFault, TooLarge, NoMemory, WriteFault, LinkFault, NoStep2}
use Rattle.yd_app.proofs.EndsLemmas.{ends_comes, ends_line, ends_online, ends_reason, ends_told, five_comes, in_due, lacking_due, link_failed, loses_rose, read_failed, write_failed}

-- what holds of the ending's status and of 5 holds of what is reported
reported : (P : ℕ → Type 0) (status due : ℕ) → (status ≡ due) ⊎ ((status ≡ 5) × (due ≢ 0)) → P due → P 5 → P status
reported P status due (inl e) p five = rw e p
reported P status due (inr e) p five = rw e.0 five

-- the reported status has a reason
pub reported_reason : (Calm : Type 0) (words : List (List ℕ)) (told told_now : Option Shelf) (link : Link) (reads writes : Count) (taken now : Option (List ℕ)) (e : Result (Unit {0}) Stop) (status : ℕ) → Ends Calm words told told_now link reads writes taken now e
    → (status ≡ status_of e) ⊎ ((status ≡ 5) × (status_of e ≢ 0)) → HasReason words told link reads writes status
reported_reason Calm words told told_now link reads writes taken now e status ends is =
    reported (HasReason words told link reads writes) status (status_of e) is (ends_reason Calm words told told_now link reads writes taken now e ends)
    (record { as_due = λ one. absurd (omega (arith, one)); read_fault = λ n. absurd (omega (arith, n)); write_fault = λ n. absurd (omega (arith, n)); link_fault = λ n. absurd (omega (arith, n)) })

-- it can come
pub reported_comes : (Calm : Type 0) (words : List (List ℕ)) (told told_now : Option Shelf) (link : Link) (reads writes : Count) (taken now : Option (List ℕ)) (e : Result (Unit {0}) Stop) (status : ℕ) → Ends Calm words told told_now link reads writes taken now e
    → (status ≡ status_of e) ⊎ ((status ≡ 5) × (status_of e ≢ 0)) → Comes words told status
reported_comes Calm words told told_now link reads writes taken now e status ends is =
    reported (Comes words told) status (status_of e) is (ends_comes Calm words told told_now link reads writes taken now e ends)
    (record { is_status = inr (inr (inr (inr (inr (inl refl))))); no_form = λ never. inr (inl refl); where_told = λ due is_told due_is. (due, due_is, five_comes due); online = λ is_told goes. inr (inr (inr (inr (inl refl)))) })

-- it is that of what is due, where no fault gave it
follows : (Calm : Type 0) (words : List (List ℕ)) (told told_now : Option Shelf) (link : Link) (reads writes : Count) (taken now : Option (List ℕ)) (e : Result (Unit {0}) Stop) (status : ℕ) → Ends Calm words told told_now link reads writes taken now e
    → (status ≡ status_of e) ⊎ ((status ≡ 5) × (status_of e ≢ 0)) → (IsTold told → status_of e ≡ 3 → IsOfDue words told (λ done. status_of_due done ∷ 5 ∷ []) (status_of e)) → status_of e ≢ 4 → Follows words told status
follows Calm words told told_now link reads writes taken now e status ends is read written =
    reported (Follows words told) status (status_of e) is
    (λ due is_told due_is.
    let other = ends_told Calm words told told_now link reads writes taken now e ends due is_told due_is in
    in_due words told other.0 (status_of e) other.1 other.2 (read is_told) written)
    (λ due is_told due_is. (due, due_is, inr (inl refl)))

-- so it is where no call is set to fail
pub calm_follows : (Calm : Type 0) (words : List (List ℕ)) (told told_now : Option Shelf) (link : Link) (reads writes : Count) (taken now : Option (List ℕ)) (e : Result (Unit {0}) Stop) (status : ℕ) → Ends Calm words told told_now link reads writes taken now e
    → (status ≡ status_of e) ⊎ ((status ≡ 5) × (status_of e ≢ 0)) → Calm → status_of e ≢ 4 → Follows words told status
calm_follows Calm words told told_now link reads writes taken now e status ends is calm =
    follows Calm words told told_now link reads writes taken now e status ends is (λ is_told n.
    let lacks = lacking_due Calm words told told_now (line_of e) calm is_told (read_failed Calm words told told_now link reads writes taken now e ends n).1 in
    (lacking lacks.0, lacks.1, inl n))

-- and where no count rose
pub counted_follows : (Calm : Type 0) (words : List (List ℕ)) (told told_now : Option Shelf) (link : Link) (reads writes : Count) (taken now : Option (List ℕ)) (e : Result (Unit {0}) Stop) (status : ℕ) → Ends Calm words told told_now link reads writes taken now e
    → (status ≡ status_of e) ⊎ ((status ≡ 5) × (status_of e ≢ 0)) → ¬ (RoseIn reads) → ¬ (RoseIn writes) → Follows words told status
counted_follows Calm words told told_now link reads writes taken now e status ends is read written =
    follows Calm words told told_now link reads writes taken now e status ends is
    (λ is_told n. absurd (read (read_failed Calm words told told_now link reads writes taken now e ends n).0))
    (λ n. written (write_failed Calm words told told_now link reads writes taken now e ends n).0)

-- over the network it is one of these, where no fault gave it
online_in : (words : List (List ℕ)) (told : Option Shelf) (status : ℕ) → (IsTold told → GoesOnline words told → IsOneOf status (0 ∷ 1 ∷ 3 ∷ 4 ∷ 5 ∷ 6 ∷ 8 ∷ [])) → (IsTold told → GoesOnline words told → status ≢ 3) → status ≢ 4 → status ≢ 6
    → FollowsOnline words told status
online_in words told status comes read written linked is_told goes = by_status (comes is_told goes) (read is_told goes)
  where
    by_status : IsOneOf status (0 ∷ 1 ∷ 3 ∷ 4 ∷ 5 ∷ 6 ∷ 8 ∷ []) → status ≢ 3 → IsOneOf status (0 ∷ 1 ∷ 5 ∷ 8 ∷ [])
    by_status (inl e) r = inl e
    by_status (inr (inl e)) r = inr (inl e)
    by_status (inr (inr (inl e))) r = absurd (r e)
    by_status (inr (inr (inr (inl e)))) r = absurd (written e)
    by_status (inr (inr (inr (inr (inl e))))) r = inr (inr (inl e))
    by_status (inr (inr (inr (inr (inr (inl e)))))) r = absurd (linked e)
    by_status (inr (inr (inr (inr (inr (inr (inl e))))))) r = inr (inr (inr (inl e)))
    by_status (inr (inr (inr (inr (inr (inr (inr none))))))) r = absurd none

follows_online : (Calm : Type 0) (words : List (List ℕ)) (told told_now : Option Shelf) (link : Link) (reads writes : Count) (taken now : Option (List ℕ)) (e : Result (Unit {0}) Stop) (status : ℕ) → Ends Calm words told told_now link reads writes taken now e
    → (status ≡ status_of e) ⊎ ((status ≡ 5) × (status_of e ≢ 0)) → (IsTold told → GoesOnline words told → status_of e ≢ 3) → status_of e ≢ 4 → status_of e ≢ 6 → FollowsOnline words told status
follows_online Calm words told told_now link reads writes taken now e status ends is read written linked =
    reported (FollowsOnline words told) status (status_of e) is
    (online_in words told (status_of e) (ends_online Calm words told told_now link reads writes taken now e ends) read written linked)
    (λ is_told goes. inr (inr (inl refl)))

-- so it is where no call is set to fail
pub calm_online : (Calm : Type 0) (words : List (List ℕ)) (told told_now : Option Shelf) (link : Link) (reads writes : Count) (taken now : Option (List ℕ)) (e : Result (Unit {0}) Stop) (status : ℕ) → Ends Calm words told told_now link reads writes taken now e
    → (status ≡ status_of e) ⊎ ((status ≡ 5) × (status_of e ≢ 0)) → Calm → status_of e ≢ 4 → status_of e ≢ 6 → FollowsOnline words told status
calm_online Calm words told told_now link reads writes taken now e status ends is calm written linked =
    follows_online Calm words told told_now link reads writes taken now e status ends is
    (λ is_told goes n.
    let lacks = lacking_due Calm words told told_now (line_of e) calm is_told (read_failed Calm words told told_now link reads writes taken now e ends n).1 in
    due_offline words told (lacking lacks.0) is_told lacks.1 goes) written linked

-- and where no count rose
pub counted_online : (Calm : Type 0) (words : List (List ℕ)) (told told_now : Option Shelf) (link : Link) (reads writes : Count) (taken now : Option (List ℕ)) (e : Result (Unit {0}) Stop) (status : ℕ) → Ends Calm words told told_now link reads writes taken now e
    → (status ≡ status_of e) ⊎ ((status ≡ 5) × (status_of e ≢ 0)) → ¬ (RoseIn reads) → ¬ (RoseIn writes) → ¬ (Rose link.before.faults link.now.faults) → FollowsOnline words told status
counted_online Calm words told told_now link reads writes taken now e status ends is read written linked =
    follows_online Calm words told told_now link reads writes taken now e status ends is
    (λ is_told goes n. read (read_failed Calm words told told_now link reads writes taken now e ends n).0)
    (λ n. written (write_failed Calm words told told_now link reads writes taken now e ends n).0)
    (λ n. linked (loses_rose words told link (link_failed Calm words told told_now link reads writes taken now e ends n).0))

-- what stands on out where the run ended within its output
pub reported_cuts : (Calm : Type 0) (words : List (List ℕ)) (told told_now : Option Shelf) (link : Link) (reads writes : Count) (taken now : Option (List ℕ)) (e : Result (Unit {0}) Stop) (status : ℕ) → Ends Calm words told told_now link reads writes taken now e
    → (status ≡ status_of e) ⊎ ((status ≡ 5) × (status_of e ≢ 0)) → (IsOneOf (status_of e) (1 ∷ 2 ∷ 3 ∷ 6 ∷ 7 ∷ 8 ∷ []) → now ≡ taken) → CutsOff words told link taken now status
reported_cuts Calm words told told_now link reads writes taken now e status ends is untouched = record {
  write_fault = λ n. (write_failed Calm words told told_now link reads writes taken now e ends (omega (arith, is, n))).1;
  no_memory = λ n. by_ending e ends (omega (arith, is, n)) untouched;
}
  where
    by_ending : (f : Result (Unit {0}) Stop) → Ends Calm words told told_now link reads writes taken now f → status_of f ≢ 0 → (IsOneOf (status_of f) (1 ∷ 2 ∷ 3 ∷ 6 ∷ 7 ∷ 8 ∷ []) → now ≡ taken) → (now ≡ taken) ⊎ WritesPart words told link taken now
    by_ending (Ok done) h n same = absurd (n refl)
    by_ending (Err (Refused what)) h n same = inl (same (inl refl))
    by_ending (Err Usage) h n same = inl (same (inr (inl refl)))
    by_ending (Err (ReadFault file)) h n same = inl (same (inr (inr (inl refl))))
    by_ending (Err WriteFault) h n same = inr h.1
    by_ending (Err LinkFault) h n same = inl (same (inr (inr (inr (inl refl)))))
    by_ending (Err NoStep2) h n same = inl (same (inr (inr (inr (inr (inr (inl refl)))))))
    by_ending (Err NoMemory) h n same = h
    by_ending (Err (TooLarge file)) h n same = inl (same (inr (inr (inr (inr (inl refl))))))

-- what stands on err
pub tells_err : (Calm : Type 0) (words : List (List ℕ)) (told told_now : Option Shelf) (link : Link) (reads writes : Count) (taken now : Option (List ℕ)) (e : Result (Unit {0}) Stop) (status : ℕ) (errs : Count) (err err_now : Option (List ℕ)) → Ends Calm words told told_now link reads writes taken now e
    → (status ≡ status_of e) ⊎ ((status ≡ 5) × (status_of e ≢ 0)) → (status_of e ≡ 0 → err_now ≡ err) → TakesFront err err_now (line_of e) → (status ≢ 5 → TakesAll err err_now (line_of e) ⊎ RoseIn errs)
    → (status ≢ status_of e → TakesPart err err_now (line_of e) × (errs.now ≡ errs.before)) → TellsErr Calm words told told_now link reads writes errs err err_now status
tells_err Calm words told told_now link reads writes taken now e status errs err err_now ends is silent front whole short = record {
  done = λ n. silent (omega (arith, is, n));
  line = λ one.
      let due : status ≡ status_of e = omega (arith, is, one) in
      (line_of e, rw due (ends_line Calm words told told_now link reads writes taken now e ends), front, whole (λ five. omega (arith, one, five)));
  no_memory = λ five. (line_of e, front, by_ending e ends (omega (arith, is, five)) (λ n. short (λ same. n (omega (arith, same, five)))));
}
  where
    other : (due : ℕ) (f : Result (Unit {0}) Stop) → due ≡ status_of f → IsOneOf due (1 ∷ 2 ∷ 3 ∷ 4 ∷ 6 ∷ 7 ∷ 8 ∷ []) → Ends Calm words told told_now link reads writes taken now f → (5 ≢ status_of f → TakesPart err err_now (line_of f) × (errs.now ≡ errs.before))
        → IsLine Calm words told told_now link 5 (line_of f)
        ⊎ ((d : ℕ) × IsOneOf d (1 ∷ 2 ∷ 3 ∷ 4 ∷ 6 ∷ 7 ∷ 8 ∷ []) × HasReason words told link reads writes d × IsLine Calm words told told_now link d (line_of f) × TakesPart err err_now (line_of f) × (errs.now ≡ errs.before))
    other due f same one h unchanged =
        let left = unchanged (λ five. omega (arith, same, one, five)) in
        inr (due, one, rw same (ends_reason Calm words told told_now link reads writes taken now f h), rw same (ends_line Calm words told told_now link reads writes taken now f h), left.0, left.1)

    by_ending : (f : Result (Unit {0}) Stop) → Ends Calm words told told_now link reads writes taken now f → status_of f ≢ 0 → (5 ≢ status_of f → TakesPart err err_now (line_of f) × (errs.now ≡ errs.before))
        → IsLine Calm words told told_now link 5 (line_of f)
        ⊎ ((d : ℕ) × IsOneOf d (1 ∷ 2 ∷ 3 ∷ 4 ∷ 6 ∷ 7 ∷ 8 ∷ []) × HasReason words told link reads writes d × IsLine Calm words told told_now link d (line_of f) × TakesPart err err_now (line_of f) × (errs.now ≡ errs.before))
    by_ending (Ok done) h n same = absurd (n refl)
    by_ending (Err NoMemory) h n same = inl (ends_line Calm words told told_now link reads writes taken now (Err NoMemory) h)
    by_ending (Err (Refused what)) h n same = other 1 (Err (Refused what)) refl (inl refl) h same
    by_ending (Err Usage) h n same = other 2 (Err Usage) refl (inr (inl refl)) h same
    by_ending (Err (ReadFault file)) h n same = other 3 (Err (ReadFault file)) refl (inr (inr (inl refl))) h same
    by_ending (Err WriteFault) h n same = other 4 (Err WriteFault) refl (inr (inr (inr (inl refl)))) h same
    by_ending (Err LinkFault) h n same = other 6 (Err LinkFault) refl (inr (inr (inr (inr (inl refl))))) h same
    by_ending (Err (TooLarge file)) h n same = other 7 (Err (TooLarge file)) refl (inr (inr (inr (inr (inr (inl refl)))))) h same
    by_ending (Err NoStep2) h n same = other 8 (Err NoStep2) refl (inr (inr (inr (inr (inr (inr (inl refl))))))) h same

-- what was written where the run is done
pub reported_writes : (Calm : Type 0) (words : List (List ℕ)) (told told_now : Option Shelf) (link : Link) (reads writes : Count) (taken now : Option (List ℕ)) (e : Result (Unit {0}) Stop) (status : ℕ) → Ends Calm words told told_now link reads writes taken now e
    → (status ≡ status_of e) ⊎ ((status ≡ 5) × (status_of e ≢ 0)) → status ≡ 0 → Writes words told link taken now
reported_writes Calm words told told_now link reads writes taken now e status ends is n = by_ending e ends (omega (arith, is, n))
  where
    by_ending : (f : Result (Unit {0}) Stop) → Ends Calm words told told_now link reads writes taken now f → status_of f ≡ 0 → Writes words told link taken now
    by_ending (Ok done) h same = h
    by_ending (Err (Refused what)) h same = absurd (omega (arith, same))
    by_ending (Err Usage) h same = absurd (omega (arith, same))
    by_ending (Err (ReadFault file)) h same = absurd (omega (arith, same))
    by_ending (Err WriteFault) h same = absurd (omega (arith, same))
    by_ending (Err LinkFault) h same = absurd (omega (arith, same))
    by_ending (Err NoStep2) h same = absurd (omega (arith, same))
    by_ending (Err NoMemory) h same = absurd (omega (arith, same))
    by_ending (Err (TooLarge file)) h same = absurd (omega (arith, same))
