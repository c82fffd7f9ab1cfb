-- What an ending says, in statuses and lines.
use Rattle.std.proofs.Common.{◌≡◌, ◌≢◌, ◌⊎◌, ℕ, List, [], ◌∷◌, Option, Result, Ok, Err, refl, ap, inl, inr, arith}
use Rattle.yd_world.specs.Shelf.{Shelf}
use Rattle.yd_world.specs.Faults.{Rose}
use Rattle.yd_files.specs.Counts.{Count, RoseIn}
use Rattle.yd_files.specs.Files.{File}
use Rattle.yd_files.specs.Reading.{FailsAt}
use Rattle.yd_files.specs.Verdict.{Inputs, IsTold}
use Rattle.yd_app.proofs.DueLemmas.{due_in_alone, due_offline, goes_online, weaker}
use Rattle.yd_app.proofs.MakingLemmas.{written_due}
use Rattle.yd_app.specs.Due.{Due, IsDue, IsDueIn, lacking, line_of_due, no_step_2, output, over_limit, refusal, status_of_due, statuses_of_due, usage}
use Rattle.yd_app.specs.Ending.{Ends}
use Rattle.yd_asking.specs.Command.{Command, IsOnline, serve, sync}
use Rattle.yd_ending.specs.Ending.{line_of, status_of}
use Rattle.yd_ending.specs.Lines.{link_fault_line, no_memory_line, read_fault_line, refusal_line, write_fault_line}
use Rattle.yd_app.specs.Link.{Link}
use Rattle.yd_app.specs.Online.{GoesOnline, LosesItsNetwork, LosesNetwork}
use Rattle.yd_app.specs.Run.{Comes, CutsOff, Follows, FollowsOnline, HasReason, IsLine, IsOfDue, TellsErr, Writes, WritesPart}
use Rattle.yd_asking.specs.Words.{AreOfNoForm, AsksFor}
use Rattle.yd_ending.specs.Status.{IsOneOf}
use Rattle.yd_ending.specs.Writing.{TakesAll, TakesFront, TakesPart}
use Rattle.yd_ending.specs.declared.stop.Stop.{Stop}
use Rattle.yd_ending.specs.declared.stop.Stop.TheVariants.{Usage, Refused, ReadFault, TooLarge, NoMemory, WriteFault, LinkFault, NoStep2}

-- ---- endings that say what is due

-- the ending has the status and the line of what is due
record EndsAsDue (words : List (List ℕ)) (told : Option Shelf) (link : Link) (e : Result (Unit {0}) Stop) : Type 0 where
  due : Due
  is_due : IsDueIn words told link due
  status_is : status_of e ≡ status_of_due due
  line_is : line_of e ≡ line_of_due due

as_due : (Calm : Type 0) (words : List (List ℕ)) (told told_now : Option Shelf) (link : Link) (reads writes : Count) (taken now : Option (List ℕ)) (e : Result (Unit {0}) Stop) → Ends Calm words told told_now link reads writes taken now e
    → IsOneOf (status_of e) (0 ∷ 1 ∷ 2 ∷ 7 ∷ 8 ∷ []) → EndsAsDue words told link e
as_due Calm words told told_now link reads writes taken now (Ok done) h one = let due = written_due words told link taken now h in record { due = output due.0; is_due = due.1; status_is = refl; line_is = refl }
as_due Calm words told told_now link reads writes taken now (Err (Refused what)) h one = record { due = refusal (refusal_line what); is_due = h; status_is = refl; line_is = refl }
as_due Calm words told told_now link reads writes taken now (Err Usage) h one = record { due = usage; is_due = inl h; status_is = refl; line_is = refl }
as_due Calm words told told_now link reads writes taken now (Err (ReadFault file)) h one = absurd (omega (arith, one))
as_due Calm words told told_now link reads writes taken now (Err WriteFault) h one = absurd (omega (arith, one))
as_due Calm words told told_now link reads writes taken now (Err LinkFault) h one = absurd (omega (arith, one))
as_due Calm words told told_now link reads writes taken now (Err NoStep2) h one = record { due = no_step_2; is_due = inr h; status_is = refl; line_is = refl }
as_due Calm words told told_now link reads writes taken now (Err NoMemory) h one = absurd (omega (arith, one))
as_due Calm words told told_now link reads writes taken now (Err (TooLarge file)) h one = record { due = over_limit file.name.now; is_due = inl h; status_is = refl; line_is = refl }

-- ---- endings by a fault

-- the library failed
pub read_failed : (Calm : Type 0) (words : List (List ℕ)) (told told_now : Option Shelf) (link : Link) (reads writes : Count) (taken now : Option (List ℕ)) (e : Result (Unit {0}) Stop) → Ends Calm words told told_now link reads writes taken now e
    → status_of e ≡ 3 → RoseIn reads × AsksFor words (λ command files. (file : File) × FailsAt Calm told told_now files file × (line_of e ≡ read_fault_line file.name))
read_failed Calm words told told_now link reads writes taken now (Ok done) h n = absurd (omega (arith, n))
read_failed Calm words told told_now link reads writes taken now (Err (Refused what)) h n = absurd (omega (arith, n))
read_failed Calm words told told_now link reads writes taken now (Err Usage) h n = absurd (omega (arith, n))
read_failed Calm words told told_now link reads writes taken now (Err (ReadFault other)) h n = (
  h.0,
  weaker words (λ command files. (file : File) × FailsAt Calm told told_now files file × (other.name.now ≡ file.name))
      (λ command files. (file : File) × FailsAt Calm told told_now files file × (read_fault_line other.name.now ≡ read_fault_line file.name))
      (λ command files x. (x.0, x.1, ap read_fault_line x.2)) h.1,
)
read_failed Calm words told told_now link reads writes taken now (Err WriteFault) h n = absurd (omega (arith, n))
read_failed Calm words told told_now link reads writes taken now (Err LinkFault) h n = absurd (omega (arith, n))
read_failed Calm words told told_now link reads writes taken now (Err NoStep2) h n = absurd (omega (arith, n))
read_failed Calm words told told_now link reads writes taken now (Err NoMemory) h n = absurd (omega (arith, n))
read_failed Calm words told told_now link reads writes taken now (Err (TooLarge file)) h n = absurd (omega (arith, n))

-- out failed
pub write_failed : (Calm : Type 0) (words : List (List ℕ)) (told told_now : Option Shelf) (link : Link) (reads writes : Count) (taken now : Option (List ℕ)) (e : Result (Unit {0}) Stop) → Ends Calm words told told_now link reads writes taken now e
    → status_of e ≡ 4 → RoseIn writes × WritesPart words told link taken now × (line_of e ≡ write_fault_line)
write_failed Calm words told told_now link reads writes taken now (Ok done) h n = absurd (omega (arith, n))
write_failed Calm words told told_now link reads writes taken now (Err (Refused what)) h n = absurd (omega (arith, n))
write_failed Calm words told told_now link reads writes taken now (Err Usage) h n = absurd (omega (arith, n))
write_failed Calm words told told_now link reads writes taken now (Err (ReadFault file)) h n = absurd (omega (arith, n))
write_failed Calm words told told_now link reads writes taken now (Err WriteFault) h n = (h.0, h.1, refl)
write_failed Calm words told told_now link reads writes taken now (Err LinkFault) h n = absurd (omega (arith, n))
write_failed Calm words told told_now link reads writes taken now (Err NoStep2) h n = absurd (omega (arith, n))
write_failed Calm words told told_now link reads writes taken now (Err NoMemory) h n = absurd (omega (arith, n))
write_failed Calm words told told_now link reads writes taken now (Err (TooLarge file)) h n = absurd (omega (arith, n))

-- memory was wanted
memory_wanted : (Calm : Type 0) (words : List (List ℕ)) (told told_now : Option Shelf) (link : Link) (reads writes : Count) (taken now : Option (List ℕ)) (e : Result (Unit {0}) Stop) → Ends Calm words told told_now link reads writes taken now e
    → status_of e ≡ 5 → ((now ≡ taken) ⊎ WritesPart words told link taken now) × (line_of e ≡ no_memory_line)
memory_wanted Calm words told told_now link reads writes taken now (Ok done) h n = absurd (omega (arith, n))
memory_wanted Calm words told told_now link reads writes taken now (Err (Refused what)) h n = absurd (omega (arith, n))
memory_wanted Calm words told told_now link reads writes taken now (Err Usage) h n = absurd (omega (arith, n))
memory_wanted Calm words told told_now link reads writes taken now (Err (ReadFault file)) h n = absurd (omega (arith, n))
memory_wanted Calm words told told_now link reads writes taken now (Err WriteFault) h n = absurd (omega (arith, n))
memory_wanted Calm words told told_now link reads writes taken now (Err LinkFault) h n = absurd (omega (arith, n))
memory_wanted Calm words told told_now link reads writes taken now (Err NoStep2) h n = absurd (omega (arith, n))
memory_wanted Calm words told told_now link reads writes taken now (Err NoMemory) h n = (h, refl)
memory_wanted Calm words told told_now link reads writes taken now (Err (TooLarge file)) h n = absurd (omega (arith, n))

-- the network failed
pub link_failed : (Calm : Type 0) (words : List (List ℕ)) (told told_now : Option Shelf) (link : Link) (reads writes : Count) (taken now : Option (List ℕ)) (e : Result (Unit {0}) Stop) → Ends Calm words told told_now link reads writes taken now e
    → status_of e ≡ 6 → LosesItsNetwork words told link × (line_of e ≡ link_fault_line)
link_failed Calm words told told_now link reads writes taken now (Ok done) h n = absurd (omega (arith, n))
link_failed Calm words told told_now link reads writes taken now (Err (Refused what)) h n = absurd (omega (arith, n))
link_failed Calm words told told_now link reads writes taken now (Err Usage) h n = absurd (omega (arith, n))
link_failed Calm words told told_now link reads writes taken now (Err (ReadFault file)) h n = absurd (omega (arith, n))
link_failed Calm words told told_now link reads writes taken now (Err WriteFault) h n = absurd (omega (arith, n))
link_failed Calm words told told_now link reads writes taken now (Err LinkFault) h n = (h, refl)
link_failed Calm words told told_now link reads writes taken now (Err NoStep2) h n = absurd (omega (arith, n))
link_failed Calm words told told_now link reads writes taken now (Err NoMemory) h n = absurd (omega (arith, n))
link_failed Calm words told told_now link reads writes taken now (Err (TooLarge file)) h n = absurd (omega (arith, n))

-- there is no other ending
pub status_is_one : (Calm : Type 0) (words : List (List ℕ)) (told told_now : Option Shelf) (link : Link) (reads writes : Count) (taken now : Option (List ℕ)) (e : Result (Unit {0}) Stop) → Ends Calm words told told_now link reads writes taken now e
    → IsOneOf (status_of e) (0 ∷ 1 ∷ 2 ∷ 3 ∷ 4 ∷ 5 ∷ 6 ∷ 7 ∷ 8 ∷ [])
status_is_one Calm words told told_now link reads writes taken now (Ok done) h = inl refl
status_is_one Calm words told told_now link reads writes taken now (Err (Refused what)) h = inr (inl refl)
status_is_one Calm words told told_now link reads writes taken now (Err Usage) h = inr (inr (inl refl))
status_is_one Calm words told told_now link reads writes taken now (Err (ReadFault file)) h = inr (inr (inr (inl refl)))
status_is_one Calm words told told_now link reads writes taken now (Err WriteFault) h = inr (inr (inr (inr (inl refl))))
status_is_one Calm words told told_now link reads writes taken now (Err NoMemory) h = inr (inr (inr (inr (inr (inl refl)))))
status_is_one Calm words told told_now link reads writes taken now (Err LinkFault) h = inr (inr (inr (inr (inr (inr (inl refl))))))
status_is_one Calm words told told_now link reads writes taken now (Err (TooLarge file)) h = inr (inr (inr (inr (inr (inr (inr (inl refl)))))))
status_is_one Calm words told told_now link reads writes taken now (Err NoStep2) h = inr (inr (inr (inr (inr (inr (inr (inr (inl refl))))))))

-- ---- which statuses can come where this is due

-- its own
own_comes : (due : Due) → IsOneOf (status_of_due due) (statuses_of_due due)
own_comes usage = inl refl
own_comes (refusal line) = inl refl
own_comes (over_limit name) = inl refl
own_comes (lacking name) = inl refl
own_comes no_step_2 = inl refl
own_comes (output bytes) = inl refl

-- want of memory
pub five_comes : (due : Due) → IsOneOf 5 (statuses_of_due due)
five_comes usage = inr (inl refl)
five_comes (refusal line) = inr (inl refl)
five_comes (over_limit name) = inr (inl refl)
five_comes (lacking name) = inr (inl refl)
five_comes no_step_2 = inr (inl refl)
five_comes (output bytes) = inr (inl refl)

-- a fault of the library, where the words are of a form
three_comes : (words : List (List ℕ)) (told : Option Shelf) (Holds : Command → List File → Type 0) (due : Due) → IsDue words told due → AsksFor words Holds → IsOneOf 3 (statuses_of_due due)
three_comes words told Holds usage is w = absurd (is w.command w.files w.asks)
three_comes words told Holds (refusal line) is w = inr (inr (inl refl))
three_comes words told Holds (over_limit name) is w = inr (inr (inl refl))
three_comes words told Holds (lacking name) is w = inl refl
three_comes words told Holds no_step_2 is w = absurd is
three_comes words told Holds (output bytes) is w = inr (inr (inl refl))

-- a status that no fault gave is that of what is due, or want of memory
pub in_due : (words : List (List ℕ)) (told : Option Shelf) (due : Due) (status : ℕ) → IsDue words told due → IsOneOf status (statuses_of_due due) →
    (status ≡ 3 → IsOfDue words told (λ done. status_of_due done ∷ 5 ∷ []) status) → status ≢ 4 → IsOfDue words told (λ done. status_of_due done ∷ 5 ∷ []) status
in_due words told usage status is one read written = (usage, is, one)
in_due words told (refusal line) status is (inl e) read written = (refusal line, is, inl e)
in_due words told (refusal line) status is (inr (inl e)) read written = (refusal line, is, inr (inl e))
in_due words told (refusal line) status is (inr (inr (inl e))) read written = read e
in_due words told (refusal line) status is (inr (inr (inr e))) read written = absurd e
in_due words told (over_limit name) status is (inl e) read written = (over_limit name, is, inl e)
in_due words told (over_limit name) status is (inr (inl e)) read written = (over_limit name, is, inr (inl e))
in_due words told (over_limit name) status is (inr (inr (inl e))) read written = read e
in_due words told (over_limit name) status is (inr (inr (inr e))) read written = absurd e
in_due words told (lacking name) status is one read written = (lacking name, is, one)
in_due words told no_step_2 status is one read written = absurd is
in_due words told (output bytes) status is (inl e) read written = (output bytes, is, inl e)
in_due words told (output bytes) status is (inr (inl e)) read written = (output bytes, is, inr (inl e))
in_due words told (output bytes) status is (inr (inr (inl e))) read written = read e
in_due words told (output bytes) status is (inr (inr (inr (inl e)))) read written = absurd (written e)
in_due words told (output bytes) status is (inr (inr (inr (inr e)))) read written = absurd e

-- ---- the network

-- where it failed, the words ask for it
loses_online : (words : List (List ℕ)) (told : Option Shelf) (link : Link) → LosesItsNetwork words told link → GoesOnline words told
loses_online words told link w = goes_online words told (LosesNetwork link) online w
  where
    online : (command : Command) (inputs : Inputs) → LosesNetwork link command inputs → IsOnline command
    online (serve address turns) inputs is = tt
    online (sync address turns) inputs is = tt
    online command inputs is = absurd is

-- and its count rose
pub loses_rose : (words : List (List ℕ)) (told : Option Shelf) (link : Link) → LosesItsNetwork words told link → Rose link.before.faults link.now.faults
loses_rose words told link w = rose w.command w.holds.0 w.holds.2
  where
    rose : (command : Command) (inputs : Inputs) → LosesNetwork link command inputs → Rose link.before.faults link.now.faults
    rose (serve address turns) inputs is = is.1.rose
    rose (sync address turns) inputs is = is.1.rose
    rose command inputs is = absurd is

-- ---- what an ending says

-- why its status comes
pub ends_reason : (Calm : Type 0) (words : List (List ℕ)) (told told_now : Option Shelf) (link : Link) (reads writes : Count) (taken now : Option (List ℕ)) (e : Result (Unit {0}) Stop) → Ends Calm words told told_now link reads writes taken now e
    → HasReason words told link reads writes (status_of e)
ends_reason Calm words told told_now link reads writes taken now e h = record {
  as_due = λ one. let d = as_due Calm words told told_now link reads writes taken now e h one in (d.due, d.is_due, d.status_is);
  read_fault = λ n. (read_failed Calm words told told_now link reads writes taken now e h n).0;
  write_fault = λ n. (write_failed Calm words told told_now link reads writes taken now e h n).0;
  link_fault = λ n. (link_failed Calm words told told_now link reads writes taken now e h n).0;
}

-- what is due in the one way or the other is not of words of no form, but for the usage line
in_form : (words : List (List ℕ)) (told : Option Shelf) (link : Link) (due : Due) → IsDueIn words told link due → status_of_due due ≢ 2 → AreOfNoForm words → ⊥
in_form words told link usage is other never = other refl
in_form words told link (refusal line) (inl d) other never = never d.command d.files d.asks
in_form words told link (refusal line) (inr d) other never = never d.command d.files d.asks
in_form words told link (over_limit name) (inl d) other never = never d.command d.files d.asks
in_form words told link (over_limit name) (inr d) other never = d
in_form words told link (lacking name) (inl d) other never = never d.command d.files d.asks
in_form words told link (lacking name) (inr d) other never = d
in_form words told link no_step_2 (inl d) other never = d
in_form words told link no_step_2 (inr d) other never = never d.command d.files d.asks
in_form words told link (output bytes) (inl d) other never = never d.command d.files d.asks
in_form words told link (output bytes) (inr d) other never = never d.command d.files d.asks

-- which status comes where the words are of no form
ends_no_form : (Calm : Type 0) (words : List (List ℕ)) (told told_now : Option Shelf) (link : Link) (reads writes : Count) (taken now : Option (List ℕ)) (e : Result (Unit {0}) Stop) → Ends Calm words told told_now link reads writes taken now e
    → AreOfNoForm words → IsOneOf (status_of e) (2 ∷ 5 ∷ [])
ends_no_form Calm words told told_now link reads writes taken now (Ok done) h never = let due = written_due words told link taken now h in absurd (in_form words told link (output due.0) due.1 (λ e. omega (arith, e)) never)
ends_no_form Calm words told told_now link reads writes taken now (Err (Refused what)) h never = absurd (in_form words told link (refusal (refusal_line what)) h (λ e. omega (arith, e)) never)
ends_no_form Calm words told told_now link reads writes taken now (Err Usage) h never = inl refl
ends_no_form Calm words told told_now link reads writes taken now (Err (ReadFault file)) h never = absurd (never h.1.command h.1.files h.1.asks)
ends_no_form Calm words told told_now link reads writes taken now (Err WriteFault) h never = absurd (in_form words told link (output h.1.0) h.1.1 (λ e. omega (arith, e)) never)
ends_no_form Calm words told told_now link reads writes taken now (Err LinkFault) h never = absurd (never h.command h.files h.asks)
ends_no_form Calm words told told_now link reads writes taken now (Err NoStep2) h never = absurd (never h.command h.files h.asks)
ends_no_form Calm words told told_now link reads writes taken now (Err NoMemory) h never = inr (inl refl)
ends_no_form Calm words told told_now link reads writes taken now (Err (TooLarge file)) h never = absurd (never h.command h.files h.asks)

-- which status comes where something is due
pub ends_told : (Calm : Type 0) (words : List (List ℕ)) (told told_now : Option Shelf) (link : Link) (reads writes : Count) (taken now : Option (List ℕ)) (e : Result (Unit {0}) Stop) → Ends Calm words told told_now link reads writes taken now e
    → (due : Due) → IsTold told → IsDue words told due → IsOfDue words told statuses_of_due (status_of e)
ends_told Calm words told told_now link reads writes taken now e h due is_told is = by_ending e h
  where
    same : (other : Due) → IsDueIn words told link other → IsOfDue words told statuses_of_due (status_of_due other)
    same other also = (other, due_in_alone words told link due other is_told is also, own_comes other)

    by_ending : (f : Result (Unit {0}) Stop) → Ends Calm words told told_now link reads writes taken now f → IsOfDue words told statuses_of_due (status_of f)
    by_ending (Ok done) ends = let other = written_due words told link taken now ends in same (output other.0) other.1
    by_ending (Err (Refused what)) ends = same (refusal (refusal_line what)) ends
    by_ending (Err Usage) ends = same usage (inl ends)
    by_ending (Err (ReadFault other)) ends = (due, is, three_comes words told (λ command files. (file : File) × FailsAt Calm told told_now files file × (other.name.now ≡ file.name)) due is ends.1)
    by_ending (Err WriteFault) ends = (output ends.1.0, due_in_alone words told link due (output ends.1.0) is_told is ends.1.1, inr (inr (inr (inl refl))))
    by_ending (Err LinkFault) ends = absurd (due_offline words told due is_told is (loses_online words told link ends))
    by_ending (Err NoStep2) ends = same no_step_2 (inr ends)
    by_ending (Err NoMemory) ends = (due, is, five_comes due)
    by_ending (Err (TooLarge file)) ends = same (over_limit file.name.now) (inl ends)

-- which status comes where the words ask for the network
pub ends_online : (Calm : Type 0) (words : List (List ℕ)) (told told_now : Option Shelf) (link : Link) (reads writes : Count) (taken now : Option (List ℕ)) (e : Result (Unit {0}) Stop) → Ends Calm words told told_now link reads writes taken now e
    → IsTold told → GoesOnline words told → IsOneOf (status_of e) (0 ∷ 1 ∷ 3 ∷ 4 ∷ 5 ∷ 6 ∷ 8 ∷ [])
ends_online Calm words told told_now link reads writes taken now (Ok done) h is_told goes = inl refl
ends_online Calm words told told_now link reads writes taken now (Err (Refused what)) h is_told goes = inr (inl refl)
ends_online Calm words told told_now link reads writes taken now (Err Usage) h is_told goes = absurd (h goes.command goes.files goes.asks)
ends_online Calm words told told_now link reads writes taken now (Err (ReadFault file)) h is_told goes = inr (inr (inl refl))
ends_online Calm words told told_now link reads writes taken now (Err WriteFault) h is_told goes = inr (inr (inr (inl refl)))
ends_online Calm words told told_now link reads writes taken now (Err NoMemory) h is_told goes = inr (inr (inr (inr (inl refl))))
ends_online Calm words told told_now link reads writes taken now (Err LinkFault) h is_told goes = inr (inr (inr (inr (inr (inl refl)))))
ends_online Calm words told told_now link reads writes taken now (Err NoStep2) h is_told goes = inr (inr (inr (inr (inr (inr (inl refl))))))
ends_online Calm words told told_now link reads writes taken now (Err (TooLarge file)) h is_told goes = absurd (due_offline words told (over_limit file.name.now) is_told h goes)

pub ends_comes : (Calm : Type 0) (words : List (List ℕ)) (told told_now : Option Shelf) (link : Link) (reads writes : Count) (taken now : Option (List ℕ)) (e : Result (Unit {0}) Stop) → Ends Calm words told told_now link reads writes taken now e
    → Comes words told (status_of e)
ends_comes Calm words told told_now link reads writes taken now e h = record {
  is_status = status_is_one Calm words told told_now link reads writes taken now e h;
  no_form = ends_no_form Calm words told told_now link reads writes taken now e h;
  where_told = ends_told Calm words told told_now link reads writes taken now e h;
  online = ends_online Calm words told told_now link reads writes taken now e h;
}

-- what is due where the library failed and no call was set to fail
pub lacking_due : (Calm : Type 0) (words : List (List ℕ)) (told told_now : Option Shelf) (line : List ℕ) → Calm → IsTold told
    → AsksFor words (λ command files. (file : File) × FailsAt Calm told told_now files file × (line ≡ read_fault_line file.name)) → (name : List ℕ) × IsDue words told (lacking name)
lacking_due Calm words told told_now line calm is_told w =
    (w.holds.0.name, record { command = w.command; files = w.files; asks = w.asks; holds = (w.holds.0, record { reached = w.holds.1.reached; not_accepted = tt; verdict_is = w.holds.1.is_missing calm is_told }, refl) })

-- its line
pub ends_line : (Calm : Type 0) (words : List (List ℕ)) (told told_now : Option Shelf) (link : Link) (reads writes : Count) (taken now : Option (List ℕ)) (e : Result (Unit {0}) Stop) → Ends Calm words told told_now link reads writes taken now e
    → IsLine Calm words told told_now link (status_of e) (line_of e)
ends_line Calm words told told_now link reads writes taken now e h = record {
  as_due = λ one. let d = as_due Calm words told told_now link reads writes taken now e h (inr one) in (d.due, d.is_due, d.status_is, d.line_is);
  read_fault = λ n. (read_failed Calm words told told_now link reads writes taken now e h n).1;
  write_fault = λ n. (write_failed Calm words told told_now link reads writes taken now e h n).2;
  no_memory = λ n. (memory_wanted Calm words told told_now link reads writes taken now e h n).1;
  link_fault = λ n. (link_failed Calm words told told_now link reads writes taken now e h n).1;
}
