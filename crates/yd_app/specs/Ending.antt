-- What each ending of a run says (own).
use Rattle.std.specs.Prelude.{◌≡◌, ◌⊎◌, ℕ, List, Option, Result, Ok, Err}
use Rattle.yd_world.specs.Shelf.{Shelf}
use Rattle.yd_ending.specs.Lines.{refusal_line}
use Rattle.yd_ending.specs.declared.stop.Stop.{Stop}
use Rattle.yd_ending.specs.declared.stop.Stop.TheVariants.{Usage, Refused, ReadFault, TooLarge, NoMemory, WriteFault, LinkFault, NoStep2}
use Rattle.yd_files.specs.Counts.{Count, RoseIn}
use Rattle.yd_files.specs.Files.{File}
use Rattle.yd_files.specs.Reading.{FailsAt}
use Rattle.yd_app.specs.Due.{IsDue, IsDueIn, IsDueOver, no_step_2, over_limit, refusal, usage}
use Rattle.yd_app.specs.Link.{Link}
use Rattle.yd_app.specs.Online.{LosesItsNetwork}
use Rattle.yd_app.specs.Run.{Writes, WritesPart}
use Rattle.yd_asking.specs.Words.{AsksFor}

-- what each ending says of the words, the files, the network, the counts and the output
abbrev pub Ends : Type 0 → List (List ℕ) → Option Shelf → Option Shelf → Link → Count → Count → Option (List ℕ) → Option (List ℕ) → Result (Unit {0}) Stop → Type 0
Ends Calm words told told_now link reads writes taken now (Ok done) = Writes words told link taken now
Ends Calm words told told_now link reads writes taken now (Err (Refused what)) = IsDueIn words told link (refusal (refusal_line what))
Ends Calm words told told_now link reads writes taken now (Err Usage) = IsDue words told usage
Ends Calm words told told_now link reads writes taken now (Err (ReadFault other)) =
    RoseIn reads × AsksFor words (λ command files. (file : File) × FailsAt Calm told told_now files file × (other.name.now ≡ file.name))
Ends Calm words told told_now link reads writes taken now (Err (TooLarge file)) = IsDue words told (over_limit file.name.now)
Ends Calm words told told_now link reads writes taken now (Err WriteFault) = RoseIn writes × WritesPart words told link taken now
Ends Calm words told told_now link reads writes taken now (Err LinkFault) = LosesItsNetwork words told link
Ends Calm words told told_now link reads writes taken now (Err NoStep2) = IsDueOver words told link no_step_2
Ends Calm words told told_now link reads writes taken now (Err NoMemory) = (now ≡ taken) ⊎ WritesPart words told link taken now
