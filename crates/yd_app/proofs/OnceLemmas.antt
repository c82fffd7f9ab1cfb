-- What is due over one network has one status and one line.
use Rattle.std.proofs.Common.{◌≡◌, ◌∙◌, ℕ, Bool, true, false, List, [], Option, Some, refl, sym, ap, subst}
use Rattle.yd_world.specs.Shelf.{Shelf}
use Rattle.yd_world.specs.Traffic.{Traffic}
use Rattle.yd_ending.specs.Lines.{link_fault_line, no_step_2_line}
use Rattle.yd_ending.specs.Message.{refused_message_line}
use Rattle.yd_files.proofs.VerdictLemmas.{stand_one}
use Rattle.yd_files.specs.Files.{File}
use Rattle.yd_files.specs.Verdict.{Inputs}
use Rattle.yd_hub.specs.Peer.{PeerState}
use Rattle.yd_hub.specs.Syncing.{Ending, done, no_link, refused, status_by}
use Rattle.yd_serving.proofs.OnceLemmas.{ends_once}
use Rattle.yd_serving.specs.Syncing.{Syncs}
use Rattle.yd_serving.specs.Updates.{peer_with}
use Rattle.yd_asking.proofs.WordLemmas.{asks_same}
use Rattle.yd_asking.specs.Command.{Command, serve, sync}
use Rattle.yd_asking.specs.Words.{AsksFor}
use Rattle.yd_app.specs.Commands.Serve.{the_update}
use Rattle.yd_app.specs.Due.{Due, IsDueOver, lacking, line_of_due, no_step_2, output, over_limit, refusal, status_of_due, usage}
use Rattle.yd_app.specs.Law.{OneEndsOnline}
use Rattle.yd_app.specs.Link.{Link}
use Rattle.yd_app.specs.Online.{IsOutputOver, IsRefusalOver, OfInputs, WantsStep2}

-- both say the same, in status and line
abbrev SayOne : Due → Due → Type 0
SayOne due other = (status_of_due due ≡ status_of_due other) × (line_of_due due ≡ line_of_due other)

-- ---- a client

-- the line that an ending gives
abbrev line_by : Ending → Bool → List ℕ
line_by done true = []
line_by done false = no_step_2_line
line_by (refused number fault) taken_step2 = refused_message_line number fault
line_by no_link taken_step2 = link_fault_line

-- a loop ended so, and this is due by it
record IsDueBy (turns : ℕ) (start : PeerState) (link : Link) (due : Due) : Type 0 where
  peer : PeerState
  ending : Ending
  synced : Syncs turns start peer link.before link.now ending
  status : status_of_due due ≡ status_by ending peer.taken_step2
  line : line_of_due due ≡ line_by ending peer.taken_step2

by_one : (turns : ℕ) (start : PeerState) (traffic : Traffic) (link : Link) (due other : Due) → link.before.told ≡ Some traffic → IsDueBy turns start link due → IsDueBy turns start link other → SayOne due other
by_one turns start traffic link due other told a b =
    let same = ends_once turns start a.peer b.peer traffic link.before link.now a.ending b.ending told a.synced b.synced in
    let status : status_by a.ending a.peer.taken_step2 ≡ status_by b.ending b.peer.taken_step2 =
    ap (λ (e : Ending). status_by e a.peer.taken_step2) same.1 ∙ ap (λ (p : PeerState). status_by b.ending p.taken_step2) same.0 in
    let line : line_by a.ending a.peer.taken_step2 ≡ line_by b.ending b.peer.taken_step2 =
    ap (λ (e : Ending). line_by e a.peer.taken_step2) same.1 ∙ ap (λ (p : PeerState). line_by b.ending p.taken_step2) same.0 in
    (a.status ∙ status ∙ sym b.status, a.line ∙ line ∙ sym b.line)

-- ---- a command

-- the command ends over the network so that this is due
abbrev EndsAs : Link → Command → Inputs → Due → Type 0
EndsAs link command inputs usage = ⊥
EndsAs link command inputs (refusal line) = IsRefusalOver link command inputs line
EndsAs link command inputs (over_limit name) = ⊥
EndsAs link command inputs (lacking name) = ⊥
EndsAs link command inputs no_step_2 = WantsStep2 link command inputs
EndsAs link command inputs (output bytes) = IsOutputOver link command inputs bytes

sync_by : (address : List ℕ) (turns : ℕ) (inputs : Inputs) (link : Link) (due : Due) → EndsAs link (sync address turns) inputs due → IsDueBy turns (peer_with (the_update inputs.updates)) link due
sync_by address turns inputs link usage so = absurd so
sync_by address turns inputs link (refusal line) so = record { peer = so.0; ending = refused so.1 so.2; synced = so.3; status = refl; line = so.4 }
sync_by address turns inputs link (over_limit name) so = absurd so
sync_by address turns inputs link (lacking name) so = absurd so
sync_by address turns inputs link no_step_2 so = record {
  peer = so.0;
  ending = done;
  synced = so.1;
  status = sym (ap (λ (taken : Bool). status_by done taken) so.2);
  line = sym (ap (λ (taken : Bool). line_by done taken) so.2);
}
sync_by address turns inputs link (output bytes) so = record {
  peer = so.synced.peer;
  ending = done;
  synced = so.synced.synced;
  status = sym (ap (λ (taken : Bool). status_by done taken) so.synced.taken);
  line = sym (ap (λ (taken : Bool). line_by done taken) so.synced.taken);
}

serve_one : (address : List ℕ) (turns : ℕ) (inputs : Inputs) (link : Link) (due other : Due) → EndsAs link (serve address turns) inputs due → EndsAs link (serve address turns) inputs other → SayOne due other
serve_one address turns inputs link (output bytes) (output others) a b = (refl, refl)
serve_one address turns inputs link (output bytes) usage a b = absurd b
serve_one address turns inputs link (output bytes) (refusal line) a b = absurd b
serve_one address turns inputs link (output bytes) (over_limit name) a b = absurd b
serve_one address turns inputs link (output bytes) (lacking name) a b = absurd b
serve_one address turns inputs link (output bytes) no_step_2 a b = absurd b
serve_one address turns inputs link usage other a b = absurd a
serve_one address turns inputs link (refusal line) other a b = absurd a
serve_one address turns inputs link (over_limit name) other a b = absurd a
serve_one address turns inputs link (lacking name) other a b = absurd a
serve_one address turns inputs link no_step_2 other a b = absurd a

-- a command that uses no network
none_alone : (link : Link) (command : Command) (inputs : Inputs) (due : Due) → ((line : List ℕ) → ¬ (IsRefusalOver link command inputs line)) → ¬ (WantsStep2 link command inputs)
    → ((bytes : List ℕ) → ¬ (IsOutputOver link command inputs bytes)) → ¬ (EndsAs link command inputs due)
none_alone link command inputs usage refuses wants writes so = so
none_alone link command inputs (refusal line) refuses wants writes so = refuses line so
none_alone link command inputs (over_limit name) refuses wants writes so = so
none_alone link command inputs (lacking name) refuses wants writes so = so
none_alone link command inputs no_step_2 refuses wants writes so = wants so
none_alone link command inputs (output bytes) refuses wants writes so = writes bytes so

command_one : (command : Command) (inputs : Inputs) (traffic : Traffic) (link : Link) (due other : Due) → link.before.told ≡ Some traffic → EndsAs link command inputs due → EndsAs link command inputs other → SayOne due other
command_one (serve address turns) inputs traffic link due other told a b = serve_one address turns inputs link due other a b
command_one (sync address turns) inputs traffic link due other told a b =
    by_one turns (peer_with (the_update inputs.updates)) traffic link due other told (sync_by address turns inputs link due a) (sync_by address turns inputs link other b)
command_one command inputs traffic link due other told a b = absurd (none_alone link command inputs due (λ line so. so) (λ so. so) (λ bytes so. so) a)

-- ---- what the words ask for

abbrev AskedEnds : Option Shelf → Link → Due → Command → List File → Type 0
AskedEnds told link due command files = OfInputs told files (λ inputs. EndsAs link command inputs due)

ends_as : (words : List (List ℕ)) (told : Option Shelf) (link : Link) (due : Due) → IsDueOver words told link due → AsksFor words (AskedEnds told link due)
ends_as words told link usage so = absurd so
ends_as words told link (refusal line) so = so
ends_as words told link (over_limit name) so = absurd so
ends_as words told link (lacking name) so = absurd so
ends_as words told link no_step_2 so = so
ends_as words told link (output bytes) so = so

pub ends_online : OneEndsOnline
ends_online words shelf traffic link due other told a b =
    let one = ends_as words (Some shelf) link due a in
    let two = ends_as words (Some shelf) link other b in
    let same = asks_same words two.command one.command two.files one.files two.asks one.asks in
    let held : AskedEnds (Some shelf) link other one.command one.files =
    subst (λ (fs : List File). AskedEnds (Some shelf) link other one.command fs) same.1 (subst (λ (c : Command). AskedEnds (Some shelf) link other c two.files) same.0 two.holds) in
    let inputs : held.0 ≡ one.holds.0 = stand_one shelf one.files held.0 one.holds.0 held.1 one.holds.1 in
    command_one one.command one.holds.0 traffic link due other told one.holds.2 (subst (λ (i : Inputs). EndsAs link one.command i other) inputs held.2)
