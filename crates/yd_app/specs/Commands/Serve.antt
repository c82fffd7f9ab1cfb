-- What `serve` writes of an update: all that a server has of it after its turns, in the format of its file (own).
use Rattle.std.specs.Prelude.{◌≡◌, ℕ, List, [], ◌∷◌}
use Rattle.yd_ops.specs.Value.{UpdateValue}
use Rattle.yd_files.specs.declared.kind.Kind.{Kind}
use Rattle.yd_hub.specs.Hub.{HubState}
use Rattle.yd_serving.specs.Serving.{LosesLink}
use Rattle.yd_serving.specs.Updates.{ServesUpdate, hub_with}
use Rattle.yd_app.specs.Commands.Convert.{StandsAgain, converted_bytes}
use Rattle.yd_app.specs.Commands.Cut.{form_of_kind}
use Rattle.yd_app.specs.Link.{Link}
use Rattle.yd_asking.specs.declared.format.Format.{Format}
use Rattle.yd_asking.specs.declared.format.Format.TheVariants.{V1}

-- an update that says nothing
abbrev pub no_update : UpdateValue
no_update = record { blocks = []; deletes = [] }

-- the one update that the files stand for; without one, one that says nothing
abbrev pub the_update : List UpdateValue → UpdateValue
the_update [] = no_update
the_update (update ∷ updates) = update

-- the format of the one file
abbrev pub form_of_one : List Kind → Format
form_of_one [] = V1
form_of_one (kind ∷ kinds) = form_of_kind kind

-- the update was served for so many turns; the bytes are all that the server then has, in the format, and stand for it again
pub record IsServed (form : Format) (turns : ℕ) (update : UpdateValue) (link : Link) (bytes : List ℕ) : Type 0 where
  pub reply : UpdateValue
  pub served : ServesUpdate turns update reply link.before link.now
  pub bytes_are : bytes ≡ converted_bytes form reply
  pub again : StandsAgain form bytes reply

-- the board did not start, or had no event for one turn more
abbrev pub LosesServer : ℕ → UpdateValue → Link → Type 0
LosesServer turns update link = (hub : HubState) × LosesLink turns (hub_with update) hub link.before link.now
