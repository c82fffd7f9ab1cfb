-- What an edit reads of a state: it is a `Basis` of `yd_editing`, over the state's own document.
use Rattle.yd_ids.specs.declared.id.Client.{Client}
use Rattle.yd_state.specs.State.{StateValue, received_in, document_in}
use Rattle.yd_editing.specs.Basis.{Basis, basis_over}
use Rattle.yd_making.specs.declared.basis.Basis.{Basis as BasisGiven}

-- what an edit of a client reads of a state
abbrev pub basis_in : Client → StateValue → Basis
basis_in client s = basis_over client (document_in s) (received_in s)

-- of a basis as it is given
abbrev pub basis_of_given : BasisGiven → Basis
basis_of_given basis = basis_in basis.client basis.state.now
