-- How much waits: the numbers that a replica tells.
use Rattle.yd_meaning.specs.Held.{WaitingCounts}
use Rattle.yd_doc.specs.declared.waiting.Waiting.{Waiting}

-- the numbers that are told
abbrev pub counts_of : Waiting → WaitingCounts
counts_of waiting = record { structs = waiting.structs; deletes = waiting.deletes }
