-- The links in memory, and what a contract sees of them (own).
use Rattle.std.specs.Prelude.{◌≡◌, ◌≢◌, ◌<◌, ◌≤◌, ℕ, List, [], Option, Some, None, length, get_or}
use Rattle.yd_chains.specs.declared.links.Link.{Link}
use Rattle.yd_chains.specs.declared.links.Ends.{Ends}
use Rattle.yd_words.specs.Member.{IsIn, AreDistinct}
use Rattle.yd_chains.specs.Chain.{first_of, last_of, first_with, last_with, first_over, IsLinked, walked}

-- a place without links
abbrev pub no_link : Link
no_link = record { chain = None; prev = None; next = None }

-- the ends of a chain without places
abbrev pub no_ends : Ends
no_ends = record { first = None; last = None }

-- the place before a place
abbrev pub prev_of : List Link → ℕ → Option ℕ
prev_of links i = (get_or links i no_link).prev

-- the place behind it
abbrev pub next_of : List Link → ℕ → Option ℕ
next_of links i = (get_or links i no_link).next

-- the chain that it is in, if it is in one
abbrev pub chain_of : List Link → ℕ → Option ℕ
chain_of links i = (get_or links i no_link).chain

-- the ends of the chain with a number
abbrev pub ends_at : List Ends → ℕ → Ends
ends_at ends k = get_or ends k no_ends

-- the places of a chain
abbrev pub places_of : List Link → Ends → List ℕ
places_of links ends = walked (next_of links) (length links) ends.first

-- the places of the chain with a number
abbrev pub places_at : List Link → List Ends → ℕ → List ℕ
places_at links ends k = places_of links (ends_at ends k)

-- the places are a chain of this number
pub record IsChain (links : List Link) (chain : ℕ) (ends : Ends) (places : List ℕ) : Type 0 where
  pub linked : IsLinked (prev_of links) (next_of links) None places
  pub distinct : AreDistinct places
  pub own : (i : ℕ) → IsIn i places → (i < length links) × (chain_of links i ≡ Some chain)
  pub first : ends.first ≡ first_of places
  pub last : ends.last ≡ last_of places

-- each of the chains is one of its number, with the places that its links go through
abbrev pub AreChains : List Link → List Ends → Type 0
AreChains links ends = (k : ℕ) → k < length ends → IsChain links k (get_or ends k no_ends) (places_of links (get_or ends k no_ends))

-- a place that names a chain is in it, and one that names none has no neighbours
pub record AreFiled (links : List Link) (ends : List Ends) : Type 0 where
  pub filed : (i k : ℕ) → chain_of links i ≡ Some k → (k < length ends) × IsIn i (places_of links (ends_at ends k))
  pub loose : (i : ℕ) → chain_of links i ≡ None → (prev_of links i ≡ None) × (next_of links i ≡ None)

-- the links are chains of places, each place names its own, and there are at most so many places and so many chains
pub record AreLinked (links : List Link) (ends : List Ends) (most : ℕ) : Type 0 where
  pub chains : AreChains links ends
  pub filed : AreFiled links ends
  pub few_places : length links ≤ most
  pub few_chains : length ends ≤ most

-- what a contract sees: how many places there are, and the places of each chain in order
pub record Chained : Type 0 where
  pub count : ℕ
  pub chains : List (List ℕ)

-- only the next of a place changes
pub record SetsNext (old new : List Link) (at : ℕ) (next : Option ℕ) : Type 0 where
  pub len : length new ≡ length old
  pub chains : (i : ℕ) → chain_of new i ≡ chain_of old i
  pub prevs : (i : ℕ) → prev_of new i ≡ prev_of old i
  pub here : next_of new at ≡ next
  pub others : (i : ℕ) → i ≢ at → next_of new i ≡ next_of old i

-- only one place changes, and has no chain and no neighbours
pub record Clears (old new : List Link) (at : ℕ) : Type 0 where
  pub len : length new ≡ length old
  pub here : get_or new at no_link ≡ no_link
  pub others : (i : ℕ) → i ≢ at → get_or new i no_link ≡ get_or old i no_link

-- only the one before a place changes
pub record SetsPrev (old new : List Link) (at : ℕ) (prev : Option ℕ) : Type 0 where
  pub len : length new ≡ length old
  pub chains : (i : ℕ) → chain_of new i ≡ chain_of old i
  pub nexts : (i : ℕ) → next_of new i ≡ next_of old i
  pub here : prev_of new at ≡ prev
  pub others : (i : ℕ) → i ≢ at → prev_of new i ≡ prev_of old i

-- the ends of a chain with one place more between two neighbours
abbrev pub widened : Ends → Option ℕ → Option ℕ → ℕ → Ends
widened ends before behind new = record { first = first_with ends.first before new; last = last_with ends.last behind new }

-- the ends of a chain without what stands between two neighbours
abbrev pub narrowed : Ends → Option ℕ → Option ℕ → Ends
narrowed ends before behind = record { first = first_over ends.first before behind; last = first_over ends.last behind before }

-- the place is in no chain
abbrev pub IsLoose : List Link → List Ends → ℕ → Type 0
IsLoose links ends place = (k : ℕ) → k < length ends → IsIn place (places_of links (ends_at ends k)) → ⊥

-- one chain has these places, and the others have what they had
pub record Changes (old_links new_links : List Link) (old_ends new_ends : List Ends) (chain : ℕ) (places : List ℕ) : Type 0 where
  pub links_len : length new_links ≡ length old_links
  pub ends_len : length new_ends ≡ length old_ends
  pub here : places_of new_links (ends_at new_ends chain) ≡ places
  pub others : (k : ℕ) → k < length old_ends → k ≢ chain → places_of new_links (ends_at new_ends k) ≡ places_of old_links (ends_at old_ends k)
  pub are_chains : AreChains new_links new_ends

-- the places of the chain with a number
abbrev pub chain_at : Chained → ℕ → List ℕ
chain_at it k = get_or it.chains k []

-- the place is in no chain, as a contract sees it
abbrev pub IsFree : Chained → ℕ → Type 0
IsFree it place = (k : ℕ) → k < length it.chains → IsIn place (get_or it.chains k []) → ⊥

-- no chain has a place twice, each place is below the count, no two chains share one, and no chain is longer than the count
pub record AreSound (it : Chained) : Type 0 where
  pub distinct : (k : ℕ) → k < length it.chains → AreDistinct (get_or it.chains k [])
  pub within : (k i : ℕ) → k < length it.chains → IsIn i (get_or it.chains k []) → i < it.count
  pub apart : (j k i : ℕ) → j < length it.chains → k < length it.chains → j ≢ k → IsIn i (get_or it.chains j []) → IsIn i (get_or it.chains k []) → ⊥
  pub short : (k : ℕ) → k < length it.chains → length (get_or it.chains k []) ≤ it.count
