mod DrawnLemmas
mod FoundLemmas
mod ReplicaLemmas
mod TurnLemmas
