pub mod FlowLemmas
