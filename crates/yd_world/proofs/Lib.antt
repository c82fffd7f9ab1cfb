pub mod MemoryLibraryLemmas
