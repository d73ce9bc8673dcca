pub mod JsonLemmas
