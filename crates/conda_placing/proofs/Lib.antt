pub mod PutLemmas
pub mod RowLemmas
pub mod ContentLemmas
pub mod PackageLemmas
