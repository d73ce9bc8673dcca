pub mod LoopLemmas
pub mod GoodsLemmas
pub mod ReadLemmas
pub mod WriteLemmas
pub mod FoldLemmas
pub mod AgreementLemmas
