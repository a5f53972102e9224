pub mod TailLaws
pub mod WithinLaws
pub mod HandleLaws
pub mod OnceLaws
pub mod GoingLaws
pub mod MaybeLaws
