pub mod FillLaws
pub mod RowLaws
pub mod SeriesLaws
pub mod TimeLaws
pub mod ToldLaws
pub mod ZoneLaws
