pub mod HoursLaws
pub mod NumberedLaws
pub mod OrderLaws
pub mod InsideLaws
pub mod TimesLaws
pub mod ListLaws
pub mod SampleLaws
