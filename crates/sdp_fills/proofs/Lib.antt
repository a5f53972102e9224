pub mod FillLaws
pub mod EarlierLaws
