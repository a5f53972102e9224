pub mod FineLaws
