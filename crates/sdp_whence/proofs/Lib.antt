pub mod PointLaws
pub mod GrowLaws
pub mod ThereLaws
pub mod WhenceLaws
