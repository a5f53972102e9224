pub mod PlaceLaws
pub mod ShiftLaws
pub mod LengthLaws
pub mod RunLaws
pub mod HeldLaws
