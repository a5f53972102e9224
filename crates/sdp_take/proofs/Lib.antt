pub mod ShapeLaws
