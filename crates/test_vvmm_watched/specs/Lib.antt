pub mod ShownTouches
