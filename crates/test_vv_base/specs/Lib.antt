pub mod ShownFronts
