pub mod InPage
pub mod Known
pub mod Paged
pub mod Puts
pub mod Tagged
pub mod ShownInPage
