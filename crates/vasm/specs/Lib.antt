pub mod Pieces
pub mod Views
pub mod Labels
pub mod Puts
pub mod Fits
pub mod Assembled
pub mod Listing
pub mod ShownListing
