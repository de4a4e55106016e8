pub mod Happening
pub mod Leading
pub mod Lists
pub mod Obeying
pub mod Replying
pub mod Seats
pub mod Telling
pub mod Touching
