pub mod ShownApplied
pub mod ShownDevices
pub mod ShownLengths
pub mod ShownSlices
pub mod ShownStops
pub mod ShownTyped
pub mod ShownWords
pub mod Slices
