pub mod ShownTouches
pub mod ShownFrames
pub mod ShownRegisters
pub mod ShownBorders
pub mod ShownWidths
pub mod Registers
