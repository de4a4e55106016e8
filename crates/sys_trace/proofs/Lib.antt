mod Columns
mod Lines
mod Pages
mod Turns
