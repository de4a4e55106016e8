pub mod RealTables
pub mod Machine
pub mod Real
pub mod RealLaws
pub mod ShownMachine
pub mod ShownReal
