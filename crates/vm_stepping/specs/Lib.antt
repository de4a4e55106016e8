pub mod Ran
pub mod Guarded
pub mod Made
pub mod Noted
pub mod Pays
pub mod Advances
