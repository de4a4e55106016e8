pub mod Lives
pub mod Made
pub mod Operator
pub mod Order
pub mod Typing
