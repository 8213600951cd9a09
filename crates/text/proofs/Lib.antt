pub mod Fronts
pub mod Pieces
pub mod Cursor
pub mod Ends
pub mod Digits
pub mod Items
pub mod Plain
