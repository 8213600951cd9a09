pub mod SameRows
pub mod SiteRows
pub mod UnderLayers
pub mod WorkedOut
pub mod TableLines
pub mod Posted
pub mod Verdicts
