pub mod HalfLaws
pub mod Magnitudes
pub mod Laws
