pub mod Faults
pub mod Versions
pub use Rattle.prodash_line.specs.Dimensions
pub use Rattle.prodash_line.specs.Environments
