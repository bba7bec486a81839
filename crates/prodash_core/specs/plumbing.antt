pub mod MissingNames
pub mod BranchBytes
pub mod Handles
pub mod Inputs
pub mod MessageRefusals
pub mod TaskRows
