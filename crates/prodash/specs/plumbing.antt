pub mod CountedTurns
pub mod LockedCalls
pub mod EngineFrames
pub mod DashboardSteps
pub mod Histories
pub mod Recordings
pub mod SeenTrees
pub mod SaidTexts
