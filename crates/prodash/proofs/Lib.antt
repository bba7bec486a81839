pub mod EngineSteps
pub mod DashboardSteps
mod HistoryLaws
mod HistorySteps
mod JournalLaws
mod ListPrefixes
mod ShownTrees
mod CallLaws
mod KeptCallLaws
mod CallTurns
mod ViewTurns
mod ViewTicks
mod TurnLaws
mod WorkedItems
mod PlainTables
mod ParentPaths
mod WorkedPlainLines
pub mod CallerLaws
pub mod FirstFrames
