pub mod ForwardSteps
pub mod RelayPoints
pub mod RelayRunSteps
pub mod RelaySteps
