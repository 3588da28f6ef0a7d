pub mod AgentSteps
pub mod Arguments
pub mod Finding
