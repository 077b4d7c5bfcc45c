-- The running law, and the law of conditions.
pub mod Decode
pub mod Steps
pub mod MachineRuns
pub mod Promise
pub mod Nodes
pub mod Conditions
pub mod Induction
pub mod Law
pub mod Accepted
pub mod ConditionLaw
pub mod Ieee
pub mod Instance
pub mod ConditionLawRefuted
