pub mod BreachLemmas
pub mod AuditLemmas
pub mod SolutionLemmas
pub mod ZxLemmas
pub mod FlowLemmas
pub mod VerifyLemmas
pub mod FaultLemmas
