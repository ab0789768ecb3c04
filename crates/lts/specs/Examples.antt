-- Small systems, which proofs/Examples judges by the definitions.
pub mod Systems
pub mod Listed
