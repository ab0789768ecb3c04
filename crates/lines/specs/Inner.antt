pub mod Entries
pub mod FormLines
pub mod LinesWritten
pub mod Room
pub mod Leak
