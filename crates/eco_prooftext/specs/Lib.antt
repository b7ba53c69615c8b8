pub mod Texts
pub mod TraceFile
pub mod TraceRead
pub mod Written
pub mod CnfFile
pub mod Reading
