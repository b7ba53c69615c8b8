pub mod Store
pub mod Sink
pub mod Kept
pub mod MemStore
pub mod SureStore
pub mod MemSink
pub mod Edge
