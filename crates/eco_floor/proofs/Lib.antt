pub mod Sets
mod Packed
mod Settled
