pub mod Laws
pub mod Payers
pub mod Accounts
pub mod Lower
