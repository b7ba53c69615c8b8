pub mod Least
pub mod PayerLaws
pub mod PartLaws
pub mod SightLaws
pub mod Lowering
pub mod AccountLaws
pub mod RaisingLaws
