pub mod Turning
pub mod Mended
