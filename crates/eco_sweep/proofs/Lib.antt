mod Copying
mod Asking
mod Differing
