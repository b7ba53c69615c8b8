mod Asking
mod Listed
