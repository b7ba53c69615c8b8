mod Adding
mod Behind
mod Parts
mod Asking
mod Questions
