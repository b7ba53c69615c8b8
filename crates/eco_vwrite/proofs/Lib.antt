mod WellFormed
mod Trees
mod Plainly
mod Cells
mod Printing
mod Said
mod ReadBack
mod Turns
