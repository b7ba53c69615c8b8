mod Floors
mod Telling
mod WeighedLaws
mod ListLaws
mod AccountLaws
