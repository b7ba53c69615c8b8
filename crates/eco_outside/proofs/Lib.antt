pub mod FileLists
