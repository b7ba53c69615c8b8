mod Alike
mod Splitting
