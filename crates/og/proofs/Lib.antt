pub mod NothingRan
