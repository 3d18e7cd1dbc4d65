pub mod TableRoom
