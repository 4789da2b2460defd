pub mod Signs
mod Arenas
