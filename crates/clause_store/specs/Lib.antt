pub mod Signs
pub mod Arenas
pub mod Assignments
pub mod Resolvents
pub mod Derivations
pub mod Laws
