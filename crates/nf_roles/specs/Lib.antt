pub mod Sets
pub mod First
pub mod Roles
pub mod Named
pub mod Assigned
pub mod Kinds
pub mod Faults
pub mod Lookups
