pub mod Starting
pub mod Wide
