pub mod Certificates
pub mod Moving
pub mod Deciding
pub mod Laws
