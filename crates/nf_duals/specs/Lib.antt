pub mod Printed
pub mod Priced
pub mod Factor
