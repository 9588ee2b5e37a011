pub mod Field
pub mod Gcd
pub mod Rational
pub mod Sum
