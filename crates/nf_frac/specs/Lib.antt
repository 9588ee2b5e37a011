pub mod Amounts
pub mod Compared
pub mod Digits
pub mod Range
pub mod Texts
pub mod View
