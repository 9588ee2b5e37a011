pub mod OfState
