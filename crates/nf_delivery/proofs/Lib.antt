mod StoreFacts
pub mod DeliveryFacts
