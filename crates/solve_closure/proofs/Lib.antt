-- Laws of the closure.
--   VisitLaws    a round made of visits
--   SettledLaws  from arrays to the state that they hold
--   OfferLaws    one equation more
pub mod VisitLaws
pub mod SettledLaws
pub mod OfferLaws
