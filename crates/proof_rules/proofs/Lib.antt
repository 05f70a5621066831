-- Laws about rules 1, 2, 3 and 6.
--   LookupLaws what `get` of a slice finds
--   NodeLaws   functor nodes, read off the arrays; rule 3
--   NameLaws   the equation of a name
--   OfferLaws  an offered equation whose nodes are known
pub mod LookupLaws
pub mod NodeLaws
pub mod NameLaws
pub mod OfferLaws
