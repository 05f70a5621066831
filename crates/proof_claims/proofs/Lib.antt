-- Laws about one line.
--   FitLaws     a well-shaped workspace and an offer with known nodes meet what the checker asks
--   ClaimLaws   claims that the code holds, read as graph's, and one claim more
--   RuleLaws    what a line claims, rule by rule
pub mod FitLaws
pub mod ClaimLaws
pub mod RuleLaws
