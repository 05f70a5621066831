-- Laws of traces.
--   NodeLaws    functor nodes of the state that arrays hold
--   TraceLaws   what a trace joins stands in the closure; at most 63 entries
--   LoopLaws    two slices gone over side by side
--   StepLaws    steps that extend a trace, put together
--   ReasonLaws  the reasons that nodes and equations give
--   ReplayLaws  a trace replayed entry by entry
pub mod NodeLaws
pub mod TraceLaws
pub mod LoopLaws
pub mod StepLaws
pub mod ReasonLaws
pub mod ReplayLaws
