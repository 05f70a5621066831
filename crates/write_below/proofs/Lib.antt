-- Laws of ways up, and of chains of steps down.
--   StepLaws    the way up from v to u's class, step by step
--   ChainLaws   what each run of lines of a chain adds
--   WayLaws     the lines of a way
pub mod StepLaws
pub mod ChainLaws
pub mod WayLaws
