-- Laws of the writer's lines.
--   Claims     what each rule's line claims, and lists of lines with one more
--   SizeLaws   how large a class can be
--   RunLaws    what each run of lines adds
--   GoalLaws   lines that conclude what shows a goal are a proof of it
pub mod Claims
pub mod SizeLaws
pub mod RunLaws
pub mod GoalLaws
