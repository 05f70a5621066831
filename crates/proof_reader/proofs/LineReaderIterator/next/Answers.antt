-- `proof_reader::LineReader`'s `next` meets its contract: by the step.
use Rattle.proof_reader.proofs.ReadLaws.{step_left, goes_left}
use Rattle.proof_reader.proofs.LineReaderIterator.next.Goals as goal

pub returns-clause-steps : goal.returns-clause-steps
returns-clause-steps c = step_left _ _ _ c.step.ensures.line c.step.ensures.moved

pub returns-clause-goes : goal.returns-clause-goes
returns-clause-goes c = goes_left _ _ _ (step_left _ _ _ c.step.ensures.line c.step.ensures.moved)
