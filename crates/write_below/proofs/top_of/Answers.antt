-- `write_below::top_of` meets its contract.
use Rattle.write_below.proofs.StepLaws.{upper_last}
use Rattle.write_below.proofs.top_of.Goals as goal

pub returns : goal.returns
returns c = λ v. upper_last v c.args.steps.now _ c.requires
