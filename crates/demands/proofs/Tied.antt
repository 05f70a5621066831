-- The functions' own `ensures` are the records that the theorems are about, by computation.
use Rattle.demands.specs.Calls.{variable_declared, functor_declared, withdrawn, all_cleared, equation_offered}
use Rattle.demands.specs.Tied.{Tied, Beside, Files, Stepwise}

pub tied : Tied
tied = record {
  starts = λ v p. p;
  declares_variable = λ w o x p. variable_declared p;
  declares_functor = λ κs w f cs o x y z p. functor_declared p;
  withdraws = λ w n o x y p. withdrawn p;
  offers = λ κs w n l r lent o x n' l' r' left p. equation_offered p;
  clears = λ w v x p. all_cleared p;
}

pub beside : Beside
beside = record {
  compares = λ κs w u v lent r x u' v' left p. p;
  classifies = λ w u r x y p. p;
  checks = λ κs w f lines g r x y z h p. p;
}

pub files : Files
files = record {
  writes = λ κs lines out r x left p. p;
  replies = λ κs file r x p. p;
  reads = λ κs file r x p. p;
  reads_line = λ κs lines at r x y p. p;
  counts = λ κs lines n x p. p;
  chooses = λ κs w f a b g r x y z t h p. p;
  hands = λ κs w f a b g r x y z t h p. p;
}

pub stepwise : Stepwise
stepwise = record {
  begins = λ κs input c x p. p;
  ends = λ c w x p. p;
  steps = λ κs c input proof names out r x y proof' names' out' p. p;
}
