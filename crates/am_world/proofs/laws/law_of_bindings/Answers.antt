use Rattle.am_world.specs.Questions.{Meets}
use Rattle.am_world.proofs.Bound.{holds-bound}
use Rattle.am_world.proofs.laws.law_of_bindings.Goals as goal

pub returns : goal.returns
returns c = λ sig w world sorts ins inside objects outputs required d with numbered binds h a g.
    holds-bound w ins a with sig world sorts inside g d numbered binds (Meets w objects outputs required ins) h
