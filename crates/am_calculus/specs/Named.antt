-- Which rule of inference is meant; for private contracts.
use Rattle.am_clause.specs.declared.row.Rule.{Rule}
use Rattle.am_clause.specs.declared.row.Rule.TheVariants as row
use Rattle.am_calculus.specs.declared.named.Alone.{Alone}
use Rattle.am_calculus.specs.declared.named.Alone.TheVariants.{Factor, Reflex, Close}
use Rattle.am_calculus.specs.declared.named.Paired.{Paired}
use Rattle.am_calculus.specs.declared.named.Paired.TheVariants.{Resolve, Para, Rewrite}
use Rattle.am_clause.specs.Rules.{OneParent, TwoParents, factor, reflex, close, resolve, para, rewrite}

-- the rule with one parent that a value of the code names
abbrev pub alone : Alone → OneParent
alone (Factor i j) = factor i j
alone (Reflex i) = reflex i
alone Close = close

-- the rule with two parents that a value of the code names
abbrev pub paired : Paired → TwoParents
paired (Resolve i j) = resolve i j
paired (Para j side i path) = para j side i path.now
paired (Rewrite j side i path) = rewrite j side i path.now

-- the rule with one parent that a row names; where it names another kind of rule, one that suits no parent
abbrev pub alone_of : Rule → OneParent
alone_of (row.Axiom k c) = reflex 0
alone_of row.Goal = reflex 0
alone_of (row.Given k) = reflex 0
alone_of (row.Factor m i j) = factor i j
alone_of (row.Reflex m i) = reflex i
alone_of (row.Resolve m i n j) = reflex 0
alone_of (row.Para m j side n i path) = reflex 0
alone_of (row.Rewrite m j side n i path) = reflex 0
alone_of (row.Close m) = close

-- the rule with two parents that a row names; where it names another kind of rule, one that suits no parents
abbrev pub paired_of : Rule → TwoParents
paired_of (row.Axiom k c) = resolve 0 0
paired_of row.Goal = resolve 0 0
paired_of (row.Given k) = resolve 0 0
paired_of (row.Factor m i j) = resolve 0 0
paired_of (row.Reflex m i) = resolve 0 0
paired_of (row.Resolve m i n j) = resolve i j
paired_of (row.Para m j side n i path) = para j side i path
paired_of (row.Rewrite m j side n i path) = rewrite j side i path
paired_of (row.Close m) = resolve 0 0
