-- Most general bindings, as lists of terms, and when two lists differ by a renaming.
use Rattle.std.specs.Prelude.{◌≡◌, ◌<◌, List, [], ◌∷◌, map, length, IsTrue}
use Rattle.std.specs.List.{flat_map}
use Rattle.am_term.specs.declared.id.SortId.{SortId}
use Rattle.am_term.specs.declared.signature.Signature.{Signature}
use Rattle.am_term.specs.declared.term.Term.{Term}
use Rattle.am_term.specs.declared.term.Term.TheVariants.{Var}
use Rattle.am_term.specs.Instance.{instance, instances}
use Rattle.am_term.specs.Sorting.{term_fits}
use Rattle.am_clause.specs.declared.clause.Clause.{Clause}
use Rattle.am_clause.specs.declared.row.Made.{Made}
use Rattle.am_clause.specs.Bound.{bound, without_repeats}
use Rattle.am_clause.specs.Rules.{TwoParents}
use Rattle.am_clause.specs.Distinct.{among}
use Rattle.am_clause.specs.Variables.{Variable, same_variable, occurrences_all, in_clause}
use Rattle.am_clause.specs.Renaming.{Numbers, renamed_all}

-- the variable occurs in a term of the lists
abbrev pub OccursIn : Variable → List (List Term) → Type 0
OccursIn v ws = IsTrue (among same_variable v (flat_map occurrences_all ws))

-- the second lists are an instance of the first, by terms whose sorts fit those of the variables that occur
pub record IsInstanceOf (sig : Signature) (ins : List SortId) (ws us : List (List Term)) : Type 0 where
  pub by : List Term
  pub fits : (v : Variable) → OccursIn v ws → IsTrue (term_fits sig ins (instance by (Var v.0 v.1)) v.1)
  pub is : us ≡ map (instances by) ws

-- the lists meet the condition, and all lists that do are instances of them
pub record AreMostGeneral (sig : Signature) (ins : List SortId) (R : List (List Term) → Type 0) (ws : List (List Term)) : Type 0 where
  pub solves : R ws
  pub general : (us : List (List Term)) → R us → IsInstanceOf sig ins ws us

-- the second lists are the first but for a bijection of variables that keeps sorts
pub record AreAlikeLists (ws us : List (List Term)) : Type 0 where
  pub to : Numbers
  pub apart : (v w : Variable) → OccursIn v ws → OccursIn w ws → to v.0 v.1 ≡ to w.0 w.1 → v.1 ≡ w.1 → v ≡ w
  pub is : us ≡ map (renamed_all to) ws

-- a rule's conclusion with its lists, before it is numbered
abbrev pub conclusion_of : TwoParents → Clause → Clause → List Term → List Term → Made
conclusion_of rule p q first second = record { clause = without_repeats (rule.made (bound first p) (bound second q)); with = first ∷ second ∷ [] }

-- there is a term for each variable of the clause
abbrev pub Covering : List Term → Clause → Type 0
Covering with c = (v : Variable) → IsTrue (among same_variable v (in_clause c)) → v.0 < length with
