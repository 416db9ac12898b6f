-- Which term, atom or formula a written one stands for, in a scope. Where it has a flaw that is answered
-- before, any value serves.
use Rattle.std.specs.Prelude.{ℕ, Option, Some, None, List, [], map}
use Rattle.am_term.specs.declared.id.SymId.{SymId}
use Rattle.am_term.specs.declared.term.Term.{Term}
use Rattle.am_term.specs.declared.term.Term.TheVariants.{Var, In, App}
use Rattle.am_term.specs.declared.term.Atom.{Atom}
use Rattle.am_term.specs.declared.term.Atom.TheVariants.{Rel, Eq}
use Rattle.am_term.specs.declared.term.Literal.{Literal}
use Rattle.am_term.specs.declared.term.Formula.{Formula}
use Rattle.am_term.specs.declared.term.Formula.TheVariants.{Atom as Atomic, Not, And, Or, Implies, Iff}
use Rattle.am_syntax.specs.declared.written.WrittenTerm.{WrittenTerm}
use Rattle.am_syntax.specs.declared.written.WrittenTerm.TheOpen.{WrittenTerm-F}
use Rattle.am_syntax.specs.declared.written.WrittenTerm.TheFolds.{fold-WrittenTerm}
use Rattle.am_syntax.specs.declared.written.WrittenAtom.{WrittenAtom}
use Rattle.am_syntax.specs.declared.written.WrittenAtom.TheVariants.{Equation, Relation}
use Rattle.am_syntax.specs.declared.written.WrittenLiteral.{WrittenLiteral}
use Rattle.am_syntax.specs.declared.written.WrittenFormula.{WrittenFormula}
use Rattle.am_syntax.specs.declared.written.WrittenFormula.TheOpen.{WrittenFormula-F}
use Rattle.am_syntax.specs.declared.written.WrittenFormula.TheFolds.{fold-WrittenFormula}
use Rattle.am_syntax.specs.declared.scope.Standing.{Standing}
use Rattle.am_syntax.specs.declared.scope.Standing.TheVariants.{Variable, Input, Barred}
use Rattle.am_syntax.specs.Positions.{position_of}
use Rattle.am_syntax.specs.Scopes.{Scope, standing_of}

abbrev pub symbol_id : Option ℕ → SymId
symbol_id None = record { 0 = 0 }
symbol_id (Some k) = record { 0 = k }

-- the symbol of this name
abbrev pub named_symbol : Scope → List ℕ → SymId
named_symbol s w = symbol_id (position_of w s.names)

abbrev pub standing_term : Standing → Term
standing_term (Variable n sort) = Var n sort
standing_term (Input k sort) = In k
standing_term Barred = In 0

abbrev pub alone_term : Scope → Option Standing → List ℕ → Term
alone_term s (Some standing) w = standing_term standing
alone_term s None w = App (named_symbol s w) []

abbrev pub meaning_step : Scope → WrittenTerm-F Term → Term
meaning_step s (WrittenTerm-F.Alone w) = alone_term s (standing_of w s.bound) w
meaning_step s (WrittenTerm-F.Headed h ts) = App (named_symbol s h) ts

-- a name alone is the variable or the input of this name, else the constant; a head is the symbol of its name
unfoldable pub term_meaning : Scope → WrittenTerm → Term
term_meaning s = fold-WrittenTerm Term (meaning_step s)

abbrev pub atom_meaning : Scope → WrittenAtom → Atom
atom_meaning s (Equation left right) = Eq (term_meaning s left) (term_meaning s right)
atom_meaning s (Relation n args) = Rel (named_symbol s n) (map (term_meaning s) args)

abbrev pub literal_meaning : Scope → WrittenLiteral → Literal
literal_meaning s l = record { positive = l.positive; atom = atom_meaning s l.atom }

abbrev pub formula_meaning_step : Scope → WrittenFormula-F Formula → Formula
formula_meaning_step s (WrittenFormula-F.Atom a) = Atomic (atom_meaning s a)
formula_meaning_step s (WrittenFormula-F.Not f) = Not f
formula_meaning_step s (WrittenFormula-F.And fs) = And fs
formula_meaning_step s (WrittenFormula-F.Or fs) = Or fs
formula_meaning_step s (WrittenFormula-F.Implies f g) = Implies f g
formula_meaning_step s (WrittenFormula-F.Iff f g) = Iff f g
formula_meaning_step s WrittenFormula-F.Quantified = And []

unfoldable pub formula_meaning : Scope → WrittenFormula → Formula
formula_meaning s = fold-WrittenFormula Formula (formula_meaning_step s)
