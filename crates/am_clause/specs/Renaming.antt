-- Other numbers for the variables of a clause, and its numbering by first occurrence.
use Rattle.std.specs.Prelude.{◌≡◌, ℕ, List, map, Option, Some, None}
use Rattle.std.specs.List.{position_or_len}
use Rattle.std.proofs.Common.{refl}
use Rattle.am_term.specs.declared.id.SortId.{SortId}
use Rattle.am_term.specs.declared.id.SymId.{SymId}
use Rattle.am_term.specs.declared.term.Term.{Term}
use Rattle.am_term.specs.declared.term.Term.TheOpen.{Term-F}
use Rattle.am_term.specs.declared.term.Term.TheVariants.{Var, In, App}
use Rattle.am_term.specs.declared.term.Term.TheFolds.{fold-Term}
use Rattle.am_term.specs.declared.term.Atom.{Atom}
use Rattle.am_term.specs.declared.term.Atom.TheVariants.{Rel, Eq}
use Rattle.am_term.specs.declared.term.Literal.{Literal}
use Rattle.am_term.specs.Fold.{fold-Var, fold-In, fold-App}
use Rattle.am_clause.specs.declared.clause.Clause.{Clause}
use Rattle.am_clause.specs.Variables.{Variable, same_variable, variables}

-- a number for each variable, by its number and sort
abbrev pub Numbers : Type 0
Numbers = ℕ → SortId → ℕ

abbrev pub renamed_step : Numbers → Term-F Term → Term
renamed_step to (Term-F.Var n s) = Var (to n s) s
renamed_step to (Term-F.In k) = In k
renamed_step to (Term-F.App f args) = App f args

-- each variable has its new number, and keeps its sort
unfoldable pub renamed : Numbers → Term → Term
renamed to = fold-Term Term (renamed_step to)

abbrev pub renamed_all : Numbers → List Term → List Term
renamed_all to = map (renamed to)

abbrev pub renamed_atom : Numbers → Atom → Atom
renamed_atom to (Rel r args) = Rel r (renamed_all to args)
renamed_atom to (Eq left right) = Eq (renamed to left) (renamed to right)

abbrev pub renamed_literal : Numbers → Literal → Literal
renamed_literal to l = record { positive = l.positive; atom = renamed_atom to l.atom }

abbrev pub renamed_answer : Numbers → Option (List Term) → Option (List Term)
renamed_answer to None = None
renamed_answer to (Some ts) = Some (renamed_all to ts)

abbrev pub renamed_clause : Numbers → Clause → Clause
renamed_clause to c = record { literals = map (renamed_literal to) c.literals; answer = renamed_answer to c.answer }

-- the place of each variable in a list, from 0
unfoldable pub places_in : List Variable → ℕ → SortId → ℕ
places_in vs n s = position_or_len (same_variable (n, s)) vs

-- each variable has the place of its first occurrence among those of the different variables, from 0
unfoldable pub renumbered : Clause → Clause
renumbered c = renamed_clause (places_in (variables c)) c

pub renamed-Var : (to : Numbers) (n : ℕ) (s : SortId) → renamed to (Var n s) ≡ Var (to n s) s
unfolding renamed
renamed-Var to = fold-Var Term (renamed_step to)

pub renamed-In : (to : Numbers) (k : ℕ) → renamed to (In k) ≡ In k
unfolding renamed
renamed-In to = fold-In Term (renamed_step to)

pub renamed-App : (to : Numbers) (f : SymId) (args : List Term) → renamed to (App f args) ≡ App f (renamed_all to args)
unfolding renamed
renamed-App to = fold-App Term (renamed_step to)

pub ruleset renamed_laws = (renamed-Var, renamed-In, renamed-App)

pub renumbered-is : (c : Clause) → renumbered c ≡ renamed_clause (places_in (variables c)) c
unfolding renumbered
renumbered-is c = refl
