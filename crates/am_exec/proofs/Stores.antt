-- Going over operands, and putting terms under names.
use Rattle.std.proofs.Common.{◌∙◌, map, drop, slice_get, ap, sym, ◌≡◌, ◌++◌, ◌+◌, ℕ, refl, List, [], ◌∷◌, Option, Some, None, sum_by}
use Rattle.std.proofs.lemmas.Grind.{common_steps}
use Rattle.std.proofs.lemmas.Bool.Decides.{nat_tests}
use Rattle.std.proofs.lemmas.List.Sums.{sum_by-append}
use Rattle.am_term.specs.declared.id.SortId.{SortId}
use Rattle.am_term.specs.declared.id.SymId.{SymId}
use Rattle.am_term.specs.declared.term.Term.{Term}
use Rattle.am_term.specs.Weight.{nodes, nodes-App}
use Rattle.am_theory.specs.declared.theory.Theory.{Theory}
use Rattle.am_fortran.specs.declared.statement.Operand.{Operand}
use Rattle.am_exec.specs.Run.{name_in}
use Rattle.am_exec.specs.States.{Store, entry, entries_held, literal_term, listed_term, operand_terms}

pub entries-none : (ns : List (Option (List ℕ))) → entries_held ns [] ≡ []
entries-none [] = refl
entries-none (n ∷ ns) = refl

-- what an argument that is there gets, where it is a name
abbrev pub entry_at : Option Operand → Term → Store
entry_at None x = []
entry_at (Some q) x = entry (name_in q) x

-- the second argument and no other is what a copy sets
pub second_entry : (args : List Operand) (x : Term) → entries_held (map name_in (drop 1 args)) (x ∷ []) ≡ entry_at (slice_get args 1) x
second_entry [] x = refl
second_entry (p ∷ []) x = refl
second_entry (p ∷ r ∷ rs) x = ap (λ (s : Store). entry (name_in r) x ++ s) (entries-none (map name_in rs)) ∙ nothing (entry (name_in r) x)
  where
    nothing : (s : Store) → s ++ [] ≡ s
    nothing [] = refl
    nothing (y ∷ s) = ap (λ (z : Store). y ∷ z) (nothing s)

pub copy_entry : (args : List Operand) (o : Option Term) (x y : Term) (q : Operand) → Some x ≡ o → y ≡ x → Some q ≡ slice_get args 1 → entries_held (map name_in (drop 1 args)) (listed_term o) ≡ entry (name_in q) y
copy_entry args o x y q e f g =
    ap (λ (p : Option Term). entries_held (map name_in (drop 1 args)) (listed_term p)) (sym e)
    ∙ second_entry args x
    ∙ ap (λ (p : Option Operand). entry_at p x) (sym g)
    ∙ ap (entry (name_in q)) (sym f)

pub operand_terms-none : (t : Theory) (store : Store) (ss : List SortId) → operand_terms t store ss [] ≡ []
operand_terms-none t store [] = refl
operand_terms-none t store (s ∷ ss) = refl

pub literal-nodes : (f : SymId) → nodes (literal_term f) ≡ 1
literal-nodes f = rw (nodes-App f []) refl

pub nodes-append : (xs ys : List Term) → sum_by nodes (xs ++ ys) ≡ sum_by nodes xs + sum_by nodes ys
nodes-append xs ys = sum_by-append nodes xs ys

pub ruleset storing = (common_steps, nat_tests, entries-none, second_entry, operand_terms-none, literal-nodes, nodes-append)
