-- For the private contracts and the proofs of this crate alone: rules of two parents by unification: the second parent's variables stand behind those of the first.
use Rattle.std.specs.Prelude.{◌≡◌, ◌+◌, ℕ, List, [], ◌∷◌, length, map, Option, Some, None, option_map}
use Rattle.am_term.specs.declared.id.SortId.{SortId}
use Rattle.am_term.specs.declared.signature.Signature.{Signature}
use Rattle.am_term.specs.declared.id.SymId.{SymId}
use Rattle.am_term.specs.declared.term.Term.{Term}
use Rattle.am_term.specs.declared.term.Term.TheVariants.{Var, In, App}
use Rattle.am_clause.specs.declared.clause.Clause.{Clause}
use Rattle.am_clause.specs.declared.row.Made.{Made}
use Rattle.am_clause.specs.Variables.{Variable, variables}
use Rattle.am_clause.specs.Renaming.{renamed, renamed-Var, renamed-In, renamed-App}
use Rattle.am_unify.specs.Mgu.{mgu}
use Rattle.am_unify.specs.Substitution.{listed}
use Rattle.am_rules.specs.Asked.{Pairs, asked}
use Rattle.am_rules.specs.Row.{row}
use Rattle.am_rules.specs.Resolution.{nth_atom, resolvent}
use Rattle.am_clause.specs.NumberedMade.{numbered_made}

-- the term with numbers that are k greater
unfoldable pub shifted : ℕ → Term → Term
shifted k = renamed (λ n s. n + k)

abbrev pub all_shifted : ℕ → List Term → List Term
all_shifted k = map (shifted k)

pub shifted-Var : (k n : ℕ) (s : SortId) → shifted k (Var n s) ≡ Var (n + k) s
unfolding shifted
shifted-Var k n s = renamed-Var (λ n s. n + k) n s

pub shifted-In : (k j : ℕ) → shifted k (In j) ≡ In j
unfolding shifted
shifted-In k j = renamed-In (λ n s. n + k) j

pub shifted-App : (k : ℕ) (f : SymId) (args : List Term) → shifted k (App f args) ≡ App f (all_shifted k args)
unfolding shifted
shifted-App k f args = renamed-App (λ n s. n + k) f args

pub ruleset shifted_laws = (shifted-Var, shifted-In, shifted-App)

abbrev pub apart : ℕ → List (Term × Term) → List (Term × Term)
apart k ps = map (λ (e : Term × Term). (e.0, shifted k e.1)) ps

-- what the bindings give the variables, whose numbers are k greater there
abbrev pub images : List (ℕ × Term) → ℕ → List Variable → List Term
images bs k vs = map (λ (v : Variable). listed bs (v.0 + k) v.1) vs

abbrev pub solved_apart : Signature → List SortId → ℕ → Pairs → Option (List (ℕ × Term))
solved_apart sig ins k None = None
solved_apart sig ins k (Some ps) = mgu sig ins (apart k ps)

-- what is made of the bindings by a rule's conclusion
abbrev pub made_of_lists : (List Term → List Term → Clause) → List Term → List Term → Made
made_of_lists make xs ys = numbered_made (row (make xs ys) (xs ∷ ys ∷ []))

-- the same of the bindings of both parents' variables
abbrev pub made_with_bindings : Clause → Clause → (List Term → List Term → Clause) → List (ℕ × Term) → Made
made_with_bindings p q make bs = made_of_lists make (images bs 0 (variables p)) (images bs (length (variables p)) (variables q))

abbrev pub solved : Signature → List SortId → Clause → Clause → (List Term → List Term → Clause) → Pairs → Option Made
solved sig ins p q make ps = option_map (made_with_bindings p q make) (solved_apart sig ins (length (variables p)) ps)

abbrev pub resolution : Signature → List SortId → Clause → ℕ → Clause → ℕ → Option Made
resolution sig ins p i q j = solved sig ins p q (resolvent p i q j) (asked (nth_atom i p) (nth_atom j q) p.answer q.answer)
