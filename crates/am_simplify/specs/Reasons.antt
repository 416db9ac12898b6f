-- Why a row is dropped: the first of six reasons.
use Rattle.std.specs.Prelude.{◌≡◌, ◌&&◌, ◌||◌, ◌==◌, ℕ, Bool, true, false, not, nat_lt, length, map, List, [], ◌∷◌, Option, Some, None, is_some, is_none, slice_get, if◌then◌else◌}
use Rattle.std.specs.List.{list_any}
use Rattle.std.proofs.Common.{refl, ap, ◌∙◌}
use Rattle.am_term.specs.Fold.{fold-Var, fold-In, fold-App}
use Rattle.am_term.specs.Weight.{nodes}
use Rattle.am_term.specs.declared.id.SortId.{SortId}
use Rattle.am_term.specs.declared.id.SymId.{SymId}
use Rattle.am_term.specs.declared.signature.Signature.{Signature}
use Rattle.am_term.specs.declared.term.Term.{Term}
use Rattle.am_term.specs.declared.term.Term.TheFolds.{fold-Term}
use Rattle.am_term.specs.declared.term.Term.TheOpen.{Term-F}
use Rattle.am_term.specs.declared.term.Term.TheVariants.{Var, In, App}
use Rattle.am_clause.specs.Final.{is_computable_symbol}
use Rattle.am_clause.specs.Size.{clause_weight}
use Rattle.am_clause.specs.Tautology.{tautology}
use Rattle.am_clause.specs.declared.clause.Clause.{Clause}
use Rattle.am_rules.specs.Conclusions.{closed_off}
use Rattle.am_simplify.specs.Numbering.{or_else}
use Rattle.am_simplify.specs.Subsuming.{subsumed_by}
use Rattle.am_simplify.specs.declared.reason.Reason.{Reason}
use Rattle.am_simplify.specs.declared.reason.Reason.TheVariants.{Tautology, Wide, Heavy, AnswerNotComputable, OpenAnswer, Subsumed}

-- more than 16 literals
abbrev pub is_wide : Clause → Bool
is_wide c = nat_lt 16 (length c.literals)

-- some term has more nodes than the limit
abbrev pub are_heavy : ℕ → List Term → Bool
are_heavy most ts = list_any (λ t. nat_lt most (nodes t)) ts

abbrev pub is_heavy_answer : ℕ → Option (List Term) → Bool
is_heavy_answer most None = false
is_heavy_answer most (Some ts) = are_heavy most ts

-- the clause weighs more than the limit, or a term of the answer or of the bindings does
abbrev pub is_heavy : ℕ → Clause → List (List Term) → Bool
is_heavy most c with = nat_lt most (clause_weight c) || (is_heavy_answer most c.answer || list_any (are_heavy most) with)

abbrev pub abstract_step : Signature → Term-F Bool → Bool
abstract_step sig (Term-F.Var n s) = false
abstract_step sig (Term-F.In k) = false
abstract_step sig (Term-F.App f below) = not (is_computable_symbol (slice_get sig.symbols f.0)) || list_any (λ b. b) below

-- some symbol of the term can't be computed by a program
unfoldable pub has_abstract : Signature → Term → Bool
has_abstract sig = fold-Term Bool (abstract_step sig)

any-map : (f : Term → Bool) (ts : List Term) → list_any (λ b. b) (map f ts) ≡ list_any f ts
any-map f [] = refl
any-map f (t ∷ ts) = ap (λ b. f t || b) (any-map f ts)

pub has_abstract-Var : (sig : Signature) (n : ℕ) (s : SortId) → has_abstract sig (Var n s) ≡ false
unfolding has_abstract
has_abstract-Var sig = fold-Var Bool (abstract_step sig)

pub has_abstract-In : (sig : Signature) (k : ℕ) → has_abstract sig (In k) ≡ false
unfolding has_abstract
has_abstract-In sig = fold-In Bool (abstract_step sig)

pub has_abstract-App : (sig : Signature) (f : SymId) (args : List Term) → has_abstract sig (App f args) ≡ (not (is_computable_symbol (slice_get sig.symbols f.0)) || list_any (has_abstract sig) args)
unfolding has_abstract
has_abstract-App sig f args = fold-App Bool (abstract_step sig) f args ∙ ap (λ b. not (is_computable_symbol (slice_get sig.symbols f.0)) || b) (any-map (has_abstract sig) args)

pub ruleset abstract_laws = (has_abstract-Var, has_abstract-In, has_abstract-App)

-- there is an answer, and it has such a symbol
abbrev pub is_uncomputed : Signature → Option (List Term) → Bool
is_uncomputed sig None = false
is_uncomputed sig (Some ts) = list_any (has_abstract sig) ts

-- no literals, an answer, and nothing closes it
abbrev pub is_open : Signature → List SortId → Clause → Bool
is_open sig ins c = length c.literals == 0 && (is_some c.answer && is_none (closed_off sig ins c))

-- of a row its number and its clause
abbrev pub NumberedClause : Type 0
NumberedClause = ℕ × Clause

-- the number of the first row whose clause subsumes
abbrev pub subsumer : Signature → List SortId → List NumberedClause → Clause → Option ℕ
subsumer sig ins [] c = None
subsumer sig ins (d ∷ ds) c = if subsumed_by sig ins d.1 c then Some d.0 else subsumer sig ins ds c

abbrev pub by_subsumer : Option ℕ → Option Reason
by_subsumer None = None
by_subsumer (Some n) = Some (Subsumed n)

-- this reason, if the test holds, and else the rest
abbrev pub reason_if : Bool → Reason → Option Reason → Option Reason
reason_if true r rest = Some r
reason_if false r rest = rest

-- too many literals, or too heavy
abbrev pub too_big : ℕ → Clause → List (List Term) → Option Reason
too_big most c with = reason_if (is_wide c) Wide (reason_if (is_heavy most c with) Heavy None)

-- the first of the reasons that don't look at other rows
abbrev pub own_reason : Signature → List SortId → ℕ → Clause → List (List Term) → Option Reason
own_reason sig ins most c with =
    reason_if (tautology c) Tautology
    (or_else (too_big most c with)
    (reason_if (is_uncomputed sig c.answer) AnswerNotComputable
    (reason_if (is_open sig ins c) OpenAnswer None)))

-- the first reason for which a row with these bindings is dropped, beside the rows that are kept
abbrev pub reason : Signature → List SortId → ℕ → List NumberedClause → Clause → List (List Term) → Option Reason
reason sig ins most kept c with = or_else (own_reason sig ins most c with) (by_subsumer (subsumer sig ins kept c))
