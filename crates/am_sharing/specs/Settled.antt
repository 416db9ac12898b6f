-- Words of private contracts: ids of patterns that were matched, each with the id of its term.
use Rattle.std.specs.Prelude.{◌≡◌, ◌<◌, ℕ, Bool, List, Option, Some, None, length, ⊤, if◌then◌else◌}
use Rattle.am_term.specs.declared.id.SortId.{SortId}
use Rattle.am_term.specs.declared.signature.Signature.{Signature}
use Rattle.am_term.specs.declared.term.Term.{Term}
use Rattle.am_term.specs.Same.{same_term}
use Rattle.am_unify.specs.Matching.{held, matched}
use Rattle.am_bank.specs.declared.id.TermId.{TermId}
use Rattle.am_bank.specs.Node.{Shared}
use Rattle.am_sharing.specs.Pairs.{pairs_at}
use Rattle.am_sharing.specs.Terms.{term_at}

-- what the first bindings hold, the second hold too
abbrev pub HoldAll : List (ℕ × Term) → List (ℕ × Term) → Type 0
HoldAll bs cs = (n : ℕ) (t : Term) (b : Bool) → held bs n t ≡ Some b → held cs n t ≡ Some b

-- under these bindings, and under more, the pattern is this term: it binds nothing more, and no other term is matched
abbrev pub IsSettled : Signature → List SortId → List (ℕ × Term) → Term → Term → Type 0
IsSettled sig ins bs pattern t =
    (cs : List (ℕ × Term)) → HoldAll bs cs → (u : Term) → matched sig ins pattern u cs ≡ (if same_term t u then Some cs else None)

-- the term of each id is settled as that of the id that is held for it
pub record AreSettled (sig : Signature) (ins : List SortId) (ns : List Shared) (bs : List (ℕ × Term)) (settled : ℕ → Option TermId) : Type 0 where
  pub inside : (i : ℕ) (j : TermId) → settled i ≡ Some j → j.0 < length ns
  pub are : (i : ℕ) (j : TermId) → settled i ≡ Some j → IsSettled sig ins bs (term_at ns i) (term_at ns j.0)

-- under the bindings of an answer, if there are any
abbrev pub AnswerSettled : Signature → List SortId → List Shared → Option (List (ℕ × TermId)) → (ℕ → Option TermId) → Type 0
AnswerSettled sig ins ns None settled = ⊤
AnswerSettled sig ins ns (Some ps) settled = AreSettled sig ins ns (pairs_at ns ps) settled
