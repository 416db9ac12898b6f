-- Interpretations of a signature: the textbook's many-sorted first-order logic, with whole numbers as
-- members. Equality is identity of numbers.
use Rattle.std.specs.Prelude.{◌≡◌, ◌==◌, ◌<◌, ℕ, Bool, true, Option, Some, None, List, [], ◌∷◌, length, slice_get, IsTrue}
use Rattle.am_term.specs.declared.id.SortId.{SortId}
use Rattle.am_term.specs.declared.id.SymId.{SymId}
use Rattle.am_term.specs.declared.symbol.Symbol.{Symbol}
use Rattle.am_term.specs.declared.signature.Signature.{Signature}
use Rattle.am_term.specs.Sorts.{parent}

-- which numbers are members of a sort, which number a symbol gives at numbers, and which relations hold
pub record Interpretation : Type 0 where
  pub dom : SortId → ℕ → Bool
  pub fun : SymId → List ℕ → ℕ
  pub rel : SymId → List ℕ → Bool

-- each sort has the one member 0, each symbol gives 0, each relation holds
abbrev pub trivial : Interpretation
trivial = record { dom = λ s n. n == 0; fun = λ f ns. 0; rel = λ r ns. true }

-- as many numbers as sorts, and each is a member of its sort
abbrev pub Members : Interpretation → List SortId → List ℕ → Type 0
Members w [] [] = Unit {0}
Members w [] (n ∷ ns) = ⊥
Members w (s ∷ ss) [] = ⊥
Members w (s ∷ ss) (n ∷ ns) = IsTrue (w.dom s n) × Members w ss ns

-- what is given at these numbers is a member of the result sort, where there is one: a relation has none
abbrev pub GivesMember : Interpretation → SymId → Option SortId → List ℕ → Type 0
GivesMember w f None ns = Unit {0}
GivesMember w f (Some s) ns = IsTrue (w.dom s (w.fun f ns))

-- Each sort has a member. Each member of a sort is a member of its parent. Each symbol that is no
-- relation gives a member of its result sort at members of its argument sorts.
pub record IsWorld (sig : Signature) (w : Interpretation) : Type 0 where
  pub inhabited : (s : SortId) → s.0 < length sig.sorts → (n : ℕ) × IsTrue (w.dom s n)
  pub upward : (s p : SortId) → parent sig s ≡ Some p → (n : ℕ) → IsTrue (w.dom s n) → IsTrue (w.dom p n)
  pub closed : (f : SymId) (y : Symbol) → slice_get sig.symbols f.0 ≡ Some y → (ns : List ℕ) → Members w y.args ns → GivesMember w f y.result ns
