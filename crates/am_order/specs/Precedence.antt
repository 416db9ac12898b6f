-- Which symbol, and which head of a term, stands above which.
use Rattle.std.specs.Prelude.{◌==◌, Bool, true, false, Option, Some, None, slice_get, nat_lt, if◌then◌else◌}
use Rattle.std.specs.Bool.{beq}
use Rattle.am_term.specs.declared.id.SymId.{SymId}
use Rattle.am_term.specs.declared.symbol.Symbol.{Symbol}
use Rattle.am_term.specs.declared.signature.Signature.{Signature}
use Rattle.am_term.specs.declared.term.Term.TheOpen.{Term-F}
use Rattle.am_term.specs.Symbols.{is_computable}

-- there is a symbol, and it is a computable one
abbrev pub is_computed : Option Symbol → Bool
is_computed None = false
is_computed (Some y) = is_computable y.kind

-- A symbol is computable if the signature declares it as such. All others, declared or not, are abstract.
abbrev pub computed : Signature → SymId → Bool
computed sig f = is_computed (slice_get sig.symbols f.0)

-- Each abstract symbol stands above each computable one; of two in one class, the later declared
-- stands above.
abbrev pub above : Signature → SymId → SymId → Bool
above sig f g = if beq (computed sig f) (computed sig g) then nat_lt g.0 f.0 else computed sig g

-- The head of a term is its symbol or its input; a variable has none. Each symbol stands above each
-- input; of two inputs, the one with the greater number stands above.
module _ {X Y : Type 0} where
  abbrev pub head_above : Signature → Term-F X → Term-F Y → Bool
  head_above sig (Term-F.Var n s) y = false
  head_above sig (Term-F.In k) (Term-F.Var n s) = false
  head_above sig (Term-F.In k) (Term-F.In j) = nat_lt j k
  head_above sig (Term-F.In k) (Term-F.App g us) = false
  head_above sig (Term-F.App f ts) (Term-F.Var n s) = false
  head_above sig (Term-F.App f ts) (Term-F.In k) = true
  head_above sig (Term-F.App f ts) (Term-F.App g us) = above sig f g

  -- both have one symbol or one input as head
  abbrev pub same_head : Term-F X → Term-F Y → Bool
  same_head (Term-F.Var n s) y = false
  same_head (Term-F.In k) (Term-F.Var n s) = false
  same_head (Term-F.In k) (Term-F.In j) = k == j
  same_head (Term-F.In k) (Term-F.App g us) = false
  same_head (Term-F.App f ts) (Term-F.Var n s) = false
  same_head (Term-F.App f ts) (Term-F.In k) = false
  same_head (Term-F.App f ts) (Term-F.App g us) = f.0 == g.0
