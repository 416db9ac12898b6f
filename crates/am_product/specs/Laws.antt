-- The law of products.
use Rattle.std.specs.Prelude.{◌≡◌, ℕ, List}
use Rattle.am_clause.specs.declared.row.Log.{Log}
use Rattle.am_theory.specs.declared.theory.Theory.{Theory}
use Rattle.am_diagram.specs.declared.diagram.Diagram.{Diagram}
use Rattle.am_product.specs.Product.{IsProduct}

-- two texts that are products of one log are equal
abbrev pub OneProduct : Type 0
OneProduct = (t : Theory) (d : Diagram) (log : Log) (text other : List ℕ)
    → IsProduct t d log text → IsProduct t d log other → text ≡ other
