-- `==` of nodes, which a derive made, decides that they are the same plain data.
use Rattle.std.proofs.Common.{◌≡◌, Bool, true, refl, List, [], ◌∷◌, arith}
use Rattle.std.proofs.lemmas.Bool.Decides.{nat_tests}
use Rattle.std.specs.Prelude.{nat_eq}
use Rattle.std.specs.Cmp.Lexicographic.{pointwise}
use Rattle.am_bank.specs.Node.{node_shared, numbers}
use Rattle.am_bank.specs.Input.{hashed}
use Rattle.am_bank.specs.declared.id.TermId.{TermId}
use Rattle.am_bank.specs.declared.node.Node.{Node}
use Rattle.am_bank.specs.declared.node.Node.TheVariants.{Var, In, App}
use Rattle.am_bank.specs.contracts.node.NodePartialEq.TheImpl as made

abbrev pub same : Node → Node → Bool
same = made.ghosts.eq

abbrev all_same : List TermId → List TermId → Bool
all_same = pointwise (λ (a b : TermId). nat_eq a.0 b.0)

numbers_are : (xs ys : List TermId) → all_same xs ys ≡ true → numbers xs ≡ numbers ys
numbers_are [] [] e = refl
numbers_are [] (y ∷ ys) e = cc
numbers_are (x ∷ xs) [] e = cc
numbers_are (x ∷ xs) (y ∷ ys) e = grind (arith, nat_tests, numbers_are xs ys)

numbers_of : (xs ys : List TermId) → numbers xs ≡ numbers ys → all_same xs ys ≡ true
numbers_of [] [] e = refl
numbers_of [] (y ∷ ys) e = cc
numbers_of (x ∷ xs) [] e = cc
numbers_of (x ∷ xs) (y ∷ ys) e = grind (arith, nat_tests, numbers_of xs ys)

ids_are : (xs ys : List TermId) → all_same xs ys ≡ true → xs ≡ ys
ids_are [] [] e = refl
ids_are [] (y ∷ ys) e = cc
ids_are (x ∷ xs) [] e = cc
ids_are (x ∷ xs) (y ∷ ys) e = grind (arith, nat_tests, ids_are xs ys)

pub same_is : (a b : Node) → same a b ≡ true → node_shared a ≡ node_shared b
same_is (Var n s) (Var m t) e = grind (arith, nat_tests)
same_is (In k) (In l) e = grind (arith, nat_tests)
same_is (App f xs) (App g ys) e = let h = numbers_are xs.items ys.items in grind (arith, nat_tests, h)
same_is (Var n s) (In l) e = cc
same_is (Var n s) (App g ys) e = cc
same_is (In k) (Var m t) e = cc
same_is (In k) (App g ys) e = cc
same_is (App f xs) (Var m t) e = cc
same_is (App f xs) (In l) e = cc

pub same_of : (a b : Node) → node_shared a ≡ node_shared b → same a b ≡ true
same_of (Var n s) (Var m t) e = grind (arith, nat_tests)
same_of (In k) (In l) e = grind (arith, nat_tests)
same_of (App f xs) (App g ys) e = let h = numbers_of xs.items ys.items in grind (arith, nat_tests, h)
same_of (Var n s) (In l) e = cc
same_of (Var n s) (App g ys) e = cc
same_of (In k) (Var m t) e = cc
same_of (In k) (App g ys) e = cc
same_of (App f xs) (Var m t) e = cc
same_of (App f xs) (In l) e = cc

pub same_written : (a b : Node) → same a b ≡ true → hashed a ≡ hashed b
same_written (Var n s) (Var m t) e = grind (arith, nat_tests)
same_written (In k) (In l) e = grind (arith, nat_tests)
same_written (App f xs) (App g ys) e = let h = ids_are xs.items ys.items in grind (arith, nat_tests, h)
same_written (Var n s) (In l) e = cc
same_written (Var n s) (App g ys) e = cc
same_written (In k) (Var m t) e = cc
same_written (In k) (App g ys) e = cc
same_written (App f xs) (Var m t) e = cc
same_written (App f xs) (In l) e = cc
