-- The term of an id is that of its node.
use Rattle.std.proofs.Common.{◌≡◌, ◌==◌, ◌+◌, ◌-◌, ◌<◌, ◌≤◌, ◌∙◌, ℕ, zero, suc, List, [], ◌∷◌, Some, Vec, refl, sym, ap, map, length, slice_get, take, drop, length-drop, get_or, arith, IsTrue}
use Rattle.std.proofs.lemmas.List.{take_all}
use Rattle.std.specs.declared.alloc.Global.{Global}
use Rattle.std.proofs.lemmas.Bool.Decides.{nat_tests}
use Rattle.am_term.specs.declared.id.SymId.{SymId}
use Rattle.am_term.specs.declared.term.Term.{Term}
use Rattle.am_term.specs.declared.term.Term.TheVariants as term
use Rattle.am_term.specs.Same.{same_term}
use Rattle.am_term.proofs.Alike.{same_term-is}
use Rattle.am_bank.specs.declared.id.TermId.{TermId}
use Rattle.am_bank.specs.declared.node.Node.{Node}
use Rattle.am_bank.specs.declared.node.Node.TheVariants as node
use Rattle.am_bank.specs.Node.{Shared, numbers, node_shared}
use Rattle.am_bank.specs.Bank.{IsBank}
use Rattle.am_bank.specs.Trees.{tree}
use Rattle.am_bank.proofs.Trees.{tree-there}
use Rattle.am_bank.proofs.EqualTrees.{tree-Var, tree-In, tree-App, equal_trees}
use Rattle.am_sharing.specs.Terms.{term_at, terms_at, node_term}
use Rattle.am_sharing.specs.Bound.{id_bound, node_bound}

pub term_at-is : (ns : List Shared) (i : ℕ) (t : Term) → tree ns i ≡ Some t → term_at ns i ≡ t
unfolding term_at
term_at-is ns i t e = rw e refl

pub tree-is : (ns : List Shared) (i : ℕ) → i < length ns → tree ns i ≡ Some (term_at ns i)
tree-is ns i h = let t = tree-there ns i h in t.1 ∙ ap Some (sym (term_at-is ns i t.0 t.1))

terms_at-is : (ns : List Shared) (ids : List TermId) (ts : List Term) → map (tree ns) (numbers ids) ≡ map Some ts → ts ≡ terms_at ns ids
terms_at-is ns [] [] e = refl
terms_at-is ns [] (t ∷ ts) e = cc
terms_at-is ns (i ∷ ids) [] e = cc
terms_at-is ns (i ∷ ids) (t ∷ ts) e =
    let here : tree ns i.0 ≡ Some t = cc in
    let behind : map (tree ns) (numbers ids) ≡ map Some ts = cc in
    let h = term_at-is ns i.0 t here in let b = terms_at-is ns ids ts behind in cc

bound-below : (ids : List TermId) (n : ℕ) → ((k i : ℕ) → slice_get (numbers ids) k ≡ Some i → i < n) → id_bound ids ≤ n
bound-below [] n below = omega arith
bound-below (i ∷ ids) n below = let h = below zero i.0 refl in let b = bound-below ids n (λ k j e. below (suc k) j e) in omega arith

pub node-below : (ns : List Shared) → IsBank ns → (i : ℕ) (x : Node) → slice_get ns i ≡ Some (node_shared x) → node_bound x ≤ i
node-below ns bank i (node.Var n s) e = omega arith
node-below ns bank i (node.In k) e = omega arith
node-below ns bank i (node.App f args) e = bound-below args.items i (bank.below i (node_shared (node.App f args)) e)

pub node-term : (ns : List Shared) → IsBank ns → (i : ℕ) (x : Node) → slice_get ns i ≡ Some (node_shared x) → term_at ns i ≡ node_term ns x
node-term ns bank i (node.Var n s) e = term_at-is ns i (term.Var n s) (tree-Var ns bank i n s e)
node-term ns bank i (node.In k) e = term_at-is ns i (term.In k) (tree-In ns bank i k e)
node-term ns bank i (node.App f args) e =
    let t = tree-App ns bank i f (numbers args.items) e in
    term_at-is ns i (term.App f t.0) t.1 ∙ ap (term.App f) (terms_at-is ns args.items t.0 t.2)

-- the term of a symbol's node
pub symbol-term : (ns : List Shared) (i : ℕ) (x : Node) (f : SymId) (args : Vec TermId Global) (ids : List TermId) →
    term_at ns i ≡ node_term ns x → x ≡ node.App f args → ids ≡ args.items → term_at ns i ≡ term.App f (terms_at ns ids)
symbol-term ns i x f args ids e is same = e ∙ ap (node_term ns) is ∙ ap (λ (js : List TermId). term.App f (terms_at ns js)) (sym same)

pub ruleset reading = (node-below, node-term)

-- equal terms are known by their ids
number-is : (n m : ℕ) → IsTrue (n == m) → n ≡ m
number-is n m e = grind (arith, nat_tests)

pub number-same : (n m : ℕ) → n ≡ m → IsTrue (n == m)
number-same n m e = grind (arith, nat_tests)

pub same-id : (ns : List Shared) → IsBank ns → (i j : ℕ) → i < length ns → j < length ns → (i == j) ≡ same_term (term_at ns i) (term_at ns j)
same-id ns bank i j h k =
    same_term-is (i == j) (term_at ns i) (term_at ns j)
    (λ e. ap (term_at ns) (number-is i j e))
    (λ e. number-same i j (equal_trees ns bank (term_at ns i) i j (tree-is ns i h) (tree-is ns j k ∙ ap Some (sym e))))

-- bounds of members and of what is behind
pub bound-at : (ids : List TermId) (i : ℕ) (d : TermId) → i < length ids → (get_or ids i d).0 + 1 ≤ id_bound ids
bound-at [] i d h = absurd (omega arith)
bound-at (j ∷ ids) zero d h = omega arith
bound-at (j ∷ ids) (suc i) d h = let b = bound-at ids i d (omega arith) in omega arith

pub bound-drop : (ids : List TermId) (i : ℕ) → id_bound (drop i ids) ≤ id_bound ids
bound-drop [] zero = omega arith
bound-drop [] (suc i) = omega arith
bound-drop (j ∷ ids) zero = omega arith
bound-drop (j ∷ ids) (suc i) = let b = bound-drop ids i in omega arith

pub rest : (ids : List TermId) (n : ℕ) → take (length ids - n) (drop n ids) ≡ drop n ids
rest ids n = take_all (length ids - n) (drop n ids) (omega (arith, length-drop n ids))

pub before-end : {m n : ℕ} → m ≤ n → (m ≡ n → ⊥) → m < n
before-end h k = omega arith
