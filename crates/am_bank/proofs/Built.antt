-- What it takes to make a term's node, and to read a node's term.
use Rattle.std.proofs.Common.{◌≡◌, ◌+◌, ◌<◌, ◌≤◌, ◌++◌, ◌∙◌, ℕ, zero, suc, List, [], ◌∷◌, Option, Some, Vec, refl, sym, ap, map, length, take, get_or, slice_get, append_assoc, length-append, arith}
use Rattle.std.proofs.lemmas.List.{append-nil, map-append, take_all, take_more}
use Rattle.std.proofs.lemmas.Option.{slice_get-map, slice_get-get_or, slice_get_within}
use Rattle.std.specs.declared.alloc.Global.{Global}
use Rattle.am_term.specs.declared.id.SymId.{SymId}
use Rattle.am_term.specs.declared.term.Term.{Term}
use Rattle.am_term.specs.declared.term.Term.TheVariants as term
use Rattle.am_bank.specs.declared.id.TermId.{TermId}
use Rattle.am_bank.specs.declared.node.Node.{Node}
use Rattle.am_bank.specs.declared.node.Node.TheVariants as node
use Rattle.am_bank.specs.Node.{Shared, App, numbers, node_shared}
use Rattle.am_bank.specs.Bank.{IsBank, Grows, arguments}
use Rattle.am_bank.specs.Trees.{tree}
use Rattle.am_bank.proofs.Trees.{trees-grown, tree-grown, tree-below}
use Rattle.am_bank.proofs.EqualTrees.{tree-Var, tree-In, tree-App}

pub grows-none : (ns : List Shared) → Grows ns ns
grows-none ns = record { more = []; is = sym (append-nil ns) }

pub grows-on : (a b c : List Shared) → Grows a b → Grows b c → Grows a c
grows-on a b c p q = record { more = p.more ++ q.more; is = q.is ∙ ap (λ (ns : List Shared). ns ++ q.more) p.is ∙ append_assoc a p.more q.more }

pub grows-longer : (a b : List Shared) → Grows a b → length a ≤ length b
grows-longer a b p = omega (arith, ap length p.is, length-append a p.more)

pub below-of : (ns : List Shared) (ids : List ℕ) (ts : List Term) → map (tree ns) ids ≡ map Some ts → (k i : ℕ) → slice_get ids k ≡ Some i → i < length ns
below-of ns [] ts e zero i at = cc
below-of ns [] ts e (suc k) i at = cc
below-of ns (j ∷ ids) [] e k i at = cc
below-of ns (j ∷ ids) (t ∷ ts) e zero i at =
    let is : j ≡ i = cc in let here : tree ns j ≡ Some t = cc in let h = tree-below ns j t here in omega arith
below-of ns (j ∷ ids) (t ∷ ts) e (suc k) i at = below-of ns ids ts (cc) k i at

tree-of-ids : (ns : List Shared) (ids : List ℕ) (ts us : List Term) → map (tree ns) ids ≡ map Some ts → map (tree ns) ids ≡ map Some us → ts ≡ us
tree-of-ids ns [] [] [] p q = refl
tree-of-ids ns [] [] (u ∷ us) p q = cc
tree-of-ids ns [] (t ∷ ts) us p q = cc
tree-of-ids ns (i ∷ ids) [] us p q = cc
tree-of-ids ns (i ∷ ids) (t ∷ ts) [] p q = cc
tree-of-ids ns (i ∷ ids) (t ∷ ts) (u ∷ us) p q = let h : t ≡ u = cc in let b : ts ≡ us = tree-of-ids ns ids ts us (cc) (cc) in cc

-- a symbol at the ids of some terms stands for the symbol at the terms
pub built-App : (ns : List Shared) → IsBank ns → (i : ℕ) (f : SymId) (ids : List ℕ) (ts : List Term) → slice_get ns i ≡ Some (App f ids) → map (tree ns) ids ≡ map Some ts → tree ns i ≡ Some (term.App f ts)
built-App ns bank i f ids ts at are =
    let t = tree-App ns bank i f ids at in t.1 ∙ ap (λ (us : List Term). Some (term.App f us)) (tree-of-ids ns ids t.0 ts t.2 are)

pub ruleset interned = (grows-none, grows-longer, slice_get_within)

pub ruleset built = (grows-longer, tree-below, slice_get_within, tree-Var, tree-In, built-App, trees-grown, tree-grown, grows-none, grows-on, below-of)

pub ruleset read = (tree-Var, tree-In, built-App)

-- one more of the terms is built
pub more-built : (old new : List Shared) (ids ids2 : List TermId) (id : TermId) (ts : List Term) (k : ℕ) (t : Term) →
    Grows old new → map (tree old) (numbers ids) ≡ map Some (take k ts) → tree new id.0 ≡ Some t → k < length ts → t ≡ get_or ts k t → ids2 ≡ ids ++ id ∷ [] →
    map (tree new) (numbers ids2) ≡ map Some (take (k + 1) ts)
more-built old new ids ids2 id ts k t grows are is within at pushed =
    ap (λ (js : List TermId). map (tree new) (numbers js)) pushed
    ∙ ap (map (tree new)) (map-append (λ (a : TermId). a.0) ids (id ∷ []))
    ∙ map-append (tree new) (numbers ids) (id.0 ∷ [])
    ∙ ap (λ (os : List (Option Term)). os ++ tree new id.0 ∷ []) (trees-grown old new (numbers ids) (take k ts) grows are)
    ∙ ap (λ (o : Option Term). map Some (take k ts) ++ o ∷ []) (is ∙ ap Some at)
    ∙ sym (map-append Some (take k ts) (get_or ts k t ∷ []))
    ∙ ap (map Some) (sym (take_more ts k t within))

-- an argument of a node is a smaller id
pub argument-smaller : (ns : List Shared) (i : ℕ) (x : Node) (f : SymId) (args : Vec TermId Global) (items : List TermId) (k : ℕ) (d : TermId) →
    IsBank ns → slice_get ns i ≡ Some (node_shared x) → x ≡ node.App f args → items ≡ args.items → k < length items → (get_or items k d).0 < i
argument-smaller ns i x f args items k d bank at is same within =
    bank.below i (node_shared x) at k (get_or items k d).0
    (ap (λ (y : Node). slice_get (arguments (node_shared y)) k) is
    ∙ ap (λ (xs : List TermId). slice_get (numbers xs) k) (sym same)
    ∙ slice_get-map (λ (a : TermId). a.0) items k ∙ rw (slice_get-get_or items k d within) refl)

-- a symbol's term is read once all arguments are
pub read-App : (ns : List Shared) (i : ℕ) (x : Node) (f : SymId) (args : Vec TermId Global) (items : List TermId) (k : ℕ) (made : List Term) →
    IsBank ns → slice_get ns i ≡ Some (node_shared x) → x ≡ node.App f args → items ≡ args.items → length items ≤ k →
    map (tree ns) (numbers (take k items)) ≡ map Some made → tree ns i ≡ Some (term.App f made)
read-App ns i x f args items k made bank at is same end are =
    built-App ns bank i f (numbers items) made (at ∙ ap (λ (y : Node). Some (node_shared y)) is ∙ ap (λ (xs : List TermId). Some (App f (numbers xs))) (sym same))
    (ap (λ (xs : List TermId). map (tree ns) (numbers xs)) (sym (take_all k items end)) ∙ are)
