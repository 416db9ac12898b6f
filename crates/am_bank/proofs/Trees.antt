-- The trees of a bank's nodes: what each kind of node stands for, and that it stays as the bank grows.
use Rattle.std.proofs.Common.{◌≡◌, ◌+◌, ◌<◌, ◌++◌, ◌∙◌, ℕ, zero, suc, List, [], ◌∷◌, Some, refl, sym, ap, subst, map, length, slice_get, fold, arith}
use Rattle.std.proofs.lemmas.Option.{slice_get_within}
use Rattle.std.proofs.lemmas.List.Sums.{fold-append}
use Rattle.am_term.specs.declared.term.Term.{Term}
use Rattle.am_term.specs.declared.term.Term.TheVariants as term
use Rattle.am_bank.specs.Node.{Shared, Var, In, App}
use Rattle.am_bank.specs.Bank.{ArgsBelow, Grows}
use Rattle.am_bank.specs.Trees.{found, node_tree, with_tree, trees, tree}

some_is : {A : Type 0} → (x y : A) → Some x ≡ Some y → x ≡ y
some_is x y e = cc

-- what stands in a longer list
get_front : (ts us : List Term) (i : ℕ) (t : Term) → slice_get ts i ≡ Some t → slice_get (ts ++ us) i ≡ Some t
get_front [] us zero t e = cc
get_front [] us (suc i) t e = cc
get_front (s ∷ ts) us zero t e = e
get_front (s ∷ ts) us (suc i) t e = get_front ts us i t e

get_last : (ts : List Term) (t : Term) → slice_get (ts ++ t ∷ []) (length ts) ≡ Some t
get_last [] t = refl
get_last (s ∷ ts) t = get_last ts t

length-push : (ts : List Term) (t : Term) → length (ts ++ t ∷ []) ≡ length ts + 1
length-push [] t = refl
length-push (s ∷ ts) t = let h = length-push ts t in omega arith

pub there : {A : Type 0} → (xs : List A) (i : ℕ) → i < length xs → (x : A) × (slice_get xs i ≡ Some x)
there [] i h = absurd (omega arith)
there (x ∷ xs) zero h = (x, refl)
there (x ∷ xs) (suc i) h = there xs i (omega arith)

-- the trees of further nodes go behind
kept : (ts : List Term) (ns : List Shared) (i : ℕ) (t : Term) → slice_get ts i ≡ Some t → slice_get (fold with_tree ts ns) i ≡ Some t
kept ts [] i t e = e
kept ts (n ∷ ns) i t e = kept (with_tree ts n) ns i t (get_front ts (node_tree ts n ∷ []) i t e)

length-after : (ts : List Term) (ns : List Shared) → length (fold with_tree ts ns) ≡ length ts + length ns
length-after ts [] = omega arith
length-after ts (n ∷ ns) = let h = length-after (with_tree ts n) ns in let k = length-push ts (node_tree ts n) in omega arith

-- a list that keeps what stands in another
abbrev pub Keeps : List Term → List Term → Type 0
Keeps ts us = (i : ℕ) (t : Term) → slice_get ts i ≡ Some t → slice_get us i ≡ Some t

found-kept : (ts us : List Term) (ids : List ℕ) → Keeps ts us → ((k i : ℕ) → slice_get ids k ≡ Some i → i < length ts) → found ts ids ≡ found us ids
found-kept ts us [] keeps below = refl
found-kept ts us (i ∷ ids) keeps below =
    let t = there ts i (below zero i refl) in
    rw (t.1, keeps i t.0 t.1) (ap (λ us. t.0 ∷ us) (found-kept ts us ids keeps (λ k j e. below (suc k) j e)))

node_tree-kept : (ts us : List Term) (x : Shared) → Keeps ts us → ArgsBelow (length ts) x → node_tree ts x ≡ node_tree us x
node_tree-kept ts us (Var n s) keeps below = refl
node_tree-kept ts us (In k) keeps below = refl
node_tree-kept ts us (App f ids) keeps below = ap (term.App f) (found-kept ts us ids keeps below)

made_at : (ts : List Term) (ns : List Shared) (i j : ℕ) (x : Shared) → j ≡ length ts + i → slice_get ns i ≡ Some x → ArgsBelow j x → slice_get (fold with_tree ts ns) j ≡ Some (node_tree (fold with_tree ts ns) x)
made_at ts [] zero j x h e below = cc
made_at ts [] (suc i) j x h e below = cc
made_at ts (n ∷ ns) zero j x h e below =
    let last : j ≡ length ts = omega arith in
    let is : n ≡ x = some_is n x e in
    let b : ArgsBelow (length ts) x = subst (λ (m : ℕ). ArgsBelow m x) last below in
    let same : node_tree ts x ≡ node_tree (fold with_tree (with_tree ts n) ns) x = node_tree-kept ts (fold with_tree (with_tree ts n) ns) x (λ i t at. kept ts (n ∷ ns) i t at) b in
    ap (slice_get (fold with_tree (with_tree ts n) ns)) last
    ∙ kept (with_tree ts n) ns (length ts) (node_tree ts n) (get_last ts (node_tree ts n))
    ∙ ap (λ (m : Shared). Some (node_tree ts m)) is ∙ ap Some same
made_at ts (n ∷ ns) (suc i) j x h e below =
    let k = length-push ts (node_tree ts n) in made_at (with_tree ts n) ns i j x (omega arith) e below

-- the tree of an id is that of its node, made of the trees of its arguments
pub tree-node : (ns : List Shared) (i : ℕ) (x : Shared) → slice_get ns i ≡ Some x → ArgsBelow i x → tree ns i ≡ Some (node_tree (trees ns) x)
unfolding tree trees
tree-node ns i x e below = made_at [] ns i i x (omega arith) e below

pub length-trees : (ns : List Shared) → length (trees ns) ≡ length ns
unfolding trees
length-trees ns = let h = length-after [] ns in omega arith

-- where there is a tree there is a node
pub node-there : (ns : List Shared) (i : ℕ) (t : Term) → tree ns i ≡ Some t → (x : Shared) × (slice_get ns i ≡ Some x)
unfolding tree
node-there ns i t e =
    let h = slice_get_within (trees ns) i t e in let k = length-trees ns in there ns i (omega arith)

pub tree-below : (ns : List Shared) (i : ℕ) (t : Term) → tree ns i ≡ Some t → i < length ns
unfolding tree
tree-below ns i t e = let h = slice_get_within (trees ns) i t e in let k = length-trees ns in omega arith

pub tree-there : (ns : List Shared) (i : ℕ) → i < length ns → (t : Term) × (tree ns i ≡ Some t)
unfolding tree
tree-there ns i h = let k = length-trees ns in there (trees ns) i (omega arith)

-- lists of ids
pub found-is : (ns : List Shared) (ids : List ℕ) (ts : List Term) → map (tree ns) ids ≡ map Some ts → found (trees ns) ids ≡ ts
unfolding tree
found-is ns [] [] e = refl
found-is ns [] (t ∷ ts) e = cc
found-is ns (i ∷ ids) [] e = cc
found-is ns (i ∷ ids) (t ∷ ts) e =
    let here : slice_get (trees ns) i ≡ Some t = cc in
    let behind : map (tree ns) ids ≡ map Some ts = cc in
    rw here (ap (λ us. t ∷ us) (found-is ns ids ts behind))

pub found-of : (ns : List Shared) (ids : List ℕ) → ((k i : ℕ) → slice_get ids k ≡ Some i → i < length ns) → map (tree ns) ids ≡ map Some (found (trees ns) ids)
unfolding tree
found-of ns [] below = refl
found-of ns (i ∷ ids) below =
    let b = below zero i refl in
    let k = length-trees ns in
    let t = there (trees ns) i (omega arith) in
    rw t.1 (ap (λ us. Some t.0 ∷ us) (found-of ns ids (λ k j e. below (suc k) j e)))

-- what old ids stand for stays
pub tree-grown : (old new : List Shared) (i : ℕ) (t : Term) → Grows old new → tree old i ≡ Some t → tree new i ≡ Some t
unfolding tree trees
tree-grown old new i t grows e =
    subst (λ (ns : List Shared). slice_get (fold with_tree [] ns) i ≡ Some t) (sym grows.is)
    (rw fold-append (kept (fold with_tree [] old) grows.more i t e))

pub trees-grown : (old new : List Shared) (ids : List ℕ) (ts : List Term) → Grows old new → map (tree old) ids ≡ map Some ts → map (tree new) ids ≡ map Some ts
trees-grown old new [] [] grows e = refl
trees-grown old new [] (t ∷ ts) grows e = cc
trees-grown old new (i ∷ ids) [] grows e = cc
trees-grown old new (i ∷ ids) (t ∷ ts) grows e =
    let here = tree-grown old new i t grows (cc) in
    let behind = trees-grown old new ids ts grows (cc) in cc
