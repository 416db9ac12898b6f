-- In a bank, ids with one tree are one id; and the tree of each kind of node.
use Rattle.std.proofs.Common.{◌≡◌, ◌<◌, ◌∙◌, ℕ, List, [], ◌∷◌, Some, refl, sym, ap, map, length, slice_get, arith}
use Rattle.std.proofs.lemmas.Option.{slice_get_within}
use Rattle.am_term.specs.declared.id.SortId.{SortId}
use Rattle.am_term.specs.declared.id.SymId.{SymId}
use Rattle.am_term.specs.declared.term.Term.{Term}
use Rattle.am_term.specs.declared.term.Term.TheOpen.{Term-F}
use Rattle.am_term.specs.declared.term.Term.TheViews.{out-Term}
use Rattle.am_term.specs.declared.term.Term.TheVariants as term
use Rattle.am_term.specs.declared.term.Term.TheVariants.{outs-Var, outs-In, outs-App}
use Rattle.am_term.specs.Induct.{term_induct}
use Rattle.am_bank.specs.Node.{Shared, Var, In, App}
use Rattle.am_bank.specs.Bank.{IsBank}
use Rattle.am_bank.specs.Trees.{found, node_tree, trees, tree}
use Rattle.am_bank.proofs.Trees.{tree-node, node-there, found-of}

some_is : (t u : Term) → Some t ≡ Some u → t ≡ u
some_is t u e = cc

-- which node has a tree of some kind
variable-node : (ts : List Term) (n : ℕ) (s : SortId) (x : Shared) → node_tree ts x ≡ term.Var n s → x ≡ Var n s
variable-node ts n s (Var m r) e = let d : Term-F.Var m r ≡ Term-F.Var n s = sym (outs-Var m r) ∙ (ap out-Term e ∙ outs-Var n s) in cc
variable-node ts n s (In k) e = let d : Term-F.In k ≡ Term-F.Var n s = sym (outs-In k) ∙ (ap out-Term e ∙ outs-Var n s) in cc
variable-node ts n s (App f ids) e = let d : Term-F.App f (found ts ids) ≡ Term-F.Var n s = sym (outs-App f (found ts ids)) ∙ (ap out-Term e ∙ outs-Var n s) in cc

input-node : (ts : List Term) (k : ℕ) (x : Shared) → node_tree ts x ≡ term.In k → x ≡ In k
input-node ts k (Var m r) e = let d : Term-F.Var m r ≡ Term-F.In k = sym (outs-Var m r) ∙ (ap out-Term e ∙ outs-In k) in cc
input-node ts k (In j) e = let d : Term-F.In j ≡ Term-F.In k = sym (outs-In j) ∙ (ap out-Term e ∙ outs-In k) in cc
input-node ts k (App f ids) e = let d : Term-F.App f (found ts ids) ≡ Term-F.In k = sym (outs-App f (found ts ids)) ∙ (ap out-Term e ∙ outs-In k) in cc

symbol-node : (ts : List Term) (f : SymId) (args : List Term) (x : Shared) → node_tree ts x ≡ term.App f args → (ids : List ℕ) × (x ≡ App f ids) × (found ts ids ≡ args)
symbol-node ts f args (Var m r) e = let d : Term-F.Var m r ≡ Term-F.App f args = sym (outs-Var m r) ∙ (ap out-Term e ∙ outs-App f args) in cc
symbol-node ts f args (In k) e = let d : Term-F.In k ≡ Term-F.App f args = sym (outs-In k) ∙ (ap out-Term e ∙ outs-App f args) in cc
symbol-node ts f args (App g ids) e =
    let d : Term-F.App g (found ts ids) ≡ Term-F.App f args = sym (outs-App g (found ts ids)) ∙ (ap out-Term e ∙ outs-App f args) in
    let g_is : g ≡ f = cc in (ids, ap (λ (h : SymId). App h ids) g_is, cc)

module _ (ns : List Shared) (bank : IsBank ns) where
  -- an id of a tree, with its node
  pub node-of : (i : ℕ) (t : Term) → tree ns i ≡ Some t → (x : Shared) × (slice_get ns i ≡ Some x) × (node_tree (trees ns) x ≡ t)
  node-of i t e =
      let x = node-there ns i t e in
      let made = tree-node ns i x.0 x.1 (bank.below i x.0 x.1) in (x.0, x.1, some_is (node_tree (trees ns) x.0) t (sym made ∙ e))

  pub tree-Var : (i n : ℕ) (s : SortId) → slice_get ns i ≡ Some (Var n s) → tree ns i ≡ Some (term.Var n s)
  tree-Var i n s e = tree-node ns i (Var n s) e (bank.below i (Var n s) e)

  pub tree-In : (i k : ℕ) → slice_get ns i ≡ Some (In k) → tree ns i ≡ Some (term.In k)
  tree-In i k e = tree-node ns i (In k) e (bank.below i (In k) e)

  ids-below : (i : ℕ) (f : SymId) (ids : List ℕ) → slice_get ns i ≡ Some (App f ids) → (k j : ℕ) → slice_get ids k ≡ Some j → j < length ns
  ids-below i f ids e k j at =
      let h = bank.below i (App f ids) e k j at in let l = slice_get_within ns i (App f ids) e in omega arith

  pub tree-App : (i : ℕ) (f : SymId) (ids : List ℕ) → slice_get ns i ≡ Some (App f ids) → (ts : List Term) × (tree ns i ≡ Some (term.App f ts)) × (map (tree ns) ids ≡ map Some ts)
  tree-App i f ids e =
      (found (trees ns) ids, tree-node ns i (App f ids) e (bank.below i (App f ids) e), found-of ns ids (ids-below i f ids e))

  -- the node of an id whose tree is of some kind
  pub node-Var : (i n : ℕ) (s : SortId) → tree ns i ≡ Some (term.Var n s) → slice_get ns i ≡ Some (Var n s)
  node-Var i n s e = let x = node-of i (term.Var n s) e in x.1 ∙ ap Some (variable-node (trees ns) n s x.0 x.2)

  pub node-In : (i k : ℕ) → tree ns i ≡ Some (term.In k) → slice_get ns i ≡ Some (In k)
  node-In i k e = let x = node-of i (term.In k) e in x.1 ∙ ap Some (input-node (trees ns) k x.0 x.2)

  pub node-App : (i : ℕ) (f : SymId) (args : List Term) → tree ns i ≡ Some (term.App f args) → (ids : List ℕ) × (slice_get ns i ≡ Some (App f ids)) × (map (tree ns) ids ≡ map Some args)
  node-App i f args e =
      let x = node-of i (term.App f args) e in
      let a = symbol-node (trees ns) f args x.0 x.2 in
      let at : slice_get ns i ≡ Some (App f a.0) = x.1 ∙ ap Some a.1 in
      (a.0, at, found-of ns a.0 (ids-below i f a.0 at) ∙ ap (map Some) a.2)

  -- ids with one tree are one id
  abbrev pub OneId : Term → Type 0
  OneId t = (i j : ℕ) → tree ns i ≡ Some t → tree ns j ≡ Some t → i ≡ j

  abbrev pub OneList : List Term → Type 0
  OneList ts = (is js : List ℕ) → map (tree ns) is ≡ map Some ts → map (tree ns) js ≡ map Some ts → is ≡ js

  none-one : OneList []
  none-one [] [] p q = refl
  none-one [] (j ∷ js) p q = cc
  none-one (i ∷ is) js p q = cc

  more-one : (t : Term) (ts : List Term) → OneId t → OneList ts → OneList (t ∷ ts)
  more-one t ts here behind [] js p q = cc
  more-one t ts here behind (i ∷ is) [] p q = cc
  more-one t ts here behind (i ∷ is) (j ∷ js) p q =
      let h : i ≡ j = here i j (cc) (cc) in let b : is ≡ js = behind is js (cc) (cc) in cc

  pub equal_trees : (t : Term) → OneId t
  equal_trees = term_induct OneId OneList
      (λ n s i j p q. bank.distinct i j (Var n s) (node-Var i n s p) (node-Var j n s q))
      (λ k i j p q. bank.distinct i j (In k) (node-In i k p) (node-In j k q))
      (λ f args h i j p q. let a = node-App i f args p in let b = node-App j f args q in
      bank.distinct i j (App f a.0) a.1 (b.1 ∙ ap (λ (is : List ℕ). Some (App f is)) (sym (h a.0 b.0 a.2 b.2))))
      none-one
      more-one
