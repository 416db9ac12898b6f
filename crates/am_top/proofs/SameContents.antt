-- A theory is told by its contents.
use Rattle.std.proofs.Common.{◌≡◌, ◌∙◌, ◌<◌, ℕ, refl, ap, subst, Option, Some, List, [], ◌∷◌, map, length, slice_get, is_some}
use Rattle.std.proofs.Props.{props}
use Rattle.am_term.specs.declared.id.SortId.{SortId}
use Rattle.am_term.specs.declared.kind.SymKind.{SymKind}
use Rattle.am_term.specs.declared.symbol.Symbol.{Symbol}
use Rattle.am_term.specs.Symbols.{has_result}
use Rattle.am_theory.specs.declared.theory.Theory.{Theory}
use Rattle.am_theory.specs.Contents.{Contents, contents}

abbrev Agrees : Option SortId → SymKind → Type 0
Agrees r k = is_some r ≡ has_result k

agrees_once : (r : Option SortId) (k : SymKind) → IsProp (Agrees r k)
agrees_once r k = hlevel props

abbrev symbol_by : List ℕ → List SortId → (r : Option SortId) (k : SymKind) → Agrees r k → Symbol
symbol_by n args r k a = record { name = n; args = args; result = r; kind = k; agrees = a }

-- a symbol is told by what isn't a proof
same_symbol : (x y : Symbol) → x.name ≡ y.name → x.args ≡ y.args → x.result ≡ y.result → x.kind ≡ y.kind → x ≡ y
same_symbol x y en ea er ek =
    ap (λ n. symbol_by n x.args x.result x.kind x.agrees) en ∙ ap (λ args. symbol_by y.name args x.result x.kind x.agrees) ea
    ∙ subst (λ (r : Option SortId). (a : Agrees r y.kind) → symbol_by y.name y.args x.result x.kind x.agrees ≡ symbol_by y.name y.args r y.kind a) er
    (subst (λ (k : SymKind). (a : Agrees x.result k) → symbol_by y.name y.args x.result x.kind x.agrees ≡ symbol_by y.name y.args x.result k a) ek
    (λ a. ap (symbol_by y.name y.args x.result x.kind) (agrees_once x.result x.kind x.agrees a)))
    y.agrees

cons_first : {A : Type 0} (x y : A) (xs ys : List A) → x ∷ xs ≡ y ∷ ys → x ≡ y
cons_first x y xs ys e = cc

cons_rest : {A : Type 0} (x y : A) (xs ys : List A) → x ∷ xs ≡ y ∷ ys → xs ≡ ys
cons_rest x y xs ys e = cc

-- lists are told by what tells their members
same_list : {A P : Type 0} (f : A → P) (xs ys : List A) → map f xs ≡ map f ys → ((x y : A) → f x ≡ f y → x ≡ y) → xs ≡ ys
same_list f [] [] e told = refl
same_list f [] (y ∷ ys) e told = absurd cc
same_list f (x ∷ xs) [] e told = absurd cc
same_list f (x ∷ xs) (y ∷ ys) e told =
    ap (λ z. z ∷ xs) (told x y (cons_first (f x) (f y) (map f xs) (map f ys) e)) ∙ ap (λ zs. y ∷ zs) (same_list f xs ys (cons_rest (f x) (f y) (map f xs) (map f ys) e) told)

same_symbols : (t u : Theory) → contents t ≡ contents u → t.sig.symbols ≡ u.sig.symbols
same_symbols t u e =
    same_list _ t.sig.symbols u.sig.symbols (ap (λ (c : Contents). c.symbols) e)
    (λ x y one. same_symbol x y (ap (λ p. p.name) one) (ap (λ p. p.args) one) (ap (λ p. p.result) one) (ap (λ p. p.kind) one))

abbrev Parented : Contents → Type 0
Parented c = length c.parents ≡ length c.sorts

abbrev Lower : Contents → Type 0
Lower c = (s : ℕ) (p : SortId) → slice_get c.parents s ≡ Some (Some p) → p.0 < s

parented_once : (c : Contents) → IsProp (Parented c)
parented_once c = hlevel props

lower_once : (c : Contents) → IsProp (Lower c)
lower_once c = hlevel props

abbrev theory_by : (c : Contents) → List Symbol → Parented c → Lower c → Theory
theory_by c symbols parented lower = record {
  version = c.version;
  sig = record { sorts = c.sorts; parents = c.parents; symbols = symbols; parented = parented; lower = lower };
  reps = c.reps;
  copies = c.copies;
  routines = c.routines;
  functions = c.functions;
  literals = c.literals;
  axioms = c.axioms;
}

-- two theories with the same contents are one
pub same_theory : (t u : Theory) → contents t ≡ contents u → t ≡ u
same_theory t u e =
    subst (λ (c : Contents). (p : Parented c) (l : Lower c) → t ≡ theory_by c u.sig.symbols p l) e
    (λ p l. ap (λ ys. theory_by (contents t) ys t.sig.parented t.sig.lower) (same_symbols t u e)
    ∙ ap (λ q. theory_by (contents t) u.sig.symbols q t.sig.lower) (parented_once (contents t) t.sig.parented p)
    ∙ ap (theory_by (contents t) u.sig.symbols p) (lower_once (contents t) t.sig.lower l))
    u.sig.parented u.sig.lower
