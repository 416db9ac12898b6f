-- What a run over symbols adds: symbols, routines, listed functions and literals behind those that there were.
use Rattle.std.proofs.Common.{◌≡◌, ◌∙◌, ◌<◌, ◌≤◌, ◌==◌, ℕ, Bool, true, false, Some, None, List, [], ◌∷◌, ◌++◌, map, length, cond, refl, sym, ap, arith, append_assoc, length-append}
use Rattle.std.specs.Prelude.{find}
use Rattle.std.proofs.lemmas.List.{append-nil}
use Rattle.std.proofs.lemmas.Bool.Decides.{nat_tests}
use Rattle.am_term.specs.declared.kind.SymKind.TheVariants as kind
use Rattle.am_syntax.specs.Scopes.{Profile}
use Rattle.am_theory.specs.declared.theory.Routine.{Routine}
use Rattle.am_theory.specs.declared.theory.FortranFunction.{FortranFunction}
use Rattle.am_theory.specs.declared.theory.LiteralDecl.{LiteralDecl}
use Rattle.am_theory.specs.declared.declaration.Typed.{Typed}
use Rattle.am_theory.specs.declared.declaration.Declaration.{Declaration}
use Rattle.am_theory.specs.declared.declaration.Declaration.TheVariants as decl
use Rattle.am_theory.specs.Contents.{Contents, sort_number, sort_numbers, output_profile, numbers_from, next_symbol, with_decl}
use Rattle.am_canon.specs.CanonicalText.{is_first}
use Rattle.am_canon.proofs.Joined.{find-behind}
use Rattle.am_canon.proofs.Swapped.{DeclaresSymbol}

-- ---- which routine, function and literal has a number
abbrev pub starts : ℕ → Routine → Bool
starts k r = is_first k r.outputs

abbrev pub computes : ℕ → FortranFunction → Bool
computes k f = f.symbol.0 == k

abbrev pub stands_for : ℕ → LiteralDecl → Bool
stands_for k l = l.symbol.0 == k

pub other_number : (n k : ℕ) → n < k → (n == k) ≡ false
other_number n k h = grind (arith, nat_tests)

pub other_before : (n k : ℕ) → k < n → (n == k) ≡ false
other_before n k h = grind (arith, nat_tests)

pub own_number : (k : ℕ) → (k == k) ≡ true
own_number k = grind (arith, nat_tests)

-- nothing is found among members that aren't it and one more that isn't it
pub found_nowhere : {A : Type 0} (test : A → Bool) (xs : List A) (x : A) → find test xs ≡ None → test x ≡ false → find test (xs ++ x ∷ []) ≡ None
found_nowhere test xs x e f = find-behind test xs (x ∷ []) e ∙ ap (λ b. cond b (Some x) None) f

-- ---- what grew
pub record IsGrown (c last : Contents) (more : List Profile) : Type 0 where
  pub routines_more : List Routine
  pub functions_more : List FortranFunction
  pub literals_more : List LiteralDecl
  pub symbols : last.symbols ≡ c.symbols ++ more
  pub routines : last.routines ≡ c.routines ++ routines_more
  pub functions : last.functions ≡ c.functions ++ functions_more
  pub literals : last.literals ≡ c.literals ++ literals_more
  pub sorts : last.sorts ≡ c.sorts
  pub parents : last.parents ≡ c.parents
  pub reps : last.reps ≡ c.reps
  pub copies : last.copies ≡ c.copies
  pub axioms : last.axioms ≡ c.axioms
  pub later : (k : ℕ) → k < length c.symbols → find (starts k) routines_more ≡ None

pub ungrown : (c : Contents) → IsGrown c c []
ungrown c = record {
  routines_more = [];
  functions_more = [];
  literals_more = [];
  symbols = sym (append-nil c.symbols);
  routines = sym (append-nil c.routines);
  functions = sym (append-nil c.functions);
  literals = sym (append-nil c.literals);
  sorts = refl;
  parents = refl;
  reps = refl;
  copies = refl;
  axioms = refl;
  later = λ k h. refl;
}

longer : (c mid : Contents) (more : List Profile) → mid.symbols ≡ c.symbols ++ more → (k : ℕ) → k < length c.symbols → k < length mid.symbols
longer c mid more e k h = let f = ap length e in omega (arith, length-append c.symbols more)

joined : {A : Type 0} (xs ys zs us vs : List A) → ys ≡ xs ++ us → zs ≡ ys ++ vs → zs ≡ xs ++ (us ++ vs)
joined xs ys zs us vs e f = f ∙ ap (λ l. l ++ vs) e ∙ append_assoc xs us vs

pub grown-trans : (c mid last : Contents) (us vs : List Profile) → IsGrown c mid us → IsGrown mid last vs → IsGrown c last (us ++ vs)
grown-trans c mid last us vs g h = record {
  routines_more = g.routines_more ++ h.routines_more;
  functions_more = g.functions_more ++ h.functions_more;
  literals_more = g.literals_more ++ h.literals_more;
  symbols = joined c.symbols mid.symbols last.symbols us vs g.symbols h.symbols;
  routines = joined c.routines mid.routines last.routines g.routines_more h.routines_more g.routines h.routines;
  functions = joined c.functions mid.functions last.functions g.functions_more h.functions_more g.functions h.functions;
  literals = joined c.literals mid.literals last.literals g.literals_more h.literals_more g.literals h.literals;
  sorts = h.sorts ∙ g.sorts;
  parents = h.parents ∙ g.parents;
  reps = h.reps ∙ g.reps;
  copies = h.copies ∙ g.copies;
  axioms = h.axioms ∙ g.axioms;
  later = λ k i. find-behind (starts k) g.routines_more h.routines_more (g.later k i) ∙ h.later k (longer c mid us g.symbols k i);
}

-- ---- numbers are below the count of symbols
pub record IsBelow (c : Contents) : Type 0 where
  pub routines : (k : ℕ) → length c.symbols ≤ k → find (starts k) c.routines ≡ None
  pub functions : (k : ℕ) → length c.symbols ≤ k → find (computes k) c.functions ≡ None
  pub literals : (k : ℕ) → length c.symbols ≤ k → find (stands_for k) c.literals ≡ None

module _ (c : Contents) where
  -- the symbols that a declaration adds
  abbrev pub added : Declaration → List Profile
  added (decl.Sort n r copy) = []
  added (decl.Subsort n s) = []
  added (decl.Function n args r) = record { name = n; args = sort_numbers c args; result = Some (sort_number c r); kind = kind.Function } ∷ []
  added (decl.Relation n args) = record { name = n; args = sort_numbers c args; result = None; kind = kind.Relation } ∷ []
  added (decl.Literal n s v) = record { name = n; args = []; result = Some (sort_number c s); kind = kind.Literal } ∷ []
  added (decl.Routine n inputs outputs) = map (output_profile c inputs) outputs
  added (decl.Value f n args r) = record { name = n; args = sort_numbers c args; result = Some (sort_number c r); kind = kind.Value } ∷ []
  added (decl.Axiom vs g) = []

  abbrev pub routine_of : List ℕ → List (List ℕ) → List Typed → Routine
  routine_of n inputs outputs = record { name = n; inputs = sort_numbers c inputs; outputs = numbers_from (length c.symbols) outputs }

  not_yet : (k : ℕ) (outputs : List Typed) → k < length c.symbols → is_first k (numbers_from (length c.symbols) outputs) ≡ false
  not_yet k [] h = refl
  not_yet k (o ∷ os) h = other_before (length c.symbols) k h

  no_more : (k : ℕ) (n : List ℕ) (inputs : List (List ℕ)) (outputs : List Typed) → length (c.symbols ++ map (output_profile c inputs) outputs) ≤ k → is_first k (numbers_from (length c.symbols) outputs) ≡ false
  no_more k n inputs [] h = refl
  no_more k n inputs (o ∷ os) h = other_number (length c.symbols) k (omega (arith, length-append c.symbols (map (output_profile c inputs) (o ∷ os))))

  grows : (ys : List Profile) (rs rs' : List Routine) (fs fs' : List FortranFunction) (ls ls' : List LiteralDecl) → rs' ≡ c.routines ++ rs → fs' ≡ c.functions ++ fs → ls' ≡ c.literals ++ ls → ((k : ℕ) → k < length c.symbols → find (starts k) rs ≡ None) → IsGrown c (record c { symbols = c.symbols ++ ys; routines = rs'; functions = fs'; literals = ls' }) ys
  grows ys rs rs' fs fs' ls ls' e f g later = record {
    routines_more = rs;
    functions_more = fs;
    literals_more = ls;
    symbols = refl;
    routines = e;
    functions = f;
    literals = g;
    sorts = refl;
    parents = refl;
    reps = refl;
    copies = refl;
    axioms = refl;
    later = later;
  }

  -- one declaration
  pub grown-one : (d : Declaration) → DeclaresSymbol d → IsGrown c (with_decl c d) (added d)
  unfolding with_decl
  grown-one (decl.Sort n r copy) h = absurd h
  grown-one (decl.Subsort n s) h = absurd h
  grown-one (decl.Function n args r) h = grows (added (decl.Function n args r)) [] c.routines [] c.functions [] c.literals (sym (append-nil c.routines)) (sym (append-nil c.functions)) (sym (append-nil c.literals)) (λ k i. refl)
  grown-one (decl.Relation n args) h = grows (added (decl.Relation n args)) [] c.routines [] c.functions [] c.literals (sym (append-nil c.routines)) (sym (append-nil c.functions)) (sym (append-nil c.literals)) (λ k i. refl)
  grown-one (decl.Literal n s v) h =
      let l : LiteralDecl = record { symbol = next_symbol c; value = v } in
      grows (added (decl.Literal n s v)) [] c.routines [] c.functions (l ∷ []) (c.literals ++ l ∷ []) (sym (append-nil c.routines)) (sym (append-nil c.functions)) refl (λ k i. refl)
  grown-one (decl.Routine n inputs outputs) h =
      let r : Routine = routine_of n inputs outputs in
      grows (added (decl.Routine n inputs outputs)) (r ∷ []) (c.routines ++ r ∷ []) [] c.functions [] c.literals refl (sym (append-nil c.functions)) (sym (append-nil c.literals)) (λ k i. ap (λ b. cond b (Some r) None) (not_yet k outputs i))
  grown-one (decl.Value f n args r) h =
      let e : FortranFunction = record { name = f; symbol = next_symbol c } in
      grows (added (decl.Value f n args r)) [] c.routines (e ∷ []) (c.functions ++ e ∷ []) [] c.literals (sym (append-nil c.routines)) refl (sym (append-nil c.literals)) (λ k i. refl)
  grown-one (decl.Axiom vs g) h = absurd h

  -- ---- one declaration keeps that numbers are below the count
  module _ (b : IsBelow c) where
    less : (ys : List Profile) (k : ℕ) → length (c.symbols ++ ys) ≤ k → length c.symbols ≤ k
    less ys k h = omega (arith, length-append c.symbols ys)

    one_less : (y : Profile) (k : ℕ) → length (c.symbols ++ y ∷ []) ≤ k → length c.symbols < k
    one_less y k h = omega (arith, length-append c.symbols (y ∷ []))

    pub below-one : (d : Declaration) → DeclaresSymbol d → IsBelow (with_decl c d)
    unfolding with_decl
    below-one (decl.Sort n r copy) h = absurd h
    below-one (decl.Subsort n s) h = absurd h
    below-one (decl.Function n args r) h = record {
      routines = λ k i. b.routines k (less (added (decl.Function n args r)) k i);
      functions = λ k i. b.functions k (less (added (decl.Function n args r)) k i);
      literals = λ k i. b.literals k (less (added (decl.Function n args r)) k i);
    }
    below-one (decl.Relation n args) h = record {
      routines = λ k i. b.routines k (less (added (decl.Relation n args)) k i);
      functions = λ k i. b.functions k (less (added (decl.Relation n args)) k i);
      literals = λ k i. b.literals k (less (added (decl.Relation n args)) k i);
    }
    below-one (decl.Literal n s v) h =
        let l : LiteralDecl = record { symbol = next_symbol c; value = v } in
        let y : Profile = record { name = n; args = []; result = Some (sort_number c s); kind = kind.Literal } in
        record {
          routines = λ k i. b.routines k (less (y ∷ []) k i);
          functions = λ k i. b.functions k (less (y ∷ []) k i);
          literals = λ k i. found_nowhere (stands_for k) c.literals l (b.literals k (less (y ∷ []) k i)) (other_number (length c.symbols) k (one_less y k i));
        }
    below-one (decl.Routine n inputs outputs) h = record {
      routines = λ k i. found_nowhere (starts k) c.routines (routine_of n inputs outputs) (b.routines k (less (added (decl.Routine n inputs outputs)) k i)) (no_more k n inputs outputs i);
      functions = λ k i. b.functions k (less (added (decl.Routine n inputs outputs)) k i);
      literals = λ k i. b.literals k (less (added (decl.Routine n inputs outputs)) k i);
    }
    below-one (decl.Value f n args r) h =
        let e : FortranFunction = record { name = f; symbol = next_symbol c } in
        let y : Profile = record { name = n; args = sort_numbers c args; result = Some (sort_number c r); kind = kind.Value } in
        record {
          routines = λ k i. b.routines k (less (y ∷ []) k i);
          functions = λ k i. found_nowhere (computes k) c.functions e (b.functions k (less (y ∷ []) k i)) (other_number (length c.symbols) k (one_less y k i));
          literals = λ k i. b.literals k (less (y ∷ []) k i);
        }
    below-one (decl.Axiom vs g) h = absurd h
